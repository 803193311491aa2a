-- In a transcript each actor is a word, so that each role is simple.
use Rattle.std.proofs.Common.{◌≡◌, ℕ, ◌<◌, Bool, true, false, is_some, length, get_or, map, List, [], ◌∷◌, Option, Some, None, Ok, refl, sym}
use Rattle.std.proofs.Common.{ap, ap₂, ◌∙◌}
use Rattle.std.proofs.Common.{codes, subst, arith}
use Rattle.std.specs.List.{All}
use Rattle.std.specs.Prelude.{Result}
use Rattle.std.specs.Str.{bytes_eq}
use Rattle.std.proofs.lemmas.List.Elements.{All-head, All-tail, All-from_get_or}
use Rattle.serde_json.specs.Data.{Data}
use Rattle.serde_json.specs.Find.{get, as_object}
use Rattle.swap_digraph.specs.Deal.{most_parties}
use Rattle.swap_digraph.specs.declared.deal.Mode.{Mode}
use Rattle.swap_digraph.specs.declared.deal.Version.{Version}
use Rattle.command_input.specs.declared.reason.Reason.{Reason}
use Rattle.swap_job.specs.Roles.{is_conforming}
use Rattle.swap_job.specs.declared.job.Purpose.{Purpose}
use Rattle.swap_job.specs.declared.job.Purpose.TheVariants.{Check, Run, Race, Make, Audit}
use Rattle.swap_job.specs.declared.job.Role.{Role}
use Rattle.swap_job.specs.declared.job.Role.TheVariants as kinds
use Rattle.offer_moves.specs.Fields.{field_text, required_object, read_array_field, field_list, listed, each, only, text_member}
use Rattle.offer_moves.specs.FieldLimits.{check_range}
use Rattle.offer_moves.proofs.Chains.{went, each_all, each_at, each_length}
use Rattle.offer_moves.specs.declared.moves.Sizes.{Sizes}
use Rattle.offer_header.specs.Raw.{object_actor, actor_of_word, parse_raw_actor, actor_or_conforming, actor_member, seed_member, party_fields, parse_party, IsWord, HasWords}
use Rattle.offer_header.specs.Limits.{checked_role, checked_seed, parse_acting, count_parties, header_sizes, limited_value}
use Rattle.offer_header.specs.Header.{simple_role, HasSimpleRoles}
use Rattle.offer_header.proofs.Limited.{opened}
use Rattle.offer_header.specs.declared.raw.RawActor.{RawActor}
use Rattle.offer_header.specs.declared.raw.RawActor.TheVariants.{Conforming, Manual, Script, Strategy}
use Rattle.offer_header.specs.declared.raw.RawParty.{RawParty}
use Rattle.offer_header.specs.declared.raw.RawHeader.{RawHeader}
use Rattle.offer_header.specs.declared.limits.Acting.{Acting}
use Rattle.offer_header.specs.declared.names.Numbered.{Numbered}
use Rattle.offer_header.specs.declared.header.Header.{Header}

-- What is read.

word_is : (line : ℕ) (word : List ℕ) (a : RawActor) → actor_of_word line word ≡ Ok a → IsWord a
word_is line word a e = go (bytes_eq word (codes "conforming")) (bytes_eq word (codes "manual")) refl refl
  where
    go : (b c : Bool) → bytes_eq word (codes "conforming") ≡ b → bytes_eq word (codes "manual") ≡ c → IsWord a
    go true c eb ec = let is : Conforming ≡ a = cc (rw eb at e) in subst IsWord is tt
    go false true eb ec = let is : Manual ≡ a = cc (rw (eb, ec) at e) in subst IsWord is tt
    go false false eb ec = absurd (cc (rw (eb, ec) at e))

-- where no actor is an object
module _ (purpose : Purpose) (none : (line : ℕ) (d : Data) (a : RawActor) → object_actor line purpose d ≡ Ok a → ⊥) where
  said_is : (line : ℕ) (v : Data) (a : RawActor) → parse_raw_actor line purpose v ≡ Ok a → IsWord a
  said_is line v a e = go (is_some (as_object v)) refl
    where
      go : (b : Bool) → is_some (as_object v) ≡ b → IsWord a
      go true eb = absurd (none line v a (rw eb at e))
      go false eb =
          let p = went (text_member line (codes "actor") v) (λ word. actor_of_word line word) a (rw eb at e) in
          word_is line p.0 a p.2

  actor_is : (line : ℕ) (d : Data) (a : RawActor) → actor_member line purpose d ≡ Ok a → IsWord a
  unfolding actor_member
  actor_is line d a e = go (get (codes "actor") d) e
    where
      go : (o : Option Data) → actor_or_conforming line purpose o ≡ Ok a → IsWord a
      go None f = let is : Conforming ≡ a = cc f in subst IsWord is tt
      go (Some v) f = said_is line v a f

  party_is : (mode : Mode) (line : ℕ) (d : Data) (p : RawParty) → parse_party (record { purpose = purpose; mode = mode }) line d ≡ Ok p → IsWord p.actor
  unfolding parse_party
  party_is mode line d p h =
      let one = went (required_object line (codes "parties") d) _ p h in
      let two = went (field_text line (codes "name") d) _ p one.2 in
      let three = went (actor_member line purpose d) _ p two.2 in
      let four = went (seed_member line purpose d) _ p three.2 in
      let five = went (only line (party_fields purpose) d) _ p four.2 in
      let same : record { name = two.0; actor = three.0; seed = four.0 } ≡ p = cc (five.2) in
      subst (λ (x : RawParty). IsWord x.actor) same (actor_is line d three.0 three.1)

  parties_are : (mode : Mode) (line : ℕ) (d : Data) (ps : List RawParty)
      → field_list line (codes "parties") (parse_party (record { purpose = purpose; mode = mode }) line) d ≡ Ok ps
      → (p : ℕ) (e : RawParty) → p < length ps → IsWord (get_or ps p e).actor
  unfolding field_list each
  parties_are mode line d ps h =
      let read : Data → Result RawParty Reason = parse_party (record { purpose = purpose; mode = mode }) line in
      let one = went (read_array_field line (codes "parties") d) (λ items. each read items) ps h in
      each_all (λ p. IsWord p.actor) read (λ d p e. party_is mode line d p e) (listed one.0) ps one.2

none_told : (line : ℕ) (d : Data) (a : RawActor) → object_actor line Audit d ≡ Ok a → ⊥
none_told line d a e = cc e

pub has_words : (purpose : Purpose) (mode : Mode) (line : ℕ) (d : Data) (h : RawHeader)
    → field_list line (codes "parties") (parse_party (record { purpose = purpose; mode = mode }) line) d ≡ Ok h.parties → HasWords purpose h
has_words Audit mode line d h ps = parties_are Audit none_told mode line d h.parties ps
has_words Check mode line d h ps = tt
has_words Run mode line d h ps = tt
has_words Race mode line d h ps = tt
has_words Make mode line d h ps = tt

-- The header within its limits.

simple : (s : Sizes) (names : List (List ℕ)) (line : ℕ) (actor : RawActor) (role : Role) → IsWord actor → checked_role s names line actor ≡ Ok role
    → role ≡ simple_role (is_conforming role)
simple s names line Conforming role w e = let is : kinds.Conforming ≡ role = cc e in subst (λ (r : Role). r ≡ simple_role (is_conforming r)) is refl
simple s names line Manual role w e = let is : kinds.Manual ≡ role = cc e in subst (λ (r : Role). r ≡ simple_role (is_conforming r)) is refl
simple s names line (Script moves) role w e = absurd w
simple s names line (Strategy name) role w e = absurd w

acting_simple : (s : Sizes) (names : List (List ℕ)) (line : ℕ) (p : RawParty) (a : Acting) → IsWord p.actor → parse_acting s names line p ≡ Ok a
    → a.role ≡ simple_role (is_conforming a.role)
unfolding parse_acting
acting_simple s names line p a w e =
    let one = went (checked_role s names line p.actor) _ a e in
    let two = went (checked_seed line p) _ a one.2 in
    let is : record { role = one.0; seed = two.0 } ≡ a = cc (two.2) in
    subst (λ (x : Acting). x.role ≡ simple_role (is_conforming x.role)) is (simple s names line p.actor one.0 w one.1)

abbrev zero_party : RawParty
zero_party = record { name = []; actor = Manual; seed = None }

abbrev zero_acting : Acting
zero_acting = record { role = kinds.Manual; seed = None }

each_simple : (acting : List Acting) → All (λ (a : Acting). a.role ≡ simple_role (is_conforming a.role)) acting
    → map (λ (a : Acting). a.role) acting ≡ map simple_role (map (λ (a : Acting). is_conforming a.role) acting)
each_simple [] h = refl
each_simple (a ∷ acting) h =
    ap₂ (λ (r : Role) (rs : List Role). r ∷ rs) (All-head (λ (a : Acting). a.role ≡ simple_role (is_conforming a.role)) a acting h)
    (each_simple acting (All-tail (λ (a : Acting). a.role ≡ simple_role (is_conforming a.role)) a acting h))

all_simple : (version : Version) (s : Sizes) (names : List (List ℕ)) (line : ℕ) (parties : List RawParty) (acting : List Acting)
    → count_parties version s names line parties ≡ Ok acting
    → ((p : ℕ) (d : RawParty) → p < length parties → IsWord (get_or parties p d).actor)
    → map (λ (a : Acting). a.role) acting ≡ map simple_role (map (λ (a : Acting). is_conforming a.role) acting)
unfolding count_parties
all_simple version s names line parties acting e words =
    let one = went (check_range line (codes "parties") 2 (most_parties version) (length parties)) _ acting e in
    let size = each_length (parse_acting s names line) parties acting one.2 in
    each_simple acting (All-from_get_or (λ (a : Acting). a.role ≡ simple_role (is_conforming a.role)) acting zero_acting (λ i lt.
    acting_simple s names line (get_or parties i zero_party) (get_or acting i zero_acting) (words i zero_party (omega (arith, lt, size)))
    (each_at (parse_acting s names line) parties acting zero_party zero_acting one.2 i (omega (arith, lt, size)))))

simple_for : (purpose : Purpose) (line : ℕ) (raw : RawHeader) (n : Numbered) (acting : List Acting) (h : Header) → HasWords purpose raw
    → count_parties raw.version (header_sizes raw) n.names line raw.parties ≡ Ok acting → map (λ (a : Acting). a.role) acting ≡ h.roles
    → map (λ (a : Acting). is_conforming a.role) acting ≡ h.conforming → HasSimpleRoles purpose h
simple_for Audit line raw n acting h words e roles conforming =
    sym roles ∙ (all_simple raw.version (header_sizes raw) n.names line raw.parties acting e words ∙ ap (λ (bs : List Bool). map simple_role bs) conforming)
simple_for Check line raw n acting h words e roles conforming = tt
simple_for Run line raw n acting h words e roles conforming = tt
simple_for Race line raw n acting h words e roles conforming = tt
simple_for Make line raw n acting h words e roles conforming = tt

pub are_simple : (line : ℕ) (purpose : Purpose) (raw : RawHeader) (n : Numbered) (h : Header) → HasWords purpose raw → limited_value purpose line raw n ≡ Ok h
    → HasSimpleRoles purpose h
are_simple line purpose raw n h words e =
    let o = opened line purpose raw n h e in
    simple_for purpose line raw n o.acting h words o.acting_are (ap (λ (x : Header). x.roles) o.same) (ap (λ (x : Header). x.conforming) o.same)
