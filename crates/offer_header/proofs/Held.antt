-- The strategies of a header are known.
use Rattle.std.proofs.Common.{◌≡◌, ℕ, Bool, true, false, cond, length, get_or, map, List, [], None, Ok, Err, refl, sym, subst, codes, arith}
use Rattle.std.specs.List.{All}
use Rattle.std.proofs.lemmas.List.{get_or-map, length-map}
use Rattle.std.proofs.lemmas.List.Elements.{All-from_get_or, All-get_or}
use Rattle.swap_base.specs.Fault.{◌>>=◌, steps}
use Rattle.swap_digraph.specs.Deal.{most_parties}
use Rattle.swap_digraph.specs.declared.deal.Version.{Version}
use Rattle.command_input.specs.declared.reason.Reason.{Reason}
use Rattle.command_input.specs.declared.reason.Reason.TheVariants.{Unknown}
use Rattle.swap_job.specs.Roles.{IsHeld}
use Rattle.swap_job.specs.declared.job.Purpose.{Purpose}
use Rattle.swap_job.specs.declared.job.Role.{Role}
use Rattle.swap_job.specs.declared.job.Role.TheVariants as kinds
use Rattle.offer_moves.specs.FieldLimits.{check_range}
use Rattle.offer_moves.specs.Lists.{collected_results}
use Rattle.offer_moves.proofs.Chains.{went, each_at, each_length}
use Rattle.offer_moves.specs.Moves.{parse_move}
use Rattle.offer_moves.specs.declared.moves.Sizes.{Sizes}
use Rattle.offer_header.specs.Limits.{script_role, checked_role, checked_seed, parse_acting, count_parties, header_sizes, limited_value, HoldsEach}
use Rattle.offer_header.specs.Names.{actor_known, name_added, name_step, names_stated, named_ends, leader_step, numbered_header}
use Rattle.offer_header.specs.declared.raw.RawActor.{RawActor}
use Rattle.offer_header.specs.declared.raw.RawActor.TheVariants.{Conforming, Manual, Script, Strategy}
use Rattle.offer_header.specs.declared.raw.RawParty.{RawParty}
use Rattle.offer_header.specs.declared.raw.RawHeader.{RawHeader}
use Rattle.offer_header.specs.declared.limits.Acting.{Acting}
use Rattle.offer_header.specs.declared.names.Numbered.{Numbered}
use Rattle.offer_header.specs.declared.header.Header.{Header}
use Rattle.offer_header.proofs.Limited.{opened}
use Rattle.offer_header.proofs.Walked.{steps_each}

one_test : (b : Bool) (r : Reason) (u : Unit {0}) → cond b (Ok tt) (Err r) ≡ Ok u → b ≡ true
one_test true r u e = refl
one_test false r u e = absurd (cc e)

module _ (has : List ℕ → Bool) (line : ℕ) where
  -- the names of the party's actor are known
  abbrev IsKnownIn : List (List ℕ) → RawParty → Type 0
  IsKnownIn all p = (u : Unit {0}) × (actor_known has line all p.actor ≡ Ok u)

  party_known : (all seen : List (List ℕ)) (p : RawParty) (t : List (List ℕ)) → name_step has line all seen p ≡ Ok t → IsKnownIn all p
  unfolding name_step
  party_known all seen p t e =
      let one = went (name_added line seen p) (λ names. actor_known has line all p.actor >>= λ u. Ok names) t e in
      let two = went (actor_known has line all p.actor) (λ u. Ok one.0) t one.2 in
      (two.0, two.1)

  held : (s : Sizes) (names all : List (List ℕ)) (actor : RawActor) (role : Role) (u : Unit {0}) → actor_known has line all actor ≡ Ok u
      → checked_role s names line actor ≡ Ok role → IsHeld has role
  unfolding script_role
  held s names all Conforming role u k e = let is : kinds.Conforming ≡ role = cc e in subst (IsHeld has) is tt
  held s names all Manual role u k e = let is : kinds.Manual ≡ role = cc e in subst (IsHeld has) is tt
  held s names all (Strategy name) role u k e =
      let is : kinds.Strategy name ≡ role = cc e in subst (IsHeld has) is (one_test (has name) (Unknown line name) u k)
  held s names all (Script raws) role u k e =
      let p = went (check_range line (codes "script") 0 1000 (length raws)) _ role e in
      let q = went (collected_results (parse_move s names line) raws) _ role p.2 in
      let is : kinds.Script q.0 ≡ role = cc (q.2) in
      subst (IsHeld has) is tt

  acting_held : (s : Sizes) (names all : List (List ℕ)) (p : RawParty) (a : Acting) → IsKnownIn all p → parse_acting s names line p ≡ Ok a → IsHeld has a.role
  unfolding parse_acting
  acting_held s names all p a k e =
      let one = went (checked_role s names line p.actor) _ a e in
      let two = went (checked_seed line p) _ a one.2 in
      let is : record { role = one.0; seed = two.0 } ≡ a = cc (two.2) in
      subst (λ (x : Acting). IsHeld has x.role) is (held s names all p.actor one.0 k.0 k.1 one.1)

  all_known : (raw : RawHeader) (n : Numbered) → numbered_header has line raw ≡ Ok n → All (IsKnownIn (names_stated raw.parties)) raw.parties
  unfolding numbered_header
  all_known raw n e =
      let one = went (steps (name_step has line (names_stated raw.parties)) [] raw.parties) (λ names. collected_results (named_ends line names) raw.arcs >>= λ arcs.
      steps (leader_step line names) [] raw.leaders >>= λ leaders. Ok (record { names = names; arcs = arcs; leaders = leaders })) n e in
      steps_each (IsKnownIn (names_stated raw.parties)) (name_step has line (names_stated raw.parties)) (party_known (names_stated raw.parties)) [] raw.parties
      one.0 one.1

abbrev zero_party : RawParty
zero_party = record { name = []; actor = Manual; seed = None }

abbrev zero_acting : Acting
zero_acting = record { role = kinds.Manual; seed = None }

each_held : (has : List ℕ → Bool) (version : Version) (s : Sizes) (names all : List (List ℕ)) (line : ℕ) (parties : List RawParty) (acting : List Acting)
    → All (IsKnownIn has line all) parties → count_parties version s names line parties ≡ Ok acting
    → HoldsEach has (map (λ (a : Acting). a.role) acting)
unfolding count_parties
each_held has version s names all line parties acting known e =
    let one = went (check_range line (codes "parties") 2 (most_parties version) (length parties)) _ acting e in
    let size = each_length (parse_acting s names line) parties acting one.2 in
    let n = length-map acting (λ (a : Acting). a.role) in
    All-from_get_or (IsHeld has) (map (λ (a : Acting). a.role) acting) kinds.Manual
    (λ i lt.
    subst (IsHeld has) (sym (get_or-map (λ (a : Acting). a.role) acting i zero_acting kinds.Manual (omega (arith, lt, n))))
    (acting_held has line s names all (get_or parties i zero_party) (get_or acting i zero_acting)
    (All-get_or (IsKnownIn has line all) parties i zero_party (omega (arith, lt, n, size)) known)
    (each_at (parse_acting s names line) parties acting zero_party zero_acting one.2 i (omega (arith, lt, n, size)))))

pub are_held : (has : List ℕ → Bool) (line : ℕ) (purpose : Purpose) (raw : RawHeader) (n : Numbered) (h : Header) → numbered_header has line raw ≡ Ok n
    → limited_value purpose line raw n ≡ Ok h → HoldsEach has h.roles
are_held has line purpose raw n h known e =
    let o = opened line purpose raw n h e in
    subst (λ (x : Header). HoldsEach has x.roles) o.same
    (each_held has raw.version (header_sizes raw) n.names (names_stated raw.parties) line raw.parties o.acting (all_known has line raw n known) o.acting_are)
