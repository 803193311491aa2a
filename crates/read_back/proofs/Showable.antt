-- Every job that a header line gives, but for a plain one, can be shown.
use Rattle.std.proofs.Common.{◌≡◌, ◌*◌, ℕ, Bool, true, false, cond, List, [], ◌∷◌, ◌++◌, length, Option, Some, None, Result, Ok, Err, refl, sym, ap}
use Rattle.std.proofs.Common.{◌∙◌, subst, arith, codes}
use Rattle.std.specs.Prelude.{All}
use Rattle.std.specs.Str.{bytes_eq}
use Rattle.std.specs.List.{list_any}
use Rattle.std.proofs.lemmas.List.Elements.{All-nil, All-push}
use Rattle.hex.specs.declared.error.FromHexError.{FromHexError}
use Rattle.hex.specs.Hex.{decode_pairs, decode_sized, IsBytes}
use Rattle.hex.proofs.HexLemmas.{decode_pairs-ok, decode_sized-ok}
use Rattle.hex.proofs.Pairs.{decode_sized-pairs}
use Rattle.serde_json.specs.Data.{Data}
use Rattle.swap_base.specs.Fault.{steps}
use Rattle.swap_digraph.specs.Value.{Graph}
use Rattle.swap_digraph.specs.Arcs.{build_digraph, first_fault, graph_or}
use Rattle.swap_digraph.specs.declared.fault.ArcFault.{ArcFault}
use Rattle.swap_digraph.specs.declared.deal.Mode.{Mode}
use Rattle.swap_digraph.specs.declared.deal.Mode.TheVariants.{Timelocks, Hashkeys}
use Rattle.swap_job.specs.declared.job.Job.{Job}
use Rattle.swap_job.specs.declared.job.Purpose.{Purpose}
use Rattle.swap_job.specs.declared.job.Purpose.TheVariants.{Check, Run, Race, Make, Audit}
use Rattle.command_input.specs.declared.reason.Reason.{Reason}
use Rattle.command_input.specs.declared.reason.Reason.TheVariants.{BadName, Duplicate}
use Rattle.swap_rules.specs.Accepted.{IsAccepted}
use Rattle.offer_moves.specs.Fields.{field_list, field_number, parse_data, only}
use Rattle.offer_moves.specs.FieldLimits.{decoded, to_digest, check_range}
use Rattle.offer_moves.specs.Lists.{collected_results}
use Rattle.offer_moves.proofs.Chains.{each_all}
use Rattle.offer_header.specs.Raw.{object_arc, finish_member, header_fields, is_plain, keys_member, object_leader, mode_member, parse_party, object_header, states_keys}
use Rattle.offer_header.specs.Raw.{version_member}
use Rattle.offer_header.specs.Raw.{IsVersionMode, IsUntimed}
use Rattle.offer_header.specs.Names.{actor_known, named_ends, is_name, leader_step, name_added, name_step, names_stated, numbered_header}
use Rattle.offer_header.specs.Limits.{stated_hashlock, leader_hashlocks, key_digest, derived_keys, limited_value, party_key_row, stated_keys}
use Rattle.offer_header.specs.Header.{parse_whole_header, IsHeaderInLimits}
use Rattle.offer_header.specs.Scripts.{scripts_placed}
use Rattle.offer_header.specs.declared.raw.RawHeader.{RawHeader}
use Rattle.offer_header.specs.declared.raw.RawLeader.{RawLeader}
use Rattle.offer_header.specs.declared.raw.RawParty.{RawParty}
use Rattle.offer_header.specs.declared.raw.RawRow.{RawRow}
use Rattle.offer_header.specs.declared.names.Numbered.{Numbered}
use Rattle.offer_header.specs.declared.header.Header.{Header}
use Rattle.offer_header.proofs.Allowed.{is_mode_of}
use Rattle.offer_header.proofs.Limited.{set_contains_ends, opened}
use Rattle.offer_header.proofs.Numbered.{is_numbered}
use Rattle.offer_header.proofs.Untimed.{arcs_untimed}
use Rattle.offer_header.proofs.Walked.{steps_keep}
use Rattle.offer_text.specs.HeaderLine.{is_make}
use Rattle.swap_offer.specs.Checks.{admitted, by_arcs, checked_digraph, header_deal, header_digraph, build_graph, assemble_job, IsAcceptedUnless}
use Rattle.swap_offer.specs.Job.{accepted_entries, parse_header_job, provided}
use Rattle.swap_offer.proofs.Admitted.{admitted_is_accepted}
use Rattle.swap_offer.proofs.Size.{is_whole}
use Rattle.typed_books.specs.Typed.{IsDigest}
use Rattle.read_back.specs.Headers.{IsShowable, ReadIsShowable}
use Rattle.read_back.proofs.Onward.{landed, ok_is, onward}

-- ---- digests

decoded_ok : (line : ℕ) (field : List ℕ) (r : Result (List ℕ) FromHexError) (xs : List ℕ) → decoded line field r ≡ Ok xs → r ≡ Ok xs
decoded_ok line field (Ok ys) xs e = ap (λ (l : List ℕ). Ok l) (ok_is ys xs e)
decoded_ok line field (Err f) xs e = absurd (cc e)

-- n bytes
pub sized_bytes : (n : ℕ) (w xs : List ℕ) → decode_sized w n ≡ Ok xs → (length xs ≡ n) × IsBytes xs
sized_bytes n w xs e =
    let long : length w ≡ 2 * n = decode_sized-ok w n xs e in
    let pairs : decode_pairs 0 w ≡ Ok xs = sym (decode_sized-pairs w n (omega (arith, long)) (omega (arith, long))) ∙ e in
    let k = decode_pairs-ok 0 w xs pairs in
    let size : length w ≡ 2 * length xs = k.1 in
    (omega (arith, long, size), k.2)

pub decoded_bytes : (line : ℕ) (field : List ℕ) (n : ℕ) (w xs : List ℕ) → decoded line field (decode_sized w n) ≡ Ok xs → (length xs ≡ n) × IsBytes xs
decoded_bytes line field n w xs e = sized_bytes n w xs (decoded_ok line field (decode_sized w n) xs e)

pub digest_is : (line : ℕ) (field w xs : List ℕ) → to_digest line field w ≡ Ok xs → IsDigest xs
unfolding to_digest
digest_is line field w xs e = let k = decoded_bytes line field 32 w xs e in record { size = k.0; bytes = k.1 }

hashlock_is : (line : ℕ) (l : RawLeader) (xs : List ℕ) → stated_hashlock line l ≡ Ok xs → IsDigest xs
unfolding stated_hashlock
hashlock_is line l xs e = digest_is line (codes "hashlock") l.hashlock xs e

hashlocks_are : (line : ℕ) (leaders : List RawLeader) (hashlocks : List (List ℕ)) → leader_hashlocks false line leaders ≡ Ok hashlocks → All IsDigest hashlocks
unfolding leader_hashlocks
hashlocks_are line leaders =
    onward (check_range line (codes "leaders") 1 8 (length leaders)) _ (All IsDigest)
    (λ u w hashlocks e. each_all IsDigest (stated_hashlock line) (hashlock_is line) leaders hashlocks e)

key_is : (line : ℕ) (w xs : List ℕ) → key_digest line w ≡ Ok xs → IsDigest xs
unfolding key_digest
key_is line w xs e = digest_is line (codes "keys") w xs e

row_is : (locks line : ℕ) (row : RawRow) (keys : List (List ℕ)) → party_key_row locks line row ≡ Ok keys → All IsDigest keys
unfolding party_key_row
row_is locks line row =
    onward (check_range line (codes "keys") locks locks (length row.texts)) _ (All IsDigest)
    (λ u w keys e. each_all IsDigest (key_digest line) (key_is line) row.texts keys e)

rows_are : (line : ℕ) (h : RawHeader) (keys : List (List (List ℕ))) → stated_keys line h ≡ Ok keys → All (All IsDigest) keys
unfolding stated_keys
rows_are line h =
    onward (check_range line (codes "keys") (length h.parties) (length h.parties) (length h.keys)) _ (All (All IsDigest))
    (λ u w keys e. each_all (All IsDigest) (party_key_row (length h.leaders) line) (row_is (length h.leaders) line) h.keys keys e)

no_rows : (keys : List (List (List ℕ))) → [] ≡ keys → All (All IsDigest) keys
no_rows keys e = subst (All (All IsDigest)) e (All-nil (All IsDigest))

keys_are : (mode : Mode) (line : ℕ) (h : RawHeader) (keys : List (List (List ℕ))) → derived_keys mode false line h ≡ Ok keys → All (All IsDigest) keys
keys_are Timelocks line h keys e = no_rows keys (ok_is [] keys e)
keys_are Hashkeys line h keys e = rows_are line h keys e

-- ---- names

abbrev pub IsGood : List ℕ → Type 0
IsGood name = is_name name ≡ true

pub two_tests : {X : Type 0} (a b : Bool) (x y : Reason) (z t : X) → cond a (cond b (Err x) (Ok z)) (Err y) ≡ Ok t → (a ≡ true) × (z ≡ t)
two_tests true true x y z t h = absurd (cc h)
two_tests true false x y z t h = (refl, ok_is z t h)
two_tests false b x y z t h = absurd (cc h)

added_is : (line : ℕ) (seen : List (List ℕ)) (p : RawParty) (t : List (List ℕ)) → name_added line seen p ≡ Ok t
    → (is_name p.name ≡ true) × (seen ++ p.name ∷ [] ≡ t)
unfolding name_added
added_is line seen p t h =
    two_tests (is_name p.name) (list_any (bytes_eq p.name) seen) (Duplicate line p.name) (BadName line p.name) (seen ++ p.name ∷ []) t h

good_added : (line : ℕ) (seen : List (List ℕ)) (p : RawParty) (t : List (List ℕ)) → All IsGood seen → name_added line seen p ≡ Ok t → All IsGood t
good_added line seen p t good h =
    let a = added_is line seen p t h in
    subst (All IsGood) a.1 (All-push IsGood seen p.name good a.0)

good_step : (has : List ℕ → Bool) (line : ℕ) (all seen : List (List ℕ)) (p : RawParty) (t : List (List ℕ)) → All IsGood seen
    → name_step has line all seen p ≡ Ok t → All IsGood t
unfolding name_step
good_step has line all seen p t good =
    onward (name_added line seen p) _ (All IsGood) (λ names n.
    onward (actor_known has line all p.actor) _ (All IsGood) (λ u k. landed names (All IsGood) (good_added line seen p names good n))) t

pub good_names : (has : List ℕ → Bool) (line : ℕ) (raw : RawHeader) (n : Numbered) → numbered_header has line raw ≡ Ok n → All IsGood n.names
unfolding numbered_header
good_names has line raw =
    onward (steps (name_step has line (names_stated raw.parties)) [] raw.parties) _ (λ (n : Numbered). All IsGood n.names) (λ names e.
    onward (collected_results (named_ends line names) raw.arcs) _ (λ (n : Numbered). All IsGood n.names) (λ arcs a.
    onward (steps (leader_step line names) [] raw.leaders) _ (λ (n : Numbered). All IsGood n.names) (λ leaders l.
    landed (record { names = names; arcs = arcs; leaders = leaders }) (λ (n : Numbered). All IsGood n.names)
    (steps_keep (All IsGood) (name_step has line (names_stated raw.parties)) (good_step has line (names_stated raw.parties)) [] raw.parties names
    (All-nil IsGood) e))))

-- ---- the fields of a header

abbrev pub IsFit : RawHeader → Type 0
IsFit raw = IsVersionMode raw.version raw.mode × IsUntimed raw

pub raw_fits : (purpose : Purpose) (line : ℕ) (d : Data) (raw : RawHeader) → object_header purpose line d ≡ Ok raw → IsFit raw
unfolding object_header
raw_fits purpose line d =
    onward (version_member line d) _ IsFit (λ version v.
    onward (mode_member line version d) _ IsFit (λ mode m.
    onward (field_number line (codes "start") d) _ IsFit (λ start s.
    onward (field_number line (codes "delta") d) _ IsFit (λ delta t.
    onward (field_number line (codes "bound") d) _ IsFit (λ bound b.
    onward (field_list line (codes "parties") (parse_party (record { purpose = purpose; mode = mode }) line) d) _ IsFit (λ parties p.
    onward (field_list line (codes "arcs") (object_arc (record { purpose = purpose; mode = mode }) line) d) _ IsFit (λ arcs a.
    onward (field_list line (codes "leaders") (object_leader (record { purpose = purpose; mode = mode }) line) d) _ IsFit (λ leaders l.
    onward (keys_member line (states_keys purpose mode) d) _ IsFit (λ keys k.
    onward (finish_member line purpose d) _ IsFit (λ finish f.
    onward (only line (header_fields purpose (states_keys purpose mode)) d) _ IsFit (λ u o.
    landed _ IsFit (
      is_mode_of line version d mode m,
      λ is. arcs_untimed (record { purpose = purpose; mode = mode }) line d arcs is a,
    ))))))))))))

-- ---- a header within its limits

-- What is known of a header that a line gives for a purpose.
record IsStatedBy (purpose : Purpose) (h : Header) : Type 0 where
  purpose_is : h.purpose ≡ purpose
  within : IsHeaderInLimits h
  names : All IsGood h.names
  hashlocks : All IsDigest h.hashlocks
  keys : All (All IsDigest) h.keys

limited_is : (purpose : Purpose) (line : ℕ) (raw : RawHeader) (n : Numbered) (h : Header) → is_plain purpose ≡ false → IsFit raw
    → All IsGood n.names → ((x : Header) → limited_value purpose line raw n ≡ Ok x → IsHeaderInLimits x) → limited_value purpose line raw n ≡ Ok h
    → IsStatedBy purpose h
limited_is purpose line raw n h stated fit good within e =
    let o = opened line purpose raw n h e in
    let hashlocks : leader_hashlocks false line raw.leaders ≡ Ok o.hashlocks =
    subst (λ (b : Bool). leader_hashlocks b line raw.leaders ≡ Ok o.hashlocks) stated o.hashlocks_are in
    let keys : derived_keys raw.mode false line raw ≡ Ok o.keys = subst (λ (b : Bool). derived_keys raw.mode b line raw ≡ Ok o.keys) stated o.keys_are in
    record {
      purpose_is = sym (ap (λ (x : Header). x.purpose) o.same);
      within = within h e;
      names = subst (All IsGood) (ap (λ (x : Header). x.names) o.same) good;
      hashlocks = subst (All IsDigest) (ap (λ (x : Header). x.hashlocks) o.same) (hashlocks_are line raw.leaders o.hashlocks hashlocks);
      keys = subst (All (All IsDigest)) (ap (λ (x : Header). x.keys) o.same) (keys_are raw.mode line raw o.keys keys);
    }

header_is : (has : List ℕ → Bool) (purpose : Purpose) (line : ℕ) (text : List ℕ) (h : Header) → is_plain purpose ≡ false
    → parse_whole_header has purpose line text ≡ Ok h → IsStatedBy purpose h
unfolding parse_whole_header
header_is has purpose line text h stated =
    onward (parse_data line text) _ (IsStatedBy purpose) (λ d o.
    onward (object_header purpose line d) _ (IsStatedBy purpose) (λ raw r.
    onward (numbered_header has line raw) _ (IsStatedBy purpose) (λ n m.
    onward (limited_value purpose line raw n) _ (IsStatedBy purpose) (λ x l.
    onward (scripts_placed line x) _ (IsStatedBy purpose) (λ u s.
    landed x (IsStatedBy purpose)
    (let fit = raw_fits purpose line d raw r in
    limited_is purpose line raw n x stated fit (good_names has line raw n m)
    (λ y e. set_contains_ends line purpose raw n y (is_numbered has line raw n m) fit.0 fit.1 e) l)))))) h

-- ---- the job

not_made : (p : Purpose) → is_plain p ≡ false → is_make p ≡ false
not_made Make e = absurd (cc e)
not_made Check e = refl
not_made Run e = refl
not_made Race e = refl
not_made Audit e = refl

graph_is : (h : Header) (g : Graph) → build_graph h ≡ Ok g → header_digraph h ≡ g
unfolding build_graph build_digraph
graph_is h g e = go (first_fault (length h.names) h.version h.arcs) e
  where
    go : (o : Option ArcFault) → by_arcs (graph_or (length h.names) h.arcs o) ≡ Ok g → header_digraph h ≡ g
    go None k = ok_is (header_digraph h) g k
    go (Some f) k = absurd (cc k)

pub admitted_graph : (h : Header) (g : Graph) → admitted h ≡ Ok g → header_digraph h ≡ g
unfolding admitted
admitted_graph h =
    onward (build_graph h) _ (λ (g : Graph). header_digraph h ≡ g) (λ x m.
    onward (checked_digraph h x) _ (λ (g : Graph). header_digraph h ≡ g) (λ u c. landed x (λ (g : Graph). header_digraph h ≡ g) (graph_is h x m)))

showable : (purpose : Purpose) (h : Header) → is_plain purpose ≡ false → IsStatedBy purpose h → admitted h ≡ Ok (header_digraph h)
    → IsShowable (assemble_job h (header_digraph h))
showable purpose h stated k e =
    let plain : is_plain h.purpose ≡ false = subst (λ (p : Purpose). is_plain p ≡ false) (sym k.purpose_is) stated in
    let accepted : IsAccepted (header_deal h (header_digraph h)) =
    subst (λ (b : Bool). IsAcceptedUnless b (header_deal h (header_digraph h))) plain ((admitted_is_accepted h k.within).0 e) in
    let whole = is_whole h (header_digraph h) k.within accepted.ends refl refl in
    record {
      stated = not_made h.purpose plain;
      sized = whole.sized;
      accepted = accepted;
      parties = refl;
      conforming = whole.conforming;
      names = k.names;
      apart = k.within.names.apart;
      hashlocks = k.hashlocks;
      keys = k.keys;
    }

showable_with : (purpose : Purpose) (h : Header) (g : Graph) → is_plain purpose ≡ false → IsStatedBy purpose h → admitted h ≡ Ok g
    → IsShowable (assemble_job h g)
showable_with purpose h g stated k e =
    let same : header_digraph h ≡ g = admitted_graph h g e in
    subst (λ (x : Graph). IsShowable (assemble_job h x)) same
    (showable purpose h stated k (subst (λ (x : Graph). admitted h ≡ Ok x) (sym same) e))

accepted_is : (purpose : Purpose) (h : Header) (job : Job) → is_plain purpose ≡ false → IsStatedBy purpose h → accepted_entries h ≡ Ok job → IsShowable job
unfolding accepted_entries
accepted_is purpose h job stated k =
    onward (admitted h) _ IsShowable (λ g a.
    onward (provided (assemble_job h g)) _ IsShowable (λ u p. landed (assemble_job h g) IsShowable (showable_with purpose h g stated k a))) job

pub read_is_showable : ReadIsShowable
unfolding parse_header_job
read_is_showable has purpose line text job stated =
    onward (parse_whole_header has purpose line text) _ IsShowable (λ h e j a.
    accepted_is purpose h j stated (header_is has purpose line text h stated e) a) job
