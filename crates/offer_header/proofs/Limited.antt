-- A header's lists are as long as they have to be, and its numbers are in their ranges.
use Rattle.std.proofs.Common.{◌≡◌, ℕ, ◌<◌, ◌≤◌, ◌^◌, length, get_or, map, List, [], ◌∷◌, Bool, true, false, None, Ok, refl}
use Rattle.std.proofs.Common.{sym, ap, ◌∙◌, subst, arith, codes}
use Rattle.std.proofs.lemmas.List.{get_or-map, length-map}
use Rattle.swap_base.specs.Fault.{◌>>=◌}
use Rattle.offer_moves.specs.FieldLimits.{ranged_number, check_range}
use Rattle.offer_moves.specs.Lists.{collected_results}
use Rattle.offer_header.specs.Names.{AreLeaders, AreEnds, IsNumbered}
use Rattle.offer_header.specs.Raw.{is_plain, IsVersionMode, IsUntimed}
use Rattle.offer_header.specs.Limits.{parse_acting, count_parties, header_sizes, limited_arc_terms, limited_terms, arc_ends}
use Rattle.offer_header.specs.Limits.{stated_hashlock, no_digests, read_hashlocks, leader_hashlocks}
use Rattle.offer_header.specs.Limits.{key_digest, party_key_row, stated_keys, derived_keys, assemble_header, limited_value}
use Rattle.offer_header.specs.Header.{AreSizedKeys, IsHeaderInLimits}
use Rattle.offer_header.specs.declared.raw.RawActor.TheVariants.{Manual}
use Rattle.offer_header.specs.declared.raw.RawParty.{RawParty}
use Rattle.offer_header.specs.declared.raw.RawArc.{RawArc}
use Rattle.offer_header.specs.declared.raw.RawLeader.{RawLeader}
use Rattle.offer_header.specs.declared.raw.RawRow.{RawRow}
use Rattle.offer_moves.specs.declared.moves.Sizes.{Sizes}
use Rattle.offer_header.specs.declared.limits.Acting.{Acting}
use Rattle.offer_header.specs.declared.limits.ArcTerms.{ArcTerms}
use Rattle.swap_digraph.specs.declared.arc_ends.ArcEnds.{ArcEnds}
use Rattle.swap_digraph.specs.declared.deal.Mode.{Mode}
use Rattle.swap_digraph.specs.declared.deal.Mode.TheVariants.{Timelocks, Hashkeys}
use Rattle.swap_digraph.specs.declared.deal.Version.{Version}
use Rattle.swap_digraph.specs.Deal.{most_arcs, most_parties}
use Rattle.offer_header.specs.declared.raw.RawHeader.{RawHeader}
use Rattle.swap_job.specs.Roles.{is_conforming}
use Rattle.swap_job.specs.declared.job.Purpose.{Purpose}
use Rattle.offer_header.specs.declared.header.Header.{Header}
use Rattle.offer_header.specs.declared.names.Ends.{Ends}
use Rattle.offer_header.specs.declared.names.Numbered.{Numbered}
use Rattle.offer_moves.proofs.Chains.{went, each_length, each_at}
use Rattle.offer_moves.proofs.Ranges.{within_ok, number_within_ok}
use Rattle.offer_header.proofs.Allowed.{few_parties}

-- ---- parties

pub parties_ok : (version : Version) (sizes : Sizes) (names : List (List ℕ)) (line : ℕ) (parties : List RawParty) (acting : List Acting)
    → count_parties version sizes names line parties ≡ Ok acting
    → (2 ≤ length parties) × (length parties ≤ most_parties version) × (length acting ≡ length parties)
unfolding count_parties
parties_ok version sizes names line parties acting h =
    let one = went (check_range line (codes "parties") 2 (most_parties version) (length parties)) (λ u. collected_results (parse_acting sizes names line) parties) acting h in
    let r = within_ok line (codes "parties") 2 (most_parties version) (length parties) one.0 one.1 in
    (r.0, r.1, each_length (parse_acting sizes names line) parties acting one.2)

-- a party conforms exactly where its role says so
roles_conform : (acting : List Acting) → map (λ (p : Acting). is_conforming p.role) acting ≡ map is_conforming (map (λ (p : Acting). p.role) acting)
roles_conform [] = refl
roles_conform (p ∷ acting) = ap (λ (bs : List Bool). is_conforming p.role ∷ bs) (roles_conform acting)

wider_ends : (n : ℕ) (ends : List Ends) → n ≤ 256 → AreEnds n ends → AreEnds 256 ends
wider_ends n ends le h = record {
  from = λ a lt. let k = h.from a lt in omega arith;
  to = λ a lt. let k = h.to a lt in omega arith;
}

wider_leaders : (n : ℕ) (leaders : List ℕ) → n ≤ 256 → AreLeaders n leaders → AreLeaders 256 leaders
wider_leaders n leaders le h = record { below = λ i lt. let k = h.below i lt in omega arith; apart = h.apart }

pub small_ends : (line : ℕ) (raw : RawHeader) (n : Numbered) (acting : List Acting) → IsNumbered raw n
    → count_parties raw.version (header_sizes raw) n.names line raw.parties ≡ Ok acting
    → AreEnds 256 n.arcs
small_ends line raw n acting is h =
    let r = parties_ok raw.version (header_sizes raw) n.names line raw.parties acting h in
    let most = few_parties raw.version in
    let e = is.parties in
    wider_ends (length n.names) n.arcs (omega arith) is.ends

pub small_leaders : (line : ℕ) (raw : RawHeader) (n : Numbered) (acting : List Acting) → IsNumbered raw n
    → count_parties raw.version (header_sizes raw) n.names line raw.parties ≡ Ok acting
    → AreLeaders 256 n.leaders
small_leaders line raw n acting is h =
    let r = parties_ok raw.version (header_sizes raw) n.names line raw.parties acting h in
    let most = few_parties raw.version in
    let e = is.parties in
    wider_leaders (length n.names) n.leaders (omega arith) is.leader

-- ---- arcs

terms_ok : (line : ℕ) (a : RawArc) (t : ArcTerms) → limited_arc_terms line a ≡ Ok t
    → ((1 ≤ t.amount) × (t.amount ≤ 10 ^ 12)) × (t.timelock ≤ 1000000) × (t.timelock ≡ a.timelock)
unfolding limited_arc_terms
terms_ok line a t h =
    let one = went (check_range line (codes "amount") 1 (10 ^ 12) a.amount) (λ u. ranged_number line (codes "timelock") 0 1000000 a.timelock >>= λ timelock.
    Ok (record { amount = a.amount; timelock = timelock })) t h in
    let two = went (ranged_number line (codes "timelock") 0 1000000 a.timelock)
    (λ timelock. Ok (record { amount = a.amount; timelock = timelock })) t one.2 in
    let same : record { amount = a.amount; timelock = two.0 } ≡ t = cc (two.2) in
    let r = within_ok line (codes "amount") 1 (10 ^ 12) a.amount one.0 one.1 in
    let q = number_within_ok line (codes "timelock") 0 1000000 a.timelock two.0 two.1 in
    subst (λ (t : ArcTerms). ((1 ≤ t.amount) × (t.amount ≤ 10 ^ 12)) × (t.timelock ≤ 1000000) × (t.timelock ≡ a.timelock)) same (r, q.1, q.2)

abbrev zero_arc : RawArc
zero_arc = record { from = []; to = []; amount = 0; timelock = 0 }

abbrev zero_terms : ArcTerms
zero_terms = record { amount = 0; timelock = 0 }

-- The terms are in their ranges, and the timelocks are those that are stated.
record AreTerms (version : Version) (arcs : List RawArc) (terms : List ArcTerms) : Type 0 where
  few : (2 ≤ length terms) × (length terms ≤ most_arcs version)
  each : length terms ≡ length arcs
  amount : (a : ℕ) → a < length terms → (1 ≤ (get_or terms a zero_terms).amount) × ((get_or terms a zero_terms).amount ≤ 10 ^ 12)
  timelock : (a : ℕ) → a < length terms → (get_or terms a zero_terms).timelock ≤ 1000000
  stated : (a : ℕ) → a < length terms → (get_or terms a zero_terms).timelock ≡ (get_or arcs a zero_arc).timelock

are_terms : (version : Version) (line : ℕ) (arcs : List RawArc) (terms : List ArcTerms) → limited_terms version line arcs ≡ Ok terms
    → AreTerms version arcs terms
unfolding limited_terms
are_terms version line arcs terms h =
    let one = went (check_range line (codes "arcs") 2 (most_arcs version) (length arcs)) (λ u. collected_results (limited_arc_terms line) arcs) terms h in
    let r = within_ok line (codes "arcs") 2 (most_arcs version) (length arcs) one.0 one.1 in
    let l : length terms ≡ length arcs = each_length (limited_arc_terms line) arcs terms one.2 in
    let at : (a : ℕ) → a < length terms → ((1 ≤ (get_or terms a zero_terms).amount) × ((get_or terms a zero_terms).amount ≤ 10 ^ 12))
    × ((get_or terms a zero_terms).timelock ≤ 1000000) × ((get_or terms a zero_terms).timelock ≡ (get_or arcs a zero_arc).timelock) =
    λ a lt. terms_ok line (get_or arcs a zero_arc) (get_or terms a zero_terms)
    (each_at (limited_arc_terms line) arcs terms zero_arc zero_terms one.2 a (omega arith)) in
    record {
      few = (omega arith, omega arith);
      each = l;
      amount = λ a lt. (at a lt).0;
      timelock = λ a lt. (at a lt).1;
      stated = λ a lt. (at a lt).2;
    }

-- ---- leaders and keys

by_hashlocks : (plain : Bool) (line : ℕ) (leaders : List RawLeader) (hashlocks : List (List ℕ)) → read_hashlocks plain line leaders ≡ Ok hashlocks
    → length hashlocks ≡ length leaders
by_hashlocks true line leaders hashlocks h =
    let same : no_digests leaders ≡ hashlocks = cc h in
    ap length (sym same) ∙ length-map leaders _
by_hashlocks false line leaders hashlocks h = each_length (stated_hashlock line) leaders hashlocks h

hashlocks_ok : (plain : Bool) (line : ℕ) (leaders : List RawLeader) (hashlocks : List (List ℕ)) → leader_hashlocks plain line leaders ≡ Ok hashlocks
    → (1 ≤ length leaders) × (length leaders ≤ 8) × (length hashlocks ≡ length leaders)
unfolding leader_hashlocks
hashlocks_ok plain line leaders hashlocks h =
    let one = went (check_range line (codes "leaders") 1 8 (length leaders)) (λ u. read_hashlocks plain line leaders) hashlocks h in
    let r = within_ok line (codes "leaders") 1 8 (length leaders) one.0 one.1 in
    (r.0, r.1, by_hashlocks plain line leaders hashlocks one.2)

party_keys_ok : (locks line : ℕ) (row : RawRow) (keys : List (List ℕ)) → party_key_row locks line row ≡ Ok keys → length keys ≡ locks
unfolding party_key_row
party_keys_ok locks line row keys h =
    let one = went (check_range line (codes "keys") locks locks (length row.texts)) (λ u. collected_results (key_digest line) row.texts) keys h in
    let r = within_ok line (codes "keys") locks locks (length row.texts) one.0 one.1 in
    let l : length keys ≡ length row.texts = each_length (key_digest line) row.texts keys one.2 in
    omega arith

abbrev no_row : RawRow
no_row = record { texts = [] }

stated_keys_ok : (line : ℕ) (h : RawHeader) (keys : List (List (List ℕ))) → stated_keys line h ≡ Ok keys
    → AreSizedKeys Hashkeys (length h.parties) (length h.leaders) keys
unfolding stated_keys
stated_keys_ok line h keys e =
    let locks : ℕ = length h.leaders in
    let one = went (check_range line (codes "keys") (length h.parties) (length h.parties) (length h.keys)) (λ u. collected_results (party_key_row locks line) h.keys) keys e in
    let r = within_ok line (codes "keys") (length h.parties) (length h.parties) (length h.keys) one.0 one.1 in
    let l : length keys ≡ length h.keys = each_length (party_key_row locks line) h.keys keys one.2 in (
      omega arith,
      λ p lt. party_keys_ok locks line (get_or h.keys p no_row) (get_or keys p [])
          (each_at (party_key_row locks line) h.keys keys no_row [] one.2 p (omega arith)),
    )

abbrev zero_party : RawParty
zero_party = record { name = []; actor = Manual; seed = None }

unstated_keys_ok : (h : RawHeader) (keys : List (List (List ℕ))) → map (λ (p : RawParty). no_digests h.leaders) h.parties ≡ keys
    → AreSizedKeys Hashkeys (length h.parties) (length h.leaders) keys
unstated_keys_ok h keys same = subst (AreSizedKeys Hashkeys (length h.parties) (length h.leaders)) same (
  length-map h.parties _,
  λ p lt. ap length (get_or-map (λ (p : RawParty). no_digests h.leaders) h.parties p zero_party [] lt) ∙ length-map h.leaders _,
)

keys_ok : (mode : Mode) (plain : Bool) (line : ℕ) (h : RawHeader) (keys : List (List (List ℕ))) → derived_keys mode plain line h ≡ Ok keys
    → AreSizedKeys mode (length h.parties) (length h.leaders) keys
keys_ok Timelocks plain line h keys e = cc e
keys_ok Hashkeys true line h keys e = unstated_keys_ok h keys (cc e)
keys_ok Hashkeys false line h keys e = stated_keys_ok line h keys e

-- ---- the header

abbrev zero_ends : Ends
zero_ends = record { from = 0; to = 0 }

abbrev zero_arc_ends : ArcEnds
zero_arc_ends = record { from = 0; to = 0 }

all_within : (purpose : Purpose) (raw : RawHeader) (n : Numbered) (start delta bound : ℕ) (acting : List Acting) (terms : List ArcTerms)
    (hashlocks : List (List ℕ)) (keys : List (List (List ℕ)))
    → IsNumbered raw n → IsVersionMode raw.version raw.mode → IsUntimed raw
    → (1 ≤ start) × (start ≤ 1000) × (start ≡ raw.start) → (1 ≤ delta) × (delta ≤ 100) × (delta ≡ raw.delta)
    → (1 ≤ bound) × (bound ≤ 64) × (bound ≡ raw.bound)
    → (2 ≤ length raw.parties) × (length raw.parties ≤ most_parties raw.version) × (length acting ≡ length raw.parties)
    → AreTerms raw.version raw.arcs terms
    → (1 ≤ length raw.leaders) × (length raw.leaders ≤ 8) × (length hashlocks ≡ length raw.leaders)
    → AreSizedKeys raw.mode (length raw.parties) (length raw.leaders) keys
    → IsHeaderInLimits (assemble_header purpose raw n start delta bound acting terms hashlocks keys)
all_within purpose raw n start delta bound acting terms hashlocks keys is mode untimed s d b ps ts ls ks =
    let lp : length n.names ≡ length raw.parties = is.parties in
    let la : length n.arcs ≡ length raw.arcs = is.arcs in
    let ll : length n.leaders ≡ length raw.leaders = is.leaders in
    let lt : length terms ≡ length raw.arcs = ts.each in
    let few = ts.few in
    let ends : length (map arc_ends n.arcs) ≡ length n.arcs = length-map n.arcs arc_ends in
    let amounts : length (map (λ (t : ArcTerms). t.amount) terms) ≡ length terms = length-map terms _ in
    let timelocks : length (map (λ (t : ArcTerms). t.timelock) terms) ≡ length terms = length-map terms _ in
    let roles : length (map (λ (p : Acting). p.role) acting) ≡ length acting = length-map acting _ in
    let seeds : length (map (λ (p : Acting). p.seed) acting) ≡ length acting = length-map acting _ in
    record {
      mode = mode;
      start = (s.0, s.1);
      delta = (d.0, d.1);
      bound = (b.0, b.1);
      parties = (omega arith, omega arith);
      names = is.names;
      roles = roles ∙ (ps.2 ∙ sym lp);
      conforming = roles_conform acting;
      seeds = seeds ∙ (ps.2 ∙ sym lp);
      arcs = (omega arith, omega arith);
      from = λ a l. rw (get_or-map arc_ends n.arcs a zero_ends zero_arc_ends (omega arith)) (is.ends.from a (omega arith));
      to = λ a l. rw (get_or-map arc_ends n.arcs a zero_ends zero_arc_ends (omega arith)) (is.ends.to a (omega arith));
      amounts = omega arith;
      amount = λ a l. rw (get_or-map (λ (t : ArcTerms). t.amount) terms a zero_terms 0 (omega arith)) (ts.amount a (omega arith));
      timelocks = omega arith;
      timelock = λ a l. rw (get_or-map (λ (t : ArcTerms). t.timelock) terms a zero_terms 0 (omega arith)) (ts.timelock a (omega arith));
      untimed = λ m a l. rw (get_or-map (λ (t : ArcTerms). t.timelock) terms a zero_terms 0 (omega arith))
          (ts.stated a (omega arith) ∙ untimed m a zero_arc (omega arith));
      leaders = (omega arith, omega arith);
      leader = is.leader;
      hashlocks = ls.2 ∙ sym ll;
      keys = rw (lp, ll) ks;
    }

within_along : (h k : Header) → h ≡ k → IsHeaderInLimits h → IsHeaderInLimits k
within_along h k e w = subst (λ x. IsHeaderInLimits x) e w

-- The parts of a header within its limits.
pub record Opened (line : ℕ) (purpose : Purpose) (raw : RawHeader) (n : Numbered) (h : Header) : Type 0 where
  pub start : ℕ
  pub delta : ℕ
  pub bound : ℕ
  pub acting : List Acting
  pub terms : List ArcTerms
  pub hashlocks : List (List ℕ)
  pub keys : List (List (List ℕ))
  pub start_is : ranged_number line (codes "start") 1 1000 raw.start ≡ Ok start
  pub delta_is : ranged_number line (codes "delta") 1 100 raw.delta ≡ Ok delta
  pub bound_is : ranged_number line (codes "bound") 1 64 raw.bound ≡ Ok bound
  pub acting_are : count_parties raw.version (header_sizes raw) n.names line raw.parties ≡ Ok acting
  pub terms_are : limited_terms raw.version line raw.arcs ≡ Ok terms
  pub hashlocks_are : leader_hashlocks (is_plain purpose) line raw.leaders ≡ Ok hashlocks
  pub keys_are : derived_keys raw.mode (is_plain purpose) line raw ≡ Ok keys
  pub same : assemble_header purpose raw n start delta bound acting terms hashlocks keys ≡ h

pub opened : (line : ℕ) (purpose : Purpose) (raw : RawHeader) (n : Numbered) (h : Header) → limited_value purpose line raw n ≡ Ok h
    → Opened line purpose raw n h
unfolding limited_value
opened line purpose raw n h e =
    let one = went (ranged_number line (codes "start") 1 1000 raw.start) (λ start. ranged_number line (codes "delta") 1 100 raw.delta >>= λ delta.
    ranged_number line (codes "bound") 1 64 raw.bound >>= λ bound. count_parties raw.version (header_sizes raw) n.names line raw.parties >>= λ acting.
    limited_terms raw.version line raw.arcs >>= λ terms.
    leader_hashlocks (is_plain purpose) line raw.leaders >>= λ hashlocks. derived_keys raw.mode (is_plain purpose) line raw >>= λ keys.
    Ok (assemble_header purpose raw n start delta bound acting terms hashlocks keys)) h e in
    let two = went (ranged_number line (codes "delta") 1 100 raw.delta) (λ delta. ranged_number line (codes "bound") 1 64 raw.bound >>= λ bound.
    count_parties raw.version (header_sizes raw) n.names line raw.parties >>= λ acting. limited_terms raw.version line raw.arcs >>= λ terms.
    leader_hashlocks (is_plain purpose) line raw.leaders >>= λ hashlocks.
    derived_keys raw.mode (is_plain purpose) line raw >>= λ keys.
    Ok (assemble_header purpose raw n one.0 delta bound acting terms hashlocks keys)) h one.2 in
    let three = went (ranged_number line (codes "bound") 1 64 raw.bound) (λ bound. count_parties raw.version (header_sizes raw) n.names line raw.parties >>= λ acting.
    limited_terms raw.version line raw.arcs >>= λ terms. leader_hashlocks (is_plain purpose) line raw.leaders >>= λ hashlocks.
    derived_keys raw.mode (is_plain purpose) line raw >>= λ keys.
    Ok (assemble_header purpose raw n one.0 two.0 bound acting terms hashlocks keys)) h two.2 in
    let four = went (count_parties raw.version (header_sizes raw) n.names line raw.parties) (λ acting. limited_terms raw.version line raw.arcs >>= λ terms.
    leader_hashlocks (is_plain purpose) line raw.leaders >>= λ hashlocks. derived_keys raw.mode (is_plain purpose) line raw >>= λ keys.
    Ok (assemble_header purpose raw n one.0 two.0 three.0 acting terms hashlocks keys)) h three.2 in
    let five = went (limited_terms raw.version line raw.arcs) (λ terms. leader_hashlocks (is_plain purpose) line raw.leaders >>= λ hashlocks.
    derived_keys raw.mode (is_plain purpose) line raw >>= λ keys.
    Ok (assemble_header purpose raw n one.0 two.0 three.0 four.0 terms hashlocks keys)) h four.2 in
    let six = went (leader_hashlocks (is_plain purpose) line raw.leaders) (λ hashlocks. derived_keys raw.mode (is_plain purpose) line raw >>= λ keys.
    Ok (assemble_header purpose raw n one.0 two.0 three.0 four.0 five.0 hashlocks keys)) h five.2 in
    let seven = went (derived_keys raw.mode (is_plain purpose) line raw)
    (λ keys. Ok (assemble_header purpose raw n one.0 two.0 three.0 four.0 five.0 six.0 keys)) h six.2 in
    let same : assemble_header purpose raw n one.0 two.0 three.0 four.0 five.0 six.0 seven.0 ≡ h = cc (seven.2) in
    record {
      start = one.0;
      delta = two.0;
      bound = three.0;
      acting = four.0;
      terms = five.0;
      hashlocks = six.0;
      keys = seven.0;
      start_is = one.1;
      delta_is = two.1;
      bound_is = three.1;
      acting_are = four.1;
      terms_are = five.1;
      hashlocks_are = six.1;
      keys_are = seven.1;
      same = same;
    }

pub set_contains_ends : (line : ℕ) (purpose : Purpose) (raw : RawHeader) (n : Numbered) (h : Header) → IsNumbered raw n → IsVersionMode raw.version raw.mode
    → IsUntimed raw → limited_value purpose line raw n ≡ Ok h → IsHeaderInLimits h
set_contains_ends line purpose raw n h is mode untimed e =
    let o = opened line purpose raw n h e in
    within_along (assemble_header purpose raw n o.start o.delta o.bound o.acting o.terms o.hashlocks o.keys) h o.same
    (all_within purpose raw n o.start o.delta o.bound o.acting o.terms o.hashlocks o.keys is mode untimed
    (number_within_ok line (codes "start") 1 1000 raw.start o.start o.start_is)
    (number_within_ok line (codes "delta") 1 100 raw.delta o.delta o.delta_is)
    (number_within_ok line (codes "bound") 1 64 raw.bound o.bound o.bound_is)
    (parties_ok raw.version (header_sizes raw) n.names line raw.parties o.acting o.acting_are)
    (are_terms raw.version line raw.arcs o.terms o.terms_are)
    (hashlocks_ok (is_plain purpose) line raw.leaders o.hashlocks o.hashlocks_are)
    (keys_ok raw.mode (is_plain purpose) line raw o.keys o.keys_are))

-- there are few roles
pub few_roles : (line : ℕ) (purpose : Purpose) (raw : RawHeader) (n : Numbered) (h : Header) → limited_value purpose line raw n ≡ Ok h → length h.roles ≤ 256
few_roles line purpose raw n h e =
    let o = opened line purpose raw n h e in
    let r = parties_ok raw.version (header_sizes raw) n.names line raw.parties o.acting o.acting_are in
    let most = few_parties raw.version in
    let size : length (map (λ (p : Acting). p.role) o.acting) ≡ length o.acting = length-map o.acting _ in
    let is : length h.roles ≡ length (map (λ (p : Acting). p.role) o.acting) = ap (λ (x : Header). length x.roles) (sym o.same) in
    omega (arith, is, size, r.1, r.2, most)
