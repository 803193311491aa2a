-- Wishes that were read are within their limits.
use Rattle.std.proofs.Common.{◌≡◌, ℕ, ◌^◌, ◌<◌, ◌≤◌, length, get_or, List, Ok, refl, subst, arith}
use Rattle.std.specs.Prelude.{codes}
use Rattle.swap_base.specs.Fault.{◌>>=◌}
use Rattle.offer_moves.specs.Lists.{collected_results}
use Rattle.offer_moves.specs.FieldLimits.{ranged_number, check_range}
use Rattle.offer_moves.proofs.Chains.{went, each_at, each_length}
use Rattle.offer_moves.proofs.Ranges.{number_within_ok, within_ok}
use Rattle.offer_header.specs.Names.{AreNames}
use Rattle.swap_clear.specs.Proposals.{proposed_graph}
use Rattle.swap_clear.specs.declared.answer.Clearing.{Clearing}
use Rattle.swap_clear.specs.declared.proposed.Proposed.{Proposed}
use Rattle.swap_clear.specs.Cleared.{IsShownClearing, Shows}
use Rattle.swap_clear.specs.Limits.{proposed_arc, limited_proposals, limited_times, AreWishesInLimits}
use Rattle.swap_clear.specs.Names.{AreBoundedEnds, HasBoundedEnds}
use Rattle.swap_clear.specs.declared.fields.RawWishes.{RawWishes}
use Rattle.swap_clear.specs.declared.limits.Wishes.{Wishes}
use Rattle.swap_clear.specs.declared.names.Numbered.{Numbered}
use Rattle.swap_clear.specs.declared.names.NumberedArc.{NumberedArc}

pub times_ok : (line : ℕ) (w : RawWishes) (t : ℕ × ℕ) → limited_times line w ≡ Ok t → ((1 ≤ t.0) × (t.0 ≤ 1000)) × ((1 ≤ t.1) × (t.1 ≤ 100))
unfolding limited_times
times_ok line w t h =
    let one = went (ranged_number line (codes "start") 1 1000 w.start) (λ s. ranged_number line (codes "delta") 1 100 w.delta >>= λ d. Ok (s, d)) t h in
    let two = went (ranged_number line (codes "delta") 1 100 w.delta) (λ d. Ok (one.0, d)) t one.2 in
    let same : (one.0, two.0) ≡ t = cc (two.2) in
    let a = number_within_ok line (codes "start") 1 1000 w.start one.0 one.1 in
    let b = number_within_ok line (codes "delta") 1 100 w.delta two.0 two.1 in
    subst (λ (t : ℕ × ℕ). ((1 ≤ t.0) × (t.0 ≤ 1000)) × ((1 ≤ t.1) × (t.1 ≤ 100))) same ((a.0, a.1), (b.0, b.1))

-- what is read of the lists, whose lengths are within their limits
pub record AreRead (line : ℕ) (n : Numbered) (arcs : List Proposed) : Type 0 where
  pub parties : (2 ≤ length n.names) × (length n.names ≤ 32)
  pub size : (1 ≤ length n.arcs) × (length n.arcs ≤ 128)
  pub each : collected_results (proposed_arc line) n.arcs ≡ Ok arcs

pub are_read : (line : ℕ) (n : Numbered) (arcs : List Proposed) → limited_proposals line n ≡ Ok arcs → AreRead line n arcs
unfolding limited_proposals
are_read line n arcs h =
    let one = went (check_range line (codes "parties") 2 32 (length n.names)) (λ u. check_range line (codes "arcs") 1 128 (length n.arcs)
    >>= λ v. collected_results (proposed_arc line) n.arcs) arcs h in
    let two = went (check_range line (codes "arcs") 1 128 (length n.arcs)) (λ v. collected_results (proposed_arc line) n.arcs) arcs one.2 in
    record {
      parties = within_ok line (codes "parties") 2 32 (length n.names) one.0 one.1;
      size = within_ok line (codes "arcs") 1 128 (length n.arcs) two.0 two.1;
      each = two.2;
    }

-- the ends of a proposed transfer are those of its arc, and its amount is within its limits
pub proposed_ok : (line : ℕ) (a : NumberedArc) (p : Proposed) → proposed_arc line a ≡ Ok p
    → (p.from ≡ a.ends.from) × (p.to ≡ a.ends.to) × (1 ≤ p.amount) × (p.amount ≤ 10 ^ 12)
unfolding proposed_arc
proposed_ok line a p h =
    let one = went (check_range line (codes "amount") 1 (10 ^ 12) a.amount) (λ u. Ok (record { from = a.ends.from; to = a.ends.to; amount = a.amount })) p h in
    let same : record { from = a.ends.from; to = a.ends.to; amount = a.amount } ≡ p = cc (one.2) in
    let k = within_ok line (codes "amount") 1 (10 ^ 12) a.amount one.0 one.1 in
    subst (λ (p : Proposed). (p.from ≡ a.ends.from) × (p.to ≡ a.ends.to) × (1 ≤ p.amount) × (p.amount ≤ 10 ^ 12)) same (refl, refl, k.0, k.1)

abbrev zero_arc : NumberedArc
zero_arc = record { ends = record { from = 0; to = 0 }; amount = 0 }

pub set_contains_ends : (line : ℕ) (w : RawWishes) (n : Numbered) (t : ℕ × ℕ) (arcs : List Proposed) → AreNames n.names → AreBoundedEnds n
    → limited_times line w ≡ Ok t
    → limited_proposals line n ≡ Ok arcs → AreWishesInLimits (record { start = t.0; delta = t.1; names = n.names; arcs = arcs })
set_contains_ends line w n t arcs names ends times proposals =
    let k = times_ok line w t times in
    let r = are_read line n arcs proposals in
    let same : length arcs ≡ length n.arcs = each_length (proposed_arc line) n.arcs arcs r.each in
    let at : (a : ℕ) (d : Proposed) → a < length arcs → proposed_arc line (get_or n.arcs a zero_arc) ≡ Ok (get_or arcs a d) = λ a d lt.
    each_at (proposed_arc line) n.arcs arcs zero_arc d r.each a (omega arith) in
    let ok = λ (a : ℕ) (d : Proposed) (lt : a < length arcs). proposed_ok line (get_or n.arcs a zero_arc) (get_or arcs a d) (at a d lt) in
    let below : (a : ℕ) → a < length arcs → HasBoundedEnds (length n.names) (get_or n.arcs a zero_arc) = λ a lt. ends a zero_arc (omega arith) in
    record {
      start = k.0;
      delta = k.1;
      parties = r.parties;
      names = names;
      arcs = (omega (arith, same, r.size.0), omega (arith, same, r.size.1));
      from = λ a d lt. let o = ok a d lt in let b = below a lt in omega (arith, o.0, b.0);
      to = λ a d lt. let o = ok a d lt in let b = below a lt in omega (arith, o.1, b.1);
      amounts = λ a lt. let o = ok a (record { from = 0; to = 0; amount = 0 }) lt in (o.2, o.3);
    }

-- few parties have small numbers
pub small_ends : (n : Numbered) → length n.names ≤ 32 → AreBoundedEnds n → (a : ℕ) (d : NumberedArc) → a < length n.arcs
    → HasBoundedEnds 256 (get_or n.arcs a d)
small_ends n few ends a d lt =
    let k = ends a d lt in
    (omega (arith, few, k.0), omega (arith, few, k.1))

pub shows_of : (w : Wishes) (c : Clearing) (n : ℕ) (arcs : List Proposed) → n ≡ length w.names → arcs ≡ w.arcs
    → IsShownClearing (proposed_graph n arcs) arcs c → Shows (record { wishes = w; clearing = c })
shows_of w c n arcs number same shown =
    subst (λ (k : ℕ). IsShownClearing (proposed_graph k w.arcs) w.arcs c) number
    (subst (λ (xs : List Proposed). IsShownClearing (proposed_graph n xs) xs c) same shown)
