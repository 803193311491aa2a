-- An accepted deal has the times that safety needs.
use Rattle.std.proofs.Common.{◌≡◌, ℕ, suc, zero, ◌+◌, ◌*◌, ◌<◌, ◌≤◌, ◌==◌, true, ◌&&◌, List, [], ◌∷◌, length, get_or, slice_index, refl, sym, ◌∙◌}
use Rattle.std.proofs.Common.{subst, inl, inr, arith, eq-eqb, mul-le-mul_right}
use Rattle.std.proofs.lemmas.Bool.{false≢true}
use Rattle.std.proofs.lemmas.List.{get_or_default}
use Rattle.swap_base.specs.Lists.{IsElement}
use Rattle.swap_base.proofs.Lists.{list_any-in, and_both}
use Rattle.swap_digraph.specs.Value.{Graph}
use Rattle.swap_digraph.specs.declared.deal.Deal.{Deal}
use Rattle.swap_digraph.specs.declared.deal.Mode.{Mode}
use Rattle.swap_digraph.specs.declared.deal.Mode.TheVariants.{Timelocks, Hashkeys}
use Rattle.swap_digraph.specs.Graph.{ends, is_path, has_arc, last_is, listed_arcs, IsFeedback, IsDist}
use Rattle.swap_digraph.specs.Deal.{lock_leader, counterparty}
use Rattle.swap_rules.specs.Accepted.{IsTimed, IsAccepted}
use Rattle.swap_rules.proofs.Times.{TimelockLaw, HashkeyLaw, TimeLaw, OfTimelocks, OfHashkeys, TimesLaw, parse_times}
use Rattle.swap_rules.proofs.Words.{enters, leaves}
use Rattle.leader_check.proofs.Bounds.{path_law}
use Rattle.swap_rules.proofs.Graph.{dist_falls}
use Rattle.swap_rules.specs.Laws.{AcceptedIsWellSized}
use Rattle.time_bounds.specs.Times as times

pub get_in : {A : Type 0} (xs : List A) (i : ℕ) (z : A) → i < length xs → IsElement (get_or xs i z) xs
get_in [] i z l = absurd (omega arith)
get_in (x ∷ xs) zero z l = inl refl
get_in (x ∷ xs) (suc i) z l = inr (get_in xs i z (omega arith))

pub arc_has : (g : Graph) (c u v : ℕ) → c < length g.arcs → (ends g c).from ≡ u → (ends g c).to ≡ v → has_arc g u v ≡ true
arc_has g c u v l e f =
    list_any-in (λ a. (a.from == u) && (a.to == v)) g.arcs (ends g c)
    (and_both ((ends g c).from == u) ((ends g c).to == v) (eq-eqb _ _ e) (eq-eqb _ _ f)) (get_in g.arcs c (record { from = 0; to = 0 }) l)

leader_in : (d : Deal) (i : ℕ) → i < length d.leaders → IsElement (lock_leader d i) d.leaders
leader_in d i l = get_in d.leaders i 0 l

pub bounded_path : (d : Deal) → IsAccepted d → (p : List ℕ) (i : ℕ) → i < length d.leaders → is_path d.graph p ≡ true → last_is (lock_leader d i) p ≡ true
    → listed_arcs p ≤ d.bound
bounded_path d k p i l e f =
    let n = path_law d.graph d.leaders k.height k.is_height p (lock_leader d i) e f (leader_in d i l) in
    let m = k.bound.0 in omega arith

hashkey_law : (d : Deal) → IsAccepted d → d.mode ≡ Hashkeys → HashkeyLaw d
hashkey_law d k m = record { mode = m; lock = k.leaders.0; path = bounded_path d k }

pub one_leader : (ls : List ℕ) → length ls ≡ 1 → ls ≡ get_or ls 0 0 ∷ []
one_leader [] e = absurd (omega arith)
one_leader (l ∷ []) e = refl
one_leader (l ∷ m ∷ ls) e = absurd (omega arith)

timelock_law : (d : Deal) → IsAccepted d → d.mode ≡ Timelocks → TimelockLaw d
timelock_law d k m = record {
  mode = m;
  one = timed.0;
  opens = λ a l. let t = (timed.1 a l).timelock in omega arith;
  ends = λ a l.
      let x = timed.1 a l in
      let t = x.timelock in
      let p = x.is_dist.reached in
      let z = bounded_path d k p.0 0 k.leaders.0 p.1.0 p.1.2 in
      let e = p.2 in
      let low : x.dist ≤ d.bound = omega arith in
      let more : x.dist * d.delta ≤ d.bound * d.delta = mul-le-mul_right d.delta low in
      omega arith;
  steps = λ v a c w z f.
      let in_arc = enters d v a w in
      let out = leaves d v c z in
      let x = timed.1 a in_arc.0 in
      let y = timed.1 c out.0 in
      let below : v < d.graph.n = subst (λ u. u < d.graph.n) in_arc.1 (k.ends.to a in_arc.0) in
      let follower : v ≡ lock_leader d 0 → ⊥ = λ e. false≢true (sym f ∙ eq-eqb _ v (get_or_default d.leaders 0 d.graph.n 0 k.leaders.0 ∙ sym e)) in
      let fall =
      dist_falls d.graph (lock_leader d 0) (subst (IsFeedback d.graph) (one_leader d.leaders timed.0) k.feedback) v (counterparty d c) x.dist y.dist
      below
      (arc_has d.graph c v (counterparty d c) out.0 out.1 refl) follower (subst (λ u. IsDist d.graph
      (lock_leader d 0) u x.dist) in_arc.1 x.is_dist) y.is_dist in
      let more : (y.dist + 1) * d.delta ≤ x.dist * d.delta = mul-le-mul_right d.delta fall in
      let tx = x.timelock in
      let ty = y.timelock in
      omega arith;
}
  where
    timed : IsTimed Timelocks d
    timed = subst (λ q. IsTimed q d) m k.timed

pub time_law : (d : Deal) → IsAccepted d → TimeLaw d
time_law d k = go d.mode refl
  where
    go : (m : Mode) → d.mode ≡ m → TimeLaw d
    go Timelocks e = OfTimelocks (timelock_law d k e)
    go Hashkeys e = OfHashkeys (hashkey_law d k e)

pub times_law : (d : Deal) → IsAccepted d → TimesLaw d
times_law d k = parse_times d (time_law d k)

pub accepted_is_well_sized : AcceptedIsWellSized
accepted_is_well_sized d k = record {
  ends = k.ends;
  parties = k.parties;
  arcs = k.arcs;
  leaders = k.leaders;
  leader = k.leader;
  start = k.start.1;
  delta = k.delta.1;
  bound = k.bound.1;
  amounts = k.one_amount_each;
  amount = λ a l. (k.amounts a l).1;
  hashlocks = k.hashlocks;
  keys = k.keys;
  timelocks = k.one_timelock_each;
  timelock = λ a l. low a l d.mode refl;
}
  where
    low : (a : ℕ) → a < length d.graph.arcs → (m : Mode) → d.mode ≡ m → slice_index d.timelocks a ≤ 1000000
    low a l Hashkeys e = let z = subst (λ q. IsTimed q d) e k.timed a l in omega arith
    low a l Timelocks e =
        let law = timelock_law d k e in
        let z : slice_index d.timelocks a ≤ times.last_expiry d.start d.delta d.bound = law.ends a l in
        let s = k.start.1 in
        let x = k.delta.1 in
        let b = k.bound.1 in
        let n1 : 2 * d.bound + 1 ≤ 129 = omega arith in
        let n2 : (2 * d.bound + 1) * d.delta ≤ 129 * d.delta = mul-le-mul_right d.delta n1 in
        omega arith
