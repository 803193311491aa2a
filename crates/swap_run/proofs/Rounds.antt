-- A round raises each ledger that isn't above the horizon by one height, so that the rounds that
-- are left count down.
use Rattle.std.proofs.Common.{◌≡◌, ℕ, suc, zero, ◌+◌, ◌-◌, ◌<◌, ◌≤◌, nat_lt, nat_le, max, Bool, true, false, cond, List, [], ◌∷◌, length, fold, refl}
use Rattle.std.proofs.Common.{ap, ap₂, ◌∙◌, inl, inr, arith, leb-false, ltb-false}
use Rattle.std.specs.List.{range_with_len}
use Rattle.swap_base.specs.Lists.{IsElement, greatest}
use Rattle.swap_base.proofs.Lists.{greatest-in, some_fails_all, from_range}
use Rattle.swap_digraph.specs.declared.deal.Deal.{Deal}
use Rattle.swap_digraph.specs.Graph.{arcs}
use Rattle.ledger_core.specs.History.{height}
use Rattle.ledger_core.specs.Book.{history}
use Rattle.swap_rules.proofs.Prefixes.{begins_more}
use Rattle.swap_rules.proofs.Growth.{Grows}
use Rattle.swap_run.specs.Run.{Cast, State}
use Rattle.swap_run.specs.Laws.{IsReadyCast, IsGood}
use Rattle.swap_run.specs.Fair.{turn, turns, ticks, the_horizon, raised, round, rounds_left}
use Rattle.swap_run.specs.FairLaws.{RoundsAreGood, RoundsRaise, RoundsCountDown}
use Rattle.swap_run.proofs.Turns.{Calm, calm_refl, calm_more, turned}
use Rattle.swap_run.proofs.Ticks.{ticks_all}

-- What the turns of a round leave of the book.
pub record AllTurned (c : Cast) (s t : State) : Type 0 where
  pub good : IsGood c t
  pub calm : Calm s.book t.book

pub turns_from : (c : Cast) → IsReadyCast c → (m k : ℕ) (s : State) → k + m ≤ c.deal.graph.n → IsGood c s → AllTurned c s (fold (turn c) s (range_with_len k m))
turns_from c ready zero k s l g = record { good = g; calm = calm_refl s.book }
turns_from c ready (suc m) k s l g =
    let t = turned c ready k (omega arith) s g in
    let r = turns_from c ready m (k + 1) (turn c s k) (omega arith) t.good in
    record { good = r.good; calm = calm_more s.book (turn c s k).book (fold (turn c) (turn c s k) (range_with_len (k + 1) m)).book t.calm r.calm }

-- What a round leaves.
pub record Rounded (c : Cast) (s t : State) : Type 0 where
  pub mid : State
  pub turned : AllTurned c s mid
  pub mid_is : mid ≡ turns c s
  pub good : IsGood c t
  pub notes_same : t.notes ≡ mid.notes
  pub raises : (a : ℕ) → a < length c.deal.graph.arcs → height (history t.book a) ≡ raised c.deal (height (history s.book a))
  pub grows : Grows s.book t.book

pub rounded : (c : Cast) → IsReadyCast c → (s : State) → IsGood c s → Rounded c s (round c s)
unfolding round turns ticks
rounded c ready s g =
    let t = turns_from c ready c.deal.graph.n 0 s (omega arith) g in
    let x = ticks_all c ready (length c.deal.graph.arcs) 0 (turns c s) (omega arith) t.good in
    record {
      mid = turns c s;
      turned = t;
      mid_is = refl;
      good = x.good;
      notes_same = x.notes_same;
      raises = λ a l. x.at a (omega arith) (omega arith) ∙ ap (raised c.deal) (t.calm.heights a);
      grows = λ a. begins_more (history s.book a) (history (turns c s).book a) (history (round c s).book a) (t.calm.grows a) (x.grows a);
    }

pub rounds_are_good : RoundsAreGood
rounds_are_good c s ready g = (rounded c ready s g).good

pub rounds_raise : RoundsRaise
rounds_raise c s a ready g l = (rounded c ready s g).raises a l

-- The rounds that are left.

max_less : (m n : ℕ) → max (m - 1) (n - 1) ≡ max m n - 1
max_less m n = omega arith

greatest_less : {A : Type 0} (f g : A → ℕ) (xs : List A) → ((x : A) → IsElement x xs → g x ≡ f x - 1) → greatest g xs ≡ greatest f xs - 1
greatest_less f g [] h = refl
greatest_less f g (x ∷ xs) h = ap₂ max (h x (inl refl)) (greatest_less f g xs (λ y i. h y (inr i))) ∙ max_less (f x) (greatest f xs)

lacks_less : (d : Deal) (t u : ℕ) → u ≡ raised d t → (the_horizon d + 1) - u ≡ ((the_horizon d + 1) - t) - 1
lacks_less d t u e = go (nat_le t (the_horizon d)) refl (e)
  where
    go : (y : Bool) → nat_le t (the_horizon d) ≡ y → u ≡ cond y (t + 1) t → (the_horizon d + 1) - u ≡ ((the_horizon d + 1) - t) - 1
    go true q e = less (the_horizon d) e
      where
        less : (m : ℕ) → u ≡ t + 1 → (m + 1) - u ≡ ((m + 1) - t) - 1
        less m e = omega arith
    go false q e = none (the_horizon d) (leb-false t (the_horizon d) q) e
      where
        none : (m : ℕ) → m < t → u ≡ t → (m + 1) - u ≡ ((m + 1) - t) - 1
        none m l e = omega arith

pub rounds_count_down : RoundsCountDown
rounds_count_down c s ready g e =
    let r = rounded c ready s g in
    let f = some_fails_all (λ a. nat_lt (the_horizon c.deal) (height (history s.book a))) (arcs c.deal.graph) e in
    let low : height (history s.book f.0) ≤ the_horizon c.deal = ltb-false (the_horizon c.deal) (height (history s.book f.0)) f.2 in
    let most = greatest-in (λ a. (the_horizon c.deal + 1) - height (history s.book a)) (arcs c.deal.graph) f.0 f.1 in
    let same =
    greatest_less (λ a. (the_horizon c.deal + 1) - height (history s.book a)) (λ a.
    (the_horizon c.deal + 1) - height (history (round c s).book a)) (arcs c.deal.graph)
    (λ a i. lacks_less c.deal (height (history s.book a)) (height (history (round c s).book a)) (r.raises a (from_range a (length c.deal.graph.arcs) i))) in
    sum (the_horizon c.deal) (height (history s.book f.0)) (rounds_left c.deal s.book) (rounds_left c.deal (round c s).book) low most same
  where
    sum : (m t old new : ℕ) → t ≤ m → (m + 1) - t ≤ old → new ≡ old - 1 → new + 1 ≡ old
    sum m t old new l g e = omega arith
