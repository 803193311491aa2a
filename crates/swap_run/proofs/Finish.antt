-- A fair finish ends with each ledger above the horizon, and keeps what every run keeps; it is
-- rounds until that holds, and leaves no ledger higher than it must.
use Rattle.std.proofs.Common.{◌≡◌, ℕ, suc, zero, ◌+◌, ◌<◌, ◌≤◌, nat_lt, nat_le, Bool, true, false, cond, length, refl, sym, ap, ◌∙◌, arith, leb-true}
use Rattle.std.proofs.Common.{leb-false, ltb-true, lt-ltb}
use Rattle.swap_base.proofs.Lists.{list_all-in, list_all-from, in_range, from_range}
use Rattle.swap_digraph.specs.declared.deal.Deal.{Deal}
use Rattle.swap_digraph.specs.Graph.{arcs}
use Rattle.ledger_core.specs.History.{height}
use Rattle.ledger_core.specs.Book.{Histories, history}
use Rattle.swap_run.specs.Run.{Cast, State, start, run}
use Rattle.swap_run.specs.Laws.{IsReadyCast, IsGood}
use Rattle.swap_run.specs.Fair.{repeat, the_horizon, round, is_above_horizon, round_unless_ended, finish}
use Rattle.swap_run.specs.FairLaws.{FinishesEnd, FinishesAreGood, FinishHeights, FinishStops, FinishContinues}
use Rattle.swap_run.proofs.Good.{start_is_good, runs_are_good, good_is_kept}
use Rattle.swap_run.proofs.Repeats.{repeat_first, repeat_fixed}
use Rattle.swap_run.proofs.Rounds.{rounded}

pub round_rests : (c : Cast) (s : State) → is_above_horizon c.deal s.book ≡ true → round_unless_ended c s ≡ s
round_rests c s e = ap (λ z. cond z s (round c s)) e

pub round_goes_on : (c : Cast) (s : State) → is_above_horizon c.deal s.book ≡ false → round_unless_ended c s ≡ round c s
round_goes_on c s e = ap (λ z. cond z s (round c s)) e

abbrev AllAbove : Cast → State → ℕ → Type 0
AllAbove c s r = (a : ℕ) → a < length c.deal.graph.arcs → r ≤ height (history s.book a)

up : (m r t u : ℕ) → r ≤ m → r ≤ t → u ≡ cond (nat_le t m) (t + 1) t → suc r ≤ u
up m r t u l h e = go (nat_le t m) refl e
  where
    go : (y : Bool) → nat_le t m ≡ y → u ≡ cond y (t + 1) t → suc r ≤ u
    go true q e = omega arith
    go false q e = omega (arith, leb-false t m q)

-- What r rounds leave.
record Reached (c : Cast) (r : ℕ) (s : State) : Type 0 where
  good : IsGood c s
  above : AllAbove c s r

next_reached : (c : Cast) → IsReadyCast c → (r : ℕ) (s : State) → r ≤ the_horizon c.deal → Reached c r s → Reached c (suc r) (round_unless_ended c s)
next_reached c ready r s l x = go (is_above_horizon c.deal s.book) refl
  where
    go : (y : Bool) → is_above_horizon c.deal s.book ≡ y → Reached c (suc r) (cond y s (round c s))
    go false e =
        let k = rounded c ready s x.good in
        record {
          good = k.good;
          above =
              λ a la. up (the_horizon c.deal) r (height (history s.book a)) (height (history (round c s).book a)) l (x.above a la) (k.raises a la);
        }
    go true e = record {
      good = x.good;
      above = λ a la. let z =
          ltb-true _ _ (list_all-in (λ a. nat_lt (the_horizon c.deal) (height (history s.book a))) (arcs c.deal.graph) a e
          (in_range a (length c.deal.graph.arcs) la)) in omega arith;
    }

reached : (c : Cast) → IsReadyCast c → (r : ℕ) (s : State) → r ≤ the_horizon c.deal + 1 → IsGood c s → Reached c r (repeat r (round_unless_ended c) s)
reached c ready zero s l g = record { good = g; above = λ a la. omega arith }
reached c ready (suc r) s l g = next_reached c ready r (repeat r (round_unless_ended c) s) (omega arith) (reached c ready r s (omega arith) g)

all_rounds : (c : Cast) → IsReadyCast c → (s : State) → IsGood c s → Reached c (the_horizon c.deal + 1) (finish c s)
unfolding finish
all_rounds c ready s g = reached c ready (the_horizon c.deal + 1) s (omega arith) g

pub ended_of : (d : Deal) (b : Histories) → ((a : ℕ) → a < length d.graph.arcs → the_horizon d < height (history b a)) → is_above_horizon d b ≡ true
ended_of d b h =
    list_all-from (λ a. nat_lt (the_horizon d) (height (history b a))) (arcs d.graph) (λ a i. lt-ltb _ _ (h a (from_range a (length d.graph.arcs) i)))

pub finishes_are_good : FinishesAreGood
finishes_are_good c s ready g = let x = all_rounds c ready s g in (x.good, λ a l. let y = x.above a l in omega arith)

pub finishes_end : FinishesEnd
finishes_end c events ready all =
    let x = finishes_are_good c (run c events) ready (runs_are_good c events (start c) ready all (start_is_good c ready)) in
    record { ended = x.1; kept = good_is_kept c (finish c (run c events)) ready x.0 }

-- Heights.

up_low : (m t u : ℕ) → t ≤ m + 1 → u ≡ cond (nat_le t m) (t + 1) t → u ≤ m + 1
up_low m t u l e = go (nat_le t m) refl e
  where
    go : (y : Bool) → nat_le t m ≡ y → u ≡ cond y (t + 1) t → u ≤ m + 1
    go true q e = omega (arith, leb-true t m q)
    go false q e = omega arith

up_high : (m t u : ℕ) → m < t → u ≡ cond (nat_le t m) (t + 1) t → u ≡ t
up_high m t u l e = go (nat_le t m) refl e
  where
    go : (y : Bool) → nat_le t m ≡ y → u ≡ cond y (t + 1) t → u ≡ t
    go true q e = omega (arith, leb-true t m q)
    go false q e = e

last_height : (m t u : ℕ) → m < u → (t ≤ m → u ≤ m + 1) → (m < t → u ≡ t) → u ≡ cond (nat_le t m) (m + 1) t
last_height m t u l low high = go (nat_le t m) refl
  where
    go : (y : Bool) → nat_le t m ≡ y → u ≡ cond y (m + 1) t
    go true q = let z = low (leb-true t m q) in omega arith
    go false q = high (leb-false t m q)

-- What rounds leave of the heights.
record Steady (c : Cast) (old new : State) : Type 0 where
  good : IsGood c new
  low : (a : ℕ) → a < length c.deal.graph.arcs → height (history old.book a) ≤ the_horizon c.deal → height (history new.book a) ≤ the_horizon c.deal + 1
  high : (a : ℕ) → a < length c.deal.graph.arcs → the_horizon c.deal < height (history old.book a) → height (history new.book a) ≡ height (history old.book a)

next_steady : (c : Cast) → IsReadyCast c → (old s : State) → Steady c old s → Steady c old (round_unless_ended c s)
next_steady c ready old s x = go (is_above_horizon c.deal s.book)
  where
    go : (y : Bool) → Steady c old (cond y s (round c s))
    go true = x
    go false =
        let k = rounded c ready s x.good in
        record {
          good = k.good;
          low = λ a l h. up_low (the_horizon c.deal) (height (history s.book a)) (height (history (round c s).book a)) (x.low a l h) (k.raises a l);
          high = λ a l h.
              let e : height (history s.book a) ≡ height (history old.book a) = x.high a l h in
              up_high (the_horizon c.deal) (height (history s.book a)) (height (history (round c s).book a)) (omega arith) (k.raises a l) ∙ e;
        }

steady : (c : Cast) → IsReadyCast c → (n : ℕ) (s : State) → IsGood c s → Steady c s (repeat n (round_unless_ended c) s)
steady c ready zero s g = record { good = g; low = λ a l h. omega arith; high = λ a l h. refl }
steady c ready (suc n) s g = next_steady c ready s (repeat n (round_unless_ended c) s) (steady c ready n s g)

pub finish_heights : FinishHeights
unfolding finish
finish_heights c s a ready g l =
    let x = steady c ready (the_horizon c.deal + 1) s g in
    last_height (the_horizon c.deal) (height (history s.book a)) (height (history (finish c s).book a)) ((finishes_are_good c s ready g).1 a l)
    (x.low a l) (x.high a l)

-- Unfolding a finish.

pub finish_stops : FinishStops
unfolding finish
finish_stops c s e = repeat_fixed (the_horizon c.deal + 1) (round_unless_ended c) s (round_rests c s e)

pub finish_goes_on : FinishContinues
unfolding finish
finish_goes_on c s ready g e =
    let x = finishes_are_good c s ready g in
    ap (repeat (the_horizon c.deal + 1) (round_unless_ended c)) (sym (round_goes_on c s e))
    ∙ (repeat_first (the_horizon c.deal + 1) (round_unless_ended c) s ∙ round_rests c (finish c s) (ended_of c.deal (finish c s).book x.1))
