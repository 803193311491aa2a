-- No chain ticks more often than it is high.
use Rattle.std.proofs.Common.{◌≡◌, ℕ, ◌+◌, ◌≤◌, Bool, true, false, cond, sym, subst, arith}
use Rattle.swap_many.specs.declared.many_event.ManyEvent.{ManyEvent}
use Rattle.swap_many.specs.declared.many_event.ManyEvent.TheVariants.{Tick, In, Pay, Sweep}
use Rattle.swap_many.specs.Chains.{Setup, put, has_no_tick, paid, is_accepted_deed}
use Rattle.swap_many.specs.Kept.{Kept, Time, later, ticked, kept_tick, kept_sweep, kept_done, answer_payment, answer_sweep}
use Rattle.swap_many.specs.Laws.{CanCome}
use Rattle.swap_many.specs.Sound.{AreTicksBelowHeights}
use Rattle.swap_many.proofs.Projections.{put_each}

pub timed_tick : (m : Setup) (z : Kept) (i k : ℕ) → 1 ≤ k → AreTicksBelowHeights z → AreTicksBelowHeights (kept_tick m z i k)
timed_tick m z i k some t = go (has_no_tick (z.clocks i).ticks (z.clocks i).height k)
  where
    go : (b : Bool) → AreTicksBelowHeights (cond b z (record z { clocks = put z.clocks i (later (z.clocks i) k); swaps = λ s. ticked m i k s (z.swaps s) }))
    go true = t
    go false = put_each (λ j (x : Time). x.ticks ≤ x.height) z.clocks i (later (z.clocks i) k) (more (t i)) t
      where
        more : (z.clocks i).ticks ≤ (z.clocks i).height → (z.clocks i).ticks + 1 ≤ (z.clocks i).height + k
        more l = omega arith

-- the clocks of a state that differs elsewhere
pub same_timed : (z t : Kept) → t.clocks ≡ z.clocks → AreTicksBelowHeights z → AreTicksBelowHeights t
same_timed z t e h = λ i. subst (λ (c : ℕ → Time). (c i).ticks ≤ (c i).height) (sym e) (h i)

pub step_timed : (fair : Bool) (m : Setup) (z : Kept) (e : ManyEvent) → CanCome m e → AreTicksBelowHeights z → AreTicksBelowHeights (kept_done fair m z e)
step_timed fair m z (Tick i k) can t = timed_tick m z i k can.some t
step_timed fair m z (In s e) can t = t
step_timed fair m z (Pay i from to units) can t = go (is_accepted_deed (answer_payment z i from units))
  where
    go : (b : Bool) → AreTicksBelowHeights (cond b (record z { free = put z.free i (paid (z.free i) from to units) }) z)
    go true = t
    go false = t
step_timed fair m z (Sweep s a) can t = go (is_accepted_deed (answer_sweep fair m z s a))
  where
    go : (b : Bool) → AreTicksBelowHeights (cond b (kept_sweep m z s a) z)
    go true = t
    go false = t
