-- Units stay in one place along steps.
use Rattle.std.proofs.Common.{◌≡◌, ℕ, zero, suc, ◌<◌, List, [], ◌∷◌, length, fold, take, ap, ◌∙◌, arith, subst}
use Rattle.std.specs.List.{All}
use Rattle.swap_run.specs.Run.{State}
use Rattle.swap_many.specs.Chains.{Setup}
use Rattle.swap_many.specs.Many.{Run, many_run}
use Rattle.swap_many.specs.Kept.{Kept, Time, kept_run}
use Rattle.swap_many.specs.Laws.{IsReadySetup, CanCome}
use Rattle.swap_many.specs.Sound.{Keeps}
use Rattle.swap_many.specs.Way.{Step, collect_kept}
use Rattle.swap_many.specs.Value.{ManyState, IsIntermediateState}
use Rattle.swap_many.specs.Along.{run_step, stepped_run, ArePlacedAfterSteps, IsCutRun, UnitsStayPlaced}
use Rattle.swap_many.proofs.Units.{keeps_step, keeps_run, counted_is_placed}
use Rattle.swap_many.proofs.Way.{finish_steps}

module _ (m : Setup) (ready : IsReadySetup m) where
  abbrev Can : Step → Type 0
  Can x = CanCome m x.event

  next : (r : Run) (z : Kept) (x : Step) → Can x → Keeps m r z → Keeps m (run_step m r x) (collect_kept m z x)
  next r z x can k = keeps_step x.fair m r z x.event ready can k

  keeps_on : (steps : List Step) (r : Run) (z : Kept) → All Can steps → Keeps m r z → Keeps m (stepped_run m r steps) (fold (collect_kept m) z steps)
  keeps_on [] r z can k = k
  keeps_on (x ∷ steps) r z can k =
      keeps_on steps (run_step m r x) (collect_kept m z x) (λ i d l. can (suc i) d (omega (arith, l))) (next r z x (can 0 x (omega arith)) k)

  keeps_part : (n : ℕ) (steps : List Step) (r : Run) (z : Kept) → All Can steps → Keeps m r z
      → Keeps m (stepped_run m r (take n steps)) (fold (collect_kept m) z (take n steps))
  keeps_part zero [] r z can k = k
  keeps_part zero (x ∷ steps) r z can k = k
  keeps_part (suc n) [] r z can k = k
  keeps_part (suc n) (x ∷ steps) r z can k =
      keeps_part n steps (run_step m r x) (collect_kept m z x) (λ i d l. can (suc i) d (omega (arith, l))) (next r z x (can 0 x (omega arith)) k)

  placed_after : (r : Run) (z : Kept) (steps : List Step) → Keeps m (stepped_run m r steps) (fold (collect_kept m) z steps) → ArePlacedAfterSteps m r z steps
  placed_after r z steps k =
      record { follows = k.follows; units = λ i l. counted_is_placed m (stepped_run m r steps) (fold (collect_kept m) z steps) i l k }

  -- where memory ran out on the way
  pub cut_run : (r : Run) (z t : Kept) (w : ManyState) → length w.worlds ≡ m.swaps → Keeps m r z → IsIntermediateState m z t w → IsCutRun m r w
  cut_run r z t w many k b =
      let steps = b.before.steps in
      let after = keeps_on steps r z b.before.can k in
      let there : b.there ≡ fold (collect_kept m) z steps = b.before.state in
      record {
        steps = steps;
        can = b.before.can;
        books = λ s l. b.books s l
            ∙ (ap (λ (y : Kept). (y.swaps s).book) there ∙ ap (λ (x : State). x.book) (after.follows.swaps s (subst (λ n. s < n) many l)));
        heights = λ i. ap (λ (x : Time). x.height) (b.clocks i) ∙ (ap (λ (y : Kept). (y.clocks i).height) there ∙ after.follows.heights i);
        free = λ i. b.free i ∙ (ap (λ (y : Kept). y.free i) there ∙ after.follows.free i);
        units = λ i l. counted_is_placed m (stepped_run m r steps) (fold (collect_kept m) z steps) i l after;
      }

pub units_stay_placed : UnitsStayPlaced
units_stay_placed m events ready all =
    let r = many_run m events in
    let z = kept_run m events in
    let way = finish_steps m ready z in
    record { way = way; placed = λ n. placed_after m ready r z (take n way.steps) (keeps_part m ready n way.steps r z way.can (keeps_run m events ready all)) }
