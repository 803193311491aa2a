-- A fair finish is made of events of a run.
use Rattle.std.proofs.Common.{ℕ, suc, zero, ◌+◌, ◌<◌, ◌==◌, ◌||◌, nat_le, Bool, true, false, cond, List, [], ◌∷◌, ◌++◌, length, fold, refl, sym, ap}
use Rattle.std.proofs.Common.{◌∙◌, inl, inr, arith}
use Rattle.std.specs.List.{range_with_len}
use Rattle.std.proofs.lemmas.List.Elements.{All-nil, All-cons, All-append}
use Rattle.std.proofs.lemmas.List.Sums.{fold-append}
use Rattle.swap_base.specs.Lists.{IsElement}
use Rattle.swap_base.proofs.Lists.{from_filter, from_range}
use Rattle.swap_digraph.specs.Deal.{party, counterparty}
use Rattle.swap_digraph.specs.Graph.{arcs}
use Rattle.ledger_core.specs.History.{height}
use Rattle.ledger_core.specs.Book.{history}
use Rattle.swap_job.specs.declared.event.Event.{Event}
use Rattle.swap_job.specs.declared.event.Event.TheVariants.{Tick, Look, Act}
use Rattle.swap_job.specs.Step.{CanStep}
use Rattle.swap_run.specs.Run.{Cast, State, conforms, step}
use Rattle.swap_run.specs.Fair.{repeat, adjacent_arcs, looks, acts, most_acts, turn, turns, the_horizon, tick_low, ticks, round, is_above_horizon}
use Rattle.swap_run.specs.Fair.{round_unless_ended, finish}
use Rattle.swap_run.specs.FairLaws.{IsReached, FinishesAreRuns}

module _ (c : Cast) where
  pub no_event : (s : State) → IsReached c s s
  no_event s = record { events = []; can = All-nil (CanStep c.deal c.conforming c.seeds); state = refl }

  pub one_event : (s : State) (e : Event) → CanStep c.deal c.conforming c.seeds e → IsReached c s (step c s e)
  one_event s e can =
      record {
        events = e ∷ [];
        can = All-cons (CanStep c.deal c.conforming c.seeds) e [] can (All-nil (CanStep c.deal c.conforming c.seeds));
        state =
            refl;
      }

  pub more_events : (s t u : State) → IsReached c s t → IsReached c t u → IsReached c s u
  more_events s t u x y = record {
    events = x.events ++ y.events;
    can = All-append (CanStep c.deal c.conforming c.seeds) x.events y.events x.can y.can;
    state = y.state ∙ (ap (λ z. fold (step c) z y.events) x.state ∙ sym (fold-append (step c) s x.events y.events));
  }

  pub fold_events : (f : State → ℕ → State) (xs : List ℕ) (s : State) → ((s : State) (x : ℕ) → IsElement x xs → IsReached c s (f s x)) → IsReached c s (fold f s xs)
  fold_events f [] s h = no_event s
  fold_events f (x ∷ xs) s h = more_events s (f s x) (fold f (f s x) xs) (h s x (inl refl)) (fold_events f xs (f s x) (λ s y i. h s y (inr i)))

  pub repeat_events : (n : ℕ) (f : State → State) (s : State) → ((s : State) → IsReached c s (f s)) → IsReached c s (repeat n f s)
  repeat_events zero f s h = no_event s
  repeat_events (suc n) f s h = more_events s (repeat n f s) (f (repeat n f s)) (repeat_events n f s h) (h (repeat n f s))

  pub look_events : (s : State) (v : ℕ) → v < c.deal.graph.n → IsReached c s (looks c v s)
  unfolding looks
  look_events s v l = fold_events (λ s a. step c s (Look v a)) (adjacent_arcs c.deal v) s (λ s a i.
      let k = from_filter (λ a. (v == party c.deal a) || (v == counterparty c.deal a)) a (arcs c.deal.graph) i in
      one_event s (Look v a) (record { known = l; arc = from_range a (length c.deal.graph.arcs) k.0; adjacent = k.1 }))

  pub turn_events : (s : State) (v : ℕ) → v < c.deal.graph.n → IsReached c s (turn c s v)
  unfolding turn
  turn_events s v l = go (conforms c v)
    where
      go : (b : Bool) → IsReached c s (cond b (acts c v (most_acts c.deal) (looks c v s)) (step c (looks c v s) (Act v)))
      go true = more_events s (looks c v s) (acts c v (most_acts c.deal) (looks c v s)) (look_events s v l)
          (repeat_events (most_acts c.deal) (λ s. step c s (Act v)) (looks c v s) (λ s. one_event s (Act v) l))
      go false = more_events s (looks c v s) (step c (looks c v s) (Act v)) (look_events s v l) (one_event (looks c v s) (Act v) l)

  pub tick_events : (s : State) (a : ℕ) → a < length c.deal.graph.arcs → IsReached c s (tick_low c s a)
  tick_events s a l = go (nat_le (height (history s.book a)) (the_horizon c.deal))
    where
      go : (y : Bool) → IsReached c s (cond y (step c s (Tick a 1)) s)
      go true = one_event s (Tick a 1) (record { arc = l; some = omega arith; few = omega arith })
      go false = no_event s

  pub round_events : (s : State) → IsReached c s (round c s)
  unfolding round turns ticks
  round_events s = more_events s (turns c s) (round c s)
      (fold_events (turn c) (range_with_len 0 c.deal.graph.n) s (λ s v i. turn_events s v (from_range v c.deal.graph.n i)))
      (fold_events (tick_low c) (arcs c.deal.graph) (turns c s) (λ s a i. tick_events s a (from_range a (length c.deal.graph.arcs) i)))

  unless_events : (s : State) → IsReached c s (round_unless_ended c s)
  unless_events s = go (is_above_horizon c.deal s.book)
    where
      go : (y : Bool) → IsReached c s (cond y s (round c s))
      go true = no_event s
      go false = round_events s

  pub finish_events : (s : State) → IsReached c s (finish c s)
  unfolding finish
  finish_events s = repeat_events (the_horizon c.deal + 1) (round_unless_ended c) s unless_events

pub finishes_are_runs : FinishesAreRuns
finishes_are_runs c s = finish_events c s
