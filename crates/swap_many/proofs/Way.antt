-- A fair finish is made of steps.
use Rattle.std.proofs.Common.{ℕ, suc, zero, ◌+◌, ◌<◌, ◌==◌, ◌||◌, Bool, true, false, cond, List, [], ◌∷◌, ◌++◌, length, fold, refl, sym, ap, ◌∙◌, inl, inr}
use Rattle.std.proofs.Common.{arith}
use Rattle.std.specs.List.{range_with_len}
use Rattle.std.proofs.lemmas.List.Elements.{All-nil, All-cons, All-append}
use Rattle.std.proofs.lemmas.List.Sums.{fold-append}
use Rattle.swap_base.specs.Lists.{IsElement}
use Rattle.swap_base.proofs.Lists.{from_filter, from_range}
use Rattle.swap_digraph.specs.Deal.{party, counterparty}
use Rattle.swap_digraph.specs.Graph.{arcs}
use Rattle.swap_job.specs.declared.event.Event.TheVariants.{Look, Act}
use Rattle.swap_run.specs.Run.{conforms}
use Rattle.swap_run.specs.Fair.{repeat, adjacent_arcs, most_acts}
use Rattle.swap_many.specs.declared.many_event.ManyEvent.TheVariants.{Tick, In, Sweep}
use Rattle.swap_many.specs.Chains.{Setup, slots}
use Rattle.swap_many.specs.Many.{last_horizon, swap_looks, swap_turn, swap_turns, many_round, all_ended, round_or_rest}
use Rattle.swap_many.specs.Kept.{Kept, kept_done, kept_finish}
use Rattle.swap_many.specs.Laws.{IsReadySetup, CanCome}
use Rattle.swap_many.specs.Way.{Step, collect_kept, Leads, ManyFinishesAreSteps}
use Rattle.swap_many.proofs.Finish.{slot_known}

module _ (m : Setup) (ready : IsReadySetup m) where
  abbrev Can : Step → Type 0
  Can x = CanCome m x.event

  pub no_step : (z : Kept) → Leads m z z
  no_step z = record { steps = []; can = All-nil Can; state = refl }

  pub one_step : (z : Kept) (x : Step) → CanCome m x.event → Leads m z (kept_done x.fair m z x.event)
  one_step z x can = record { steps = x ∷ []; can = All-cons Can x [] can (All-nil Can); state = refl }

  pub more_steps : (z t u : Kept) → Leads m z t → Leads m t u → Leads m z u
  more_steps z t u x y = record {
    steps = x.steps ++ y.steps;
    can = All-append Can x.steps y.steps x.can y.can;
    state = y.state ∙ (ap (λ w. fold (collect_kept m) w y.steps) x.state ∙ sym (fold-append (collect_kept m) z x.steps y.steps));
  }

  pub fold_steps : {B : Type 0} (f : Kept → B → Kept) (xs : List B) (z : Kept) → ((z : Kept) (x : B) → IsElement x xs → Leads m z (f z x)) → Leads m z (fold f z xs)
  fold_steps f [] z h = no_step z
  fold_steps f (x ∷ xs) z h = more_steps z (f z x) (fold f (f z x) xs) (h z x (inl refl)) (fold_steps f xs (f z x) (λ z y i. h z y (inr i)))

  pub repeat_steps : (n : ℕ) (f : Kept → Kept) (z : Kept) → ((z : Kept) → Leads m z (f z)) → Leads m z (repeat n f z)
  repeat_steps zero f z h = no_step z
  repeat_steps (suc n) f z h = more_steps z (repeat n f z) (f (repeat n f z)) (repeat_steps n f z h) (h (repeat n f z))

  abbrev high : Kept → ℕ → ℕ
  high z i = (z.clocks i).height

  pub act_steps : (s v : ℕ) (z : Kept) → s < m.swaps → v < (m.cast s).deal.graph.n → Leads m z (kept_done false m z (In s (Act v)))
  act_steps s v z ls lv = one_step z (record { fair = false; event = In s (Act v) }) (record { swap = ls; no_tick = refl; can = lv })

  pub looks_steps : (s v : ℕ) (z : Kept) → s < m.swaps → v < (m.cast s).deal.graph.n → Leads m z (swap_looks m (kept_done false m) (kept_done true m) high s v z)
  looks_steps s v z ls lv = fold_steps (λ z a. kept_done false m z (In s (Look v a))) (adjacent_arcs (m.cast s).deal v) z (λ z a i.
      let j = from_filter (λ a. (v == party (m.cast s).deal a) || (v == counterparty (m.cast s).deal a)) a (arcs (m.cast s).deal.graph) i in
      one_step z (record { fair = false; event = In s (Look v a) }) (record {
        swap = ls;
        no_tick = refl;
        can = record { known = lv; arc = from_range a (length (m.cast s).deal.graph.arcs) j.0; adjacent = j.1 };
      }))

  pub turn_steps : (s v : ℕ) (z : Kept) → s < m.swaps → v < (m.cast s).deal.graph.n → Leads m z (swap_turn m (kept_done false m) (kept_done true m) high s z v)
  turn_steps s v z ls lv = go (conforms (m.cast s) v)
    where
      seen : Kept
      seen = swap_looks m (kept_done false m) (kept_done true m) high s v z

      go : (b : Bool)
          → Leads m z (cond b (repeat (most_acts (m.cast s).deal) (λ z. kept_done false m z (In s (Act v)))
          (swap_looks m (kept_done false m) (kept_done true m) high s v z))
          (kept_done false m (swap_looks m (kept_done false m) (kept_done true m) high s v z) (In s (Act v))))
      go true =
          more_steps z seen (repeat (most_acts (m.cast s).deal) (λ z. kept_done false m z (In s (Act v))) seen) (looks_steps s v z ls lv)
          (repeat_steps (most_acts (m.cast s).deal) (λ z. kept_done false m z (In s (Act v))) seen (λ z. act_steps s v z ls lv))
      go false = more_steps z seen (kept_done false m seen (In s (Act v))) (looks_steps s v z ls lv) (act_steps s v seen ls lv)

  pub round_steps : (z : Kept) → Leads m z (many_round m (kept_done false m) (kept_done true m) high z)
  round_steps z =
      let mid = fold (swap_turns m (kept_done false m) (kept_done true m) high) z (range_with_len 0 m.swaps) in
      more_steps z mid (many_round m (kept_done false m) (kept_done true m) high z)
      (fold_steps (swap_turns m (kept_done false m) (kept_done true m) high) (range_with_len 0 m.swaps) z (λ z s i.
      fold_steps (swap_turn m (kept_done false m) (kept_done true m) high s) (range_with_len 0 (m.cast s).deal.graph.n) z
      (λ z v j. turn_steps s v z (from_range s m.swaps i) (from_range v (m.cast s).deal.graph.n j))))
      (fold_steps (λ z i. kept_done false m z (Tick i 1)) (range_with_len 0 (length m.chains)) mid (λ z i j.
      one_step z (record { fair = false; event = Tick i 1 }) (record {
        chain = from_range i (length m.chains) j;
        some = omega arith;
        few = omega arith;
      })))

  pub unless_steps : (z : Kept) → Leads m z (round_or_rest m (kept_done false m) (kept_done true m) high z)
  unless_steps z = go (all_ended m (kept_done false m) (kept_done true m) high z)
    where
      go : (b : Bool) → Leads m z (cond b z (many_round m (kept_done false m) (kept_done true m) high z))
      go true = no_step z
      go false = round_steps z

  pub finish_steps : (z : Kept) → Leads m z (kept_finish m z)
  finish_steps z =
      let rounds = repeat (last_horizon m + 1) (round_or_rest m (kept_done false m) (kept_done true m) high) z in
      more_steps z rounds (kept_finish m z)
      (repeat_steps (last_horizon m + 1) (round_or_rest m (kept_done false m) (kept_done true m) high) z unless_steps)
      (fold_steps (λ z t. kept_done true m z (Sweep t.swap t.arc)) (slots m) rounds (λ z t i.
      let l = slot_known m ready t i in
      one_step z (record { fair = true; event = Sweep t.swap t.arc }) (record { swap = l.0; arc = l.1 })))

pub many_finishes_are_steps : ManyFinishesAreSteps
many_finishes_are_steps m z ready = finish_steps m ready z
