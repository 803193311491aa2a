-- Several swaps whose strategies answer by a rule come to one state: what is kept depends on no
-- other answers than those that are asked.
use Rattle.std.proofs.Common.{◌≡◌, ℕ, zero, suc, ◌+◌, ◌≤◌, ◌<◌, ◌==◌, Bool, true, false, cond, List, [], ◌∷◌, ◌++◌, length, fold, get_or, Option, Some, None}
use Rattle.std.proofs.Common.{refl, sym, ap, ◌∙◌, subst, arith, length-append}
use Rattle.std.specs.List.{range_with_len}
use Rattle.std.proofs.lemmas.List.{append-nil, get_or_append_left, get_or_at}
use Rattle.swap_digraph.specs.Graph.{arcs}
use Rattle.ledger_core.specs.declared.entry.Call.{Call}
use Rattle.ledger_core.specs.Book.{history}
use Rattle.swap_job.specs.declared.event.Event.{Event}
use Rattle.swap_job.specs.declared.event.Event.TheVariants as events
use Rattle.swap_job.specs.declared.job.Finish.{Finish}
use Rattle.swap_job.specs.declared.job.Finish.TheVariants.{Stop, Fair}
use Rattle.swap_job.specs.declared.job.Role.{Role}
use Rattle.swap_job.specs.declared.job.Role.TheVariants.{Conforming, Manual, Script, Strategy}
use Rattle.swap_job.specs.Resolved.{resolved}
use Rattle.swap_run.specs.Script.{next_call, moves_left}
use Rattle.swap_rules.specs.Due.{Action}
use Rattle.swap_rules.specs.Machine.{Begins}
use Rattle.swap_rules.proofs.Prefixes.{begins_more, begins_refl}
use Rattle.swap_run.specs.Asked.{Answers, StrategyRule, with_answers}
use Rattle.swap_run.specs.Run.{Cast, Question, State, act, role_act, after_question, after_turn, answered_call, conforms, look, make, next_action, party_plan}
use Rattle.swap_run.specs.Run.{question, party_role, step, take_call, watch}
use Rattle.swap_run.specs.Fair.{repeat, adjacent_arcs, most_acts}
use Rattle.swap_run.specs.Called.{Called, sender_call, by_due, role_call, is_barred, noted_state, planned_state, apply_step, role_turn}
use Rattle.swap_many.specs.declared.many_event.ManyEvent.{ManyEvent}
use Rattle.swap_many.specs.declared.many_event.ManyEvent.TheVariants.{Tick, In, Pay, Sweep}
use Rattle.swap_many.specs.Chains.{Setup, Slot, arc_chain, put, is_accepted_deed, has_no_tick, paid, slots}
use Rattle.swap_many.specs.Many.{last_horizon}
use Rattle.swap_many.specs.Kept.{Kept, answer_payment, answer_sweep, kept_done, kept_start, kept_step, kept_sweep, later, tick_ledgers, ticked}
use Rattle.swap_many.specs.Fair.{have_ended, kept_act, kept_acts, kept_looks, kept_round, kept_round_or_rest, kept_rounds, kept_sweeps, kept_ticks, kept_turn}
use Rattle.swap_many.specs.Fair.{kept_turns, kept_chain_tick}
use Rattle.swap_many.proofs.Projections.{put_each, put_same}
use Rattle.swap_commands.specs.Many.{kept_after_finish}
use Rattle.swap_run.proofs.Asked.{begins_length}
use Rattle.swap_world.proofs.Gone.{either_asked}

-- What is asked between two states of a swap is answered by the rule.
abbrev AnswersBetween : (Question → Option (ℕ × Call)) → Answers → State → State → Type 0
AnswersBetween rule g s t = (i : ℕ) (q : Question) → length s.asked ≤ i → i < length t.asked → q ≡ get_or t.asked i q → g i ≡ rule q

pub as_before : (s t : State) → t.asked ≡ s.asked → Begins s.asked t.asked
as_before s t e = ([], e ∙ sym (append-nil s.asked))

-- A swap's event, where it is answered by g and where by h: both ask the same, and come to the same
-- where a rule gives both answers.
record AreOne (rule : Question → Option (ℕ × Call)) (g h : Answers) (s t u : State) : Type 0 where
  pub here : Begins s.asked t.asked
  pub there : Begins s.asked u.asked
  pub same : AnswersBetween rule g s t → AnswersBetween rule h s u → u ≡ t

quiet : (rule : Question → Option (ℕ × Call)) (g h : Answers) (s t u : State) → t.asked ≡ s.asked → u ≡ t → AreOne rule g h s t u
quiet rule g h s t u e same = record {
  here = as_before s t e;
  there = as_before s u (ap (λ (x : State). x.asked) same ∙ e);
  same = λ a b. same;
}

-- a call that is taken, where these slots are swept
abbrev landed : (ℕ → Bool) → Cast → State → ℕ → Option (ℕ × Call) → Option Called → State
landed swept c s v o None = take_call c s v o
landed swept c s v o (Some x) =
    cond (is_barred (swept x.arc) (history s.book x.arc) x.call) (planned_state c s x (history s.book x.arc)) (take_call c s v o)

taken_asked : (swept : ℕ → Bool) (c : Cast) (s : State) (v : ℕ) (o : Option (ℕ × Call)) → (landed swept c s v o (sender_call v o)).asked ≡ s.asked
taken_asked swept c s v None = refl
taken_asked swept c s v (Some x) =
    either_asked (is_barred (swept x.0) (history s.book x.0) x.1) s (planned_state c s (record { sender = v; arc = x.0; call = x.1 }) (history s.book x.0))
    (take_call c s v (Some x)) refl refl

-- a due call that is made
abbrev made : (ℕ → Bool) → Cast → State → ℕ → Option Action → Option Called → State
made swept c s v o None = make c.deal s v o
made swept c s v o (Some x) = cond (is_barred (swept x.arc) (history s.book x.arc) x.call) (noted_state s x (history s.book x.arc)) (make c.deal s v o)

made_asked : (swept : ℕ → Bool) (c : Cast) (s : State) (v : ℕ) (o : Option Action) → (made swept c s v o (by_due v o)).asked ≡ s.asked
made_asked swept c s v None = refl
made_asked swept c s v (Some x) =
    either_asked (is_barred (swept x.arc) (history s.book x.arc) x.call) s
    (noted_state s (record { sender = v; arc = x.arc; call = x.call }) (history s.book x.arc)) (make c.deal s v (Some x)) refl refl

module _ (rule : Question → Option (ℕ × Call)) (swept : ℕ → Bool) (c : Cast) (g h : Answers) where
  abbrev cast_g : Cast
  cast_g = with_answers c g

  abbrev cast_h : Cast
  cast_h = with_answers c h

  taken_same : (s : State) (v : ℕ) (o : Option (ℕ × Call)) → landed swept cast_h s v o (sender_call v o) ≡ landed swept cast_g s v o (sender_call v o)
  taken_same s v None = refl
  taken_same s v (Some x) = refl

  -- a call that no strategy answered
  taken : (s q : State) (v : ℕ) (o : Option (ℕ × Call)) → q.asked ≡ s.asked
      → AreOne rule g h s (landed swept cast_g q v o (sender_call v o)) (landed swept cast_h q v o (sender_call v o))
  taken s q v o e =
      quiet rule g h s (landed swept cast_g q v o (sender_call v o)) (landed swept cast_h q v o (sender_call v o)) (taken_asked swept cast_g q v o ∙ e) (taken_same q v o)

  -- what a strategy answered
  answered : (s : State) (v : ℕ) (name : List ℕ)
      → AreOne rule g h s
      (landed swept cast_g (after_question s v name) v (answered_call c.deal v (g (length s.asked))) (sender_call v (answered_call c.deal v (g (length s.asked)))))
      (landed swept cast_h (after_question s v name) v (answered_call c.deal v (h (length s.asked))) (sender_call v (answered_call c.deal v (h (length s.asked)))))
  answered s v name =
      let q : Question = question s v name in
      let o : Option (ℕ × Call) = answered_call c.deal v (g (length s.asked)) in
      let p : Option (ℕ × Call) = answered_call c.deal v (h (length s.asked)) in
      let e : (landed swept cast_g (after_question s v name) v o (sender_call v o)).asked ≡ s.asked ++ q ∷ [] = taken_asked swept cast_g (after_question s v name) v o in
      let d : (landed swept cast_h (after_question s v name) v p (sender_call v p)).asked ≡ s.asked ++ q ∷ [] = taken_asked swept cast_h (after_question s v name) v p in
      let longer : length (s.asked ++ q ∷ []) ≡ length s.asked + 1 = length-append s.asked (q ∷ []) in
      let last : q ≡ get_or (s.asked ++ q ∷ []) (length s.asked) q = sym (get_or_at s.asked q [] q (length s.asked) refl) in
      record {
        here = (q ∷ [], e);
        there = (q ∷ [], d);
        same = λ x y.
            let first = x (length s.asked) q (omega arith) (subst (λ (qs : List Question). length s.asked < length qs) (sym e) (omega arith))
            (subst (λ (qs : List Question). q ≡ get_or qs (length s.asked) q) (sym e) last) in
            let other = y (length s.asked) q (omega arith) (subst (λ (qs : List Question). length s.asked < length qs) (sym d) (omega arith))
            (subst (λ (qs : List Question). q ≡ get_or qs (length s.asked) q) (sym d) last) in
            ap (λ (z : Option (ℕ × Call)).
            landed swept cast_h (after_question s v name) v (answered_call c.deal v z) (sender_call v (answered_call c.deal v z))) (other ∙ sym first)
            ∙ taken_same (after_question s v name) v o;
      }

  -- what an act of v does, by whether it conforms and by its role
  abbrev acted : Cast → State → ℕ → Bool → Role → State
  acted d s v true role = made swept d s v (next_action d s v) (by_due v (next_action d s v))
  acted d s v false Conforming = s
  acted d s v false Manual = s
  acted d s v false (Script moves) =
      let o = next_call d.deal d.seeds (party_plan s v).known (party_plan s v).moves in
      landed swept d (after_turn s v (moves_left (party_plan s v).known (party_plan s v).moves)) v o (sender_call v o)
  acted d s v false (Strategy name) =
      let o = answered_call d.deal v (d.answers (length s.asked)) in landed swept d (after_question s v name) v o (sender_call v o)

  -- what an act of v does, as it is taken apart
  abbrev called_by : Cast → State → ℕ → Bool → Role → Option Called
  called_by d s v n role = cond n (by_due v (next_action d s v)) (role_call d s v role)

  abbrev before_by : Cast → State → ℕ → Bool → Role → State
  before_by d s v n role = cond n s (role_turn d s v role)

  abbrev act_by : Cast → State → ℕ → Bool → Role → Option Called → State
  act_by d s v n role None = cond n (act d s v) (role_act d s v role)
  act_by d s v n role (Some x) =
      cond (is_barred (swept x.arc) (history s.book x.arc) x.call)
      (cond n (noted_state (before_by d s v n role) x (history s.book x.arc)) (planned_state d (before_by d s v n role) x (history s.book x.arc)))
      (cond n (act d s v) (role_act d s v role))

  act_is : (d : Cast) (s : State) (v : ℕ)
      → apply_step swept d s (events.Act v) ≡ act_by d s v (conforms d v) (party_role d v) (called_by d s v (conforms d v) (party_role d v))
  act_is d s v = refl

  acted_is : (d : Cast) (s : State) (v : ℕ) (n : Bool) (role : Role) → act_by d s v n role (called_by d s v n role) ≡ acted d s v n role
  acted_is d s v true role = refl
  acted_is d s v false Conforming = refl
  acted_is d s v false Manual = refl
  acted_is d s v false (Script moves) = refl
  acted_is d s v false (Strategy name) = refl

  act_one : (s : State) (v : ℕ) (n : Bool) (role : Role) → AreOne rule g h s (acted cast_g s v n role) (acted cast_h s v n role)
  act_one s v true role = quiet rule g h s (acted cast_g s v true role) (acted cast_h s v true role) (made_asked swept cast_g s v (next_action cast_g s v)) refl
  act_one s v false Conforming = quiet rule g h s s s refl refl
  act_one s v false Manual = quiet rule g h s s s refl refl
  act_one s v false (Script moves) =
      taken s (after_turn s v (moves_left (party_plan s v).known (party_plan s v).moves)) v (next_call c.deal c.seeds (party_plan s v).known
      (party_plan s v).moves) refl
  act_one s v false (Strategy name) = answered s v name

  step_one : (e : Event) (s : State) → AreOne rule g h s (apply_step swept cast_g s e) (apply_step swept cast_h s e)
  step_one (events.Tick x k) s = quiet rule g h s (apply_step swept cast_g s (events.Tick x k)) (apply_step swept cast_h s (events.Tick x k)) refl refl
  step_one (events.Look v x) s =
      quiet rule g h s (apply_step swept cast_g s (events.Look v x)) (apply_step swept cast_h s (events.Look v x))
      (either_asked (conforms c v) s (look s v x) (watch cast_g s v x) refl refl) refl
  step_one (events.Act v) s =
      subst (λ (t : State). AreOne rule g h s t (apply_step swept cast_h s (events.Act v)))
      (sym (act_is cast_g s v ∙ acted_is cast_g s v (conforms c v) (party_role c v)))
      (subst (λ (u : State). AreOne rule g h s (acted cast_g s v (conforms c v) (party_role c v)) u)
      (sym (act_is cast_h s v ∙ acted_is cast_h s v (conforms c v) (party_role c v))) (act_one s v (conforms c v) (party_role c v)))
  step_one (events.Call v mv) s = taken s s v (resolved c.deal c.seeds s.book mv) refl
  step_one (events.Crash v k image) s =
      quiet rule g h s (apply_step swept cast_g s (events.Crash v k image)) (apply_step swept cast_h s (events.Crash v k image)) refl refl

-- Where a rule gives both answers, all that is kept of several swaps is the same with both.

module _ (rule : StrategyRule) (m : Setup) (g h : ℕ → Answers) where
  -- what runs, where the strategies of swap s answer x s
  abbrev pub answering : (ℕ → Answers) → Setup
  answering x = record m { cast = λ s. with_answers (m.cast s) (x s) }

  abbrev a : Setup
  a = answering g

  abbrev b : Setup
  b = answering h

  -- all that is asked from z to t is answered by the rule
  abbrev pub ByRule : (ℕ → Answers) → Kept → Kept → Type 0
  ByRule x z t = (s : ℕ) → AnswersBetween (rule (m.cast s).deal) (x s) (z.swaps s) (t.swaps s)

  -- From z the one comes to t and the other to u: to the same, where the rule answers all that each
  -- asks.
  pub record Orderly (z t u : Kept) : Type 0 where
    pub here : (s : ℕ) → Begins (z.swaps s).asked (t.swaps s).asked
    pub there : (s : ℕ) → Begins (z.swaps s).asked (u.swaps s).asked
    pub same : ByRule g z t → ByRule h z u → u ≡ t

  early : (x : ℕ → Answers) (z t u : Kept) → ((s : ℕ) → Begins (t.swaps s).asked (u.swaps s).asked) → ByRule x z u → ByRule x z t
  early x z t u begins k = λ s i q lo hi is.
      let f = begins s in
      let l = begins_length (t.swaps s).asked (u.swaps s).asked f in
      k s i q lo (omega (arith, l, hi))
      (is ∙ sym (ap (λ (qs : List Question). get_or qs i q) f.1 ∙ get_or_append_left (t.swaps s).asked f.0 q i hi))

  late : (x : ℕ → Answers) (z t u : Kept) → ((s : ℕ) → Begins (z.swaps s).asked (t.swaps s).asked) → ByRule x z u → ByRule x t u
  late x z t u begins k = λ s i q lo hi is.
      let l = begins_length (z.swaps s).asked (t.swaps s).asked (begins s) in k s i q (omega (arith, l, lo)) hi is

  at_once : (z t u : Kept) → ((s : ℕ) → (t.swaps s).asked ≡ (z.swaps s).asked) → u ≡ t → Orderly z t u
  at_once z t u e same = record {
    here = λ s. as_before (z.swaps s) (t.swaps s) (e s);
    there = λ s. as_before (z.swaps s) (u.swaps s) (ap (λ (x : Kept). (x.swaps s).asked) same ∙ e s);
    same = λ k l. same;
  }

  nothing : (z : Kept) → Orderly z z z
  nothing z = at_once z z z (λ s. refl) refl

  and_then : (z t u : Kept) (f f' : Kept → Kept) → Orderly z t u → ((z : Kept) → Orderly z (f z) (f' z)) → Orderly z (f t) (f' u)
  and_then z t u f f' x y =
      let k = y t in
      let l = y u in
      record {
        here = λ s. begins_more (z.swaps s).asked (t.swaps s).asked ((f t).swaps s).asked (x.here s) (k.here s);
        there = λ s. begins_more (z.swaps s).asked (u.swaps s).asked ((f' u).swaps s).asked (x.there s) (l.there s);
        same = λ p q.
            let e : u ≡ t = x.same (early g z t (f t) k.here p) (early h z u (f' u) l.there q) in
            ap f' e ∙ k.same (late g z t (f t) x.here p) (subst (λ (w : Kept). ByRule h w (f' w)) e (late h z u (f' u) x.there q));
      }

  along : {B : Type 0} (f f' : Kept → B → Kept) (xs : List B) → ((z : Kept) (x : B) → Orderly z (f z x) (f' z x)) → (z : Kept)
      → Orderly z (fold f z xs) (fold f' z xs)
  along f f' [] k z = nothing z
  along f f' (x ∷ xs) k z = and_then z (f z x) (f' z x) (λ z. fold f z xs) (λ z. fold f' z xs) (k z x) (along f f' xs k)

  again : (f f' : Kept → Kept) (n : ℕ) → ((z : Kept) → Orderly z (f z) (f' z)) → (z : Kept) → Orderly z (repeat n f z) (repeat n f' z)
  again f f' zero k z = nothing z
  again f f' (suc n) k z = and_then z (repeat n f z) (repeat n f' z) f f' (again f f' n k z) k

  either : (n : Bool) (z t u t' u' : Kept) → Orderly z t u → Orderly z t' u' → Orderly z (cond n t t') (cond n u u')
  either true z t u t' u' x y = x
  either false z t u t' u' x y = y

  -- Events.

  -- the ledgers of a chain tick, and nobody is asked
  ticked_asked : (i k s : ℕ) (t : State) (xs : List ℕ) → (fold (tick_ledgers a i k s) t xs).asked ≡ t.asked
  ticked_asked i k s t [] = refl
  ticked_asked i k s t (x ∷ xs) =
      ticked_asked i k s (tick_ledgers a i k s t x) xs
      ∙ either_asked (arc_chain m s x == i) t (step (a.cast s) t (events.Tick x k)) t refl refl

  tick_orderly : (fair : Bool) (i k : ℕ) (z : Kept) → Orderly z (kept_done fair a z (Tick i k)) (kept_done fair b z (Tick i k))
  tick_orderly fair i k z =
      either (has_no_tick (z.clocks i).ticks (z.clocks i).height k) z z z (later_ticked a) (later_ticked b) (nothing z)
      (at_once z (later_ticked a) (later_ticked b) (λ s. ticked_asked i k s (z.swaps s) (arcs (m.cast s).deal.graph)) refl)
    where
      later_ticked : Setup → Kept
      later_ticked n = record z { clocks = put z.clocks i (later (z.clocks i) k); swaps = λ s. ticked n i k s (z.swaps s) }

  event_orderly : (fair : Bool) (s : ℕ) (e : Event) (z : Kept) → Orderly z (kept_done fair a z (In s e)) (kept_done fair b z (In s e))
  event_orderly fair s e z =
      let t : State = apply_step (z.swept s) (a.cast s) (z.swaps s) e in
      let u : State = apply_step (z.swept s) (b.cast s) (z.swaps s) e in
      let one : AreOne (rule (m.cast s).deal) (g s) (h s) (z.swaps s) t u =
      step_one (rule (m.cast s).deal) (z.swept s) (m.cast s) (g s) (h s) e (z.swaps s) in
      record {
        here = put_each (λ j x. Begins (z.swaps j).asked x.asked) z.swaps s t one.here (λ j. begins_refl (z.swaps j).asked);
        there = put_each (λ j x. Begins (z.swaps j).asked x.asked) z.swaps s u one.there (λ j. begins_refl (z.swaps j).asked);
        same = λ p q.
            let l : AnswersBetween (rule (m.cast s).deal) (g s) (z.swaps s) t =
            subst (λ (x : State). AnswersBetween (rule (m.cast s).deal) (g s) (z.swaps s) x) (put_same z.swaps s t) (p s) in
            let r : AnswersBetween (rule (m.cast s).deal) (h s) (z.swaps s) u =
            subst (λ (x : State). AnswersBetween (rule (m.cast s).deal) (h s) (z.swaps s) x) (put_same z.swaps s u) (q s) in
            ap (λ (x : State). let k : Kept = record z { swaps = put z.swaps s x } in k) (one.same l r);
      }

  done_orderly : (fair : Bool) (e : ManyEvent) (z : Kept) → Orderly z (kept_done fair a z e) (kept_done fair b z e)
  done_orderly fair (Tick i k) z = tick_orderly fair i k z
  done_orderly fair (In s e) z = event_orderly fair s e z
  done_orderly fair (Pay i from to units) z =
      at_once z (kept_done fair a z (Pay i from to units)) (kept_done fair b z (Pay i from to units))
      (λ s. paid_asked (is_accepted_deed (answer_payment z i from units)) s) refl
    where
      paid_asked : (n : Bool) (s : ℕ)
          → ((cond n (let k : Kept = record z { free = put z.free i (paid (z.free i) from to units) } in k) z).swaps s).asked ≡ (z.swaps s).asked
      paid_asked true s = refl
      paid_asked false s = refl
  done_orderly fair (Sweep s x) z =
      at_once z (kept_done fair a z (Sweep s x)) (kept_done fair b z (Sweep s x)) (λ t. swept_asked (is_accepted_deed (answer_sweep fair a z s x)) t) refl
    where
      swept_asked : (n : Bool) (t : ℕ) → ((cond n (kept_sweep a z s x) z).swaps t).asked ≡ (z.swaps t).asked
      swept_asked true t = refl
      swept_asked false t = refl

  run_orderly : (events : List ManyEvent) (z : Kept) → Orderly z (fold (kept_step a) z events) (fold (kept_step b) z events)
  run_orderly events = along (kept_step a) (kept_step b) events (λ z e. done_orderly false e z)

  -- The fair finish.

  looks_orderly : (s v : ℕ) (z : Kept) → Orderly z (kept_looks s v a z) (kept_looks s v b z)
  looks_orderly s v =
      along (λ z x. kept_done false a z (In s (events.Look v x))) (λ z x. kept_done false b z (In s (events.Look v x))) (adjacent_arcs (m.cast s).deal v)
      (λ z x. done_orderly false (In s (events.Look v x)) z)

  turn_orderly : (s : ℕ) (z : Kept) (v : ℕ) → Orderly z (kept_turn s a z v) (kept_turn s b z v)
  turn_orderly s z v =
      either (conforms (m.cast s) v) z (kept_acts s v a (kept_looks s v a z)) (kept_acts s v b (kept_looks s v b z))
      (kept_act s v a (kept_looks s v a z)) (kept_act s v b (kept_looks s v b z))
      (and_then z (kept_looks s v a z) (kept_looks s v b z) (kept_acts s v a) (kept_acts s v b) (looks_orderly s v z)
      (again (kept_act s v a) (kept_act s v b) (most_acts (m.cast s).deal) (done_orderly false (In s (events.Act v)))))
      (and_then z (kept_looks s v a z) (kept_looks s v b z) (kept_act s v a) (kept_act s v b) (looks_orderly s v z)
      (done_orderly false (In s (events.Act v))))

  turns_orderly : (z : Kept) (s : ℕ) → Orderly z (kept_turns a z s) (kept_turns b z s)
  turns_orderly z s = along (kept_turn s a) (kept_turn s b) (range_with_len 0 (m.cast s).deal.graph.n) (turn_orderly s) z

  round_orderly : (z : Kept) → Orderly z (kept_round a z) (kept_round b z)
  round_orderly z =
      and_then z (fold (kept_turns a) z (range_with_len 0 m.swaps)) (fold (kept_turns b) z (range_with_len 0 m.swaps)) (kept_ticks a) (kept_ticks b)
      (along (kept_turns a) (kept_turns b) (range_with_len 0 m.swaps) turns_orderly z)
      (along (kept_chain_tick a) (kept_chain_tick b) (range_with_len 0 (length m.chains)) (λ z i. done_orderly false (Tick i 1) z))

  rounds_orderly : (z : Kept) → Orderly z (kept_rounds a z) (kept_rounds b z)
  rounds_orderly =
      again (kept_round_or_rest a) (kept_round_or_rest b) (last_horizon m + 1)
      (λ z. either (have_ended m z) z z z (kept_round a z) (kept_round b z) (nothing z) (round_orderly z))

  sweeps_orderly : (z : Kept) → Orderly z (kept_sweeps a z) (kept_sweeps b z)
  sweeps_orderly =
      along (λ (z : Kept) (x : Slot). kept_done true a z (Sweep x.swap x.arc)) (λ (z : Kept) (x : Slot). kept_done true b z (Sweep x.swap x.arc)) (slots m)
      (λ z x. done_orderly true (Sweep x.swap x.arc) z)

  finish_orderly : (finish : Finish) (z : Kept) → Orderly z (kept_after_finish finish a z) (kept_after_finish finish b z)
  finish_orderly Stop z = nothing z
  finish_orderly Fair z = and_then z (kept_rounds a z) (kept_rounds b z) (kept_sweeps a) (kept_sweeps b) (rounds_orderly z) sweeps_orderly

  -- where the rule answers all, both come to the same
  pub rule_decides : (finish : Finish) (events : List ManyEvent) → ByRule g (kept_start a) (kept_after_finish finish a (fold (kept_step a) (kept_start a) events))
      → ByRule h (kept_start a) (kept_after_finish finish b (fold (kept_step b) (kept_start a) events))
      → kept_after_finish finish b (fold (kept_step b) (kept_start a) events) ≡ kept_after_finish finish a (fold (kept_step a) (kept_start a) events)
  rule_decides finish events =
      (and_then (kept_start a) (fold (kept_step a) (kept_start a) events) (fold (kept_step b) (kept_start a) events) (kept_after_finish finish a) (kept_after_finish finish b)
      (run_orderly events (kept_start a)) (finish_orderly finish)).same
