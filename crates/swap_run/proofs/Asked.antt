-- Strategies are asked in order: where a run leads depends on the answers that it asked for and on
-- no other.
use Rattle.std.proofs.Common.{◌≡◌, ℕ, zero, suc, ◌+◌, ◌≤◌, ◌<◌, nat_le, Bool, true, false, cond, ◌||◌, List, [], ◌∷◌, ◌++◌, length, fold, get_or, Option}
use Rattle.std.proofs.Common.{Some, None, refl, sym, ap, ◌∙◌, subst, arith}
use Rattle.std.specs.List.{range_with_len, list_any}
use Rattle.std.proofs.lemmas.List.{append-nil, length-append, get_or_append_left, get_or_at}
use Rattle.swap_digraph.specs.Graph.{arcs}
use Rattle.ledger_core.specs.declared.entry.Call.{Call}
use Rattle.ledger_core.specs.History.{height}
use Rattle.ledger_core.specs.Book.{history}
use Rattle.swap_job.specs.declared.event.Event.{Event}
use Rattle.swap_job.specs.declared.event.Event.TheVariants.{Tick, Look, Act, Call as Made, Crash}
use Rattle.swap_job.specs.declared.job.Role.{Role}
use Rattle.swap_job.specs.declared.job.Role.TheVariants.{Conforming, Manual, Script, Strategy}
use Rattle.swap_job.specs.declared.moves.Move.{Move}
use Rattle.swap_job.specs.Resolved.{resolved}
use Rattle.swap_run.specs.Script.{next_call, moves_left}
use Rattle.swap_rules.specs.Due.{Action}
use Rattle.swap_rules.specs.Machine.{Begins}
use Rattle.swap_rules.proofs.Prefixes.{begins_more}
use Rattle.swap_run.specs.Run.{Cast, Question, State, conforms, party_role, party_plan, look, make, next_action, act, watch, take_call, after_turn, question}
use Rattle.swap_run.specs.Run.{after_question, answered_call, role_act, step}
use Rattle.swap_run.specs.Fair.{repeat, adjacent_arcs, looks, acts, most_acts, turn, turns, the_horizon, tick_low, ticks, round, is_above_horizon}
use Rattle.swap_run.specs.Fair.{round_unless_ended, finish}
use Rattle.swap_run.specs.Asked.{Answers, with_answers, Agree, is_strategy, RunsAskInOrder, FinishesAskInOrder, RunsWithoutStrategies}
use Rattle.swap_run.specs.Asked.{FinishesWithoutStrategies, RulesDecideRuns, RulesDecideFinishes}

-- Nothing but an act of a strategy's party asks.

pub take_asked : (c : Cast) (s : State) (v : ℕ) (o : Option (ℕ × Call)) → (take_call c s v o).asked ≡ s.asked
take_asked c s v None = refl
take_asked c s v (Some x) = refl

pub make_asked : (c : Cast) (s : State) (v : ℕ) (o : Option Action) → (make c.deal s v o).asked ≡ s.asked
make_asked c s v None = refl
make_asked c s v (Some x) = refl

follow_asked : (c : Cast) (s : State) (v : ℕ) (moves : List Move) → (role_act c s v (Script moves)).asked ≡ s.asked
follow_asked c s v moves =
    take_asked c (after_turn s v (moves_left (party_plan s v).known (party_plan s v).moves)) v
    (next_call c.deal c.seeds (party_plan s v).known (party_plan s v).moves)

ask_asked : (c : Cast) (s : State) (v : ℕ) (name : List ℕ) → (role_act c s v (Strategy name)).asked ≡ s.asked ++ question s v name ∷ []
ask_asked c s v name = take_asked c (after_question s v name) v (answered_call c.deal v (c.answers (length s.asked)))

-- What is said of each answer that is asked from the state s to the state t.
abbrev Between : (ℕ → Question → Type 0) → State → State → Type 0
Between P s t = (i : ℕ) (q : Question) → length s.asked ≤ i → i < length t.asked → q ≡ get_or t.asked i q → P i q

pub begins_length : {A : Type 0} (xs ys : List A) → Begins xs ys → length xs ≤ length ys
begins_length xs ys b = let e : length ys ≡ length xs + length b.0 = ap length b.1 ∙ length-append xs b.0 in omega arith

early : (P : ℕ → Question → Type 0) (s t u : State) → Begins t.asked u.asked → Between P s u → Between P s t
early P s t u b a = λ i q lo hi is.
    let l = begins_length t.asked u.asked b in
    a i q lo (omega arith) (is ∙ sym (ap (λ qs. get_or qs i q) b.1 ∙ get_or_append_left t.asked b.0 q i hi))

late : (P : ℕ → Question → Type 0) (s t u : State) → Begins s.asked t.asked → Between P s u → Between P t u
late P s t u b a = λ i q lo hi is. let l = begins_length s.asked t.asked b in a i q (omega arith) hi is

-- A cast and the same cast with other answers. Two things hold of the answers that can both hold
-- only where the answers are the same.
module _
    (c : Cast) (answers : Answers) (P Q : ℕ → Question → Type 0) (meet : (i : ℕ) (q : Question) → P i q → Q i q → answers i ≡ c.answers i) where
  abbrev w : Cast
  w = with_answers c answers

  -- From the state s the one comes to t and the other to u: to the same, where all that each asks
  -- is answered as is said of it.
  record Orderly (s t u : State) : Type 0 where
    pub here : Begins s.asked t.asked
    pub there : Begins s.asked u.asked
    pub same : Between P s t → Between Q s u → u ≡ t

  at_once : (s t u : State) → t.asked ≡ s.asked → u ≡ t → Orderly s t u
  at_once s t u e h = record {
    here = ([], e ∙ sym (append-nil s.asked));
    there = ([], ap (λ (x : State). x.asked) h ∙ (e ∙ sym (append-nil s.asked)));
    same = λ a b. h;
  }

  and_then : (s t u : State) (f g : State → State) → Orderly s t u → ((s : State) → Orderly s (f s) (g s)) → Orderly s (f t) (g u)
  and_then s t u f g x y =
      let k = y t in
      let l = y u in
      record {
        here = begins_more s.asked t.asked (f t).asked x.here k.here;
        there = begins_more s.asked u.asked (g u).asked x.there l.there;
        same = λ a b.
            let e : u ≡ t = x.same (early P s t (f t) k.here a) (early Q s u (g u) l.there b) in
            ap g e ∙ k.same (late P s t (f t) x.here a) (subst (λ z. Between Q z (g z)) e (late Q s u (g u) x.there b));
      }

  many : {B : Type 0} (f g : State → B → State) (xs : List B) → ((s : State) (x : B) → Orderly s (f s x) (g s x)) → (s : State)
      → Orderly s (fold f s xs) (fold g s xs)
  many f g [] h s = at_once s s s refl refl
  many f g (x ∷ xs) h s = and_then s (f s x) (g s x) (λ s. fold f s xs) (λ s. fold g s xs) (h s x) (many f g xs h)

  again : (f g : State → State) (n : ℕ) → ((s : State) → Orderly s (f s) (g s)) → (s : State) → Orderly s (repeat n f s) (repeat n g s)
  again f g zero h s = at_once s s s refl refl
  again f g (suc n) h s = and_then s (repeat n f s) (repeat n g s) f g (again f g n h s) h

  either : (b : Bool) (s t u t' u' : State) → Orderly s t u → Orderly s t' u' → Orderly s (cond b t t') (cond b u u')
  either true s t u t' u' x y = x
  either false s t u t' u' x y = y

  take_same : (s : State) (v : ℕ) (o : Option (ℕ × Call)) → take_call w s v o ≡ take_call c s v o
  take_same s v None = refl
  take_same s v (Some x) = refl

  ask_orderly : (s : State) (v : ℕ) (name : List ℕ) → Orderly s (role_act c s v (Strategy name)) (role_act w s v (Strategy name))
  ask_orderly s v name =
      let e = ask_asked c s v name in
      let d = ask_asked w s v name in
      let q : Question = question s v name in
      let longer : length (s.asked ++ q ∷ []) ≡ length s.asked + 1 = length-append s.asked (q ∷ []) in
      let last : q ≡ get_or (s.asked ++ q ∷ []) (length s.asked) q = sym (get_or_at s.asked q [] q (length s.asked) refl) in
      record {
        here = (q ∷ [], e);
        there = (q ∷ [], d);
        same = λ a b.
            let p = a (length s.asked) q (omega arith) (subst (λ qs. length s.asked < length qs) (sym e) (omega arith))
            (subst (λ qs. q ≡ get_or qs (length s.asked) q) (sym e) last) in
            let r = b (length s.asked) q (omega arith) (subst (λ qs. length s.asked < length qs) (sym d) (omega arith))
            (subst (λ qs. q ≡ get_or qs (length s.asked) q) (sym d) last) in
            ap (λ o. take_call w (after_question s v name) v (answered_call c.deal v o)) (meet (length s.asked) q p r)
            ∙ take_same (after_question s v name) v (answered_call c.deal v (c.answers (length s.asked)));
      }

  act_orderly : (s : State) (v : ℕ) (role : Role) → Orderly s (role_act c s v role) (role_act w s v role)
  act_orderly s v Conforming = at_once s s s refl refl
  act_orderly s v Manual = at_once s s s refl refl
  act_orderly s v (Script moves) =
      at_once s (role_act c s v (Script moves)) (role_act w s v (Script moves)) (follow_asked c s v moves)
      (take_same (after_turn s v (moves_left (party_plan s v).known (party_plan s v).moves)) v (next_call c.deal c.seeds (party_plan s v).known
      (party_plan s v).moves))
  act_orderly s v (Strategy name) = ask_orderly s v name

  step_orderly : (e : Event) (s : State) → Orderly s (step c s e) (step w s e)
  step_orderly (Tick a k) s = at_once s (step c s (Tick a k)) (step w s (Tick a k)) refl refl
  step_orderly (Look v a) s =
      either (conforms c v) s (look s v a) (look s v a) (watch c s v a) (watch w s v a)
      (at_once s (look s v a) (look s v a) refl refl) (at_once s (watch c s v a) (watch w s v a) refl refl)
  step_orderly (Act v) s =
      either (conforms c v) s (act c s v) (act w s v) (role_act c s v (party_role c v)) (role_act w s v (party_role c v))
      (at_once s (act c s v) (act w s v) (make_asked c s v (next_action c s v)) refl) (act_orderly s v (party_role c v))
  step_orderly (Made v mv) s =
      at_once s (step c s (Made v mv)) (step w s (Made v mv)) (take_asked c s v (resolved c.deal c.seeds s.book mv))
      (take_same s v (resolved c.deal c.seeds s.book mv))
  step_orderly (Crash v k image) s = at_once s (step c s (Crash v k image)) (step w s (Crash v k image)) refl refl

  events_orderly : (events : List Event) (s : State) → Orderly s (fold (step c) s events) (fold (step w) s events)
  events_orderly events = many (step c) (step w) events (λ s e. step_orderly e s)

  looks_orderly : (v : ℕ) (s : State) → Orderly s (looks c v s) (looks w v s)
  unfolding looks
  looks_orderly v = many (λ s a. step c s (Look v a)) (λ s a. step w s (Look v a)) (adjacent_arcs c.deal v) (λ s a. step_orderly (Look v a) s)

  turn_orderly : (s : State) (v : ℕ) → Orderly s (turn c s v) (turn w s v)
  unfolding turn
  turn_orderly s v =
      either (conforms c v) s (acts c v (most_acts c.deal) (looks c v s)) (acts w v (most_acts c.deal) (looks w v s))
      (step c (looks c v s) (Act v)) (step w (looks w v s) (Act v))
      (and_then s (looks c v s) (looks w v s) (acts c v (most_acts c.deal)) (acts w v (most_acts c.deal)) (looks_orderly v s)
      (again (λ s. step c s (Act v)) (λ s. step w s (Act v)) (most_acts c.deal) (step_orderly (Act v))))
      (and_then s (looks c v s) (looks w v s) (λ s. step c s (Act v)) (λ s. step w s (Act v)) (looks_orderly v s) (step_orderly (Act v)))

  turns_orderly : (s : State) → Orderly s (turns c s) (turns w s)
  unfolding turns
  turns_orderly = many (turn c) (turn w) (range_with_len 0 c.deal.graph.n) turn_orderly

  ticks_orderly : (s : State) → Orderly s (ticks c s) (ticks w s)
  unfolding ticks
  ticks_orderly = many (tick_low c) (tick_low w) (arcs c.deal.graph) (λ s a.
      either (nat_le (height (history s.book a)) (the_horizon c.deal)) s (step c s (Tick a 1)) (step w s (Tick a 1)) s s
      (step_orderly (Tick a 1) s) (at_once s s s refl refl))

  round_orderly : (s : State) → Orderly s (round c s) (round w s)
  unfolding round
  round_orderly s = and_then s (turns c s) (turns w s) (ticks c) (ticks w) (turns_orderly s) ticks_orderly

  finish_orderly : (s : State) → Orderly s (finish c s) (finish w s)
  unfolding finish
  finish_orderly = again (round_unless_ended c) (round_unless_ended w) (the_horizon c.deal + 1) (λ s.
      either (is_above_horizon c.deal s.book) s s s (round c s) (round w s) (at_once s s s refl refl) (round_orderly s))

-- The laws.

pub runs_ask_in_order : RunsAskInOrder
runs_ask_in_order c answers s events agree =
    (events_orderly c answers (λ i q. answers i ≡ c.answers i) (λ i q. Unit {0}) (λ i q p r. p) events s).same
    (λ i q lo hi is. agree i lo hi) (λ i q lo hi is. tt)

pub finishes_ask_in_order : FinishesAskInOrder
finishes_ask_in_order c answers s agree =
    (finish_orderly c answers (λ i q. answers i ≡ c.answers i) (λ i q. Unit {0}) (λ i q p r. p) s).same
    (λ i q lo hi is. agree i lo hi) (λ i q lo hi is. tt)

pub rules_decide_runs : RulesDecideRuns
rules_decide_runs rule c answers s events a b =
    (events_orderly c answers (λ i q. c.answers i ≡ rule c.deal q) (λ i q. answers i ≡ rule c.deal q) (λ i q p r. r ∙ sym p) events s).same a b

pub rules_decide_finishes : RulesDecideFinishes
rules_decide_finishes rule c answers s a b =
    (finish_orderly c answers (λ i q. c.answers i ≡ rule c.deal q) (λ i q. answers i ≡ rule c.deal q) (λ i q p r. r ∙ sym p) s).same a b

-- Where no party follows a strategy.

or_parts : (a b : Bool) → (a || b) ≡ false → (a ≡ false) × (b ≡ false)
or_parts false b e = (refl, e)
or_parts true b e = absurd (cc e)

module _ (c : Cast) (none : list_any is_strategy c.roles ≡ false) where
  among : (roles : List Role) (v : ℕ) → list_any is_strategy roles ≡ false → is_strategy (get_or roles v Manual) ≡ false
  among [] v e = refl
  among (r ∷ roles) zero e = (or_parts (is_strategy r) (list_any is_strategy roles) e).0
  among (r ∷ roles) (suc v) e = among roles v (or_parts (is_strategy r) (list_any is_strategy roles) e).1

  quiet_act : (s : State) (v : ℕ) (role : Role) → is_strategy role ≡ false → (role_act c s v role).asked ≡ s.asked
  quiet_act s v Conforming e = refl
  quiet_act s v Manual e = refl
  quiet_act s v (Script moves) e = follow_asked c s v moves
  quiet_act s v (Strategy name) e = absurd (cc e)

  quiet_many : {B : Type 0} (f : State → B → State) (xs : List B) → ((s : State) (x : B) → (f s x).asked ≡ s.asked) → (s : State)
      → (fold f s xs).asked ≡ s.asked
  quiet_many f [] h s = refl
  quiet_many f (x ∷ xs) h s = quiet_many f xs h (f s x) ∙ h s x

  quiet_again : (f : State → State) (n : ℕ) → ((s : State) → (f s).asked ≡ s.asked) → (s : State) → (repeat n f s).asked ≡ s.asked
  quiet_again f zero h s = refl
  quiet_again f (suc n) h s = h (repeat n f s) ∙ quiet_again f n h s

  quiet_either : (b : Bool) (s t u : State) → t.asked ≡ s.asked → u.asked ≡ s.asked → (cond b t u).asked ≡ s.asked
  quiet_either true s t u x y = x
  quiet_either false s t u x y = y

  quiet_step : (e : Event) (s : State) → (step c s e).asked ≡ s.asked
  quiet_step (Tick a k) s = refl
  quiet_step (Look v a) s = quiet_either (conforms c v) s (look s v a) (watch c s v a) refl refl
  quiet_step (Act v) s =
      quiet_either (conforms c v) s (act c s v) (role_act c s v (party_role c v)) (make_asked c s v (next_action c s v))
      (quiet_act s v (party_role c v) (among c.roles v none))
  quiet_step (Made v mv) s = take_asked c s v (resolved c.deal c.seeds s.book mv)
  quiet_step (Crash v k image) s = refl

  quiet_looks : (v : ℕ) (s : State) → (looks c v s).asked ≡ s.asked
  unfolding looks
  quiet_looks v s = quiet_many (λ s a. step c s (Look v a)) (adjacent_arcs c.deal v) (λ s a. quiet_step (Look v a) s) s

  quiet_turn : (s : State) (v : ℕ) → (turn c s v).asked ≡ s.asked
  unfolding turn
  quiet_turn s v = quiet_either (conforms c v) s (acts c v (most_acts c.deal) (looks c v s)) (step c (looks c v s) (Act v))
      (quiet_again (λ s. step c s (Act v)) (most_acts c.deal) (quiet_step (Act v)) (looks c v s) ∙ quiet_looks v s)
      (quiet_step (Act v) (looks c v s) ∙ quiet_looks v s)

  quiet_round : (s : State) → (round c s).asked ≡ s.asked
  unfolding round turns ticks
  quiet_round s =
      quiet_many (tick_low c) (arcs c.deal.graph) (λ s a.
      quiet_either (nat_le (height (history s.book a)) (the_horizon c.deal)) s (step c s (Tick a 1)) s refl refl) (turns c s)
      ∙ quiet_many (turn c) (range_with_len 0 c.deal.graph.n) quiet_turn s

  quiet_finish : (s : State) → (finish c s).asked ≡ s.asked
  unfolding finish
  quiet_finish = quiet_again (round_unless_ended c) (the_horizon c.deal + 1) (λ s.
      quiet_either (is_above_horizon c.deal s.book) s s (round c s) refl (quiet_round s))

-- nothing is asked, so any answers agree
agree_on_nothing : (s t : State) (f g : Answers) → t.asked ≡ s.asked → Agree s t f g
agree_on_nothing s t f g e = λ i lo hi. let h : i < length s.asked = subst (λ qs. i < length qs) e hi in absurd (omega arith)

pub runs_without_strategies : RunsWithoutStrategies
runs_without_strategies c answers s events none =
    runs_ask_in_order c answers s events
    (agree_on_nothing s (fold (step c) s events) answers c.answers (quiet_many c none (step c) events (λ s e. quiet_step c none e s) s))

pub finishes_without_strategies : FinishesWithoutStrategies
finishes_without_strategies c answers s none =
    finishes_ask_in_order c answers s (agree_on_nothing s (finish c s) answers c.answers (quiet_finish c none s))
