-- Worlds that go on, and worlds that stop: one after another, and whatever is answered.
use Rattle.std.proofs.Common.{◌≡◌, ◌⊎◌, inl, inr, Result, Ok, Err, OnOk, OnErr, IfOk, ℕ, ◌+◌, ◌<◌, Bool, true, false, cond, List, []}
use Rattle.std.proofs.Common.{◌∷◌, ◌++◌, length, map, Option, Some, None, get_or, refl, sym, ap, ap₂, ◌∙◌, subst, arith, append_assoc, length-append}
use Rattle.std.proofs.lemmas.List.{append-nil, map-append, get_or_append_left}
use Rattle.std.proofs.lemmas.List.Elements.{All-nil, All-append}
use Rattle.std.specs.List.{All}
use Rattle.swap_digraph.specs.declared.deal.Deal.{Deal}
use Rattle.ledger_core.specs.declared.entry.Call.{Call}
use Rattle.swap_job.specs.Resolved.{resolved}
use Rattle.swap_run.specs.Script.{next_call, moves_left}
use Rattle.swap_job.specs.Step.{CanStep}
use Rattle.swap_job.specs.declared.event.Event.{Event}
use Rattle.swap_job.specs.declared.event.Event.TheVariants.{Tick, Look, Act, Call as Made, Crash}
use Rattle.swap_job.specs.declared.job.Role.{Role}
use Rattle.swap_job.specs.declared.job.Role.TheVariants.{Conforming, Manual, Script, Strategy}
use Rattle.swap_job.specs.declared.moves.Move.{Move}
use Rattle.swap_rules.specs.Due.{Action}
use Rattle.swap_run.specs.Asked.{Answers, with_answers, is_strategy}
use Rattle.swap_run.specs.Run.{Cast, Question, State, conforms, party_role, party_plan, look, next_action, watch, after_turn, continued_run, is_planned, step}
use Rattle.swap_run.specs.Called.{Called, by_due, role_call, apply_step}
use Rattle.swap_run.specs.Steps.{IsIntermediateBook}
use Rattle.swap_run.proofs.Along.{along_start, along_more, along_after, along_step}
use Rattle.swap_world.specs.Cast.{asks}
use Rattle.swap_world.specs.Value.{WorldState, world_cast, answering_cast, Continues}
use Rattle.swap_world.specs.Actors.{AreHeld}
use Rattle.swap_world.specs.Gone.{MayGive, Answered, MayBeGiven, HasAsked, HasGone, IsCutAt, IsCutMidway, IsCutInEvent}
use Rattle.swap_world.specs.On.{event_told, told_of_call}
use Rattle.swap_world.specs.declared.call_outcome.Told.{Told}
use Rattle.swap_world.specs.Stopped.{IsStopped}
use Rattle.swap_world.proofs.On.{make_on, take_on, act_on, act_is, call_is, plainly}
use Rattle.swap_world.proofs.Plans.{take_same}
use Rattle.swap_world.proofs.Ways.{at}

-- What is asked.

-- the answer of a question and its answer
abbrev answer : Answered → Option (ℕ × Call)
answer x = x.answer

abbrev question : Answered → Question
question x = x.question

-- what continues the answers of a later world continues those of an earlier one
pub continues_less : (gives : MayGive) (old new : WorldState) (g : Answers) → HasAsked gives old new → Continues new g → Continues old g
continues_less gives old new g k e i l =
    let longer : length new.answers ≡ length old.answers + length (map answer k.more)
    = ap length k.answers ∙ length-append old.answers (map answer k.more) in
    e i (omega arith) ∙ (ap (λ (xs : List (Option (ℕ × Call))). get_or xs i None) k.answers
    ∙ get_or_append_left old.answers (map answer k.more) None i l)

pub nothing_asked : (gives : MayGive) (old new : WorldState) → new.state.asked ≡ old.state.asked → new.answers ≡ old.answers → HasAsked gives old new
nothing_asked gives old new q a = record {
  more = [];
  questions = q ∙ sym (append-nil old.state.asked);
  answers = a ∙ sym (append-nil old.answers);
  may = All-nil (MayBeGiven gives old.deal);
}

pub more_asked : (gives : MayGive) (old mid new : WorldState) → HasAsked gives old mid → mid.deal ≡ old.deal → HasAsked gives mid new → HasAsked gives old new
more_asked gives old mid new a d b = record {
  more = a.more ++ b.more;
  questions =
      b.questions ∙ (ap (λ (qs : List Question). qs ++ map question b.more) a.questions
      ∙ (append_assoc old.state.asked (map question a.more) (map question b.more)
      ∙ ap (λ (qs : List Question). old.state.asked ++ qs) (sym (map-append question a.more b.more))));
  answers =
      b.answers ∙ (ap (λ (xs : List (Option (ℕ × Call))). xs ++ map answer b.more) a.answers
      ∙ (append_assoc old.answers (map answer a.more) (map answer b.more)
      ∙ ap (λ (xs : List (Option (ℕ × Call))). old.answers ++ xs) (sym (map-append answer a.more b.more))));
  may = All-append (MayBeGiven gives old.deal) a.more b.more a.may (subst (λ (x : Deal). All (MayBeGiven gives x) b.more) d b.may);
}

-- Worlds that go on.

module _ (gives : MayGive) where
  -- where f changes nothing
  pub stays : (f : Cast → State → State) (w : WorldState) → ((g : Answers) → f (answering_cast w g) w.state ≡ w.state) → HasGone gives f w w
  stays f w e = record { asked = nothing_asked gives w w refl refl; same = refl; state = λ g k. sym (e g) }

  pub begun : (w : WorldState) → HasGone gives (λ c s. s) w w
  begun w = stays (λ c s. s) w (λ g. refl)

  -- by a function that is the same
  pub gone_as : (f h : Cast → State → State) (old new : WorldState) → ((g : Answers) → f (answering_cast old g) old.state ≡ h (answering_cast old g) old.state)
      → HasGone gives f old new → HasGone gives h old new
  gone_as f h old new e k = record { asked = k.asked; same = k.same; state = λ g x. k.state g x ∙ e g }

  pub cast_gone : (f : Cast → State → State) (old new : WorldState) → HasGone gives f old new → world_cast new ≡ world_cast old
  cast_gone f old new k = ap world_cast k.same

  pub for_gone : (f : Cast → State → State) (old new : WorldState) (g : Answers) → HasGone gives f old new → answering_cast new g ≡ answering_cast old g
  for_gone f old new g k = ap (λ (c : Cast). with_answers c g) (cast_gone f old new k)

  pub deal_gone : (f : Cast → State → State) (old new : WorldState) → HasGone gives f old new → new.deal ≡ old.deal
  deal_gone f old new k = ap (λ (w : WorldState). w.deal) k.same

  pub can_gone : (f : Cast → State → State) (old new : WorldState) (e : Event) → HasGone gives f old new → CanStep old.deal old.conforming old.seeds e
      → CanStep new.deal new.conforming new.seeds e
  can_gone f old new e k can = subst (λ (w : WorldState). CanStep w.deal w.conforming w.seeds e) (sym k.same) can

  pub held_gone : (f : Cast → State → State) (old new : WorldState) (holds : List ℕ → Bool) → HasGone gives f old new → AreHeld holds old.roles
      → AreHeld holds new.roles
  held_gone f old new holds k held = subst (λ (w : WorldState). AreHeld holds w.roles) (sym k.same) held

  pub goes_on_gone : (f : Cast → State → State) (old new : WorldState) → HasGone gives f old new → old.stopped ≡ false → new.stopped ≡ false
  goes_on_gone f old new k on = ap (λ (w : WorldState). w.stopped) k.same ∙ on

  pub gone_then : (f h : Cast → State → State) (old mid new : WorldState) → HasGone gives f old mid → HasGone gives h mid new
      → HasGone gives (λ c s. h c (f c s)) old new
  gone_then f h old mid new a b = record {
    asked = more_asked gives old mid new a.asked (deal_gone f old mid a) b.asked;
    same = b.same ∙ ap (λ (w : WorldState). record w { answers = new.answers; state = new.state }) a.same;
    state =
        λ g k. b.state g k ∙ ap₂ (λ (c : Cast) (s : State). h c s) (for_gone f old mid g a) (a.state g (continues_less gives mid new g b.asked k));
  }

  -- Worlds that stop.

  pub stopped_as : (e f : Cast → State → List Event) (old new : WorldState)
      → ((g : Answers) → e (answering_cast old g) old.state ≡ f (answering_cast old g) old.state) → IsStopped gives e old new → IsStopped gives f old new
  stopped_as e f old new same k = record {
    stopped = k.stopped;
    cast = k.cast;
    asked = k.asked;
    book = λ g x. subst (λ (es : List Event). IsIntermediateBook (answering_cast old g) old.state es new.state.book) (same g) (k.book g x);
  }

  -- on the way along steps after which others come
  pub stopped_then : (e f : Cast → State → List Event) (old new : WorldState) → IsStopped gives e old new → IsStopped gives (λ c s. e c s ++ f c s) old new
  stopped_then e f old new k = record {
    stopped = k.stopped;
    cast = k.cast;
    asked = k.asked;
    book = λ g x. let c = answering_cast old g in along_more c old.state (e c old.state) (f c old.state) new.state.book (k.book g x);
  }

  -- on the way from another world, to which the old one went
  pub way_from : (f : Cast → State → State) (e : Cast → State → List Event) (old mid new : WorldState) (g : Answers) → HasGone gives f old mid
      → HasAsked gives mid new → Continues new g → IsIntermediateBook (answering_cast mid g) mid.state (e (answering_cast mid g) mid.state) new.state.book
      → IsIntermediateBook (answering_cast old g) (f (answering_cast old g) old.state) (e (answering_cast old g) (f (answering_cast old g) old.state)) new.state.book
  way_from f e old mid new g a more k way =
      subst (λ (s : State). IsIntermediateBook (answering_cast old g) s (e (answering_cast old g) s) new.state.book) (a.state g (continues_less gives mid new g more k))
      (subst (λ (c : Cast). IsIntermediateBook c mid.state (e c mid.state) new.state.book) (for_gone f old mid g a) way)

  pub stopped_after : (f : Cast → State → State) (d e : Cast → State → List Event) (old mid new : WorldState) → HasGone gives f old mid
      → ((g : Answers) → continued_run (answering_cast old g) old.state (d (answering_cast old g) old.state) ≡ f (answering_cast old g) old.state)
      → IsStopped gives e mid new
      → IsStopped gives (λ c s. d c s ++ e c (f c s)) old new
  stopped_after f d e old mid new a runs k = record {
    stopped = k.stopped;
    cast = k.cast ∙ cast_gone f old mid a;
    asked = more_asked gives old mid new a.asked (deal_gone f old mid a) k.asked;
    book = λ g x. let c = answering_cast old g in
        along_after c old.state (d c old.state) (e c (f c old.state)) new.state.book
        (subst (λ (t : State). IsIntermediateBook c t (e c (f c old.state)) new.state.book) (sym (runs g)) (way_from f e old mid new g a k.asked x (k.book g x)));
  }

  -- in an event that wanted memory
  pub stopped_in : (old new : WorldState) (e : Event) → new.stopped ≡ true → IsCutInEvent gives e old new → IsStopped gives (λ c s. e ∷ []) old new
  stopped_in old new e stopped k = record {
    stopped = stopped;
    cast = k.cast;
    asked = k.asked;
    book = λ g x. along_step (answering_cast old g) old.state e new.state.book (either g x k.book);
  }
    where
      either : (g : Answers) → Continues new g
          → (new.state.book ≡ old.state.book) ⊎ ((g : Answers) → Continues new g → new.state.book ≡ (step (answering_cast old g) old.state e).book)
          → (new.state.book ≡ old.state.book) ⊎ (new.state.book ≡ (step (answering_cast old g) old.state e).book)
      either g x (inl h) = inl h
      either g x (inr h) = inr (h g x)

  pub stopped_by : {A E : Type 0} (r : Result A E) (old new : WorldState) (e : Event) (f : Cast → State → List Event)
      → ((g : Answers) → e ∷ [] ≡ f (answering_cast old g) old.state) → OnErr r (new.stopped ≡ true) → OnErr r (IsCutInEvent gives e old new)
      → OnErr r (IsStopped gives f old new)
  stopped_by (Ok x) old new e f same stopped k = tt
  stopped_by (Err x) old new e f same stopped k = stopped_as (λ c s. e ∷ []) f old new same (stopped_in old new e stopped k)

  -- A world that stopped before stays where it is.
  pub stopped_before : (e : Cast → State → List Event) (w : WorldState) → w.stopped ≡ true → IsStopped gives e w w
  stopped_before e w is = record {
    stopped = is;
    cast = refl;
    asked = nothing_asked gives w w refl refl;
    book = λ g x. along_start (answering_cast w g) w.state (e (answering_cast w g) w.state) w.state.book refl;
  }

-- Events in which nothing is asked.

-- Whatever is answered, f does the same, and it asks nothing.
pub record IsQuiet (f : Cast → State → State) (c : Cast) (s : State) : Type 0 where
  pub same : (g : Answers) → f (with_answers c g) s ≡ f c s
  pub asked : (f c s).asked ≡ s.asked

-- an event, where slots may be swept
abbrev pub stepping : (ℕ → Bool) → Event → Cast → State → State
stepping sw e c s = apply_step sw c s e

pub either_asked : (b : Bool) (s t u : State) → t.asked ≡ s.asked → u.asked ≡ s.asked → (cond b t u).asked ≡ s.asked
either_asked true s t u x y = x
either_asked false s t u x y = y

take_asked : (sw : ℕ → Bool) (c : Cast) (s : State) (v : ℕ) (o : Option (ℕ × Call)) → (take_on sw c s v o).asked ≡ s.asked
take_asked sw c s v None = refl
take_asked sw c s v (Some x) = refl

make_asked : (sw : ℕ → Bool) (c : Cast) (s : State) (v : ℕ) (o : Option Action) → (make_on sw c.deal s v o).asked ≡ s.asked
make_asked sw c s v None = refl
make_asked sw c s v (Some x) = refl

pub quiet_tick : (sw : ℕ → Bool) (c : Cast) (s : State) (a k : ℕ) → IsQuiet (stepping sw (Tick a k)) c s
quiet_tick sw c s a k = record { same = λ g. refl; asked = refl }

pub quiet_look : (sw : ℕ → Bool) (c : Cast) (s : State) (v a : ℕ) → IsQuiet (stepping sw (Look v a)) c s
quiet_look sw c s v a = record { same = λ g. refl; asked = either_asked (conforms c v) s (look s v a) (watch c s v a) refl refl }

pub quiet_crash : (sw : ℕ → Bool) (c : Cast) (s : State) (v k image : ℕ) → IsQuiet (stepping sw (Crash v k image)) c s
quiet_crash sw c s v k image = record { same = λ g. refl; asked = refl }

pub quiet_call : (sw : ℕ → Bool) (c : Cast) (s : State) (v : ℕ) (mv : Move) → IsQuiet (stepping sw (Made v mv)) c s
quiet_call sw c s v mv = record {
  same = λ g. call_is sw (with_answers c g) s v mv ∙ (take_same sw c g s v (resolved c.deal c.seeds s.book mv) ∙ sym (call_is sw c s v mv));
  asked = ap (λ (t : State). t.asked) (call_is sw c s v mv) ∙ take_asked sw c s v (resolved c.deal c.seeds s.book mv);
}

act_quiet : (sw : ℕ → Bool) (c : Cast) (s : State) (v : ℕ) (role : Role) → is_strategy role ≡ false
    → ((g : Answers) → act_on sw (with_answers c g) s v role ≡ act_on sw c s v role) × ((act_on sw c s v role).asked ≡ s.asked)
act_quiet sw c s v Conforming e = ((λ g. refl), refl)
act_quiet sw c s v Manual e = ((λ g. refl), refl)
act_quiet sw c s v (Script moves) e =
    let t = after_turn s v (moves_left (party_plan s v).known (party_plan s v).moves) in
    let o = next_call c.deal c.seeds (party_plan s v).known (party_plan s v).moves in
    ((λ g. take_same sw c g t v o), take_asked sw c t v o)
act_quiet sw c s v (Strategy name) e = absurd (cc e)

own_quiet : (sw : ℕ → Bool) (c : Cast) (s : State) (v : ℕ) (b : Bool) → conforms c v ≡ b → cond b false (is_strategy (party_role c v)) ≡ false
    → IsQuiet (λ c s. cond (conforms c v) (make_on sw c.deal s v (next_action c s v)) (act_on sw c s v (party_role c v))) c s
own_quiet sw c s v true e alone =
    let made : State = make_on sw c.deal s v (next_action c s v) in
    record {
      same = λ g. ap (λ (b : Bool). cond b made (act_on sw (with_answers c g) s v (party_role c v))) e
          ∙ sym (ap (λ (b : Bool). cond b made (act_on sw c s v (party_role c v))) e);
      asked = ap (λ (b : Bool). (cond b made (act_on sw c s v (party_role c v))).asked) e ∙ make_asked sw c s v (next_action c s v);
    }
own_quiet sw c s v false e alone =
    let made : State = make_on sw c.deal s v (next_action c s v) in
    let k = act_quiet sw c s v (party_role c v) alone in
    record {
      same = λ g. ap (λ (t : State). cond (conforms c v) made t) (k.0 g);
      asked = ap (λ (b : Bool). (cond b made (act_on sw c s v (party_role c v))).asked) e ∙ k.1;
    }

-- an act of a party that asks no strategy
pub quiet_act : (sw : ℕ → Bool) (c : Cast) (s : State) (v : ℕ) → asks c v ≡ false → IsQuiet (stepping sw (Act v)) c s
quiet_act sw c s v alone =
    let k = own_quiet sw c s v (conforms c v) refl alone in
    record {
      same = λ g. act_is sw (with_answers c g) s v ∙ (k.same g ∙ sym (act_is sw c s v));
      asked = ap (λ (t : State). t.asked) (act_is sw c s v) ∙ k.asked;
    }

-- an act of a party that asks no strategy is quiet in a run
pub quiet_run : (c : Cast) (s : State) (v : ℕ) → asks c v ≡ false → IsQuiet (λ c s. step c s (Act v)) c s
quiet_run c s v alone = subst (λ (f : Cast → State → State). IsQuiet f c s) (plainly (Act v)) (quiet_act (λ a. false) c s v alone)

-- a tick is quiet in a run
pub quiet_run_tick : (c : Cast) (s : State) (a k : ℕ) → IsQuiet (λ c s. step c s (Tick a k)) c s
quiet_run_tick c s a k = record { same = λ g. refl; asked = refl }

-- where it changes nothing it does so whatever is answered
pub quiet_rests : (f : Cast → State → State) (c : Cast) (s : State) → IsQuiet f c s → f c s ≡ s → (g : Answers) → f (with_answers c g) s ≡ s
quiet_rests f c s k e g = k.same g ∙ e

-- What is told where nothing is asked.

told_as : (sw : ℕ → Bool) (c : Cast) (s : State) (v : ℕ) (role : Role) (g : Answers) → is_strategy role ≡ false
    → role_call (with_answers c g) s v role ≡ role_call c s v role
told_as sw c s v Conforming g e = refl
told_as sw c s v Manual g e = refl
told_as sw c s v (Script moves) g e = refl
told_as sw c s v (Strategy name) g e = absurd (cc e)

own_told : (sw : ℕ → Bool) (c : Cast) (s : State) (v : ℕ) (b : Bool) (g : Answers) → conforms c v ≡ b
    → cond b false (is_strategy (party_role c v)) ≡ false → event_told sw (with_answers c g) s (Act v) ≡ event_told sw c s (Act v)
own_told sw c s v true g e alone =
    let due : Option Called = by_due v (next_action c s v) in
    ap (λ (b : Bool). told_of_call sw c s (cond b due (role_call (with_answers c g) s v (party_role c v)))) e
    ∙ sym (ap (λ (b : Bool). told_of_call sw c s (cond b due (role_call c s v (party_role c v)))) e)
own_told sw c s v false g e alone =
    ap (λ (o : Option Called). told_of_call sw c s (cond (conforms c v) (by_due v (next_action c s v)) o)) (told_as sw c s v (party_role c v) g alone)

pub told_same : (sw : ℕ → Bool) (c : Cast) (s : State) (v : ℕ) (g : Answers) → asks c v ≡ false
    → event_told sw (with_answers c g) s (Act v) ≡ event_told sw c s (Act v)
told_same sw c s v g alone = own_told sw c s v (conforms c v) g refl alone

not_asking_as : (c : Cast) (v : ℕ) (b : Bool) → b ≡ false → cond b false (is_strategy (party_role c v)) ≡ false → is_strategy (party_role c v) ≡ false
not_asking_as c v true e f = absurd (cc e)
not_asking_as c v false e f = f

-- who neither conforms nor asks follows no strategy
pub not_asking : (c : Cast) (v : ℕ) → conforms c v ≡ false → asks c v ≡ false → is_strategy (party_role c v) ≡ false
not_asking c v e f = not_asking_as c v (conforms c v) e f

asking_as : (c : Cast) (v : ℕ) (b : Bool) → cond b false (is_strategy (party_role c v)) ≡ true → (b ≡ false) × (is_strategy (party_role c v) ≡ true)
asking_as c v true e = absurd (cc e)
asking_as c v false e = (refl, e)

-- who asks doesn't conform, and follows a strategy
pub asking : (c : Cast) (v : ℕ) → asks c v ≡ true → (conforms c v ≡ false) × (is_strategy (party_role c v) ≡ true)
asking c v e = asking_as c v (conforms c v) e

conforming_alone : (c : Cast) (v : ℕ) (b : Bool) → b ≡ true → cond b false (is_strategy (party_role c v)) ≡ false
conforming_alone c v true e = refl
conforming_alone c v false e = absurd (cc e)

-- who conforms asks no strategy
pub alone_conforming : (c : Cast) (v : ℕ) → conforms c v ≡ true → asks c v ≡ false
alone_conforming c v e = conforming_alone c v (conforms c v) e

role_alone : (c : Cast) (v : ℕ) (b : Bool) → is_strategy (party_role c v) ≡ false → cond b false (is_strategy (party_role c v)) ≡ false
role_alone c v true e = refl
role_alone c v false e = e

-- and so of one whose role names no strategy
pub alone_by_role : (c : Cast) (v : ℕ) → is_strategy (party_role c v) ≡ false → asks c v ≡ false
alone_by_role c v e = role_alone c v (conforms c v) e

pub names_none : (role : Role) → ((name : List ℕ) → role ≡ Strategy name → ⊥) → is_strategy role ≡ false
names_none Conforming other = refl
names_none Manual other = refl
names_none (Script moves) other = refl
names_none (Strategy name) other = absurd (other name refl)

pub unplanned_names_none : (role : Role) → is_planned role ≡ false → is_strategy role ≡ false
unplanned_names_none Conforming e = refl
unplanned_names_none Manual e = refl
unplanned_names_none (Script moves) e = refl
unplanned_names_none (Strategy name) e = e

-- what is told of a call, whatever is answered
pub told_any : {E : Type 0} (r : Result Told E) (new : WorldState) (f : Answers → Told) (t : Told) → ((g : Answers) → f g ≡ t) → IfOk r (λ u. u ≡ t)
    → IfOk r (λ u. (g : Answers) → Continues new g → u ≡ f g)
told_any (Ok u) new f t same e = λ g k. e ∙ sym (same g)
told_any (Err x) new f t same e = tt

-- where the new state is the old one the world is
pub still_at : (w new : WorldState) (t : State) → new ≡ at w t → t ≡ w.state → new ≡ w
still_at w new t e same = e ∙ ap (λ (s : State). at w s) same

-- a quiet event that a world took
pub went_to : (gives : MayGive) (f : Cast → State → State) (old new : WorldState) → IsQuiet f (world_cast old) old.state
    → new ≡ at old (f (world_cast old) old.state) → HasGone gives f old new
went_to gives f old new quiet is = record {
  asked = nothing_asked gives old new (ap (λ (w : WorldState). w.state.asked) is ∙ quiet.asked) (ap (λ (w : WorldState). w.answers) is);
  same = is ∙ ap (λ (w : WorldState). record old { answers = w.answers; state = w.state }) (sym is);
  state = λ g k. ap (λ (w : WorldState). w.state) is ∙ sym (quiet.same g);
}

pub went : {A E : Type 0} (r : Result A E) (gives : MayGive) (f : Cast → State → State) (old new : WorldState) → IsQuiet f (world_cast old) old.state
    → OnOk r (new ≡ at old (f (world_cast old) old.state)) → OnOk r (HasGone gives f old new)
went (Ok x) gives f old new quiet is = went_to gives f old new quiet is
went (Err x) gives f old new quiet is = tt

-- a quiet event in which memory ran out, with nothing changed
pub unmoved : {A E : Type 0} (r : Result A E) (gives : MayGive) (f : Cast → State → State) (old new : WorldState) → OnErr r (new ≡ old)
    → OnErr r (IsCutMidway gives f old new)
unmoved (Ok x) gives f old new is = tt
unmoved (Err x) gives f old new is = record {
  cast = ap world_cast is;
  asked = nothing_asked gives old new (ap (λ (w : WorldState). w.state.asked) is) (ap (λ (w : WorldState). w.answers) is);
  book = inl (ap (λ (w : WorldState). w.state.book) is);
}

-- or after the call
pub cut_to : (gives : MayGive) (f : Cast → State → State) (old new : WorldState) → IsQuiet f (world_cast old) old.state
    → IsCutAt (f (world_cast old) old.state) old new → IsCutMidway gives f old new
cut_to gives f old new quiet k = record { cast = k.cast; asked = nothing_asked gives old new k.asked k.answers; book = by k.book }
  where
    by : (new.state.book ≡ old.state.book) ⊎ (new.state.book ≡ (f (world_cast old) old.state).book)
        → (new.state.book ≡ old.state.book) ⊎ ((g : Answers) → Continues new g → new.state.book ≡ (f (answering_cast old g) old.state).book)
    by (inl h) = inl h
    by (inr h) = inr (λ g k. h ∙ ap (λ (s : State). s.book) (sym (quiet.same g)))

pub cut : {A E : Type 0} (r : Result A E) (gives : MayGive) (f : Cast → State → State) (old new : WorldState) → IsQuiet f (world_cast old) old.state
    → OnErr r (IsCutAt (f (world_cast old) old.state) old new) → OnErr r (IsCutMidway gives f old new)
cut (Ok x) gives f old new quiet k = tt
cut (Err x) gives f old new quiet k = cut_to gives f old new quiet k

-- a cut world that stops
pub cut_still : (gives : MayGive) (f : Cast → State → State) (old mid new : WorldState) → world_cast new ≡ world_cast mid → new.answers ≡ mid.answers
    → new.state ≡ mid.state → IsCutMidway gives f old mid → IsCutMidway gives f old new
cut_still gives f old mid new cast answers state k = record {
  cast = cast ∙ k.cast;
  asked = record {
    more = k.asked.more;
    questions = ap (λ (s : State). s.asked) state ∙ k.asked.questions;
    answers = answers ∙ k.asked.answers;
    may = k.asked.may;
  };
  book = by k.book;
}
  where
    by : (mid.state.book ≡ old.state.book) ⊎ ((g : Answers) → Continues mid g → mid.state.book ≡ (f (answering_cast old g) old.state).book)
        → (new.state.book ≡ old.state.book) ⊎ ((g : Answers) → Continues new g → new.state.book ≡ (f (answering_cast old g) old.state).book)
    by (inl h) = inl (ap (λ (s : State). s.book) state ∙ h)
    by (inr h) = inr (λ g c.
        ap (λ (s : State). s.book) state ∙ h g (subst (λ (xs : List (Option (ℕ × Call))). (i : ℕ) → i < length xs → g i ≡ get_or xs i None) answers c))

-- a cut by a function that is the same
pub cut_as : (gives : MayGive) (f h : Cast → State → State) (old new : WorldState)
    → ((g : Answers) → f (answering_cast old g) old.state ≡ h (answering_cast old g) old.state) → IsCutMidway gives f old new → IsCutMidway gives h old new
cut_as gives f h old new e k = record { cast = k.cast; asked = k.asked; book = by k.book }
  where
    by : (new.state.book ≡ old.state.book) ⊎ ((g : Answers) → Continues new g → new.state.book ≡ (f (answering_cast old g) old.state).book)
        → (new.state.book ≡ old.state.book) ⊎ ((g : Answers) → Continues new g → new.state.book ≡ (h (answering_cast old g) old.state).book)
    by (inl x) = inl x
    by (inr x) = inr (λ g c. x g c ∙ ap (λ (s : State). s.book) (e g))
