-- A step where slots may be swept, in the words of a run's step, and what its party is told.
use Rattle.std.proofs.Common.{◌≡◌, ◌<◌, ℕ, Bool, true, false, cond, List, length, get_or, Option, Some, None, Result, Ok, Err, IfOk, refl, sym, ap, ◌∙◌, slice_set}
use Rattle.swap_digraph.specs.declared.deal.Deal.{Deal}
use Rattle.ledger_core.specs.declared.entry.Call.{Call}
use Rattle.ledger_core.specs.declared.entry.Entry.{Entry}
use Rattle.ledger_core.specs.Value.{LedgerState}
use Rattle.ledger_core.specs.Ledger.{after_call}
use Rattle.ledger_core.specs.Book.{Histories, history}
use Rattle.swap_job.specs.Resolved.{resolved}
use Rattle.swap_run.specs.Script.{next_call, moves_left}
use Rattle.swap_job.specs.declared.event.Event.{Event}
use Rattle.swap_job.specs.declared.event.Event.TheVariants.{Act, Call as Made}
use Rattle.swap_job.specs.declared.job.Role.{Role}
use Rattle.swap_job.specs.declared.job.Role.TheVariants.{Conforming, Manual, Script, Strategy}
use Rattle.swap_job.specs.declared.moves.Move.{Move}
use Rattle.swap_rules.specs.Machine.{Begins}
use Rattle.swap_rules.proofs.Prefixes.{begins_refl}
use Rattle.swap_rules.specs.Due.{Action}
use Rattle.swap_run.specs.Run.{Cast, State, conforms, party_role, state_notes, party_plan, signed_through_call, plans_seen, next_action, after_turn, after_question}
use Rattle.swap_run.specs.Run.{answered_call, step}
use Rattle.swap_run.specs.Called.{Called, sender_call, by_due, called, role_call, role_turn, before_call, is_due_act, noted_state, planned_state, called_state, is_barred}
use Rattle.swap_run.specs.Called.{landed_event, apply_step}
use Rattle.swap_run.specs.CalledLaws.{is_no_tick}
use Rattle.swap_run.proofs.Calls.{calls_split}
use Rattle.swap_run.proofs.Swept.{none_swept}
use Rattle.party_machine.specs.Machine.{MachineState}
use Rattle.swap_world.specs.Acting.{histories, landed, build_told, party_told}
use Rattle.swap_world.specs.Inside.{IsArcLedger}
use Rattle.swap_world.specs.On.{call_told, told_of_call, event_told}
use Rattle.swap_world.specs.declared.call_outcome.Told.{Told}
use Rattle.swap_world.proofs.Turns.{call_begins}
use Rattle.swap_world.proofs.Ledgers.{history_at}

-- What a call leaves.

-- a call that isn't barred leaves what it leaves of its ledger
pub landed_is : (w : Bool) (d : Deal) (a p : ℕ) (c : Call) (h new : List Entry) → is_barred w h c ≡ false → new ≡ after_call d a p c h
    → new ≡ landed w d a p c h
landed_is w d a p c h new e k = k ∙ sym (ap (λ b. cond b h (after_call d a p c h)) e)

-- a call leaves the entries before it
pub landed_begins : (w : Bool) (d : Deal) (a p : ℕ) (c : Call) (h : List Entry) → Begins h (landed w d a p c h)
landed_begins w d a p c h = go (is_barred w h c)
  where
    go : (b : Bool) → Begins h (cond b h (after_call d a p c h))
    go true = begins_refl h
    go false = call_begins d a p c h

-- what a call makes of the ledger of arc a
pub landed_called : (w : Bool) (d : Deal) (a p : ℕ) (c : Call) (old new : LedgerState) → IsArcLedger d a old
    → new.history ≡ landed w old.deal old.arc p c old.history → new.history ≡ landed w d a p c old.history
landed_called w d a p c old new k e =
    e ∙ ap (λ (x : Deal). landed w x old.arc p c old.history) k.deal ∙ ap (λ (x : ℕ). landed w d x p c old.history) k.arc

pub if_told : {A E : Type 0} {P Q : A → Type 0} (r : Result A E) → ((x : A) → P x → Q x) → IfOk r P → IfOk r Q
if_told (Ok x) f h = f x h
if_told (Err e) f h = tt

-- what the party of a call on the ledger of arc a is told
pub told_called : {E : Type 0} (r : Result Told E) (sw : ℕ → Bool) (d : Deal) (a p : ℕ) (c : Call) (o : Option (ℕ × Call)) (ls : List LedgerState)
    (l : LedgerState) → o ≡ Some (a, c) → a < length ls → l ≡ get_or ls a l → IsArcLedger d a l
    → IfOk r (λ t. t ≡ call_told (sw a) l.deal l.arc p c l.history) → IfOk r (λ t. t ≡ party_told sw d p o (histories ls))
told_called r sw d a p c o ls l comes below is k told =
    if_told r (λ t e.
    e ∙ (ap (λ (x : Deal). call_told (sw a) x l.arc p c l.history) k.deal
    ∙ (ap (λ (x : ℕ). call_told (sw a) d x p c l.history) k.arc
    ∙ (ap (call_told (sw a) d a p c) (sym (history_at ls a l below is)) ∙ ap (λ (o : Option (ℕ × Call)). party_told sw d p o (histories ls)) (sym comes)))))
    told

-- Steps.

-- v makes a due call, if any, notes what it signed, and then knows the ledger up to its end
abbrev pub make_on : (ℕ → Bool) → Deal → State → ℕ → Option Action → State
make_on sw d s v None = s
make_on sw d s v (Some x) =
    let h = landed (sw x.arc) d x.arc v x.call (history s.book x.arc) in
    record s {
      book = slice_set s.book x.arc h;
      notes = slice_set s.notes v (record { known = slice_set (state_notes s v).known x.arc h; signed = signed_through_call (state_notes s v).signed x.call });
    }

-- v, which doesn't conform, makes a call, if any, and then knows the ledger up to its end
abbrev pub take_on : (ℕ → Bool) → Cast → State → ℕ → Option (ℕ × Call) → State
take_on sw c s v None = s
take_on sw c s v (Some x) =
    let h = landed (sw x.0) c.deal x.0 v x.1 (history s.book x.0) in
    record s { book = slice_set s.book x.0 h; plans = plans_seen c s v x.0 h }

-- what an act of v does, which doesn't conform
abbrev pub act_on : (ℕ → Bool) → Cast → State → ℕ → Role → State
act_on sw c s v Conforming = s
act_on sw c s v Manual = s
act_on sw c s v (Script moves) =
    take_on sw c (after_turn s v (moves_left (party_plan s v).known (party_plan s v).moves)) v
    (next_call c.deal c.seeds (party_plan s v).known (party_plan s v).moves)
act_on sw c s v (Strategy name) = take_on sw c (after_question s v name) v (answered_call c.deal v (c.answers (length s.asked)))

module _ (sw : ℕ → Bool) (c : Cast) (s : State) where
  -- without a call
  alone_on : (e : Event) → is_no_tick e ≡ true → called c s e ≡ None → apply_step sw c s e ≡ before_call c s e
  alone_on e calm q = ap (landed_event sw c s e) q ∙ (calls_split c s e calm).alone q

  -- with one, whether it is barred or not
  call_on : (e : Event) (x : Called) → is_no_tick e ≡ true → called c s e ≡ Some x
      → apply_step sw c s e ≡ called_state c s e x (landed (sw x.arc) c.deal x.arc x.sender x.call (history s.book x.arc))
  call_on e x calm q = ap (landed_event sw c s e) q ∙ go (is_barred (sw x.arc) (history s.book x.arc) x.call)
    where
      go : (b : Bool) → cond b (called_state c s e x (history s.book x.arc)) (step c s e)
          ≡ called_state c s e x (cond b (history s.book x.arc) (after_call c.deal x.arc x.sender x.call (history s.book x.arc)))
      go true = refl
      go false = (calls_split c s e calm).calls x q

  -- of a party that conforms
  made_calls : (v : ℕ) (o : Option Action) → conforms c v ≡ true → called c s (Act v) ≡ by_due v o → apply_step sw c s (Act v) ≡ make_on sw c.deal s v o
  made_calls v None cv q = alone_on (Act v) refl q ∙ ap (λ b. cond b s (role_turn c s v (party_role c v))) cv
  made_calls v (Some y) cv q =
      let x : Called = record { sender = v; arc = y.arc; call = y.call } in
      let h : List Entry = landed (sw y.arc) c.deal y.arc v y.call (history s.book y.arc) in
      call_on (Act v) x refl q
      ∙ ap (λ b. cond b (noted_state (cond b s (role_turn c s v (party_role c v))) x h) (planned_state c (cond b s (role_turn c s v (party_role c v))) x h)) cv

  -- of one that doesn't, which is at t before its call
  plan_on : (e : Event) (t : State) (v : ℕ) (o : Option (ℕ × Call)) → is_no_tick e ≡ true → is_due_act c e ≡ false → called c s e ≡ sender_call v o
      → before_call c s e ≡ t → t.book ≡ s.book → apply_step sw c s e ≡ take_on sw c t v o
  plan_on e t v None calm due q b same = alone_on e calm q ∙ b
  plan_on e t v (Some y) calm due q b same =
      let x : Called = record { sender = v; arc = y.0; call = y.1 } in
      let h : List Entry = landed (sw y.0) c.deal y.0 v y.1 (history s.book y.0) in
      call_on e x calm q
      ∙ (ap (λ z. cond z (noted_state (before_call c s e) x h) (planned_state c (before_call c s e) x h)) due
      ∙ (ap (λ (u : State). planned_state c u x h) b
      ∙ ap (λ (k : Histories). planned_state c t x (landed (sw y.0) c.deal y.0 v y.1 (history k y.0))) (sym same)))

  called_by : (v : ℕ) (role : Role) → conforms c v ≡ false → party_role c v ≡ role → called c s (Act v) ≡ role_call c s v role
  called_by v role cv r =
      ap (λ b. cond b (by_due v (next_action c s v)) (role_call c s v (party_role c v))) cv ∙ ap (λ (x : Role). role_call c s v x) r

  before_by : (v : ℕ) (role : Role) → conforms c v ≡ false → party_role c v ≡ role → before_call c s (Act v) ≡ role_turn c s v role
  before_by v role cv r = ap (λ b. cond b s (role_turn c s v (party_role c v))) cv ∙ ap (λ (x : Role). role_turn c s v x) r

  acts_as : (v : ℕ) (role : Role) → conforms c v ≡ false → party_role c v ≡ role → apply_step sw c s (Act v) ≡ act_on sw c s v role
  acts_as v Conforming cv r = alone_on (Act v) refl (called_by v Conforming cv r) ∙ before_by v Conforming cv r
  acts_as v Manual cv r = alone_on (Act v) refl (called_by v Manual cv r) ∙ before_by v Manual cv r
  acts_as v (Script moves) cv r =
      plan_on (Act v) (after_turn s v (moves_left (party_plan s v).known (party_plan s v).moves)) v
      (next_call c.deal c.seeds (party_plan s v).known (party_plan s v).moves) refl cv (called_by v (Script moves) cv r) (before_by v (Script moves) cv r) refl
  acts_as v (Strategy name) cv r =
      plan_on (Act v) (after_question s v name) v (answered_call c.deal v (c.answers (length s.asked))) refl cv (called_by v (Strategy name) cv r)
      (before_by v (Strategy name) cv r) refl

  -- an act
  pub act_is : (v : ℕ) → apply_step sw c s (Act v) ≡ cond (conforms c v) (make_on sw c.deal s v (next_action c s v)) (act_on sw c s v (party_role c v))
  act_is v = go (conforms c v) refl
    where
      go : (b : Bool) → conforms c v ≡ b
          → apply_step sw c s (Act v) ≡ cond b (make_on sw c.deal s v (next_action c s v)) (act_on sw c s v (party_role c v))
      go true cv = made_calls v (next_action c s v) cv (ap (λ b. cond b (by_due v (next_action c s v)) (role_call c s v (party_role c v))) cv)
      go false cv = acts_as v (party_role c v) cv refl

  -- a call by hand
  pub call_is : (v : ℕ) (mv : Move) → apply_step sw c s (Made v mv) ≡ take_on sw c s v (resolved c.deal c.seeds s.book mv)
  call_is v mv = plan_on (Made v mv) s v (resolved c.deal c.seeds s.book mv) refl refl refl refl refl

  -- What is told.

  told_by_plan : (v : ℕ) (o : Option (ℕ × Call)) → told_of_call sw c s (sender_call v o) ≡ party_told sw c.deal v o s.book
  told_by_plan v None = refl
  told_by_plan v (Some x) = refl

  told_by_machine : (m : MachineState) (v : ℕ) (o : Option Action) → m.deal ≡ c.deal → m.me ≡ v
      → build_told sw m o s.book ≡ told_of_call sw c s (by_due v o)
  told_by_machine m v None ed em = refl
  told_by_machine m v (Some x) ed em =
      ap (λ (d : Deal). call_told (sw x.arc) d x.arc m.me x.call (history s.book x.arc)) ed
      ∙ ap (λ (u : ℕ). call_told (sw x.arc) c.deal x.arc u x.call (history s.book x.arc)) em

  -- of a due call
  pub told_due : (m : MachineState) (v : ℕ) → conforms c v ≡ true → m.deal ≡ c.deal → m.me ≡ v
      → build_told sw m (next_action c s v) s.book ≡ event_told sw c s (Act v)
  told_due m v cv ed em =
      told_by_machine m v (next_action c s v) ed em
      ∙ sym (ap (λ b. told_of_call sw c s (cond b (by_due v (next_action c s v)) (role_call c s v (party_role c v)))) cv)

  -- of the call of a party that doesn't conform
  pub told_act : (v : ℕ) (role : Role) → conforms c v ≡ false → party_role c v ≡ role → event_told sw c s (Act v) ≡ told_of_call sw c s (role_call c s v role)
  told_act v role cv r = ap (told_of_call sw c s) (called_by v role cv r)

  pub told_call : (v : ℕ) (mv : Move) → event_told sw c s (Made v mv) ≡ party_told sw c.deal v (resolved c.deal c.seeds s.book mv) s.book
  told_call v mv = told_by_plan v (resolved c.deal c.seeds s.book mv)

  pub told_script : (v : ℕ) (moves : List Move) → conforms c v ≡ false → party_role c v ≡ Script moves
      → event_told sw c s (Act v) ≡ party_told sw c.deal v (next_call c.deal c.seeds (party_plan s v).known (party_plan s v).moves) s.book
  told_script v moves cv r =
      told_act v (Script moves) cv r ∙ told_by_plan v (next_call c.deal c.seeds (party_plan s v).known (party_plan s v).moves)

  pub told_strategy : (v : ℕ) (name : List ℕ) → conforms c v ≡ false → party_role c v ≡ Strategy name
      → event_told sw c s (Act v) ≡ party_told sw c.deal v (answered_call c.deal v (c.answers (length s.asked))) s.book
  told_strategy v name cv r =
      told_act v (Strategy name) cv r ∙ told_by_plan v (answered_call c.deal v (c.answers (length s.asked)))

-- where nothing is swept it is a run's step
pub plainly : (e : Event) → ◌≡◌ {A = Cast → State → State} (λ c s. apply_step (λ a. false) c s e) (λ c s. step c s e)
plainly e = λ j c s. (none_swept c s).0 e j
