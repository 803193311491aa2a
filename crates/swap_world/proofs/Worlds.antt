-- What a world keeps at each event.
use Rattle.std.proofs.Common.{◌≡◌, Result, Ok, Err, OnOk, OnErr, ◌⊎◌, inl, inr, ℕ, ◌<◌, Bool, false, List, [], ◌∷◌, length, get_or, take, Option, Some}
use Rattle.std.proofs.Common.{refl, sym, ap, ap₂, ◌∙◌, subst}
use Rattle.std.specs.Result.{is_err}
use Rattle.std.specs.List.{All}
use Rattle.std.proofs.lemmas.List.Elements.{All-head, All-tail}
use Rattle.std.proofs.lemmas.Bool.{false≢true}
use Rattle.swap_digraph.specs.declared.deal.Deal.{Deal}
use Rattle.ledger_core.specs.declared.entry.Call.{Call}
use Rattle.ledger_core.specs.Value.{LedgerState}
use Rattle.ledger_core.specs.Book.{Histories, history}
use Rattle.swap_rules.specs.Machine.{Begins}
use Rattle.swap_rules.proofs.Accepted.{accepted_is_well_sized}
use Rattle.swap_rules.specs.Due.{Action, due}
use Rattle.swap_job.specs.declared.event.Event.{Event}
use Rattle.swap_job.specs.declared.job.Role.{Role}
use Rattle.swap_run.specs.Shown.{IsShown}
use Rattle.swap_job.specs.Step.{CanStep}
use Rattle.swap_run.specs.Asked.{Answers, with_answers}
use Rattle.swap_run.specs.Run.{Cast, Plan, Question, State, state_notes, next_action, step, continued_run}
use Rattle.swap_run.specs.Laws.{AreGoodNotes, IsReadyCast, IsGood, IsGoodPlan, IsKept}
use Rattle.swap_run.specs.FairLaws.{IsReached}
use Rattle.swap_run.proofs.Along.{along_reached}
use Rattle.party_wallet.specs.Value.{signed_hashkey}
use Rattle.swap_rules.proofs.Due.{due_is_valid}
use Rattle.swap_run.proofs.Noted.{due_now}
use Rattle.swap_run.specs.Called.{apply_step}
use Rattle.swap_run.proofs.Good.{holds, steps_are_good, good_is_kept}
use Rattle.swap_run.proofs.Swept.{steps_on_are_good}
use Rattle.swap_run.proofs.Plans.{plan_view}
use Rattle.party_machine.specs.Machine.{MachineState, next_due}
use Rattle.swap_world.specs.Value.{WorldState, world_answers, world_cast, answering_cast, Continues}
use Rattle.swap_world.specs.Gone.{MayGive, HasGone, IsCutAt}
use Rattle.swap_world.specs.On.{IsCutWithSweeps}
use Rattle.swap_world.specs.Stopped.{IsStopped}
use Rattle.swap_world.specs.Inside.{inside_questions, inside_run_state, inside_world, IsPartyActor, ArePartyActors}
use Rattle.swap_world.specs.declared.world.World.TheInside.{Inside}
use Rattle.swap_world.specs.Acting.{IsMakable, IsSameOwner, histories}
use Rattle.wallet_journal.specs.Journal.{JournalState}
use Rattle.wallet_journal.specs.Memory.{DiskState}
use Rattle.swap_world.specs.Players.{Actor}
use Rattle.swap_world.specs.declared.player.Player.TheVariants.{Conforming, Planned}
use Rattle.swap_world.proofs.States.{IsAt, IsPlanAt, c, s, notes_at, plan_at, next_is}
use Rattle.swap_rules.proofs.Cases.{first_in}
use Rattle.swap_job.specs.Crafted.{Seeds}

-- a world with that state
abbrev pub world : Deal → List Bool → Seeds → List Role → List (Option (ℕ × Call)) → Bool → State → WorldState
world d conforming seeds roles answers stopped st = record {
  deal = d;
  conforming = conforming;
  seeds = seeds;
  roles = roles;
  answers = answers;
  state = st;
  stopped = stopped;
}

-- a player that was found, by what it is
pub found : (xs : List Actor) (p : ℕ) (x y : Actor) → x ≡ y → x ≡ get_or xs p x → y ≡ get_or xs p y
found xs p x y e h = subst (λ z. z ≡ get_or xs p z) e h

-- a player that was found is in its place
pub placed : (d : Deal) (conforming : List Bool) (seeds : Seeds) (roles : List Role) (qs : List Question) (ls : List LedgerState)
    (xs : List Actor) (p : ℕ) (x : Actor) (m : MachineState) (j : JournalState DiskState)
    → ArePartyActors d conforming seeds roles xs → p < d.graph.n → x ≡ Conforming m j → x ≡ get_or xs p x → IsAt d conforming seeds roles qs ls xs p m j
placed d conforming seeds roles qs ls xs p x m j actors lt e h =
    let low = subst (λ n. p < n) (sym actors.one_each) lt in
    let here = found xs p x (Conforming m j) e h in
    record { below = low; here = here; is = actors.each p (Conforming m j) low here }

pub plan_placed : (d : Deal) (conforming : List Bool) (seeds : Seeds) (roles : List Role) (qs : List Question) (ls : List LedgerState)
    (xs : List Actor) (p : ℕ) (x : Actor) (n : Plan)
    → ArePartyActors d conforming seeds roles xs → p < d.graph.n → x ≡ Planned n → x ≡ get_or xs p x → IsPlanAt d conforming seeds roles qs ls xs p n
plan_placed d conforming seeds roles qs ls xs p x n actors lt e h =
    let low = subst (λ l. p < l) (sym actors.one_each) lt in
    let here = found xs p x (Planned n) e h in
    record { below = low; here = here; is = actors.each p (Planned n) low here }

pub owned : (d : Deal) (conforms : Bool) (seed : Option (List ℕ)) (role : Role) (p : ℕ) (m new : MachineState) (j h : JournalState DiskState)
    → IsSameOwner m new → IsPartyActor d conforms seed role p (Conforming m j) → IsPartyActor d conforms seed role p (Conforming new h)
owned d conforms seed role p m new j h k i = (i.0, k.deal ∙ i.1, k.me ∙ i.2, i.3 ∙ ap (λ (z : List ℕ). Some z) (sym k.seed))

-- the state after an event, or as before where memory ran out, is good
pub good_on : {A E : Type 0} (r : Result A E) (sw : ℕ → Bool) (cast : Cast) (old new : State) (e : Event) → OnOk r (new ≡ apply_step sw cast old e)
    → OnErr r (new ≡ old) → IsReadyCast cast → CanStep cast.deal cast.conforming cast.seeds e → IsGood cast old → IsGood cast new
good_on (Ok x) sw cast old new e ok err ready can g = subst (IsGood cast) (sym ok) (steps_on_are_good sw cast old e ready can g)
good_on (Err x) sw cast old new e ok err ready can g = subst (IsGood cast) (sym err) g

-- before an event and after it every conforming party has kept its conduct
kept_either : (sw : ℕ → Bool) (cast : Cast) (old : State) (b : Histories) (e : Event) → (b ≡ old.book) ⊎ (b ≡ (apply_step sw cast old e).book)
    → IsReadyCast cast → CanStep cast.deal cast.conforming cast.seeds e → IsGood cast old → IsKept cast b
kept_either sw cast old b e (inl h) ready can g = subst (IsKept cast) (sym h) (good_is_kept cast old ready g)
kept_either sw cast old b e (inr h) ready can g =
    subst (IsKept cast) (sym h) (good_is_kept cast (apply_step sw cast old e) ready (steps_on_are_good sw cast old e ready can g))

-- whether memory ran out or not, every conforming party has kept its conduct
pub kept_on : {A E : Type 0} (r : Result A E) (sw : ℕ → Bool) (cast : Cast) (old new : State) (e : Event) → OnOk r (new ≡ apply_step sw cast old e)
    → OnErr r ((new.book ≡ old.book) ⊎ (new.book ≡ (apply_step sw cast old e).book)) → IsReadyCast cast
    → CanStep cast.deal cast.conforming cast.seeds e → IsGood cast old
    → IsKept cast new.book
kept_on (Ok x) sw cast old new e ok err ready can g =
    good_is_kept cast new ready (subst (IsGood cast) (sym ok) (steps_on_are_good sw cast old e ready can g))
kept_on (Err x) sw cast old new e ok err ready can g = kept_either sw cast old new.book e err ready can g

-- Answers matter for no law of a state.

module _ (c : Cast) (g : Answers) where
  pub ready_for : IsReadyCast c → IsReadyCast (with_answers c g)
  ready_for k = record { accepted = k.accepted; one_each = k.one_each; roles = k.roles; wallets = k.wallets; scripts = k.scripts }

  notes_for : (s : State) (v : ℕ) → AreGoodNotes c s v → AreGoodNotes (with_answers c g) s v
  notes_for s v k = record { one_each = k.one_each; places = k.places; knows = k.knows; far = k.far; sound = k.sound }

  notes_of_any : (s : State) (v : ℕ) → AreGoodNotes (with_answers c g) s v → AreGoodNotes c s v
  notes_of_any s v k = record { one_each = k.one_each; places = k.places; knows = k.knows; far = k.far; sound = k.sound }

  pub good_for : (s : State) → IsGood c s → IsGood (with_answers c g) s
  good_for s k = record {
    legal = k.legal;
    one_each = k.one_each;
    notes = λ v lt t. notes_for s v (k.notes v lt t);
    plan_each = k.plan_each;
    plans = k.plans;
  }

  pub good_of_any : (s : State) → IsGood (with_answers c g) s → IsGood c s
  good_of_any s k = record {
    legal = k.legal;
    one_each = k.one_each;
    notes = λ v lt t. notes_of_any s v (k.notes v lt t);
    plan_each = k.plan_each;
    plans = k.plans;
  }

  pub kept_of_any : (b : Histories) → IsKept (with_answers c g) b → IsKept c b
  kept_of_any b k = record { legal = k.legal; conducted = k.conducted }

  -- an event leaves a good state good, whatever is answered
  pub good_step : (sw : ℕ → Bool) (s : State) (e : Event) → IsReadyCast c → CanStep c.deal c.conforming c.seeds e → IsGood c s
      → IsGood c (apply_step sw (with_answers c g) s e)
  good_step sw s e ready can k =
      good_of_any (apply_step sw (with_answers c g) s e) (steps_on_are_good sw (with_answers c g) s e (ready_for ready) can (good_for s k))

  pub kept_step : (sw : ℕ → Bool) (s : State) (e : Event) → IsReadyCast c → CanStep c.deal c.conforming c.seeds e → IsGood c s
      → IsKept c (apply_step sw (with_answers c g) s e).book
  kept_step sw s e ready can k = good_is_kept c (apply_step sw (with_answers c g) s e) ready (good_step sw s e ready can k)

-- the book of a world stays kept by a step, also where the step was cut short
pub collect_kept : {A E : Type 0} (r : Result A E) (gives : MayGive) (sw : ℕ → Bool) (old new : WorldState) (e : Event)
    → OnOk r (HasGone gives (λ c s. apply_step sw c s e) old new)
    → OnErr r (IsCutWithSweeps gives sw e old new) → IsReadyCast (world_cast old) → CanStep old.deal old.conforming old.seeds e → IsGood (world_cast old) old.state
    → IsKept (world_cast new) new.state.book
collect_kept (Ok x) gives sw old new e ok cut ready can k =
    subst (λ c. IsKept c new.state.book) (sym (ap world_cast ok.same))
    (subst (λ (s : State). IsKept (world_cast old) s.book) (sym (ok.state (world_answers new) (λ i l. refl)))
    (kept_step (world_cast old) (world_answers new) sw old.state e ready can k))
collect_kept (Err x) gives sw old new e ok cut ready can k = subst (λ c. IsKept c new.state.book) (sym cut.cast) (by cut.book)
  where
    by : (new.state.book ≡ old.state.book) ⊎ ((g : Answers) → Continues new g → new.state.book ≡ (apply_step sw (answering_cast old g) old.state e).book)
        → IsKept (world_cast old) new.state.book
    by (inl h) = subst (IsKept (world_cast old)) (sym h) (good_is_kept (world_cast old) old.state ready k)
    by (inr h) =
        subst (IsKept (world_cast old)) (sym (h (world_answers new) (λ i l. refl))) (kept_step (world_cast old) (world_answers new) sw old.state e ready can k)

-- every state that events lead to from a good one is good
reached_good : (c : Cast) (s : State) (events : List Event) → IsReadyCast c → All (CanStep c.deal c.conforming c.seeds) events → IsGood c s
    → IsGood c (continued_run c s events)
reached_good c s [] ready can g = g
reached_good c s (e ∷ events) ready can g =
    reached_good c (step c s e) events ready (All-tail (CanStep c.deal c.conforming c.seeds) e events can)
    (steps_are_good c s e ready (All-head (CanStep c.deal c.conforming c.seeds) e events can) g)

reached_kept : (c : Cast) (s t : State) → IsReadyCast c → IsGood c s → IsReached c s t → IsKept c t.book
reached_kept c s t ready g r = good_is_kept c t ready (subst (IsGood c) (sym r.state) (reached_good c s r.events ready r.can g))

reached_kept_for : (c : Cast) (g : Answers) (s t : State) → IsReadyCast c → IsGood c s → IsReached (with_answers c g) s t → IsKept c t.book
reached_kept_for c g s t ready k r = kept_of_any c g t.book (reached_kept (with_answers c g) s t (ready_for c g ready) (good_for c g s k) r)

-- the book of a world stays kept where the world went where f leads, or stopped on the way along
-- steps that can be taken
pub kept_to : {A E : Type 0} (r : Result A E) (gives : MayGive) (f : Cast → State → State) (e : Cast → State → List Event) (old new : WorldState)
    → OnOk r (HasGone gives f old new) → OnErr r (IsStopped gives e old new)
    → ((g : Answers) → IsReached (answering_cast old g) old.state (f (answering_cast old g) old.state))
    → ((g : Answers) → All (CanStep old.deal old.conforming old.seeds) (e (answering_cast old g) old.state))
    → IsReadyCast (world_cast old) → IsGood (world_cast old) old.state → IsKept (world_cast new) new.state.book
kept_to (Ok x) gives f e old new ok err leads can ready k =
    let g = world_answers new in
    subst (λ c. IsKept c new.state.book) (sym (ap world_cast ok.same))
    (subst (λ (s : State). IsKept (world_cast old) s.book) (sym (ok.state g (λ i l. refl)))
    (reached_kept_for (world_cast old) g old.state (f (answering_cast old g) old.state) ready k (leads g)))
kept_to (Err x) gives f e old new ok err leads can ready k =
    let g = world_answers new in
    let c = answering_cast old g in
    let way = err.book g (λ i l. refl) in
    let events = e c old.state in
    subst (λ c. IsKept c new.state.book) (sym err.cast)
    (subst (IsKept (world_cast old)) (sym way.book)
    (reached_kept_for (world_cast old) g old.state (continued_run c old.state (take way.count events)) ready k
    (along_reached c old.state events new.state.book (can g) way)))

-- what follows from two facts that stand where memory sufficed
pub both : {A E : Type 0} {P Q R : Type 0} (r : Result A E) → (P → Q → R) → OnOk r P → OnOk r Q → OnOk r R
both (Ok x) f p q = f p q
both (Err e) f p q = tt

-- the state after an act that didn't run out of memory is good
pub good_unless : {A E : Type 0} (r : Result A E) (stopped : Bool) (sw : ℕ → Bool) (cast : Cast) (old new : State) (e : Event) → stopped ≡ is_err r
    → stopped ≡ false → OnOk r (new ≡ apply_step sw cast old e) → IsReadyCast cast → CanStep cast.deal cast.conforming cast.seeds e → IsGood cast old
    → IsGood cast new
good_unless (Ok x) stopped sw cast old new e is goes_on ok ready can g = subst (IsGood cast) (sym ok) (steps_on_are_good sw cast old e ready can g)
good_unless (Err x) stopped sw cast old new e is goes_on ok ready can g = absurd (false≢true (sym goes_on ∙ is))

-- the world of these fields with another state, which goes on or stopped
abbrev pub world_in : Inside → Bool → State → WorldState
world_in i stopped st = world i.deal i.conforming i.seeds i.roles i.answers.items stopped st

-- an act that didn't run out of memory leaves the world going on
pub acted_on : {A E : Type 0} (r : Result A E) (i : Inside) (stopped : Bool) (to new : State) → stopped ≡ is_err r → i.stopped ≡ false → OnOk r (new ≡ to)
    → OnOk r (world_in i stopped new ≡ world_in i i.stopped to)
acted_on (Ok x) i stopped to new is goes_on ok = ap₂ (λ (b : Bool) (st : State). world_in i b st) (is ∙ sym goes_on) ok
acted_on (Err x) i stopped to new is goes_on ok = tt

-- an act that ran out of memory leaves a world that is cut
pub cut_at : {A E : Type 0} (r : Result A E) (i : Inside) (stopped : Bool) (to new : State) → stopped ≡ is_err r → new.asked ≡ inside_questions i
    → OnErr r ((new.book ≡ (inside_run_state i).book) ⊎ (new.book ≡ to.book)) → OnErr r (IsCutAt to (inside_world i) (world_in i stopped new))
cut_at (Ok x) i stopped to new is asked book = tt
cut_at (Err x) i stopped to new is asked book = record { stopped = is; cast = refl; asked = asked; answers = refl; book = book }

-- What is known of a party that follows a script or a strategy.
module _ (d : Deal) (conforming : List Bool) (seeds : List (Option (List ℕ))) (roles : List Role) (qs : List Question) (ls : List LedgerState) (xs : List Actor)
    (ready : IsReadyCast (c d conforming seeds roles qs ls xs)) (good : IsGood (c d conforming seeds roles qs ls xs) (s d conforming seeds roles qs ls xs))
    (p : ℕ) (below : p < d.graph.n) (n : Plan) (i : IsPlanAt d conforming seeds roles qs ls xs p n) where
  plan_is : IsGoodPlan d seeds p (histories ls) n
  plan_is = subst (IsGoodPlan d seeds p (histories ls)) (plan_at d conforming seeds roles qs ls xs p n i) (good.plans p below)

  pub knows_each : length n.known ≡ length d.graph.arcs
  knows_each = plan_is.one_each

  -- what it knows is the beginning of each history
  pub plan_begins : (a : ℕ) → Begins (history n.known a) (history (histories ls) a)
  plan_begins a = plan_is.begins a

  pub shown : IsShown d seeds p n
  shown = record {
    view = plan_view d seeds p (histories ls) n (accepted_is_well_sized d ready.accepted) below good.legal plan_is;
    moves = plan_is.moves;
  }

-- What is known of a conforming party.
module _ (d : Deal) (conforming : List Bool) (seeds : List (Option (List ℕ))) (roles : List Role) (qs : List Question) (ls : List LedgerState) (xs : List Actor)
    (ready : IsReadyCast (c d conforming seeds roles qs ls xs)) (good : IsGood (c d conforming seeds roles qs ls xs) (s d conforming seeds roles qs ls xs))
    (p : ℕ) (below : p < d.graph.n) (m : MachineState) (j : JournalState DiskState) (i : IsAt d conforming seeds roles qs ls xs p m j) where
  -- what the machine knows is the beginning of each history
  pub begins : (a : ℕ) → Begins (history m.known a) (history (histories ls) a)
  begins a =
      let k = (good.notes p below i.is.0).knows a in
      subst (λ n. Begins (history n.known a) (history (histories ls) a)) (notes_at d conforming seeds roles qs ls xs p m j i) (k.rest, k.whole)

  -- its next call fits
  pub makable : (x : Action) → next_due m ≡ Some x → IsMakable m.deal m.me x
  makable x e =
      let cast = c d conforming seeds roles qs ls xs in
      let before = s d conforming seeds roles qs ls xs in
      let next : next_action cast before p ≡ Some x = next_is d conforming seeds roles qs ls xs p m j i ∙ e in
      let is =
      due_now d before.book (state_notes before p) p (cast.wallet p) x (ready.wallets p below i.is.0) ready.accepted
      (first_in (due d p (cast.wallet p) (signed_hashkey (state_notes before p).signed) (state_notes before p).known) x next)
      (holds cast before p (good.notes p below i.is.0)) in
      subst (λ e. IsMakable e m.me x) (sym i.is.1) (subst (λ v. IsMakable d v x) (sym i.is.2) (record {
        arc = is.below;
        of_the_two =
            is.of_the_two;
        fits = is.fits;
        valid = due_is_valid d p (cast.wallet p) _ _ _ x.arc x.call is;
      }))
