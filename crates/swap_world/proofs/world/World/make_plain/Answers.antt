use Rattle.std.proofs.Common.{◌≡◌, ℕ, Bool, false, refl, sym, ap, ◌∙◌, subst, ◌⊎◌, OnOk, OnErr, IfOk}
use Rattle.ledger_core.specs.Book.{Histories}
use Rattle.swap_job.specs.Step.{CanCall}
use Rattle.swap_job.specs.declared.event.Event.TheVariants.{Call as Made}
use Rattle.swap_job.specs.Resolved.{resolved}
use Rattle.swap_rules.proofs.Accepted.{accepted_is_well_sized}
use Rattle.swap_run.specs.Called.{apply_step}
use Rattle.swap_run.specs.Run.{State}
use Rattle.swap_world.specs.Acting.{histories, taken, party_told}
use Rattle.swap_world.specs.On.{is_slot_swept}
use Rattle.swap_world.specs.Inside.{inside_questions, inside_cast, inside_run_state}
use Rattle.swap_world.specs.declared.world.World.TheInside.{Inside}
use Rattle.swap_world.proofs.Plans.{take_is}
use Rattle.swap_world.proofs.On.{call_is, if_told}
use Rattle.swap_world.proofs.Ledgers.{on_ok, on_err, either}
use Rattle.swap_world.proofs.Rooms.{room_unless}
use Rattle.swap_world.proofs.Disks.{disks_stay, err_unless, have_either}
use Rattle.swap_world.proofs.States.{state, made_told}
use Rattle.swap_world.proofs.Worlds.{good_unless, kept_on, acted_on, cut_at}
use Rattle.swap_world.proofs.world.World.make_plain.Goals as goal
use Rattle.swap_world.proofs.world.World.make_plain.Goals.{After-is_err-self-inside}

pub make-done-requires-clause-sized : goal.make-done-requires-clause-sized
make-done-requires-clause-sized c = accepted_is_well_sized c.self.inside.deal c.self.invariant.ready.accepted

pub make-done-requires-clause-room : goal.make-done-requires-clause-room
make-done-requires-clause-room c = c.self.invariant.room (rw (← c.self.view_is) at c.requires.goes_on)

-- The world behind the call.
module _ (c : goal.After-is_err-self-inside) where
  abbrev i : Inside
  i = c.self.inside

  abbrev sw : ℕ → Bool
  sw = is_slot_swept c.args.swept.now

  abbrev b : Histories
  b = histories c.make-done.new.ledgers.items

  abbrev after : State
  after = state i.deal (inside_questions i) i.actors.items b

  -- the histories after the call
  abbrev called : Histories
  called = taken sw i.deal c.args.sender (resolved i.deal i.seeds (histories i.ledgers.items) c.args.mv.now) (histories i.ledgers.items)

  goes_on : i.stopped ≡ false
  goes_on = rw (← c.self.view_is) at c.requires.goes_on

  can : CanCall i.deal i.conforming i.seeds c.args.sender c.args.mv.now
  can = rw (← c.self.view_is) at c.requires.event

  to : state i.deal (inside_questions i) i.actors.items called ≡ apply_step sw (inside_cast i) (inside_run_state i) (Made c.args.sender c.args.mv.now)
  to =
      sym (call_is sw (inside_cast i) (inside_run_state i) c.args.sender c.args.mv.now
      ∙ take_is i.deal i.conforming i.seeds i.roles sw (inside_run_state i) c.args.sender (resolved i.deal i.seeds (histories i.ledgers.items) c.args.mv.now)
      (rw (← c.self.view_is) at c.requires.plain))

  done : OnOk c.make-done.result (after ≡ apply_step sw (inside_cast i) (inside_run_state i) (Made c.args.sender c.args.mv.now))
  done =
      on_ok c.make-done.result (λ (e : b ≡ called). ap (λ (x : Histories). state i.deal (inside_questions i) i.actors.items x) e ∙ to)
      (subst (λ ss. OnOk c.make-done.result
      (b ≡ taken sw i.deal c.args.sender (resolved i.deal ss (histories i.ledgers.items) c.args.mv.now) (histories i.ledgers.items)))
      c.as_slice.ensures c.make-done.ensures.ok)

  cut : OnErr c.make-done.result ((b ≡ (inside_run_state i).book) ⊎ (b ≡ (apply_step sw (inside_cast i) (inside_run_state i) (Made c.args.sender c.args.mv.now)).book))
  cut =
      on_err c.make-done.result (either (λ e. e) (λ e. e ∙ ap (λ (t : State). t.book) to))
      (subst (λ ss. OnErr c.make-done.result ((b ≡ histories i.ledgers.items)
      ⊎ (b ≡ taken sw i.deal c.args.sender (resolved i.deal ss (histories i.ledgers.items) c.args.mv.now) (histories i.ledgers.items))))
      c.as_slice.ensures c.make-done.ensures.err)

pub invariant_of-self : goal.invariant_of-self
invariant_of-self c =
    let o = (goal.at.invariant_of-self c).After-is_err-self-inside in
    let i = c.self.inside in
    let good = c.self.invariant.good (goes_on o) in
    record {
      ready = c.self.invariant.ready;
      ledgers = c.make-done.ensures.ledgers;
      actors = c.self.invariant.actors;
      askers = c.self.invariant.askers;
      told = c.self.invariant.told;
      good = λ on. good_unless c.make-done.result c.is_err-self-inside.result (sw o) (inside_cast i) (inside_run_state i) (after o) (Made c.args.sender c.args.mv.now)
          c.is_err-self-inside.ensures.value on (done o) c.self.invariant.ready (can o) good;
      room =
          λ on. room_unless c.make-done.result c.is_err-self-inside.result c.make-done.new.ledgers.items c.is_err-self-inside.ensures.value on
          c.make-done.ensures.room;
      journals = λ on. c.self.invariant.journals (goes_on o);
      disks =
          λ on. err_unless c.make-done.result c.is_err-self-inside.result c.is_err-self-inside.ensures.value on (on_err c.make-done.result
          (λ two. disks_stay i.deal (b o) i.actors.items (c.self.invariant.journals (goes_on o))
          (have_either i.deal i.conforming i.seeds i.roles (inside_questions i) i.ledgers.items i.actors.items (sw o) (Made c.args.sender c.args.mv.now) (b o)
          c.self.invariant.actors c.self.invariant.ready (can o) good (sym (ap (λ (t : State). t.notes) (to o))) two)) (cut o));
      kept = kept_on c.make-done.result (sw o) (inside_cast i) (inside_run_state i) (after o) (Made c.args.sender c.args.mv.now) (done o) (cut o)
          c.self.invariant.ready (can o) good;
    }

pub returns-clause-ok : goal.returns-clause-ok
returns-clause-ok c =
    let o = (goal.at.returns-clause-ok c).After-is_err-self-inside in
    rw (← c.self.view_is)
    (acted_on c.make-done.result c.self.inside c.is_err-self-inside.result _ _ c.is_err-self-inside.ensures.value (goes_on o) (done o))

pub returns-clause-cut : goal.returns-clause-cut
returns-clause-cut c =
    let o = (goal.at.returns-clause-cut c).After-is_err-self-inside in
    rw (← c.self.view_is)
    (cut_at c.make-done.result c.self.inside c.is_err-self-inside.result _ (after o) c.is_err-self-inside.ensures.value refl (cut o))

pub returns-clause-told : goal.returns-clause-told
returns-clause-told c =
    let i = c.self.inside in
    let sw = is_slot_swept c.args.swept.now in
    let told =
    subst (λ ss. IfOk c.make-done.result
    (λ r. r ≡ party_told sw i.deal c.args.sender (resolved i.deal ss (histories i.ledgers.items) c.args.mv.now) (histories i.ledgers.items)))
    c.as_slice.ensures c.make-done.ensures.told in
    rw (← c.self.view_is)
    (if_told c.make-done.result
    (λ t e. e ∙ made_told i.deal i.conforming i.seeds i.roles (inside_questions i) i.ledgers.items i.actors.items sw c.args.sender c.args.mv.now) told)
