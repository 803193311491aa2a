use Rattle.std.proofs.Common.{◌≡◌, ℕ, None, false, inl, set, slice_index_or, refl, sym, subst}
use Rattle.std.specs.Prelude.{OnOk}
use Rattle.swap_job.specs.declared.event.Event.TheVariants.{Crash}
use Rattle.swap_job.specs.declared.job.Role.TheVariants as kinds
use Rattle.swap_job.specs.Step.{CanCrash}
use Rattle.swap_rules.proofs.Accepted.{accepted_is_well_sized}
use Rattle.swap_run.specs.Run.{State, step}
use Rattle.party_machine.specs.Machine.{MachineState}
use Rattle.swap_world.specs.Acting.{histories}
use Rattle.swap_world.specs.Inside.{inside_questions, inside_cast, inside_run_state}
use Rattle.wallet_journal.specs.Journal.{JournalState}
use Rattle.wallet_journal.specs.Memory.{DiskState}
use Rattle.swap_world.specs.Journals.{IsJournaled, IsMachineJournal}
use Rattle.swap_world.specs.declared.player.Player.TheVariants.{Conforming}
use Rattle.swap_world.specs.declared.world.World.TheInside.{Inside}
use Rattle.swap_world.proofs.States.{actor_set, state, crashed}
use Rattle.swap_world.proofs.Ledgers.{each_set, on_ok, on_err}
use Rattle.swap_world.proofs.Disks.{crashed_disks, err_unless, ok_unless}
use Rattle.swap_world.proofs.Worlds.{good_unless, acted_on, cut_at, owned}
use Rattle.swap_world.proofs.Places.{IsMachineOf, machine_found}
use Rattle.swap_world.proofs.world.World.crash.Goals as goal
use Rattle.swap_world.proofs.world.World.crash.Goals.{In-Conforming, After-is_err-self-inside}

-- What the crash asks for.
module _ (c : goal.In-Conforming) where
  asked : c.self.inside.stopped ≡ false
  asked = rw (← c.self.view_is) at c.requires.goes_on

  may : CanCrash c.self.inside.deal c.self.inside.conforming c.args.p c.args.k
  may = rw (← c.self.view_is) at c.requires.event

  found : IsMachineOf c.self.inside c.args.p c.in-Conforming.machine c.in-Conforming.journal
  found =
      machine_found c.self.inside c.self.invariant c.args.p may.known c.index_mut.result.now c.index_mut.ensures.value c.in-Conforming.machine
      c.in-Conforming.journal c.in-Conforming.is

pub crash-done-requires-clause-sized : goal.crash-done-requires-clause-sized
crash-done-requires-clause-sized c = accepted_is_well_sized c.self.inside.deal c.self.invariant.ready.accepted

pub crash-done-requires-clause-journal : goal.crash-done-requires-clause-journal
crash-done-requires-clause-journal c =
    let o = (goal.at.crash-done-requires-clause-journal c).In-Conforming in
    let m = c.in-Conforming.machine in
    let j = c.in-Conforming.journal in
    subst (λ (v : ℕ). IsMachineJournal c.self.inside.deal v m.signed j) (sym (found o).is.2)
    (c.self.invariant.journals (asked o) c.args.p (Conforming m j) (found o).below (found o).here)

-- The world behind the crash.
module _ (c : goal.After-is_err-self-inside) where
  abbrev i : Inside
  i = c.self.inside

  abbrev m : MachineState
  m = c.in-Conforming.machine

  abbrev j : JournalState DiskState
  j = c.in-Conforming.journal

  abbrev new : MachineState
  new = c.crash-done.new.machine

  abbrev after : State
  after = state i.deal (inside_questions i) (set i.actors.items c.args.p (Conforming new c.crash-done.new.journal)) (histories i.ledgers.items)

  goes_on : i.stopped ≡ false
  goes_on = rw (← c.self.view_is) at c.requires.goes_on

  can : CanCrash i.deal i.conforming c.args.p c.args.k
  can = rw (← c.self.view_is) at c.requires.event

  place : IsMachineOf i c.args.p m j
  place = machine_found i c.self.invariant c.args.p can.known c.index_mut.result.now c.index_mut.ensures.value m j c.in-Conforming.is

  done : OnOk c.crash-done.result (after ≡ step (inside_cast i) (inside_run_state i) (Crash c.args.p c.args.k c.args.image))
  done =
      on_ok c.crash-done.result
      (crashed i.deal i.conforming i.seeds i.roles (inside_questions i) i.ledgers.items i.actors.items c.args.p c.args.k c.args.image m new j
      c.crash-done.new.journal place) c.crash-done.ensures.ok

pub invariant_of-self-2 : goal.invariant_of-self-2
invariant_of-self-2 c =
    let o = (goal.at.invariant_of-self-2 c).After-is_err-self-inside in
    let i = c.self.inside in
    let xs = i.actors.items in
    let now = c.crash-done.new.journal in
    let here = place o in
    record {
      ready = c.self.invariant.ready;
      ledgers = c.self.invariant.ledgers;
      actors = actor_set i.deal i.conforming i.seeds i.roles xs c.args.p (Conforming (new o) now) c.self.invariant.actors here.below
          (owned i.deal (slice_index_or i.conforming c.args.p false) (slice_index_or i.seeds c.args.p None) (slice_index_or i.roles c.args.p kinds.Manual)
          c.args.p (m o) (new o) (j o) now c.crash-done.ensures.owner here.is);
      askers = c.self.invariant.askers;
      told = c.self.invariant.told;
      good =
          λ g. good_unless c.crash-done.result c.is_err-self-inside.result (λ a. false) (inside_cast i) (inside_run_state i) (after o)
          (Crash c.args.p c.args.k c.args.image) c.is_err-self-inside.ensures.value g (done o) c.self.invariant.ready (can o)
          (c.self.invariant.good (goes_on o));
      room = λ on. c.self.invariant.room (goes_on o);
      journals =
          λ on. each_set (IsJournaled i.deal) xs c.args.p (Conforming (new o) now) (c.self.invariant.journals (goes_on o)) here.below
          (ok_unless c.crash-done.result c.is_err-self-inside.result c.is_err-self-inside.ensures.value on
          (subst (λ (v : ℕ). OnOk c.crash-done.result (IsMachineJournal i.deal v (new o).signed now)) here.is.2 c.crash-done.ensures.journal));
      disks =
          λ on. err_unless c.crash-done.result c.is_err-self-inside.result c.is_err-self-inside.ensures.value on (on_err c.crash-done.result
          (crashed_disks i.deal i.conforming i.seeds i.roles (inside_questions i) i.ledgers.items xs c.args.p (m o) (new o) (j o) now here c.self.invariant.actors
          (c.self.invariant.good (goes_on o)) (c.self.invariant.journals (goes_on o)))
          c.crash-done.ensures.between);
      kept = c.self.invariant.kept;
    }

pub returns-clause-ok : goal.returns-clause-ok
returns-clause-ok c =
    let o = (goal.at.returns-clause-ok c).After-is_err-self-inside in
    rw (← c.self.view_is)
    (acted_on c.crash-done.result c.self.inside c.is_err-self-inside.result _ _ c.is_err-self-inside.ensures.value (goes_on o) (done o))

pub returns-clause-cut : goal.returns-clause-cut
returns-clause-cut c =
    let o = (goal.at.returns-clause-cut c).After-is_err-self-inside in
    rw (← c.self.view_is)
    (cut_at c.crash-done.result c.self.inside c.is_err-self-inside.result _ (after o) c.is_err-self-inside.ensures.value refl (on_err c.crash-done.result (λ x. inl refl) c.crash-done.ensures.between))
