use Rattle.std.proofs.Common.{◌≡◌, ◌⊎◌, ◌<◌, Bool, set, slice_index_or, false, None, refl, sym, ◌∙◌, subst}
use Rattle.std.specs.Prelude.{ℕ, OnOk, OnErr}
use Rattle.swap_digraph.specs.declared.deal.Deal.{Deal}
use Rattle.ledger_core.specs.Book.{Histories}
use Rattle.swap_job.specs.declared.event.Event.TheVariants.{Act}
use Rattle.swap_job.specs.declared.job.Role.TheVariants as kinds
use Rattle.swap_run.specs.Called.{apply_step}
use Rattle.swap_run.specs.Run.{State}
use Rattle.party_machine.specs.Machine.{MachineState}
use Rattle.swap_world.specs.Acting.{histories}
use Rattle.swap_world.specs.Inside.{inside_questions, inside_cast, inside_run_state, AreArcLedgers}
use Rattle.wallet_journal.specs.Journal.{JournalState}
use Rattle.wallet_journal.specs.Memory.{DiskState}
use Rattle.swap_world.specs.Journals.{IsJournaled, IsMachineJournal}
use Rattle.swap_world.specs.On.{is_slot_swept}
use Rattle.swap_world.specs.declared.player.Player.TheVariants.{Conforming}
use Rattle.swap_world.specs.declared.world.World.TheInside.{Inside}
use Rattle.swap_world.proofs.States.{actor_set, state, acted, acted_book, acted_told}
use Rattle.swap_world.proofs.Ledgers.{each_set, on_err, either}
use Rattle.swap_world.proofs.On.{if_told}
use Rattle.swap_world.proofs.Worlds.{good_unless, kept_on, acted_on, cut_at, both, owned}
use Rattle.swap_world.proofs.Places.{IsMachineOf, machine_found, machine_before, machine_makable}
use Rattle.swap_world.proofs.Disks.{err_unless, ok_unless, stopped_disks}
use Rattle.swap_world.proofs.Rooms.{room_unless}
use Rattle.swap_world.proofs.world.World.act_alone.Goals as goal
use Rattle.swap_world.proofs.world.World.act_alone.Goals.{In-Conforming, After-is_err-self-inside}

-- What the act asks for.
module _ (c : goal.In-Conforming) where
  asked : c.self.inside.stopped ≡ false
  asked = rw (← c.self.view_is) at c.requires.goes_on

  party : c.args.p < c.self.inside.deal.graph.n
  party = rw (← c.self.view_is) at c.requires.party

  found : IsMachineOf c.self.inside c.args.p c.in-Conforming.machine c.in-Conforming.journal
  found =
      machine_found c.self.inside c.self.invariant c.args.p party c.index_mut.result.now c.index_mut.ensures.value c.in-Conforming.machine
      c.in-Conforming.journal c.in-Conforming.is

pub act-done-requires-clause-makable : goal.act-done-requires-clause-makable
act-done-requires-clause-makable c =
    let o = (goal.at.act-done-requires-clause-makable c).In-Conforming in
    machine_makable c.self.inside c.self.invariant (asked o) c.args.p (party o) c.in-Conforming.machine c.in-Conforming.journal (found o)

pub act-done-requires-clause-begins : goal.act-done-requires-clause-begins
act-done-requires-clause-begins c =
    let o = (goal.at.act-done-requires-clause-begins c).In-Conforming in
    machine_before c.self.inside c.self.invariant (asked o) c.args.p (party o) c.in-Conforming.machine c.in-Conforming.journal (found o)

pub act-done-requires-clause-journal : goal.act-done-requires-clause-journal
act-done-requires-clause-journal c =
    let o = (goal.at.act-done-requires-clause-journal c).In-Conforming in
    let m = c.in-Conforming.machine in
    let j = c.in-Conforming.journal in
    let place = found o in
    subst (λ (x : Deal × ℕ). IsMachineJournal x.0 x.1 m.signed j) (λ t. (sym place.is.1 t, sym place.is.2 t))
    (c.self.invariant.journals (asked o) c.args.p (Conforming m j) place.below place.here)

pub act-done-requires-clause-room : goal.act-done-requires-clause-room
act-done-requires-clause-room c = c.self.invariant.room (rw (← c.self.view_is) at c.requires.goes_on)

-- The world behind the act.
module _ (c : goal.After-is_err-self-inside) where
  abbrev i : Inside
  i = c.self.inside

  abbrev sw : ℕ → Bool
  sw = is_slot_swept c.args.swept.now

  abbrev m : MachineState
  m = c.in-Conforming.machine

  abbrev j : JournalState DiskState
  j = c.in-Conforming.journal

  abbrev new : MachineState
  new = c.act-done.new.machine

  abbrev b : Histories
  b = histories c.act-done.new.ledgers.items

  abbrev after : State
  after = state i.deal (inside_questions i) (set i.actors.items c.args.p (Conforming new c.act-done.new.journal)) b

  goes_on : i.stopped ≡ false
  goes_on = rw (← c.self.view_is) at c.requires.goes_on

  known : c.args.p < i.deal.graph.n
  known = rw (← c.self.view_is) at c.requires.party

  place : IsMachineOf i c.args.p m j
  place = machine_found i c.self.invariant c.args.p known c.index_mut.result.now c.index_mut.ensures.value m j c.in-Conforming.is

  done : OnOk c.act-done.result (after ≡ apply_step sw (inside_cast i) (inside_run_state i) (Act c.args.p))
  done =
      both c.act-done.result (acted i.deal i.conforming i.seeds i.roles (inside_questions i) i.ledgers.items i.actors.items sw c.args.p m new j
      c.act-done.new.journal b place)
      c.act-done.ensures.ok c.act-done.ensures.knows

  cut : OnErr c.act-done.result ((b ≡ (inside_run_state i).book) ⊎ (b ≡ (apply_step sw (inside_cast i) (inside_run_state i) (Act c.args.p)).book))
  cut =
      on_err c.act-done.result (either (λ e. e)
      (λ e. e ∙ acted_book i.deal i.conforming i.seeds i.roles (inside_questions i) i.ledgers.items i.actors.items sw c.args.p m j place)) c.act-done.ensures.err

pub invariant_of-self-2 : goal.invariant_of-self-2
invariant_of-self-2 c =
    let o = (goal.at.invariant_of-self-2 c).After-is_err-self-inside in
    let i = c.self.inside in
    let xs = i.actors.items in
    let now = c.act-done.new.journal in
    let here = place o in
    let good = c.self.invariant.good (goes_on o) in
    record {
      ready = c.self.invariant.ready;
      ledgers = subst (λ d. AreArcLedgers d c.act-done.new.ledgers.items) here.is.1 c.act-done.ensures.ledgers;
      actors = actor_set i.deal i.conforming i.seeds i.roles xs c.args.p (Conforming (new o) now) c.self.invariant.actors here.below
          (owned i.deal (slice_index_or i.conforming c.args.p false) (slice_index_or i.seeds c.args.p None) (slice_index_or i.roles c.args.p kinds.Manual)
          c.args.p (m o) (new o) (j o) now c.act-done.ensures.owner here.is);
      askers = c.self.invariant.askers;
      told = c.self.invariant.told;
      good =
          λ g. good_unless c.act-done.result c.is_err-self-inside.result (sw o) (inside_cast i) (inside_run_state i) (after o) (Act c.args.p)
          c.is_err-self-inside.ensures.value g (done o) c.self.invariant.ready (known o) good;
      room =
          λ on. room_unless c.act-done.result c.is_err-self-inside.result c.act-done.new.ledgers.items c.is_err-self-inside.ensures.value on
          c.act-done.ensures.room;
      journals =
          λ on. each_set (IsJournaled i.deal) xs c.args.p (Conforming (new o) now) (c.self.invariant.journals (goes_on o)) here.below
          (ok_unless c.act-done.result c.is_err-self-inside.result c.is_err-self-inside.ensures.value on
          (subst (λ (x : Deal × ℕ). OnOk c.act-done.result (IsMachineJournal x.0 x.1 (new o).signed now)) (λ t. (here.is.1 t, here.is.2 t))
          c.act-done.ensures.journal));
      disks =
          λ on. err_unless c.act-done.result c.is_err-self-inside.result c.is_err-self-inside.ensures.value on
          (stopped_disks i.deal i.conforming i.seeds i.roles (inside_questions i) i.ledgers.items xs (sw o) c.args.p (m o) (new o) (b o) (j o) now here
          c.self.invariant.actors c.self.invariant.ready (known o) good (c.self.invariant.journals (goes_on o))
          c.act-done.result c.act-done.ensures.between c.act-done.ensures.made);
      kept =
          kept_on c.act-done.result (sw o) (inside_cast i) (inside_run_state i) (after o) (Act c.args.p) (done o) (cut o) c.self.invariant.ready (known o) good;
    }

pub returns-clause-ok : goal.returns-clause-ok
returns-clause-ok c =
    let o = (goal.at.returns-clause-ok c).After-is_err-self-inside in
    rw (← c.self.view_is)
    (acted_on c.act-done.result c.self.inside c.is_err-self-inside.result _ _ c.is_err-self-inside.ensures.value (goes_on o) (done o))

pub returns-clause-told : goal.returns-clause-told
returns-clause-told c =
    let o = (goal.at.returns-clause-told c).After-is_err-self-inside in
    let i = c.self.inside in
    rw (← c.self.view_is)
    (if_told c.act-done.result
    (λ t e. e ∙ acted_told i.deal i.conforming i.seeds i.roles (inside_questions i) i.ledgers.items i.actors.items (sw o) c.args.p (m o) (j o) (place o))
    c.act-done.ensures.told)

pub returns-clause-cut : goal.returns-clause-cut
returns-clause-cut c =
    let o = (goal.at.returns-clause-cut c).After-is_err-self-inside in
    rw (← c.self.view_is)
    (cut_at c.act-done.result c.self.inside c.is_err-self-inside.result _ (after o) c.is_err-self-inside.ensures.value refl (cut o))
