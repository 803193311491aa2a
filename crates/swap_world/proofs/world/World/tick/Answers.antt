use Rattle.std.proofs.Common.{◌≡◌, ◌<◌, false, length, set, refl, sym, ap, subst, inr}
use Rattle.ledger_core.specs.Book.{Histories}
use Rattle.swap_job.specs.Step.{CanTick}
use Rattle.swap_job.specs.declared.event.Event.TheVariants.{Tick}
use Rattle.swap_run.specs.Run.{State, after_tick, step}
use Rattle.swap_run.specs.Laws.{IsGood}
use Rattle.swap_run.proofs.Good.{good_is_kept, steps_are_good}
use Rattle.swap_world.specs.Acting.{histories}
use Rattle.swap_world.specs.Inside.{inside_questions, inside_cast, inside_run_state}
use Rattle.swap_world.specs.declared.world.World.TheInside.{Inside}
use Rattle.swap_world.proofs.Disks.{disks_stay, have_signed}
use Rattle.swap_world.proofs.Ledgers.{book_ok, moved, ledger_set}
use Rattle.swap_world.proofs.Rooms.{room_on, room_unless}
use Rattle.swap_world.proofs.States.{state}
use Rattle.swap_world.proofs.Ways.{if_ok, if_err}
use Rattle.swap_world.proofs.Worlds.{acted_on, cut_at}
use Rattle.swap_world.proofs.world.World.tick.Goals as goal
use Rattle.swap_world.proofs.world.World.tick.Goals.{After-is_err-self-inside}

pub tick-done-requires-clause-room : goal.tick-done-requires-clause-room
tick-done-requires-clause-room c =
    let can = rw (← c.self.view_is) at c.requires.event in
    let below = subst (λ n. c.args.arc < n) (sym c.self.invariant.ledgers.one_each) can.arc in
    c.self.invariant.room (rw (← c.self.view_is) at c.requires.goes_on) c.args.arc c.index_mut-ledger.result.now below c.index_mut-ledger.ensures.value

-- The world behind the tick.
module _ (c : goal.After-is_err-self-inside) where
  abbrev i : Inside
  i = c.self.inside

  abbrev after : State
  after = state i.deal (inside_questions i) i.actors.items (histories (set i.ledgers.items c.args.arc c.tick-done.new.ledger))

  can : CanTick i.deal c.args.arc c.args.k
  can = rw (← c.self.view_is) at c.requires.event

  goes_on : i.stopped ≡ false
  goes_on = rw (← c.self.view_is) at c.requires.goes_on

  below : c.args.arc < length i.ledgers.items
  below = subst (λ n. c.args.arc < n) (sym c.self.invariant.ledgers.one_each) can.arc

  to : after ≡ step (inside_cast i) (inside_run_state i) (Tick c.args.arc c.args.k)
  to =
      ap (λ (b : Histories). state i.deal (inside_questions i) i.actors.items b)
      (book_ok i.ledgers.items c.args.arc c.index_mut-ledger.result.now c.tick-done.new.ledger (after_tick c.args.k) below c.index_mut-ledger.ensures.value
      c.tick-done.ensures.ticked)

pub invariant_of-self : goal.invariant_of-self
invariant_of-self c =
    let o = (goal.at.invariant_of-self c).After-is_err-self-inside in
    let i = c.self.inside in
    let l = c.index_mut-ledger.result.now in
    let new = c.tick-done.new.ledger in
    let good : IsGood (inside_cast i) (after o) =
    subst (IsGood (inside_cast i)) (sym (to o))
    (steps_are_good (inside_cast i) (inside_run_state i) (Tick c.args.arc c.args.k) c.self.invariant.ready (can o) (c.self.invariant.good (goes_on o))) in
    record {
      ready = c.self.invariant.ready;
      ledgers = ledger_set i.deal i.ledgers.items c.args.arc new c.self.invariant.ledgers (below o)
          (moved i.deal c.args.arc l new (c.self.invariant.ledgers.each c.args.arc l (below o) c.index_mut-ledger.ensures.value)
          c.tick-done.ensures.deal c.tick-done.ensures.arc c.tick-done.ensures.legal);
      actors = c.self.invariant.actors;
      askers = c.self.invariant.askers;
      told = c.self.invariant.told;
      good = λ on. good;
      room = λ on. room_unless c.tick-done.result c.is_err-self-inside.result (set i.ledgers.items c.args.arc new) c.is_err-self-inside.ensures.value on
          (room_on c.tick-done.result i.ledgers.items c.args.arc new (c.self.invariant.room (goes_on o)) c.tick-done.ensures.room);
      journals = λ on. c.self.invariant.journals (goes_on o);
      disks =
          λ on. disks_stay i.deal (after o).book i.actors.items (c.self.invariant.journals (goes_on o))
          (have_signed i.deal i.conforming i.seeds i.roles (after o) i.actors.items c.self.invariant.actors good refl);
      kept = good_is_kept (inside_cast i) (after o) c.self.invariant.ready good;
    }

pub returns-clause-ok : goal.returns-clause-ok
returns-clause-ok c =
    let o = (goal.at.returns-clause-ok c).After-is_err-self-inside in
    rw (← c.self.view_is)
    (acted_on c.tick-done.result c.self.inside c.is_err-self-inside.result _ _ c.is_err-self-inside.ensures.value (goes_on o) (if_ok c.tick-done.result (to o)))

pub returns-clause-cut : goal.returns-clause-cut
returns-clause-cut c =
    let o = (goal.at.returns-clause-cut c).After-is_err-self-inside in
    rw (← c.self.view_is)
    (cut_at c.tick-done.result c.self.inside c.is_err-self-inside.result _ (after o) c.is_err-self-inside.ensures.value refl (if_err c.tick-done.result (inr (ap (λ (t : State). t.book) (to o)))))
