use Rattle.std.proofs.Common.{◌≡◌, ◌<◌, false, refl, sym, ap, ◌∙◌, subst}
use Rattle.std.specs.List.{All}
use Rattle.ledger_core.specs.Book.{Histories}
use Rattle.swap_run.specs.Run.{State}
use Rattle.swap_run.specs.Laws.{IsGood}
use Rattle.swap_run.proofs.Good.{good_is_kept}
use Rattle.swap_world.specs.Inside.{inside_questions, inside_cast, inside_run_state}
use Rattle.swap_world.specs.Acting.{histories}
use Rattle.swap_world.specs.On.{tick_arcs}
use Rattle.swap_world.specs.declared.world.World.TheInside.{Inside}
use Rattle.swap_world.proofs.Disks.{disks_stay, have_signed}
use Rattle.swap_world.proofs.Rooms.{ticked_state, ticked_good, on_from}
use Rattle.swap_world.proofs.States.{state}
use Rattle.swap_world.proofs.world.World.tick_ledgers.Goals as goal
use Rattle.swap_world.proofs.world.World.tick_ledgers.Goals.{After-tick_all-ready}

pub tick_all-ready-requires-clause-arcs : goal.tick_all-ready-requires-clause-arcs
tick_all-ready-requires-clause-arcs c =
    subst (λ n. All (λ a. a < n) c.args.on.now) (sym c.self.invariant.ledgers.one_each) (rw (← c.self.view_is) at c.requires.arcs)

pub tick_all-ready-requires-clause-room : goal.tick_all-ready-requires-clause-room
tick_all-ready-requires-clause-room c = c.self.invariant.room (rw (← c.self.view_is) at c.requires.goes_on)

-- The world behind the ticks.
module _ (c : goal.After-tick_all-ready) where
  abbrev i : Inside
  i = c.self.inside

  abbrev after : State
  after = state i.deal (inside_questions i) i.actors.items (histories c.tick_all-ready.new.ledgers.items)

  goes_on : i.stopped ≡ false
  goes_on = rw (← c.self.view_is) at c.requires.goes_on

  to : after ≡ tick_arcs c.args.on.now c.args.k (inside_cast i) (inside_run_state i)
  to =
      ap (λ (b : Histories). state i.deal (inside_questions i) i.actors.items b) c.tick_all-ready.ensures.ticked
      ∙ sym (ticked_state c.args.k (inside_cast i) (inside_run_state i) c.args.on.now)

  good : IsGood (inside_cast i) after
  good =
      subst (IsGood (inside_cast i)) (sym to)
      (ticked_good c.args.k (inside_cast i) (inside_run_state i) c.args.on.now c.requires.some c.requires.below (rw (← c.self.view_is) at c.requires.arcs)
      c.self.invariant.ready (c.self.invariant.good goes_on))

pub invariant_of-self : goal.invariant_of-self
invariant_of-self c =
    let o = (goal.at.invariant_of-self c).After-tick_all-ready in
    let i = c.self.inside in
    record {
      ready = c.self.invariant.ready;
      ledgers = c.tick_all-ready.ensures.ledgers;
      actors = c.self.invariant.actors;
      askers = c.self.invariant.askers;
      told = c.self.invariant.told;
      good = λ e. good o;
      room = λ e. c.tick_all-ready.ensures.room (on_from c.tick_all-ready.result e);
      journals = λ e. c.self.invariant.journals (goes_on o);
      disks =
          λ e. disks_stay i.deal (after o).book i.actors.items (c.self.invariant.journals (goes_on o))
          (have_signed i.deal i.conforming i.seeds i.roles (after o) i.actors.items c.self.invariant.actors (good o) refl);
      kept = good_is_kept (inside_cast i) (after o) c.self.invariant.ready (good o);
    }

pub returns-clause-ticked : goal.returns-clause-ticked
returns-clause-ticked c = rw (← c.self.view_is) (to (goal.at.returns-clause-ticked c).After-tick_all-ready)

pub returns-clause-kept : goal.returns-clause-kept
returns-clause-kept c =
    let o = (goal.at.returns-clause-kept c).After-tick_all-ready in
    good_is_kept (inside_cast c.self.inside) (after o) c.self.invariant.ready (good o)
