use Rattle.std.proofs.Common.{◌≡◌, ◌⊎◌, ℕ, Bool, OnOk, OnErr, IfOk, set, false, refl, ◌∙◌, subst}
use Rattle.ledger_core.specs.Book.{Histories}
use Rattle.swap_job.specs.Resolved.{resolved}
use Rattle.swap_job.specs.Step.{CanCall}
use Rattle.swap_job.specs.declared.event.Event.TheVariants.{Call as Made}
use Rattle.swap_rules.proofs.Accepted.{accepted_is_well_sized}
use Rattle.swap_run.specs.Called.{apply_step}
use Rattle.swap_run.specs.Run.{Plan, State}
use Rattle.swap_world.specs.Acting.{histories, taken, seen, party_told}
use Rattle.swap_world.specs.On.{is_slot_swept}
use Rattle.swap_world.specs.Inside.{inside_questions, inside_cast, inside_run_state}
use Rattle.swap_world.specs.declared.player.Player.TheVariants.{Planned}
use Rattle.swap_world.specs.declared.world.World.TheInside.{Inside}
use Rattle.swap_world.specs.Journals.{IsJournaled}
use Rattle.swap_world.proofs.Ledgers.{each_set, on_err, either}
use Rattle.swap_world.proofs.On.{if_told}
use Rattle.swap_world.proofs.Disks.{HasSigned, disks_stay, err_unless, have_either}
use Rattle.swap_world.proofs.States.{actor_set, state, made_by_hand, made_book, made_notes, made_told}
use Rattle.swap_world.proofs.Worlds.{good_unless, kept_on, acted_on, cut_at, both}
use Rattle.swap_world.proofs.Places.{IsPlanOf, plan_found, plan_each, plan_before}
use Rattle.swap_world.proofs.Rooms.{room_unless}
use Rattle.swap_world.proofs.world.World.make.Goals as goal
use Rattle.swap_world.proofs.world.World.make.Goals.{In-Planned, After-is_err-self-inside}

pub make_by_hand-done-requires-clause-sized : goal.make_by_hand-done-requires-clause-sized
make_by_hand-done-requires-clause-sized c = accepted_is_well_sized c.self.inside.deal c.self.invariant.ready.accepted

-- What the call asks for.
module _ (c : goal.In-Planned) where
  asked : c.self.inside.stopped ≡ false
  asked = rw (← c.self.view_is) at c.requires.goes_on

  may : CanCall c.self.inside.deal c.self.inside.conforming c.self.inside.seeds c.args.sender c.args.mv.now
  may = rw (← c.self.view_is) at c.requires.event

  found : IsPlanOf c.self.inside c.args.sender c.in-Planned.planner
  found =
      plan_found c.self.inside c.self.invariant c.args.sender may.known c.index_mut.result.now c.index_mut.ensures.value c.in-Planned.planner
      c.in-Planned.is

pub make_by_hand-done-requires-clause-known : goal.make_by_hand-done-requires-clause-known
make_by_hand-done-requires-clause-known c =
    let o = (goal.at.make_by_hand-done-requires-clause-known c).In-Planned in
    plan_each c.self.inside c.self.invariant (asked o) c.args.sender (may o).known c.in-Planned.planner (found o)

pub make_by_hand-done-requires-clause-begins : goal.make_by_hand-done-requires-clause-begins
make_by_hand-done-requires-clause-begins c =
    let o = (goal.at.make_by_hand-done-requires-clause-begins c).In-Planned in
    plan_before c.self.inside c.self.invariant (asked o) c.args.sender (may o).known c.in-Planned.planner (found o)

-- The world behind the call.
module _ (c : goal.After-is_err-self-inside) where
  abbrev i : Inside
  i = c.self.inside

  abbrev sw : ℕ → Bool
  sw = is_slot_swept c.args.swept.now

  abbrev n : Plan
  n = c.in-Planned.planner

  abbrev new : Plan
  new = c.make_by_hand-done.new.planner

  abbrev b : Histories
  b = histories c.make_by_hand-done.new.ledgers.items

  abbrev after : State
  after = state i.deal (inside_questions i) (set i.actors.items c.args.sender (Planned new)) b

  goes_on : i.stopped ≡ false
  goes_on = rw (← c.self.view_is) at c.requires.goes_on

  can : CanCall i.deal i.conforming i.seeds c.args.sender c.args.mv.now
  can = rw (← c.self.view_is) at c.requires.event

  place : IsPlanOf i c.args.sender n
  place = plan_found i c.self.invariant c.args.sender can.known c.index_mut.result.now c.index_mut.ensures.value n c.in-Planned.is

  done : OnOk c.make_by_hand-done.result (after ≡ apply_step sw (inside_cast i) (inside_run_state i) (Made c.args.sender c.args.mv.now))
  done =
      both c.make_by_hand-done.result
      (made_by_hand i.deal i.conforming i.seeds i.roles (inside_questions i) i.ledgers.items i.actors.items sw c.args.sender c.args.mv.now n new b place)
      (subst (λ ss. OnOk c.make_by_hand-done.result
      (b ≡ taken sw i.deal c.args.sender (resolved i.deal ss (histories i.ledgers.items) c.args.mv.now) (histories i.ledgers.items)))
      c.as_slice.ensures c.make_by_hand-done.ensures.ok)
      (subst (λ ss. OnOk c.make_by_hand-done.result
      (new ≡ seen sw i.deal c.args.sender (resolved i.deal ss (histories i.ledgers.items) c.args.mv.now) (histories i.ledgers.items) n))
      c.as_slice.ensures c.make_by_hand-done.ensures.knows)

  cut : OnErr c.make_by_hand-done.result
      ((b ≡ (inside_run_state i).book) ⊎ (b ≡ (apply_step sw (inside_cast i) (inside_run_state i) (Made c.args.sender c.args.mv.now)).book))
  cut =
      on_err c.make_by_hand-done.result (either (λ e. e)
      (λ e. e ∙ made_book i.deal i.conforming i.seeds i.roles (inside_questions i) i.ledgers.items i.actors.items sw c.args.sender c.args.mv.now n place))
      (subst (λ ss. OnErr c.make_by_hand-done.result ((b ≡ histories i.ledgers.items)
      ⊎ (b ≡ taken sw i.deal c.args.sender (resolved i.deal ss (histories i.ledgers.items) c.args.mv.now) (histories i.ledgers.items))))
      c.as_slice.ensures c.make_by_hand-done.ensures.err)

pub invariant_of-self-2 : goal.invariant_of-self-2
invariant_of-self-2 c =
    let o = (goal.at.invariant_of-self-2 c).After-is_err-self-inside in
    let i = c.self.inside in
    let xs = i.actors.items in
    let new = c.make_by_hand-done.new.planner in
    let journals = each_set (IsJournaled i.deal) xs c.args.sender (Planned new) (c.self.invariant.journals (goes_on o)) (place o).below tt in
    record {
      ready = c.self.invariant.ready;
      ledgers = c.make_by_hand-done.ensures.ledgers;
      actors = actor_set i.deal i.conforming i.seeds i.roles xs c.args.sender (Planned new) c.self.invariant.actors (place o).below (place o).is;
      askers = c.self.invariant.askers;
      told = c.self.invariant.told;
      good = λ g. good_unless c.make_by_hand-done.result c.is_err-self-inside.result (sw o) (inside_cast i) (inside_run_state i) (after o)
          (Made c.args.sender c.args.mv.now) c.is_err-self-inside.ensures.value g (done o)
          c.self.invariant.ready (can o) (c.self.invariant.good (goes_on o));
      room =
          λ on. room_unless c.make_by_hand-done.result c.is_err-self-inside.result c.make_by_hand-done.new.ledgers.items
          c.is_err-self-inside.ensures.value on c.make_by_hand-done.ensures.room;
      journals = λ on. journals;
      disks =
          λ on. err_unless c.make_by_hand-done.result c.is_err-self-inside.result c.is_err-self-inside.ensures.value on
          (on_err c.make_by_hand-done.result (λ two. disks_stay i.deal (b o) (set xs c.args.sender (Planned new)) journals
          (each_set (HasSigned i.deal (b o)) xs c.args.sender (Planned new)
          (have_either i.deal i.conforming i.seeds i.roles (inside_questions i) i.ledgers.items xs (sw o) (Made c.args.sender c.args.mv.now) (b o)
          c.self.invariant.actors c.self.invariant.ready (can o) (c.self.invariant.good (goes_on o))
          (made_notes i.deal i.conforming i.seeds i.roles (inside_questions i) i.ledgers.items xs (sw o) c.args.sender c.args.mv.now (n o) (place o)) two)
          (place o).below tt)) (cut o));
      kept = kept_on c.make_by_hand-done.result (sw o) (inside_cast i) (inside_run_state i) (after o) (Made c.args.sender c.args.mv.now) (done o) (cut o)
          c.self.invariant.ready (can o) (c.self.invariant.good (goes_on o));
    }

pub returns-clause-ok : goal.returns-clause-ok
returns-clause-ok c =
    let o = (goal.at.returns-clause-ok c).After-is_err-self-inside in
    rw (← c.self.view_is)
    (acted_on c.make_by_hand-done.result c.self.inside c.is_err-self-inside.result _ _ c.is_err-self-inside.ensures.value (goes_on o) (done o))

pub returns-clause-cut : goal.returns-clause-cut
returns-clause-cut c =
    let o = (goal.at.returns-clause-cut c).After-is_err-self-inside in
    rw (← c.self.view_is)
    (cut_at c.make_by_hand-done.result c.self.inside c.is_err-self-inside.result _ (after o) c.is_err-self-inside.ensures.value refl (cut o))

pub returns-clause-told : goal.returns-clause-told
returns-clause-told c =
    let i = c.self.inside in
    let sw = is_slot_swept c.args.swept.now in
    let ls = i.ledgers.items in
    let xs = i.actors.items in
    let told =
    subst (λ ss. IfOk c.make_by_hand-done.result (λ r. r ≡ party_told sw i.deal c.args.sender (resolved i.deal ss (histories ls) c.args.mv.now) (histories ls)))
    c.as_slice.ensures c.make_by_hand-done.ensures.told in
    rw (← c.self.view_is)
    (if_told c.make_by_hand-done.result
    (λ t e. e ∙ made_told i.deal i.conforming i.seeds i.roles (inside_questions i) ls xs sw c.args.sender c.args.mv.now) told)

pub make_by_hand-done-requires-clause-room : goal.make_by_hand-done-requires-clause-room
make_by_hand-done-requires-clause-room c = c.self.invariant.room (rw (← c.self.view_is) at c.requires.goes_on)
