use Rattle.std.proofs.Common.{◌≡◌, ◌<◌, length, false, set, slice_index_or, None, sym, ap, ◌∙◌, subst}
use Rattle.std.specs.Prelude.{OnOk, OnErr}
use Rattle.std.proofs.lemmas.Bool.{false≢true}
use Rattle.swap_job.specs.Step.{CanLook}
use Rattle.swap_job.specs.declared.event.Event.TheVariants.{Look}
use Rattle.swap_job.specs.declared.job.Role.TheVariants as kinds
use Rattle.swap_run.specs.Run.{State, step}
use Rattle.swap_world.specs.Acting.{histories}
use Rattle.swap_world.specs.Inside.{inside_questions, inside_cast, inside_run_state, IsPartyActor}
use Rattle.swap_world.specs.Journals.{IsJournaled}
use Rattle.swap_world.specs.Players.{Actor, knowing_ledger}
use Rattle.swap_world.specs.declared.world.World.TheInside.{Inside}
use Rattle.swap_world.proofs.Ledgers.{each_set, on_ok, on_err}
use Rattle.swap_world.proofs.States.{actor_set, same_actor, saw, state}
use Rattle.swap_world.proofs.Worlds.{world, good_on}
use Rattle.swap_world.proofs.Places.{became, can_learn, knows, still_journaled, still_party}
use Rattle.swap_world.proofs.world.World.look.Goals as goal
use Rattle.swap_world.proofs.world.World.look.Goals.{After-learn}

pub learn-requires : goal.learn-requires
learn-requires c =
    let i = c.self.inside in
    let can : CanLook i.deal c.args.p c.args.arc = rw (← c.self.view_is) at c.requires.event in
    can_learn i c.self.invariant (rw (← c.self.view_is) at c.requires.goes_on) c.args.p can.known c.args.arc c.index.result.now
    (subst (λ n. c.args.arc < n) (sym c.self.invariant.ledgers.one_each) can.arc) c.index.ensures c.index_mut.result.now c.index_mut.ensures.value

-- The world behind the look.
module _ (c : goal.After-learn) where
  abbrev i : Inside
  i = c.self.inside

  abbrev x : Actor
  x = c.index_mut.result.now

  abbrev new : Actor
  new = c.learn.new.self

  abbrev after : State
  after = state i.deal (inside_questions i) (set i.actors.items c.args.p new) (histories i.ledgers.items)

  goes_on : i.stopped ≡ false
  goes_on = rw (← c.self.view_is) at c.requires.goes_on

  can : CanLook i.deal c.args.p c.args.arc
  can = rw (← c.self.view_is) at c.requires.event

  low : c.args.p < length i.actors.items
  low = subst (λ n. c.args.p < n) (sym c.self.invariant.actors.one_each) can.known

  -- which party's player stands there
  abbrev Is : Actor → Type 0
  Is y =
      IsPartyActor i.deal (slice_index_or i.conforming c.args.p false) (slice_index_or i.seeds c.args.p None) (slice_index_or i.roles c.args.p kinds.Manual)
      c.args.p y

  is : Is x
  is = c.self.invariant.actors.each c.args.p x low c.index_mut.ensures.value

  saw_it : OnOk c.learn.result (after ≡ step (inside_cast i) (inside_run_state i) (Look c.args.p c.args.arc))
  saw_it =
      let below = subst (λ n. c.args.arc < n) (sym c.self.invariant.ledgers.one_each) can.arc in
      on_ok c.learn.result (λ (e : new ≡ knowing_ledger x c.index.result.now.arc c.index.result.now.history).
      saw i.deal i.conforming i.seeds i.roles (inside_questions i) i.ledgers.items i.actors.items c.args.p c.args.arc x new low c.index_mut.ensures.value is
      (e ∙ knows i c.self.invariant goes_on c.args.p can.known c.args.arc c.index.result.now below c.index.ensures x)) c.learn.ensures.ok

  same : OnErr c.learn.result (after ≡ inside_run_state i)
  same =
      on_err c.learn.result (same_actor i.deal i.conforming i.seeds i.roles (inside_questions i) i.ledgers.items i.actors.items c.args.p x new
      (histories i.ledgers.items) c.index_mut.ensures.value) c.learn.ensures.err

pub invariant_of-self : goal.invariant_of-self
invariant_of-self c =
    let o = (goal.at.invariant_of-self c).After-learn in
    let i = c.self.inside in
    let xs = i.actors.items in
    record {
      ready = c.self.invariant.ready;
      ledgers = c.self.invariant.ledgers;
      actors = actor_set i.deal i.conforming i.seeds i.roles xs c.args.p (new o) c.self.invariant.actors (low o)
          (became c.learn.result (Is o) (x o) (knowing_ledger (x o) c.index.result.now.arc c.index.result.now.history) (new o) c.learn.ensures.ok c.learn.ensures.err
          (still_party i.deal (slice_index_or i.conforming c.args.p false) (slice_index_or i.seeds c.args.p None) (slice_index_or i.roles c.args.p kinds.Manual)
          c.args.p (x o) c.index.result.now.arc c.index.result.now.history (is o)) (is o));
      askers = c.self.invariant.askers;
      told = c.self.invariant.told;
      good = λ g. good_on c.learn.result (λ a. false) (inside_cast i) (inside_run_state i) (after o) (Look c.args.p c.args.arc) (saw_it o) (same o)
          c.self.invariant.ready (can o) (c.self.invariant.good g);
      room = c.self.invariant.room;
      journals = λ on. each_set (IsJournaled i.deal) xs c.args.p (new o) (c.self.invariant.journals on) (low o)
          (let had = c.self.invariant.journals on c.args.p (x o) (low o) c.index_mut.ensures.value in
          became c.learn.result (IsJournaled i.deal c.args.p) (x o) (knowing_ledger (x o) c.index.result.now.arc c.index.result.now.history) (new o)
          c.learn.ensures.ok c.learn.ensures.err (still_journaled i.deal c.args.p (x o) c.index.result.now.arc c.index.result.now.history had) had);
      disks = λ on. absurd (false≢true (sym (goes_on o) ∙ on));
      kept = c.self.invariant.kept;
    }

pub returns-clause-ok : goal.returns-clause-ok
returns-clause-ok c =
    let o = (goal.at.returns-clause-ok c).After-learn in
    let i = c.self.inside in
    rw (← c.self.view_is) (on_ok c.learn.result (λ e. ap (λ st. world i.deal i.conforming i.seeds i.roles i.answers.items i.stopped st) e) (saw_it o))

pub returns-clause-err : goal.returns-clause-err
returns-clause-err c =
    let o = (goal.at.returns-clause-err c).After-learn in
    let i = c.self.inside in
    rw (← c.self.view_is) (on_err c.learn.result (λ e. ap (λ st. world i.deal i.conforming i.seeds i.roles i.answers.items i.stopped st) e) (same o))
