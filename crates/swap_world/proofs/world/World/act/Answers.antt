use Rattle.std.proofs.Common.{◌≡◌, ◌<◌, ◌+◌, ℕ, Bool, ◌∷◌, [], length, get_or, false, refl, sym, ap, set, ◌∙◌, subst, length-append}
use Rattle.std.specs.Prelude.{Result, OnOk, OnErr, IfOk}
use Rattle.std.proofs.lemmas.List.{get_or_default}
use Rattle.ledger_core.specs.Book.{history, Histories}
use Rattle.swap_rules.specs.Machine.{Begins}
use Rattle.swap_job.specs.declared.job.Role.{Role}
use Rattle.swap_job.specs.declared.job.Role.TheVariants as kinds
use Rattle.swap_run.specs.Run.{Plan, State}
use Rattle.swap_world.specs.Acting.{histories, seen, asked_once}
use Rattle.swap_world.specs.On.{is_slot_swept, event_told, IsCutWithSweeps}
use Rattle.swap_world.specs.declared.player.Player.TheVariants.{Planned}
use Rattle.swap_world.specs.declared.world.World.TheInside.{Inside}
use Rattle.swap_world.specs.Journals.{IsJournaled}
use Rattle.swap_world.specs.Cast.{asks}
use Rattle.swap_run.specs.Asked.{Answers}
use Rattle.swap_run.specs.Called.{apply_step}
use Rattle.swap_base.specs.declared.fault.NoMemory.{NoMemory}
use Rattle.swap_world.specs.declared.call_outcome.Told.{Told}
use Rattle.swap_world.specs.Gone.{MayGive, HasGone, IsCutAt}
use Rattle.swap_world.specs.Value.{WorldState, world_cast, answering_cast, Continues}
use Rattle.swap_world.specs.Inside.{inside_cast, inside_questions}
use Rattle.swap_run.specs.Asked.{is_strategy}
use Rattle.swap_job.specs.declared.event.Event.TheVariants.{Act}
use Rattle.swap_world.proofs.Gone.{alone_by_role, cut, names_none, quiet_act, stepping, told_any, told_same, went}
use Rattle.swap_world.proofs.Asks.{IsAsking, good_asked, has_gone, is_cut, kept_asked, has_told, signed_asked}
use Rattle.swap_world.proofs.Disks.{HasSigned, disks_stay}
use Rattle.swap_world.proofs.Ledgers.{each_set, on_ok}
use Rattle.swap_world.proofs.States.{actor_set, same_actor, state}
use Rattle.swap_world.proofs.Worlds.{world}
use Rattle.swap_world.proofs.Places.{IsPlanOf, alone_unplanned, plan_found, plan_each, plan_before, plan_shown}
use Rattle.swap_world.proofs.Rooms.{room_unless}
use Rattle.swap_world.proofs.world.World.act.Given as given
use Rattle.swap_world.proofs.world.World.act.Goals as goal
use Rattle.swap_world.proofs.world.World.act.Goals.{In_default, In_default-index_mut, In-Planned, After-is_err-self-inside}

-- What the question asks for.
module _ (g : given.Over) (c : goal.In-Planned g) where
  asked : c.self.inside.stopped ≡ false
  asked = rw (← c.self.view_is) at c.requires.goes_on

  party : c.args.p < c.self.inside.deal.graph.n
  party = rw (← c.self.view_is) at c.requires.party

  found : IsPlanOf c.self.inside c.args.p c.in-Planned.planner
  found = plan_found c.self.inside c.self.invariant c.args.p party c.index_mut.result.now c.index_mut.ensures.value c.in-Planned.planner c.in-Planned.is

pub ask-requires-clause-view : goal.ask-requires-clause-view
ask-requires-clause-view g c =
    let o = (goal.at.ask-requires-clause-view g c).In-Planned in
    (plan_shown c.self.inside c.self.invariant (asked g o) c.args.p (party g o) c.in-Planned.planner (found g o)).view

pub take-done-requires-clause-known : goal.take-done-requires-clause-known
take-done-requires-clause-known g c =
    let o = (goal.at.take-done-requires-clause-known g c).In-Planned in
    ap (λ (m : Plan). length m.known) c.in_ok-answer.ensures.turned
    ∙ plan_each c.self.inside c.self.invariant (asked g o) c.args.p (party g o) c.in-Planned.planner (found g o)

pub take-done-requires-clause-begins : goal.take-done-requires-clause-begins
take-done-requires-clause-begins g c = λ a.
    let o = (goal.at.take-done-requires-clause-begins g c).In-Planned in
    subst (λ (m : Plan). Begins (history m.known a) (history (histories c.self.inside.ledgers.items) a)) (sym c.in_ok-answer.ensures.turned)
    (plan_before c.self.inside c.self.invariant (asked g o) c.args.p (party g o) c.in-Planned.planner (found g o) a)

-- The world behind the act.
module _ (g : given.Over) (c : goal.After-is_err-self-inside g) where
  abbrev i : Inside
  i = c.self.inside

  abbrev sw : ℕ → Bool
  sw = is_slot_swept c.args.swept.now

  abbrev n : Plan
  n = c.in-Planned.planner

  abbrev new : Plan
  new = c.take-done.new.planner

  abbrev b : Histories
  b = histories c.take-done.new.ledgers.items

  goes_on : i.stopped ≡ false
  goes_on = rw (← c.self.view_is) at c.requires.goes_on

  known : c.args.p < i.deal.graph.n
  known = rw (← c.self.view_is) at c.requires.party

  place : IsPlanOf i c.args.p n
  place = plan_found i c.self.invariant c.args.p known c.index_mut.result.now c.index_mut.ensures.value n c.in-Planned.is

  asking : IsAsking (g.A.Strategies.gives c.args.strategies.now) i.deal i.conforming i.seeds i.roles i.askers.items i.told.items i.answers.items i.ledgers.items
      i.actors.items c.args.p n c.in-Strategy.name c.in_ok-answer.answer c.and-askers.result.items c.and-told.result.items c.and-self-inside.result.items
  asking =
      let r : Role = c.index-as_slice-p.result in
      let low : c.args.p < length i.roles = subst (λ m. c.args.p < m) (sym c.self.invariant.ready.roles) known in
      record {
        askers = c.self.invariant.askers;
        told = c.self.invariant.told;
        place = place;
        role =
            get_or_default i.roles c.args.p kinds.Manual r low
            ∙ (sym (subst (λ rs. r ≡ get_or rs c.args.p r) c.as_slice.ensures c.index-as_slice-p.is) ∙ c.in-Strategy.is);
        may = c.in_ok-answer.ensures.fits;
        given = c.in_ok-answer.ensures.gives;
        asker = c.and-askers.ensures;
        plan = c.and-told.ensures;
        answer = c.and-self-inside.ensures;
      }

  knows : OnOk c.take-done.result (new ≡ seen sw i.deal c.args.p c.in_ok-answer.answer (histories i.ledgers.items) (asked_once n))
  knows =
      on_ok c.take-done.result (λ (e : new ≡ seen sw i.deal c.args.p c.in_ok-answer.answer (histories i.ledgers.items) c.ask.new.self).
      e ∙ ap (λ (m : Plan). seen sw i.deal c.args.p c.in_ok-answer.answer (histories i.ledgers.items) m) c.in_ok-answer.ensures.turned)
      c.take-done.ensures.knows

pub invariant_of-self-2 : goal.invariant_of-self-2
invariant_of-self-2 g c =
    let o = (goal.at.invariant_of-self-2 g c).After-is_err-self-inside in
    let i = c.self.inside in
    let xs = i.actors.items in
    let new = c.take-done.new.planner in
    let k = asking g o in
    let here = place g o in
    let good = c.self.invariant.good (goes_on g o) in
    let more = ap length c.and-self-inside.ensures ∙ length-append i.answers.items (c.in_ok-answer.answer ∷ []) in
    let journals = each_set (IsJournaled i.deal) xs c.args.p (Planned new) (c.self.invariant.journals (goes_on g o)) here.below tt in
    record {
      ready = c.self.invariant.ready;
      ledgers = c.take-done.ensures.ledgers;
      actors = actor_set i.deal i.conforming i.seeds i.roles xs c.args.p (Planned new) c.self.invariant.actors here.below here.is;
      askers = ap length c.and-askers.ensures ∙ (length-append i.askers.items (c.args.p ∷ []) ∙ (ap (λ m. m + 1) c.self.invariant.askers ∙ sym more));
      told = ap length c.and-told.ensures ∙ (length-append i.told.items (n g o ∷ []) ∙ (ap (λ m. m + 1) c.self.invariant.told ∙ sym more));
      good = λ on. good_asked (sw g o) k c.take-done.result c.is_err-self-inside.result new (b g o) c.is_err-self-inside.ensures.value on
          c.take-done.ensures.leaves (knows g o) c.self.invariant.ready (known g o) good;
      room =
          λ on. room_unless c.take-done.result c.is_err-self-inside.result c.take-done.new.ledgers.items c.is_err-self-inside.ensures.value on
          c.take-done.ensures.room;
      journals = λ on. journals;
      disks =
          λ on. disks_stay i.deal (b g o) (set xs c.args.p (Planned new)) journals
          (each_set (HasSigned i.deal (b g o)) xs c.args.p (Planned new)
          (signed_asked (sw g o) k (b g o) c.take-done.ensures.leaves c.self.invariant.actors c.self.invariant.ready (known g o) good) here.below tt);
      kept = kept_asked (sw g o) k (b g o) c.take-done.ensures.leaves c.self.invariant.ready (known g o) good;
    }

pub returns-clause-ok : goal.returns-clause-ok
returns-clause-ok g c =
    let o = (goal.at.returns-clause-ok g c).After-is_err-self-inside in
    rw (← c.self.view_is) (has_gone (sw g o) (asking g o) c.take-done.result c.self.inside.stopped c.is_err-self-inside.result c.take-done.new.planner (b g o)
    c.is_err-self-inside.ensures.value (goes_on g o) c.take-done.ensures.leaves (knows g o))

pub returns-clause-cut : goal.returns-clause-cut
returns-clause-cut g c =
    let o = (goal.at.returns-clause-cut g c).After-is_err-self-inside in
    rw (← c.self.view_is) (is_cut (sw g o) (asking g o) c.take-done.result c.self.inside.stopped c.is_err-self-inside.result c.take-done.new.planner (b g o)
    c.take-done.ensures.leaves)

pub returns-clause-told : goal.returns-clause-told
returns-clause-told g c =
    let o = (goal.at.returns-clause-told g c).After-is_err-self-inside in
    rw (← c.self.view_is) (has_told (sw g o) (asking g o) c.take-done.result c.take-done.ensures.told)

pub take-done-requires-clause-room : goal.take-done-requires-clause-room
take-done-requires-clause-room g c = c.self.invariant.room (rw (← c.self.view_is) at c.requires.goes_on)

-- A party that asks no strategy.

-- its role names none
module _ (g : given.Over) (c : goal.In_default g) where
  unnamed : asks (world_cast c.args.self.now) c.args.p ≡ false
  unnamed =
      let i = c.self.inside in
      let known : c.args.p < i.deal.graph.n = rw (← c.self.view_is) at c.requires.party in
      let low : c.args.p < length i.roles = subst (λ m. c.args.p < m) (sym c.self.invariant.ready.roles) known in
      let r : Role = c.index-as_slice-p.result in
      let is : get_or i.roles c.args.p kinds.Manual ≡ r =
      get_or_default i.roles c.args.p kinds.Manual r low ∙ sym (subst (λ rs. r ≡ get_or rs c.args.p r) c.as_slice.ensures c.index-as_slice-p.is) in
      subst (λ (w : WorldState). asks (world_cast w) c.args.p ≡ false) c.self.view_is
      (alone_by_role (inside_cast i) c.args.p (ap is_strategy is ∙ names_none r c.in_default.not-Strategy))

-- it has no planner, and stands where it stood
module _ (g : given.Over) (c : goal.In_default-index_mut g) where
  abbrev put_back : WorldState
  put_back =
      let i = c.self.inside in
      world i.deal i.conforming i.seeds i.roles i.answers.items i.stopped
      (state i.deal (inside_questions i) (set i.actors.items c.args.p c.index_mut.result.now) (histories i.ledgers.items))

  unplanned : asks (world_cast put_back) c.args.p ≡ false
  unplanned =
      alone_unplanned c.self.inside c.self.invariant c.args.p (rw (← c.self.view_is) at c.requires.party) c.index_mut.result.now c.index_mut.ensures.value
      c.in_default-index_mut.not-Planned

  unmoved : put_back ≡ c.args.self.now
  unmoved =
      let i = c.self.inside in
      let x = c.index_mut.result.now in
      ap (λ (st : State). world i.deal i.conforming i.seeds i.roles i.answers.items i.stopped st)
      (same_actor i.deal i.conforming i.seeds i.roles (inside_questions i) i.ledgers.items i.actors.items c.args.p x x (histories i.ledgers.items)
      c.index_mut.ensures.value refl)
      ∙ c.self.view_is

abbrev Does : MayGive → (ℕ → Bool) → ℕ → (old new : WorldState) → Result Told NoMemory → Type 0
Does gives sw p old new r = record {
  ok : OnOk r (HasGone gives (λ c s. apply_step sw c s (Act p)) old new);
  told : IfOk r (λ t. (g : Answers) → Continues new g → t ≡ event_told sw (answering_cast old g) old.state (Act p));
  cut : OnErr r (IsCutWithSweeps gives sw (Act p) old new);
}

alone : (gives : MayGive) (sw : ℕ → Bool) (p : ℕ) (old new : WorldState) (r : Result Told NoMemory) → asks (world_cast old) p ≡ false
    → OnOk r (new ≡ record old { state = apply_step sw (world_cast old) old.state (Act p) })
    → IfOk r (λ t. t ≡ event_told sw (world_cast old) old.state (Act p)) → OnErr r (IsCutAt (apply_step sw (world_cast old) old.state (Act p)) old new)
    → Does gives sw p old new r
alone gives sw p old new r none is says stops =
    let quiet = quiet_act sw (world_cast old) old.state p none in
    record {
      ok = went r gives (stepping sw (Act p)) old new quiet is;
      told = told_any r new (λ a. event_told sw (answering_cast old a) old.state (Act p)) (event_told sw (world_cast old) old.state (Act p))
          (λ a. told_same sw (world_cast old) old.state p a none) says;
      cut = cut r gives (stepping sw (Act p)) old new quiet stops;
    }

pub returns-in_default : goal.returns-in_default
returns-in_default g c =
    alone (g.A.Strategies.gives c.args.strategies.now) (is_slot_swept c.args.swept.now) c.args.p c.args.self.now c.act_alone.new.self
    c.act_alone.result (unnamed g (goal.at.returns-in_default g c).In_default) c.act_alone.ensures.ok c.act_alone.ensures.told c.act_alone.ensures.cut

pub returns-in_default-index_mut : goal.returns-in_default-index_mut
returns-in_default-index_mut g c =
    let o = (goal.at.returns-in_default-index_mut g c).In_default-index_mut in
    let e = c.act_alone-in_default-index_mut.ensures in
    let gives = g.A.Strategies.gives c.args.strategies.now in
    let sw = is_slot_swept c.args.swept.now in
    let new = c.act_alone-in_default-index_mut.new.self in
    let r = c.act_alone-in_default-index_mut.result in
    subst (λ (old : WorldState). Does gives sw c.args.p old new r) (unmoved g o)
    (alone gives sw c.args.p (put_back g o) new r (unplanned g o) e.ok e.told e.cut)
