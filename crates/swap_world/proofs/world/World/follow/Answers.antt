use Rattle.std.proofs.Common.{◌≡◌, ◌⊎◌, ◌<◌, ℕ, Bool, OnOk, OnErr, IfOk, set, slice_index_or, false, refl, sym, ◌∙◌, subst}
use Rattle.ledger_core.specs.Book.{Histories}
use Rattle.swap_run.specs.Script.{next_call}
use Rattle.swap_job.specs.declared.event.Event.TheVariants.{Act}
use Rattle.swap_job.specs.declared.job.Role.TheVariants as kinds
use Rattle.swap_run.specs.Called.{apply_step}
use Rattle.swap_run.specs.Run.{Plan, State, party_role}
use Rattle.swap_run.specs.Shown.{IsShown}
use Rattle.swap_world.specs.Acting.{histories, taken, seen, party_told, turned}
use Rattle.swap_world.specs.On.{is_slot_swept}
use Rattle.swap_world.specs.Inside.{inside_questions, inside_cast, inside_run_state}
use Rattle.swap_world.specs.declared.player.Player.TheVariants.{Planned}
use Rattle.swap_world.specs.declared.world.World.TheInside.{Inside}
use Rattle.swap_world.specs.Journals.{IsJournaled}
use Rattle.swap_world.proofs.Ledgers.{each_set, on_err, either}
use Rattle.swap_world.proofs.Gone.{not_asking}
use Rattle.swap_world.proofs.On.{if_told}
use Rattle.swap_world.proofs.Plans.{IsScript, scripted}
use Rattle.swap_world.proofs.Disks.{HasSigned, disks_stay, err_unless, have_either}
use Rattle.swap_world.proofs.States.{actor_set, state, followed, followed_book, followed_notes, followed_told}
use Rattle.swap_world.proofs.Worlds.{good_unless, kept_on, acted_on, cut_at, both}
use Rattle.swap_world.proofs.Places.{IsPlanOf, plan_found, plan_each, plan_before, plan_shown}
use Rattle.swap_world.proofs.Rooms.{room_unless}
use Rattle.swap_world.proofs.world.World.follow.Goals as goal
use Rattle.swap_world.proofs.world.World.follow.Goals.{In-Planned, After-is_err-self-inside}

-- What the call asks for.
module _ (c : goal.In-Planned) where
  asked : c.self.inside.stopped ≡ false
  asked = rw (← c.self.view_is) at c.requires.goes_on

  party : c.args.p < c.self.inside.deal.graph.n
  party = rw (← c.self.view_is) at c.requires.party

  found : IsPlanOf c.self.inside c.args.p c.in-Planned.planner
  found = plan_found c.self.inside c.self.invariant c.args.p party c.index_mut.result.now c.index_mut.ensures.value c.in-Planned.planner c.in-Planned.is

pub follow-done-requires-clause-known : goal.follow-done-requires-clause-known
follow-done-requires-clause-known c =
    let o = (goal.at.follow-done-requires-clause-known c).In-Planned in
    plan_each c.self.inside c.self.invariant (asked o) c.args.p (party o) c.in-Planned.planner (found o)

pub follow-done-requires-clause-begins : goal.follow-done-requires-clause-begins
follow-done-requires-clause-begins c =
    let o = (goal.at.follow-done-requires-clause-begins c).In-Planned in
    plan_before c.self.inside c.self.invariant (asked o) c.args.p (party o) c.in-Planned.planner (found o)

pub follow-done-requires-clause-shown : goal.follow-done-requires-clause-shown
follow-done-requires-clause-shown c =
    let o = (goal.at.follow-done-requires-clause-shown c).In-Planned in
    subst (λ ss. IsShown c.self.inside.deal ss c.args.p c.in-Planned.planner) (sym c.as_slice.ensures)
    (plan_shown c.self.inside c.self.invariant (asked o) c.args.p (party o) c.in-Planned.planner (found o))

-- The world behind the act.
module _ (c : goal.After-is_err-self-inside) where
  abbrev i : Inside
  i = c.self.inside

  abbrev sw : ℕ → Bool
  sw = is_slot_swept c.args.swept.now

  abbrev n : Plan
  n = c.in-Planned.planner

  abbrev new : Plan
  new = c.follow-done.new.planner

  abbrev b : Histories
  b = histories c.follow-done.new.ledgers.items

  abbrev after : State
  after = state i.deal (inside_questions i) (set i.actors.items c.args.p (Planned new)) b

  goes_on : i.stopped ≡ false
  goes_on = rw (← c.self.view_is) at c.requires.goes_on

  known : c.args.p < i.deal.graph.n
  known = rw (← c.self.view_is) at c.requires.party

  place : IsPlanOf i c.args.p n
  place = plan_found i c.self.invariant c.args.p known c.index_mut.result.now c.index_mut.ensures.value n c.in-Planned.is

  script : IsScript (party_role (inside_cast i) c.args.p)
  script =
      scripted (slice_index_or i.roles c.args.p kinds.Manual) place.is.1
      (not_asking (inside_cast i) c.args.p (rw (← c.self.view_is) at c.requires.deviates) (rw (← c.self.view_is) at c.requires.alone))

  done : OnOk c.follow-done.result (after ≡ apply_step sw (inside_cast i) (inside_run_state i) (Act c.args.p))
  done =
      both c.follow-done.result
      (followed i.deal i.conforming i.seeds i.roles (inside_questions i) i.ledgers.items i.actors.items sw c.args.p n new b place script)
      (subst (λ ss. OnOk c.follow-done.result (b ≡ taken sw i.deal c.args.p (next_call i.deal ss n.known n.moves) (histories i.ledgers.items)))
      c.as_slice.ensures c.follow-done.ensures.ok)
      (subst (λ ss. OnOk c.follow-done.result
      (new ≡ seen sw i.deal c.args.p (next_call i.deal ss n.known n.moves) (histories i.ledgers.items) (turned n)))
      c.as_slice.ensures c.follow-done.ensures.knows)

  cut : OnErr c.follow-done.result ((b ≡ (inside_run_state i).book) ⊎ (b ≡ (apply_step sw (inside_cast i) (inside_run_state i) (Act c.args.p)).book))
  cut =
      on_err c.follow-done.result (either (λ e. e)
      (λ e. e ∙ followed_book i.deal i.conforming i.seeds i.roles (inside_questions i) i.ledgers.items i.actors.items sw c.args.p n place script))
      (subst (λ ss. OnErr c.follow-done.result ((b ≡ histories i.ledgers.items)
      ⊎ (b ≡ taken sw i.deal c.args.p (next_call i.deal ss n.known n.moves) (histories i.ledgers.items))))
      c.as_slice.ensures c.follow-done.ensures.err)

pub invariant_of-self-2 : goal.invariant_of-self-2
invariant_of-self-2 c =
    let o = (goal.at.invariant_of-self-2 c).After-is_err-self-inside in
    let i = c.self.inside in
    let xs = i.actors.items in
    let new = c.follow-done.new.planner in
    let journals = each_set (IsJournaled i.deal) xs c.args.p (Planned new) (c.self.invariant.journals (goes_on o)) (place o).below tt in
    record {
      ready = c.self.invariant.ready;
      ledgers = c.follow-done.ensures.ledgers;
      actors = actor_set i.deal i.conforming i.seeds i.roles xs c.args.p (Planned new) c.self.invariant.actors (place o).below (place o).is;
      askers = c.self.invariant.askers;
      told = c.self.invariant.told;
      good = λ g. good_unless c.follow-done.result c.is_err-self-inside.result (sw o) (inside_cast i) (inside_run_state i) (after o) (Act c.args.p)
          c.is_err-self-inside.ensures.value g (done o) c.self.invariant.ready (known o) (c.self.invariant.good (goes_on o));
      room =
          λ on. room_unless c.follow-done.result c.is_err-self-inside.result c.follow-done.new.ledgers.items c.is_err-self-inside.ensures.value on
          c.follow-done.ensures.room;
      journals = λ on. journals;
      disks =
          λ on. err_unless c.follow-done.result c.is_err-self-inside.result c.is_err-self-inside.ensures.value on (on_err c.follow-done.result
          (λ two. disks_stay i.deal (b o) (set xs c.args.p (Planned new)) journals
          (each_set (HasSigned i.deal (b o)) xs c.args.p (Planned new)
          (have_either i.deal i.conforming i.seeds i.roles (inside_questions i) i.ledgers.items xs (sw o) (Act c.args.p) (b o) c.self.invariant.actors
          c.self.invariant.ready (known o) (c.self.invariant.good (goes_on o))
          (followed_notes i.deal i.conforming i.seeds i.roles (inside_questions i) i.ledgers.items xs (sw o) c.args.p (n o) (place o) (script o)) two)
          (place o).below tt)) (cut o));
      kept = kept_on c.follow-done.result (sw o) (inside_cast i) (inside_run_state i) (after o) (Act c.args.p) (done o) (cut o)
          c.self.invariant.ready (known o) (c.self.invariant.good (goes_on o));
    }

pub returns-clause-ok : goal.returns-clause-ok
returns-clause-ok c =
    let o = (goal.at.returns-clause-ok c).After-is_err-self-inside in
    rw (← c.self.view_is)
    (acted_on c.follow-done.result c.self.inside c.is_err-self-inside.result _ _ c.is_err-self-inside.ensures.value (goes_on o) (done o))

pub returns-clause-cut : goal.returns-clause-cut
returns-clause-cut c =
    let o = (goal.at.returns-clause-cut c).After-is_err-self-inside in
    rw (← c.self.view_is)
    (cut_at c.follow-done.result c.self.inside c.is_err-self-inside.result _ (after o) c.is_err-self-inside.ensures.value refl (cut o))

pub returns-clause-told : goal.returns-clause-told
returns-clause-told c =
    let o = (goal.at.returns-clause-told c).After-is_err-self-inside in
    let i = c.self.inside in
    let ls = i.ledgers.items in
    let n = c.in-Planned.planner in
    let told =
    subst (λ ss. IfOk c.follow-done.result (λ r. r ≡ party_told (sw o) i.deal c.args.p (next_call i.deal ss n.known n.moves) (histories ls))) c.as_slice.ensures
    c.follow-done.ensures.told in
    rw (← c.self.view_is)
    (if_told c.follow-done.result
    (λ t e. e ∙ followed_told i.deal i.conforming i.seeds i.roles (inside_questions i) ls i.actors.items (sw o) c.args.p n (place o) (script o)) told)

pub follow-done-requires-clause-room : goal.follow-done-requires-clause-room
follow-done-requires-clause-room c = c.self.invariant.room (rw (← c.self.view_is) at c.requires.goes_on)
