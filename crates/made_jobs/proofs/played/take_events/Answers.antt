use Rattle.std.proofs.Common.{ℕ}
use Rattle.swap_gen.specs.Drawn.{generated}
use Rattle.made_jobs.proofs.Drawing.{draws, none_left}
use Rattle.swap_world.proofs.Plain.{plain_step}
use Rattle.swap_world.proofs.Team.{unasked_are_held}
use Rattle.made_jobs.proofs.Playing.{can_step, is_still, goes_on_still, one_more, all_taken, unasked_in}
use Rattle.made_jobs.proofs.played.take_events.Goals as goal

pub step-requires : goal.step-requires
step-requires g c =
    let i = c.events.invariant in
    let seed : ℕ = c.args.generator.now.seed in
    let n : ℕ = c.args.generator.now.parties in
    record {
      event = can_step seed n c.events.generator c.events.world c.next_event-event.result i.at.seed_is i.at.parties_are i.head_matches
          c.next_event-event.ensures.fits;
      held = unasked_are_held _ c.events.world.roles (unasked_in seed n c.events.world i.head_matches);
    }

pub events-preserved : goal.events-preserved
events-preserved g c =
    let i = c.events.invariant in
    let e = c.next_event-event.ensures in
    let seed : ℕ = c.args.generator.now.seed in
    let n : ℕ = c.args.generator.now.parties in
    let d = draws seed n c.args.events c.events._e c.events.generator c.next_event-event.new.self c.next_event-event.result c.events-test.true i.at e.event
    e.drawn in
    record {
      at = d.on;
      head_matches = is_still _ _ c.events.world c.step.new.self c.in_ok-step.ensures.ok (generated seed n) i.head_matches;
      goes_on = goes_on_still _ _ c.events.world c.step.new.self c.in_ok-step.ensures.ok i.goes_on;
      rest = one_more (generated seed n) c.events.world c.step.new.self c.next_event-event.result _ _ _ i.head_matches
          (plain_step _ c.events.world c.step.new.self (unasked_in seed n c.events.world i.head_matches) c.next_event-event.result c.in_ok-step.ensures.ok)
          d.first i.rest;
    }

pub returns-clause-seed : goal.returns-clause-seed
returns-clause-seed g c = c.events.invariant.at.seed_is

pub returns-clause-parties : goal.returns-clause-parties
returns-clause-parties g c = c.events.invariant.at.parties_are

pub returns-clause-state : goal.returns-clause-state
returns-clause-state g c =
    let i = c.events.invariant in
    let seed : ℕ = c.args.generator.now.seed in
    let n : ℕ = c.args.generator.now.parties in
    all_taken (generated seed n) c.events.world.state _ _ (none_left seed n c.args.events c.events._e c.events.generator c.events-test.false i.at) i.rest
