use Rattle.std.proofs.Common.{rules, ap, ◌∙◌}
use Rattle.std.proofs.lemmas.List.{with_items_is, places}
use Rattle.swap_world.specs.Players.{Racer}
use Rattle.swap_world.proofs.Ledgers.{on_ok}
use Rattle.party_threads.specs.declared.turn.Actor.TheVariants.{Party}
use Rattle.party_threads.proofs.Playing.{conforming_did, planned_did}
use Rattle.party_threads.proofs.play.play.Goals as goal

pub returns-in-Party-Conforming-clause-did : goal.returns-in-Party-Conforming-clause-did
returns-in-Party-Conforming-clause-did g c =
    let t = c.args.turn.now in
    let new = c.take_machine_turn.new in
    on_ok c.take_machine_turn.result
    (conforming_did (g.A.Strategies.gives c.args.strategies.now) c.args.side.now.job.now c.args.ticks c.args.side.now.me t.passes.items new.passes _ t.clocks.items
    t.clocks.items t.actor (with_items_is t.passes new.passes (search (rules, places))) c.in-Party-Conforming.machine new.machine
    (c.in-Party-Conforming.is ∙ ap (λ (x : Racer). Party x) c.in-Party-Conforming.field-0-is))
    (rw c.as_mut_slice.ensures.value at c.take_machine_turn.ensures.acted)

pub returns-in-Party-Planned-clause-did : goal.returns-in-Party-Planned-clause-did
returns-in-Party-Planned-clause-did g c =
    let t = c.args.turn.now in
    let new = c.take_planner_turn.new in
    on_ok c.take_planner_turn.result
    (planned_did (g.A.Strategies.gives c.args.strategies.now) c.args.side.now.job.now c.args.ticks c.args.side.now.me t.passes.items new.passes _ t.clocks.items
    t.clocks.items t.actor (with_items_is t.passes new.passes (search (rules, places))) c.in-Party-Planned.planner new.planner
    (c.in-Party-Planned.is ∙ ap (λ (x : Racer). Party x) c.in-Party-Planned.field-0-is))
    (rw c.as_mut_slice-in-Party-Planned.ensures.value at c.take_planner_turn.ensures.planned)
