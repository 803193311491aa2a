use Rattle.command_input.specs.Input.{desk}
use Rattle.swap_commands.proofs.ManyTold.{refused_after, stops_after}
use Rattle.swap_commands.proofs.many.refuse.Goals as goal

pub returns-in-Ok : goal.returns-in-Ok
returns-in-Ok g c = record { stops = refused_after _ c.args.many.now _ _ _ _ c.args.refusal c.requires.refused c.in-Ok.ensures.reads }

pub returns-in-Err : goal.returns-in-Err
returns-in-Err g c =
    let old = desk (g.S.Source.left c.args.source.now) (g.S.Source.faults c.args.source.now) c.args.input.now in
    let now = desk (g.S.Source.left c.walk.new.source) (g.S.Source.faults c.walk.new.source) c.walk.new.input in
    record { stops = stops_after c.args.many.now old now c.in-Err.fault c.in-Err.ensures.reads }
