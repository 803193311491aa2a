use Rattle.command_input.specs.Input.{desk, fresh}
use Rattle.command_input.proofs.Streams.{has_stopped}
use Rattle.audit_command.specs.Reading.{IsBad}
use Rattle.audit_command.proofs.Ends.{concluded_err, concluded_ok, told_stopped}
use Rattle.audit_command.proofs.story.read_story.Goals as goal

pub returns-in-Ok-clause-read : goal.returns-in-Ok-clause-read
returns-in-Ok-clause-read g c = concluded_ok _ _ c.read_lines.new.reader c.read_lines.new.input.text c.in-Ok.ensures.read c.conclude.result (rw c.text.ensures at c.conclude.ensures.exact)

pub returns-in-Ok-clause-stops : goal.returns-in-Ok-clause-stops
returns-in-Ok-clause-stops g c = concluded_err _ _ c.read_lines.new.reader c.read_lines.new.input.text c.in-Ok.ensures.read c.conclude.result (rw c.text.ensures at c.conclude.ensures.exact)

pub returns-in-Err-clause-stops : goal.returns-in-Err-clause-stops
returns-in-Err-clause-stops g c =
    let first = desk (g.S.Source.left c.args.source.now) (g.S.Source.faults c.args.source.now) fresh in
    let mid = desk (g.S.Source.left c.read_lines.new.source) (g.S.Source.faults c.read_lines.new.source) c.read_lines.new.input in
    let now = desk (g.S.Source.left c.stop.new.source) (g.S.Source.faults c.stop.new.source) c.stop.new.self in
    rw c.refused.ensures
    (told_stopped first now c.stop.result (has_stopped IsBad first mid now c.in-Err.fault c.stop.result c.in-Err.ensures.stops c.stop.ensures))
