use Rattle.command_input.specs.Input.{desk, fresh, to_go}
use Rattle.audit_command.proofs.Leads.{Led}
use Rattle.audit_command.proofs.input.read_lines.Given as goal

abbrev pub invariant-lines : goal.invariant-lines
invariant-lines g l =
    Led (desk (g.S.Source.left l.fn.source) (g.S.Source.faults l.fn.source) fresh) (desk (g.S.Source.left l.source) (g.S.Source.faults l.source) l.input)
    l.reader

abbrev pub decreases-lines : goal.decreases-lines
decreases-lines g l = to_go l.input
