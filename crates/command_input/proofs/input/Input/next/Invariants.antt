use Rattle.command_input.specs.Input.{desk, to_go}
use Rattle.command_input.proofs.Ahead.{Passed}
use Rattle.command_input.proofs.input.Input.next.Given as goal

abbrev pub invariant-lines : goal.invariant-lines
invariant-lines g l =
    Passed (desk (g.S.Source.left l.fn.source) (g.S.Source.faults l.fn.source) l.fn.self) (desk (g.S.Source.left l.source) (g.S.Source.faults l.source) l.self)

abbrev pub decreases-lines : goal.decreases-lines
decreases-lines g l = to_go l.self
