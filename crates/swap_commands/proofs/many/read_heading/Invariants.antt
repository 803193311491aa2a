use Rattle.std.proofs.Common.{◌-◌, ℕ}
use Rattle.many_lines.specs.Heading.{nothing_headed}
use Rattle.many_lines.specs.Whole.{HoldsEverySwap}
use Rattle.command_input.specs.Input.{desk, fresh, limit}
use Rattle.swap_commands.proofs.ManyTold.{heading_walk}
use Rattle.command_input.proofs.Streams.{Led}
use Rattle.swap_commands.proofs.many.read_heading.Given as goal

abbrev pub invariant-lines : goal.invariant-lines
invariant-lines g l = record {
  led : (count : ℕ) × Led (heading_walk (g.A.Strategies.holds l.strategies)) (desk (g.S.Source.left l.fn.source) (g.S.Source.faults l.fn.source) fresh)
      nothing_headed (desk (g.S.Source.left l.source) (g.S.Source.faults l.source) l.input) count l.heading;
  held : HoldsEverySwap (g.A.Strategies.holds l.strategies) l.heading.many;
}

abbrev pub decreases-lines : goal.decreases-lines
decreases-lines g l = limit - l.input.number
