use Rattle.std.proofs.Common.{◌≤◌, ◌-◌}
use Rattle.made_jobs.specs.Making.{copied}
use Rattle.command_input.specs.Input.{desk, limit}
use Rattle.command_input.proofs.Streams.{Led}
use Rattle.swap_commands.proofs.make.copy_lines.Given as goal

abbrev pub invariant-lines : goal.invariant-lines
invariant-lines g l = record {
  led : Led copied (desk (g.S.Source.left l.fn.source) (g.S.Source.faults l.fn.source) l.fn.input) l.fn.text.items
      (desk (g.S.Source.left l.source) (g.S.Source.faults l.source) l.input) l.count l.text.items;
  few : l.count ≤ 200000;
}

abbrev pub decreases-lines : goal.decreases-lines
decreases-lines g l = limit - l.input.number
