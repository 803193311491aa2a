use Rattle.std.proofs.Common.{◌≤◌, ◌-◌}
use Rattle.command_input.specs.Input.{desk, limit}
use Rattle.swap_commands.proofs.Walks.{IsOn}
use Rattle.swap_commands.proofs.walk.walk.Given as goal

abbrev pub invariant-lines : goal.invariant-lines
invariant-lines g l = record {
  on : IsOn (g.W.Walker.told l.context) (g.W.Walker.leads l.context) l.fn.walker (desk (g.S.Source.left l.fn.source) (g.S.Source.faults l.fn.source) l.fn.input)
      (desk (g.S.Source.left l.source) (g.S.Source.faults l.source) l.input) l.count l.walker;
  can : g.W.Walker.can_take l.context l.walker;
  counted : l.count ≤ l.input.number;
}

abbrev pub decreases-lines : goal.decreases-lines
decreases-lines g l = limit - l.input.number
