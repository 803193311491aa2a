use Rattle.std.proofs.Common.{◌≡◌, ◌++◌, drop}
use Rattle.swap_base.specs.Text.{lines}
use Rattle.swap_clear.specs.ClearedText.{group_text}
use Rattle.swap_clear.proofs.text.put_groups.Given as goal

abbrev pub invariant-loop-group : goal.invariant-loop-group
invariant-loop-group l = (l.number ≡ l.group-index) × (l.out.items ++ lines (group_text l.wishes) l.group-index (drop l.group-index l.groups)
    ≡ l.fn.out.items ++ lines (group_text l.wishes) 0 l.groups)
