use Rattle.std.proofs.Common.{arith, ◌+◌}
use Rattle.std.proofs.lemmas.List.{length-drop}
use Rattle.swap_io.proofs.ByteLaws.{after_ok, copied, given_on, none_left}
use Rattle.swap_io.proofs.memory.VecSourceSource.read.Goals as goal

pub returns-clause-bytes : goal.returns-clause-bytes
returns-clause-bytes c = (
  rw (← c.self.view_is) (record {
    known = copied c.self.inside.bytes.items c.copy_from_slice.new.self _ c.self.inside.at c.min-count.result (omega arith) (omega arith)
        (rw c.deref-2.ensures.value at c.copy_from_slice.ensures.after);
    gave = given_on c.self.inside.bytes.items c.copy_from_slice.new.self _ c.self.inside.at c.min-count.result (omega arith) (omega arith)
        (rw c.deref-2.ensures.value at c.copy_from_slice.ensures.after);
  }),
  λ e lt.
      none_left _ _ (omega (arith, length-drop (c.self.inside.at + c.min-count.result) c.self.inside.bytes.items)),
)

pub returns-clause-after : goal.returns-clause-after
returns-clause-after c = rw (← c.self.view_is) (after_ok _ _ _ _ _ _ _ _ c.saturating_add-self-inside.ensures)
