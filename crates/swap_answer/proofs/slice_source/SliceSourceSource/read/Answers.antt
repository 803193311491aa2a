use Rattle.std.proofs.Common.{arith, ◌+◌}
use Rattle.std.proofs.lemmas.List.{length-drop}
use Rattle.swap_io.proofs.ByteLaws.{copied, given_on, none_left}
use Rattle.swap_answer.proofs.slice_source.SliceSourceSource.read.Goals as goal

pub returns-clause-bytes : goal.returns-clause-bytes
returns-clause-bytes c = (
  rw (← c.self.view_is) (record {
    known = copied c.self.inside.bytes.now c.copy_from_slice.new.self _ c.self.inside.at c.min-count.result (omega arith) (omega arith)
        c.copy_from_slice.ensures.after;
    gave = given_on c.self.inside.bytes.now c.copy_from_slice.new.self _ c.self.inside.at c.min-count.result (omega arith) (omega arith)
        c.copy_from_slice.ensures.after;
  }),
  λ e lt.
      none_left _ _ (omega (arith, length-drop (c.self.inside.at + c.min-count.result) c.self.inside.bytes.now)),
)
