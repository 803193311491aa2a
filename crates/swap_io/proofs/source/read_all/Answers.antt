use Rattle.std.proofs.Common.{arith, take}
use Rattle.std.proofs.lemmas.Grind.{common_steps}
use Rattle.swap_io.proofs.ByteLaws.{consumed}
use Rattle.swap_io.proofs.source.read_all.Goals as goal

pub returns-in_err-extend_from_slice-clause-no_memory : goal.returns-in_err-extend_from_slice-clause-no_memory
returns-in_err-extend_from_slice-clause-no_memory g c _ =
    consumed _ _ _ c.loop-buf.all.items (take c.in_ok-count.count c.read.new.buf) _
    (grind (arith, common_steps)) c.loop-buf.invariant.taken c.in_ok-count.ensures.bytes.0
