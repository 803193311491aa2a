use Rattle.std.proofs.Common.{ap, ◌∙◌, Err}
use Rattle.std.proofs.lemmas.Result.{err_from_is_err_and}
use Rattle.swap_io.proofs.Handing.{hands_err, lost_prefix}
use Rattle.swap_io.specs.declared.fault.TextFault.TheVariants.{WriteFault}
use Rattle.swap_io.proofs.waiting.flush.Goals as goal

pub returns-in_err-write_all-clause-hands : goal.returns-in_err-write_all-clause-hands
returns-in_err-write_all-clause-hands g c =
    let p = err_from_is_err_and c.from_residual.result c.from_residual.ensures.1 in
    hands_err WriteFault _ _ _ _ _ _ _ _ (p.1 ∙ ap Err p.2) (lost_prefix _ _ _ (rw c.deref.ensures.value at c.in_err-write_all.ensures.prefix))
    c.in_err-write_all.ensures.cause.later (λ is. c.in_err-write_all.ensures.cause.failed)
