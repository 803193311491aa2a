use Rattle.std.proofs.Common.{Err, ◌∙◌, ap, refl, sym}
use Rattle.std.proofs.lemmas.Result.{err_from_is_err_and}
use Rattle.swap_io.specs.declared.fault.TextFault.TheVariants.{NoMemory, WriteFault}
use Rattle.many_text.proofs.Handing.{as_other}
use Rattle.swap_io.proofs.Handing.{handed_was, hands_after, written_part, written_short}
use Rattle.many_text.proofs.text.write_many.Goals as goal

pub returns-in_err-found-clause-write_fault : goal.returns-in_err-found-clause-write_fault
returns-in_err-found-clause-write_fault g c is =
    let p = err_from_is_err_and c.from_residual.result c.from_residual.ensures.1 in
    written_part _ _ _ _ _ _ _ _ c.new-out.ensures.items c.hand_many.ensures.hands (c.in_err-found.was ∙ ap Err (sym p.2) ∙ sym p.1 ∙ is)

pub returns-in_err-found-clause-no_memory : goal.returns-in_err-found-clause-no_memory
returns-in_err-found-clause-no_memory g c is =
    let p = err_from_is_err_and c.from_residual.result c.from_residual.ensures.1 in
    written_short _ _ _ _ _ _ _ _ c.new-out.ensures.items c.hand_many.ensures.hands (c.in_err-found.was ∙ ap Err (sym p.2) ∙ sym p.1 ∙ is)

pub returns-in_err-flush-clause-write_fault : goal.returns-in_err-flush-clause-write_fault
returns-in_err-flush-clause-write_fault g c is =
    let p = err_from_is_err_and c.from_residual-in_err-flush.result c.from_residual-in_err-flush.ensures.1 in
    let h = c.hand_many.ensures.hands in
    written_part _ _ _ _ _ _ _ _ c.new-out.ensures.items
    (hands_after _ _ _ _ _ _ _ _ _ _ _ c.flush.result (handed_was _ _ _ _ _ _ _ _ _ c.in_ok-found.was h) refl h.later c.flush.ensures.hands)
    (as_other c.from_residual-in_err-flush.result c.flush.result _ _ WriteFault p.1 p.2 is c.in_err-flush.was)

pub returns-in_err-flush-clause-no_memory : goal.returns-in_err-flush-clause-no_memory
returns-in_err-flush-clause-no_memory g c is =
    let p = err_from_is_err_and c.from_residual-in_err-flush.result c.from_residual-in_err-flush.ensures.1 in
    let h = c.hand_many.ensures.hands in
    written_short _ _ _ _ _ _ _ _ c.new-out.ensures.items
    (hands_after _ _ _ _ _ _ _ _ _ _ _ c.flush.result (handed_was _ _ _ _ _ _ _ _ _ c.in_ok-found.was h) refl h.later c.flush.ensures.hands)
    (as_other c.from_residual-in_err-flush.result c.flush.result _ _ NoMemory p.1 p.2 is c.in_err-flush.was)
