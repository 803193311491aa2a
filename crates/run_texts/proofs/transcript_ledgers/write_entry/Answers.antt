use Rattle.std.proofs.Common.{Err, [], ap, arith, refl, ◌∙◌}
use Rattle.std.proofs.lemmas.Result.{err_from_is_err_and}
use Rattle.swap_io.proofs.Handing.{handed_none, handed_put, hands_after}
use Rattle.run_texts.specs.Texts.{entry_text}
use Rattle.run_texts.proofs.TextSections.{of_entry}
use Rattle.run_texts.proofs.Sequence.{hands_short}
use Rattle.run_texts.proofs.transcript_ledgers.write_entry.Goals as goal

pub returns-in_err-put_entry : goal.returns-in_err-put_entry
returns-in_err-put_entry g c =
    let p = err_from_is_err_and c.from_residual.result c.from_residual.ensures.1 in
    hands_short _ _ _ _ _ _ _ [] _ _ _ (p.1 ∙ ap Err p.2) (handed_none _ _) refl (omega arith)

pub returns : goal.returns
returns g c =
    let text = entry_text 0 c.args.entry.now in
    hands_after _ _ _ _ _ _ _ _ _ text _ c.flush_waiting.result (handed_put _ _ _ text c.in_ok-put_entry.ensures) (of_entry c.args.entry.now) (omega arith)
    c.flush_waiting.ensures
