use Rattle.std.proofs.Common.{Err, [], ap, arith, refl, ◌∙◌}
use Rattle.std.proofs.lemmas.Result.{err_from_is_err_and}
use Rattle.swap_io.proofs.Handing.{handed_none, handed_put}
use Rattle.run_texts.specs.Texts.{count_text, entries_text}
use Rattle.run_texts.proofs.TextSections.{of_ledger}
use Rattle.run_texts.proofs.Sequence.{hands_short, hands_then}
use Rattle.run_texts.proofs.transcript_ledgers.write_ledger.Goals as goal

pub returns-in_err-put_count : goal.returns-in_err-put_count
returns-in_err-put_count g c =
    let p = err_from_is_err_and c.from_residual.result c.from_residual.ensures.1 in
    hands_short _ _ _ _ _ _ _ [] _ _ _ (p.1 ∙ ap Err p.2) (handed_none _ _) refl (omega arith)

pub returns : goal.returns
returns g c =
    let text = count_text c.args.arc c.args.entries.now in
    hands_then _ _ _ _ _ _ _ _ _ text (entries_text c.args.entries.now) _ _ (handed_put _ _ _ text c.in_ok-put_count.ensures)
    (of_ledger c.args.arc c.args.entries.now) (omega arith) c.write_entries.ensures
