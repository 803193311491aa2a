use Rattle.std.proofs.Common.{Err, [], ap, arith, sym, ◌∙◌}
use Rattle.std.proofs.lemmas.Result.{err_from_is_err_and}
use Rattle.swap_base.specs.Text.{lines}
use Rattle.ledger_core.specs.Runs.{run_ticks}
use Rattle.swap_io.proofs.Handing.{handed_none, handed_was}
use Rattle.run_texts.specs.Texts.{entries_text, item_text}
use Rattle.run_texts.proofs.TextSections.{of_items}
use Rattle.run_texts.proofs.Sequence.{hands_failed, hands_then}
use Rattle.run_texts.proofs.transcript_ledgers.write_entries.Goals as goal

pub returns-in_err-write_items : goal.returns-in_err-write_items
returns-in_err-write_items g c =
    let p = err_from_is_err_and c.from_residual.result c.from_residual.ensures.1 in
    let q = c.parts in
    hands_failed c.in_err-write_items.field-0.0 _ _ _ _ _ _ _ _ _ _ [] (lines item_text 0 q.result.0.now) (entries_text (run_ticks q.result.1)) _ _ _
    c.in_err-write_items.was (p.1 ∙ ap Err p.2) (handed_none _ _)
    (of_items 0 q.result.0.now (run_ticks q.result.1) ∙ ap entries_text (sym q.ensures.list)) (omega arith) c.write_items.ensures

pub returns : goal.returns
returns g c =
    let q = c.parts in
    hands_then _ _ _ _ _ _ _ _ _ (lines item_text 0 q.result.0.now) (entries_text (run_ticks q.result.1)) _ _
    (handed_was _ _ _ _ _ _ _ _ _ c.in_ok-write_items.was c.write_items.ensures)
    (of_items 0 q.result.0.now (run_ticks q.result.1) ∙ ap entries_text (sym q.ensures.list)) c.write_items.ensures.later c.write_ticks.ensures
