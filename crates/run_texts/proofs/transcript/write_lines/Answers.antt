use Rattle.std.proofs.Common.{Err, [], ◌++◌, List, ℕ, ap, append_assoc, arith, codes, refl, subst, ◌∙◌}
use Rattle.std.proofs.lemmas.Result.{err_from_is_err_and}
use Rattle.swap_base.specs.Text.{lines}
use Rattle.swap_io.specs.Handed.{Handed}
use Rattle.swap_io.proofs.Handing.{handed_none, handed_on, handed_put, handed_was, hands_ok}
use Rattle.run_texts.specs.Texts.{head_text, ledger_text}
use Rattle.run_texts.proofs.TextSections.{of_text}
use Rattle.run_texts.proofs.Sequence.{hands_failed, hands_short}
use Rattle.run_texts.proofs.transcript.write_lines.Goals as goal

pub returns-in_err-put_head : goal.returns-in_err-put_head
returns-in_err-put_head g c =
    let p = err_from_is_err_and c.from_residual.result c.from_residual.ensures.1 in
    hands_short _ _ _ _ _ _ _ [] _ _ _ (p.1 ∙ ap Err p.2) (handed_none _ _) refl (omega arith)

pub returns-in_err-write_ledgers : goal.returns-in_err-write_ledgers
returns-in_err-write_ledgers g c =
    let p = err_from_is_err_and c.from_residual-in_err-write_ledgers.result c.from_residual-in_err-write_ledgers.ensures.1 in
    let head = head_text c.args.job.now in
    let book = lines ledger_text 0 c.args.book.now.histories in
    hands_failed c.in_err-write_ledgers.field-0.0 _ _ _ _ _ _ _ _ _ _ head book (codes "end\n") _ _ _ c.in_err-write_ledgers.was (p.1 ∙ ap Err p.2)
    (handed_put _ _ _ head c.in_ok-put_head.ensures)
    (append_assoc head book (codes "end\n") ∙ of_text c.args.job.now c.args.book.now.histories) (omega arith) c.write_ledgers.ensures

pub returns-in_err-put_end : goal.returns-in_err-put_end
returns-in_err-put_end g c =
    let p = err_from_is_err_and c.from_residual-in_err-put_end.result c.from_residual-in_err-put_end.ensures.1 in
    let head = head_text c.args.job.now in
    let book = lines ledger_text 0 c.args.book.now.histories in
    hands_short _ _ _ _ _ _ _ (head ++ book) (codes "end\n") _ _ (p.1 ∙ ap Err p.2)
    (handed_on _ _ _ _ _ _ head book (handed_put _ _ _ head c.in_ok-put_head.ensures)
    (handed_was _ _ _ _ _ _ _ _ _ c.in_ok-write_ledgers.was c.write_ledgers.ensures))
    (append_assoc head book (codes "end\n") ∙ of_text c.args.job.now c.args.book.now.histories) c.write_ledgers.ensures.later

pub returns : goal.returns
returns g c =
    let head = head_text c.args.job.now in
    let book = lines ledger_text 0 c.args.book.now.histories in
    hands_ok tt _ _ _ _ _ _ _ _ refl (subst (λ (t : List ℕ). Handed (g.K.Sink.taken c.args.sink.now) c.args.out.now.items
    (g.K.Sink.taken c.write_ledgers.new.sink) c.put_end.new.out.items t)
    (append_assoc head book (codes "end\n") ∙ of_text c.args.job.now c.args.book.now.histories)
    (handed_on _ _ _ _ _ _ (head ++ book) (codes "end\n") (handed_on _ _ _ _ _ _ head book (handed_put _ _ _ head c.in_ok-put_head.ensures)
    (handed_was _ _ _ _ _ _ _ _ _ c.in_ok-write_ledgers.was c.write_ledgers.ensures)) (handed_put _ _ _ (codes "end\n") c.in_ok-put_end.ensures)))
    c.write_ledgers.ensures.later
