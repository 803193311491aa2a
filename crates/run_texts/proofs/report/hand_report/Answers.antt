use Rattle.std.proofs.Common.{Err, [], ◌∙◌, ◌++◌, ap, arith, refl}
use Rattle.std.proofs.lemmas.Result.{err_from_is_err_and}
use Rattle.swap_io.proofs.Handing.{handed_none, handed_on, handed_put, handed_was, hands_after, hands_err, lost_then, lost_was, lost_with, rose_before, rose_was}
use Rattle.swap_io.specs.declared.fault.TextFault.TheVariants.{NoMemory}
use Rattle.run_texts.proofs.LedgerLines.{all_five, four, of_report, report_parts, two}
use Rattle.run_texts.proofs.report.hand_report.Goals as goal

pub returns-in_err-put_head-clause-hands : goal.returns-in_err-put_head-clause-hands
returns-in_err-put_head-clause-hands g c =
    let p = err_from_is_err_and c.from_residual.result c.from_residual.ensures.1 in
    let t = g.K.Sink.taken c.args.sink.now in
    let w = c.args.out.now.items in
    hands_err NoMemory _ _ _ _ _ _ _ _ (p.1 ∙ ap Err p.2) (lost_then t t w w [] _ _ (handed_none t w) refl) (omega arith) (λ q. absurd (cc q))

pub returns-in_err-write_book-clause-hands : goal.returns-in_err-write_book-clause-hands
returns-in_err-write_book-clause-hands g c =
    let p = err_from_is_err_and c.from_residual-in_err-write_book.result c.from_residual-in_err-write_book.ensures.1 in
    let e = c.in_err-write_book.field-0.0 in
    let t = report_parts c.args.job.now c.args.book.now.histories c.args.report.now in
    let is = of_report c.args.job.now c.args.book.now.histories c.args.report.now in
    hands_err e _ _ _ _ _ _ _ _ (p.1 ∙ ap Err p.2)
    (lost_with e _ _ _ _ _ t.head t.ledgers (t.parties ++ (t.findings ++ (t.count ++ []))) _ (handed_put _ _ _ t.head c.in_ok-put_head.ensures)
    (lost_was e _ _ _ _ _ _ _ _ c.in_err-write_book.was c.write_book.ensures) (two t.head t.ledgers (t.parties ++ (t.findings ++ (t.count ++ []))) ∙ is))
    c.write_book.ensures.later (rose_was e _ _ _ _ _ _ _ _ c.in_err-write_book.was c.write_book.ensures)

pub returns-in_err-put_roles-clause-hands : goal.returns-in_err-put_roles-clause-hands
returns-in_err-put_roles-clause-hands g c =
    let p = err_from_is_err_and c.from_residual-in_err-put_roles.result c.from_residual-in_err-put_roles.ensures.1 in
    let t = report_parts c.args.job.now c.args.book.now.histories c.args.report.now in
    let is = of_report c.args.job.now c.args.book.now.histories c.args.report.now in
    hands_err NoMemory _ _ _ _ _ _ _ _ (p.1 ∙ ap Err p.2)
    (lost_then _ _ _ _ (t.head ++ t.ledgers) (t.parties ++ (t.findings ++ (t.count ++ []))) _ (handed_on _ _ _ _ _ _ t.head t.ledgers (handed_put _ _ _ t.head c.in_ok-put_head.ensures)
    (handed_was _ _ _ _ _ _ _ _ _ c.in_ok-write_book.was c.write_book.ensures)) (two t.head t.ledgers (t.parties ++ (t.findings ++ (t.count ++ []))) ∙ is))
    c.write_book.ensures.later (λ q. absurd (cc q))

pub returns-in_err-write_found-clause-hands : goal.returns-in_err-write_found-clause-hands
returns-in_err-write_found-clause-hands g c =
    let p = err_from_is_err_and c.from_residual-in_err-write_found.result c.from_residual-in_err-write_found.ensures.1 in
    let e = c.in_err-write_found.field-0.0 in
    let t = report_parts c.args.job.now c.args.book.now.histories c.args.report.now in
    let is = of_report c.args.job.now c.args.book.now.histories c.args.report.now in
    hands_err e _ _ _ _ _ _ _ _ (p.1 ∙ ap Err p.2)
    (lost_with e _ _ _ _ _ ((t.head ++ t.ledgers) ++ t.parties) t.findings (t.count ++ []) _ (handed_on _ _ _ _ _ _ (t.head ++ t.ledgers) t.parties
    (handed_on _ _ _ _ _ _ t.head t.ledgers (handed_put _ _ _ t.head c.in_ok-put_head.ensures)
    (handed_was _ _ _ _ _ _ _ _ _ c.in_ok-write_book.was c.write_book.ensures)) (handed_put _ _ _ t.parties c.in_ok-put_roles.ensures))
    (lost_was e _ _ _ _ _ _ _ _ c.in_err-write_found.was c.write_found.ensures) (four t.head t.ledgers t.parties t.findings (t.count ++ []) ∙ is))
    (omega (arith, c.write_book.ensures.later, c.write_found.ensures.later))
    (λ q. rose_before _ _ _ c.write_book.ensures.later (rose_was e _ _ _ _ _ _ _ _ c.in_err-write_found.was c.write_found.ensures q))

pub returns-in_err-put_last-clause-hands : goal.returns-in_err-put_last-clause-hands
returns-in_err-put_last-clause-hands g c =
    let p = err_from_is_err_and c.from_residual-in_err-put_last.result c.from_residual-in_err-put_last.ensures.1 in
    let t = report_parts c.args.job.now c.args.book.now.histories c.args.report.now in
    let is = of_report c.args.job.now c.args.book.now.histories c.args.report.now in
    hands_err NoMemory _ _ _ _ _ _ _ _ (p.1 ∙ ap Err p.2)
    (lost_then _ _ _ _ (((t.head ++ t.ledgers) ++ t.parties) ++ t.findings) (t.count ++ []) _ (handed_on _ _ _ _ _ _ ((t.head ++ t.ledgers) ++ t.parties) t.findings
    (handed_on _ _ _ _ _ _ (t.head ++ t.ledgers) t.parties (handed_on _ _ _ _ _ _ t.head t.ledgers (handed_put _ _ _ t.head c.in_ok-put_head.ensures)
    (handed_was _ _ _ _ _ _ _ _ _ c.in_ok-write_book.was c.write_book.ensures)) (handed_put _ _ _ t.parties c.in_ok-put_roles.ensures))
    (handed_was _ _ _ _ _ _ _ _ _ c.in_ok-write_found.was c.write_found.ensures)) (four t.head t.ledgers t.parties t.findings (t.count ++ []) ∙ is))
    (omega (arith, c.write_book.ensures.later, c.write_found.ensures.later)) (λ q. absurd (cc q))

pub returns-clause-hands : goal.returns-clause-hands
returns-clause-hands g c =
    let t = report_parts c.args.job.now c.args.book.now.histories c.args.report.now in
    let is = of_report c.args.job.now c.args.book.now.histories c.args.report.now in
    hands_after _ _ _ _ _ _ _ _ _ ((((t.head ++ t.ledgers) ++ t.parties) ++ t.findings) ++ t.count) _ c.flush.result
    (handed_on _ _ _ _ _ _ (((t.head ++ t.ledgers) ++ t.parties) ++ t.findings) t.count (handed_on _ _ _ _ _ _ ((t.head ++ t.ledgers) ++ t.parties) t.findings
    (handed_on _ _ _ _ _ _ (t.head ++ t.ledgers) t.parties (handed_on _ _ _ _ _ _ t.head t.ledgers (handed_put _ _ _ t.head c.in_ok-put_head.ensures)
    (handed_was _ _ _ _ _ _ _ _ _ c.in_ok-write_book.was c.write_book.ensures)) (handed_put _ _ _ t.parties c.in_ok-put_roles.ensures))
    (handed_was _ _ _ _ _ _ _ _ _ c.in_ok-write_found.was c.write_found.ensures)) (handed_put _ _ _ t.count c.in_ok-put_last.ensures))
    (all_five t.head t.ledgers t.parties t.findings t.count ∙ is)
    (omega (arith, c.write_book.ensures.later, c.write_found.ensures.later)) c.flush.ensures.hands
