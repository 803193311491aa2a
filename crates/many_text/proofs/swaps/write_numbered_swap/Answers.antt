use Rattle.std.proofs.Common.{◌∙◌, ◌++◌, [], ℕ, Err, List, ap, append-nil, arith, refl, subst}
use Rattle.std.proofs.lemmas.Result.{err_from_is_err_and}
use Rattle.swap_io.specs.Handed.{Handed}
use Rattle.swap_io.specs.declared.fault.TextFault.TheVariants.{NoMemory}
use Rattle.swap_io.proofs.Handing.{handed_none, handed_on, handed_put, handed_was, hands_err, hands_ok, lost_then, lost_was, lost_with, rose_was}
use Rattle.swap_many.specs.Value.{many_kept}
use Rattle.run_texts.specs.Report.{report}
use Rattle.many_text.specs.ManyText.{kept_report, swap_book, swap_line}
use Rattle.many_text.proofs.Handing.{of_swap}
use Rattle.many_text.proofs.swaps.write_numbered_swap.Goals as goal

pub returns-in_err-put_swap-clause-hands : goal.returns-in_err-put_swap-clause-hands
returns-in_err-put_swap-clause-hands g c =
    let p = err_from_is_err_and c.from_residual.result c.from_residual.ensures.1 in
    let t = g.K.Sink.taken c.args.sink.now in
    let w = c.args.out.now.items in
    hands_err NoMemory _ _ _ _ _ _ _ _ (p.1 ∙ ap Err p.2) (lost_then t t w w [] _ _ (handed_none t w) refl) (omega arith) (λ is. absurd (cc is))

pub returns-in_err-book-clause-hands : goal.returns-in_err-book-clause-hands
returns-in_err-book-clause-hands g c =
    let p = err_from_is_err_and c.from_residual-in_err-book.result c.from_residual-in_err-book.ensures.1 in
    let z = many_kept c.args.world.now in
    let s = c.args.number in
    let job = c.args.job.now in
    hands_err NoMemory _ _ _ _ _ _ _ _ (p.1 ∙ ap Err p.2)
    (lost_then _ _ _ _ (swap_line s) (report job (swap_book z s) (kept_report z s job)) _ (handed_put _ _ _ (swap_line s) c.in_ok-put_swap.ensures)
    (of_swap z s job _ _ refl refl))
    (omega arith) (λ is. absurd (cc is))

pub returns-in_err-hand_report-clause-hands : goal.returns-in_err-hand_report-clause-hands
returns-in_err-hand_report-clause-hands g c =
    let p = err_from_is_err_and c.from_residual-in_err-hand_report.result c.from_residual-in_err-hand_report.ensures.1 in
    let told = c.in_ok-book.ensures in
    let s = c.args.number in
    let text = report c.args.job.now c.in_ok-book.book.histories c.in_ok-book.report in
    let e = c.in_err-hand_report.field-0.0 in
    let h = c.hand_report.ensures.hands in
    hands_err e _ _ _ _ _ _ _ _ (p.1 ∙ ap Err p.2)
    (lost_with e _ _ _ _ _ (swap_line s) text [] _ (handed_put _ _ _ (swap_line s) c.in_ok-put_swap.ensures)
    (lost_was e _ _ _ _ _ _ _ _ c.in_err-hand_report.was h)
    (append-nil (swap_line s ++ text) ∙ of_swap (many_kept c.args.world.now) s c.args.job.now _ _ told.book told.report))
    h.later (rose_was e _ _ _ _ _ _ _ _ c.in_err-hand_report.was h)

pub returns-clause-hands : goal.returns-clause-hands
returns-clause-hands g c =
    let told = c.in_ok-book.ensures in
    let s = c.args.number in
    let text = report c.args.job.now c.in_ok-book.book.histories c.in_ok-book.report in
    hands_ok _ _ _ _ _ _ _ _ _ refl
    (subst (λ (t : List ℕ). Handed (g.K.Sink.taken c.args.sink.now) c.args.out.now.items (g.K.Sink.taken c.hand_report.new.sink) c.hand_report.new.out.items t)
    (of_swap (many_kept c.args.world.now) s c.args.job.now _ _ told.book told.report)
    (handed_on _ _ _ _ _ _ (swap_line s) text (handed_put _ _ _ (swap_line s) c.in_ok-put_swap.ensures)
    (handed_was _ _ _ _ _ _ _ _ _ c.in_ok-hand_report.was c.hand_report.ensures.hands)))
    c.hand_report.ensures.hands.later
