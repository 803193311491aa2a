use Rattle.std.proofs.Common.{◌≡◌, ◌<◌, ◌≤◌, ◌∙◌, Err, List, length, get_or, ap, arith, refl}
use Rattle.std.proofs.lemmas.Result.{err_from_is_err_and}
use Rattle.ledger_core.specs.declared.entry.Entry.{Entry}
use Rattle.swap_io.proofs.Handing.{all_lines, handed_was, hands_err, hands_ok, lost_was, rose_before, rose_was, text_lost, text_on}
use Rattle.run_texts.specs.Report.{ledger_report_text}
use Rattle.run_texts.proofs.ledgers.write_ledgers.Goals as goal

pub returns-in_err-write_ledger : goal.returns-in_err-write_ledger
returns-in_err-write_ledger g c =
    let p = err_from_is_err_and c.from_residual.result c.from_residual.ensures.1 in
    let e = c.in_err-write_ledger.field-0.0 in
    let lt : c.loop-number.number < length c.args.book.now.histories = rw c.as_slice-entries-items.ensures at c.loop-number-test.true in
    let is : c.entries-item.result ≡ get_or c.args.book.now.histories c.loop-number.number c.entries-item.result =
    c.entries-item.is ∙ ap (λ (b : List (List Entry)). get_or b c.loop-number.number c.entries-item.result) c.as_slice-entries-items.ensures in
    hands_err e _ _ _ _ _ _ _ _ (p.1 ∙ ap Err p.2)
    (text_lost (ledger_report_text c.args.names.now c.args.deal.now) c.args.book.now.histories _ _ _ e _ _ _ c.loop-number.number c.entries-item.result
    c.entries-item.result lt is
    (lost_was e _ _ _ _ _ _ _ _ c.in_err-write_ledger.was c.write_ledger.ensures) c.loop-number.invariant.so_far)
    (omega (arith, c.loop-number.invariant.later, c.write_ledger.ensures.later))
    (λ q. rose_before _ _ _ c.loop-number.invariant.later (rose_was e _ _ _ _ _ _ _ _ c.in_err-write_ledger.was c.write_ledger.ensures q))

pub loop-number-preserved : goal.loop-number-preserved
loop-number-preserved g c =
    let lt : c.loop-number.number < length c.args.book.now.histories = rw c.as_slice-entries-items.ensures at c.loop-number-test.true in
    let is : c.entries-item.result ≡ get_or c.args.book.now.histories c.loop-number.number c.entries-item.result =
    c.entries-item.is ∙ ap (λ (b : List (List Entry)). get_or b c.loop-number.number c.entries-item.result) c.as_slice-entries-items.ensures in
    record {
      so_far = text_on (ledger_report_text c.args.names.now c.args.deal.now) c.args.book.now.histories _ _ _ _ _ _ _ c.loop-number.number c.entries-item.result
          c.entries-item.result lt is
          (handed_was _ _ _ _ _ _ _ _ _ c.in_ok-write_ledger.was c.write_ledger.ensures) c.loop-number.invariant.so_far;
      later = omega (arith, c.loop-number.invariant.later, c.write_ledger.ensures.later);
    }

pub returns : goal.returns
returns g c =
    let le : length c.args.book.now.histories ≤ c.loop-number.number = rw c.as_slice-entries-items.ensures at c.loop-number-test.false in
    hands_ok tt _ _ _ _ _ _ _ _ refl (all_lines (ledger_report_text c.args.names.now c.args.deal.now)
    c.args.book.now.histories _ _ _ _ _ c.loop-number.number le c.loop-number.invariant.so_far) c.loop-number.invariant.later
