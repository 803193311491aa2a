use Rattle.std.proofs.Common.{◌≡◌, ◌<◌, ◌≤◌, ◌∙◌, Err, List, length, get_or, ap, arith, refl}
use Rattle.std.proofs.lemmas.Result.{err_from_is_err_and}
use Rattle.ledger_core.specs.declared.entry.Entry.{Entry}
use Rattle.swap_io.proofs.Handing.{all_lines, handed_was, hands_err, hands_ok, lost_was, rose_before, rose_was, text_lost, text_on}
use Rattle.run_texts.specs.Texts.{ledger_text}
use Rattle.run_texts.proofs.transcript_ledgers.write_ledgers.Goals as goal

pub returns-in_err-write_ledger : goal.returns-in_err-write_ledger
returns-in_err-write_ledger g c =
    let p = err_from_is_err_and c.from_residual.result c.from_residual.ensures.1 in
    let e = c.in_err-write_ledger.field-0.0 in
    let h = c.args.book.now.histories in
    let x = c.entries-item.result in
    let lt : c.loop-arc.arc < length h = rw c.as_slice-entries-items.ensures at c.loop-arc-test.true in
    let is : x ≡ get_or h c.loop-arc.arc x =
    c.entries-item.is ∙ ap (λ (b : List (List Entry)). get_or b c.loop-arc.arc x) c.as_slice-entries-items.ensures in
    hands_err e _ _ _ _ _ _ _ _ (p.1 ∙ ap Err p.2)
    (text_lost ledger_text h _ _ _ e _ _ _ c.loop-arc.arc x x lt is (lost_was e _ _ _ _ _ _ _ _ c.in_err-write_ledger.was c.write_ledger.ensures)
    c.loop-arc.invariant.so_far)
    (omega (arith, c.loop-arc.invariant.later, c.write_ledger.ensures.later))
    (λ q. rose_before _ _ _ c.loop-arc.invariant.later (rose_was e _ _ _ _ _ _ _ _ c.in_err-write_ledger.was c.write_ledger.ensures q))

pub loop-arc-preserved : goal.loop-arc-preserved
loop-arc-preserved g c =
    let h = c.args.book.now.histories in
    let x = c.entries-item.result in
    let lt : c.loop-arc.arc < length h = rw c.as_slice-entries-items.ensures at c.loop-arc-test.true in
    let is : x ≡ get_or h c.loop-arc.arc x =
    c.entries-item.is ∙ ap (λ (b : List (List Entry)). get_or b c.loop-arc.arc x) c.as_slice-entries-items.ensures in
    record {
      so_far = text_on ledger_text h _ _ _ _ _ _ _ c.loop-arc.arc x x lt is
          (handed_was _ _ _ _ _ _ _ _ _ c.in_ok-write_ledger.was c.write_ledger.ensures) c.loop-arc.invariant.so_far;
      later = omega (arith, c.loop-arc.invariant.later, c.write_ledger.ensures.later);
    }

pub returns : goal.returns
returns g c =
    let h = c.args.book.now.histories in
    let le : length h ≤ c.loop-arc.arc = rw c.as_slice-entries-items.ensures at c.loop-arc-test.false in
    hands_ok tt _ _ _ _ _ _ _ _ refl (all_lines ledger_text h _ _ _ _ _ c.loop-arc.arc le c.loop-arc.invariant.so_far) c.loop-arc.invariant.later
