use Rattle.std.proofs.Common.{Err, ap, arith, refl, ◌∙◌}
use Rattle.std.proofs.lemmas.Result.{err_from_is_err_and}
use Rattle.swap_io.proofs.Handing.{all_lines, handed_was, hands_err, hands_ok, line_lost, line_on, lost_was, rest_lost, rose_before, rose_was}
use Rattle.swap_io.specs.declared.fault.TextFault.TheVariants.{NoMemory}
use Rattle.run_texts.specs.Items.{item_line}
use Rattle.run_texts.proofs.entries.write_items.Goals as goal

pub returns-in_err-put_item : goal.returns-in_err-put_item
returns-in_err-put_item g c =
    let p = err_from_is_err_and c.from_residual.result c.from_residual.ensures.1 in
    hands_err NoMemory _ _ _ _ _ _ _ _ (p.1 ∙ ap Err p.2)
    (rest_lost (item_line c.args.names.now c.args.correct.now) c.args.items.now _ _ _ _ _ _ c.loop-item.invariant.so_far)
    c.loop-item.invariant.later (λ is. absurd (cc is))

pub returns-in_err-flush_waiting : goal.returns-in_err-flush_waiting
returns-in_err-flush_waiting g c =
    let p = err_from_is_err_and c.from_residual-in_err-flush_waiting.result c.from_residual-in_err-flush_waiting.ensures.1 in
    let e = c.in_err-flush_waiting.field-0.0 in
    hands_err e _ _ _ _ _ _ _ _ (p.1 ∙ ap Err p.2)
    (line_lost (item_line c.args.names.now c.args.correct.now) c.args.items.now _ _ _ e _ _ _ _ c.loop-item.item-index c.item-item.result c.item-item.result
    c.loop-item-test.true c.item-item.is (c.in_ok-put_item.ensures c.loop-item.item-index)
    (lost_was e _ _ _ _ _ _ _ _ c.in_err-flush_waiting.was c.flush_waiting.ensures) c.loop-item.invariant.so_far)
    (omega (arith, c.loop-item.invariant.later, c.flush_waiting.ensures.later))
    (λ is. rose_before _ _ _ c.loop-item.invariant.later (rose_was e _ _ _ _ _ _ _ _ c.in_err-flush_waiting.was c.flush_waiting.ensures is))

pub loop-item-preserved : goal.loop-item-preserved
loop-item-preserved g c = record {
  so_far = line_on (item_line c.args.names.now c.args.correct.now) c.args.items.now _ _ _ _ _ _ _ _ c.loop-item.item-index c.item-item.result
      c.item-item.result c.loop-item-test.true c.item-item.is (c.in_ok-put_item.ensures c.loop-item.item-index)
      (handed_was _ _ _ _ _ _ _ _ _ c.in_ok-flush_waiting.was c.flush_waiting.ensures) c.loop-item.invariant.so_far;
  later = omega (arith, c.loop-item.invariant.later, c.flush_waiting.ensures.later);
}

pub returns : goal.returns
returns g c = hands_ok tt _ _ _ _ _ _ _ _ refl (all_lines (item_line c.args.names.now c.args.correct.now)
    c.args.items.now _ _ _ _ _ c.loop-item.item-index c.loop-item-test.false c.loop-item.invariant.so_far) c.loop-item.invariant.later
