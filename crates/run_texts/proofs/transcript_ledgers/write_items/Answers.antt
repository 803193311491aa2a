use Rattle.std.proofs.Common.{Err, ap, arith, refl, ◌∙◌}
use Rattle.std.proofs.lemmas.Result.{err_from_is_err_and}
use Rattle.swap_io.proofs.Handing.{all_lines, handed_was, hands_err, hands_ok, lost_was, rose_before, rose_was, text_lost, text_on}
use Rattle.run_texts.specs.Texts.{item_text}
use Rattle.run_texts.proofs.transcript_ledgers.write_items.Goals as goal

pub returns-in_err-write_item : goal.returns-in_err-write_item
returns-in_err-write_item g c =
    let p = err_from_is_err_and c.from_residual.result c.from_residual.ensures.1 in
    let e = c.in_err-write_item.field-0.0 in
    let h = c.write_item.ensures c.loop-item.item-index in
    hands_err e _ _ _ _ _ _ _ _ (p.1 ∙ ap Err p.2)
    (text_lost item_text c.args.items.now _ _ _ e _ _ _ c.loop-item.item-index c.item-item.result c.item-item.result c.loop-item-test.true c.item-item.is
    (lost_was e _ _ _ _ _ _ _ _ c.in_err-write_item.was h) c.loop-item.invariant.so_far)
    (omega (arith, c.loop-item.invariant.later, h.later))
    (λ is. rose_before _ _ _ c.loop-item.invariant.later (rose_was e _ _ _ _ _ _ _ _ c.in_err-write_item.was h is))

pub loop-item-preserved : goal.loop-item-preserved
loop-item-preserved g c =
    let h = c.write_item.ensures c.loop-item.item-index in
    record {
      so_far = text_on item_text c.args.items.now _ _ _ _ _ _ _ c.loop-item.item-index c.item-item.result c.item-item.result c.loop-item-test.true
          c.item-item.is (handed_was _ _ _ _ _ _ _ _ _ c.in_ok-write_item.was h) c.loop-item.invariant.so_far;
      later = omega (arith, c.loop-item.invariant.later, h.later);
    }

pub returns : goal.returns
returns g c = hands_ok tt _ _ _ _ _ _ _ _ refl (all_lines item_text c.args.items.now _ _ _ _ _ c.loop-item.item-index c.loop-item-test.false
    c.loop-item.invariant.so_far) c.loop-item.invariant.later
