use Rattle.std.proofs.Common.{Err, ◌∙◌, ◌+◌, ◌<◌, ◌≤◌, ap, arith, length, refl}
use Rattle.std.proofs.lemmas.Result.{err_from_is_err_and}
use Rattle.swap_io.specs.declared.fault.TextFault.TheVariants.{NoMemory}
use Rattle.swap_io.proofs.Handing.{all_lines, handed_was, hands_err, hands_ok, lost_was, rest_lost, rose_before, rose_was, text_lost, text_on}
use Rattle.swap_many.specs.Value.{many_kept}
use Rattle.many_text.specs.ManyText.{kept_swap_text}
use Rattle.many_text.proofs.Counts.{counted_all, counted_on}
use Rattle.many_text.proofs.swaps.write_swaps.Goals as goal

pub returns-in_err-found-clause-hands : goal.returns-in_err-found-clause-hands
returns-in_err-found-clause-hands g c =
    let lt : c.each.swap < length c.args.jobs.now = omega (arith, c.each-test.true, c.swaps-all.ensures, c.requires.shown.one_each) in
    let p = err_from_is_err_and c.from_residual.result c.from_residual.ensures.1 in
    let e = c.in_err-found.field-0.0 in
    let h = c.write_numbered_swap.ensures.hands in
    hands_err e _ _ _ _ _ _ _ _ (p.1 ∙ ap Err p.2)
    (text_lost (kept_swap_text (many_kept c.args.world.now)) c.args.jobs.now _ _ _ e _ _ _ c.each.swap c.index-jobs-swap.result c.index-jobs-swap.result
    lt c.index-jobs-swap.is (lost_was e _ _ _ _ _ _ _ _ c.in_err-found.was h) c.each.invariant.so_far)
    (omega (arith, c.each.invariant.later, h.later)) (λ q. rose_before _ _ _ c.each.invariant.later (rose_was e _ _ _ _ _ _ _ _ c.in_err-found.was h q))

pub returns-in_err-count-clause-hands : goal.returns-in_err-count-clause-hands
returns-in_err-count-clause-hands g c =
    let lt : c.each.swap < length c.args.jobs.now = omega (arith, c.each-test.true, c.swaps-all.ensures, c.requires.shown.one_each) in
    let p = err_from_is_err_and c.from_residual-in_err-count.result c.from_residual-in_err-count.ensures.1 in
    let f = kept_swap_text (many_kept c.args.world.now) in
    let h = c.write_numbered_swap.ensures.hands in
    hands_err NoMemory _ _ _ _ _ _ _ _ (p.1 ∙ ap Err p.2)
    (rest_lost f c.args.jobs.now _ _ _ _ _ (c.each.swap + 1)
    (text_on f c.args.jobs.now _ _ _ _ _ _ _ c.each.swap c.index-jobs-swap.result c.index-jobs-swap.result lt c.index-jobs-swap.is
    (handed_was _ _ _ _ _ _ _ _ _ c.in_ok-found.was h) c.each.invariant.so_far))
    (omega (arith, c.each.invariant.later, h.later)) (λ is. absurd (cc is))

pub each-preserved : goal.each-preserved
each-preserved g c =
    let lt : c.each.swap < length c.args.jobs.now = omega (arith, c.each-test.true, c.swaps-all.ensures, c.requires.shown.one_each) in
    let z = many_kept c.args.world.now in
    let h = c.write_numbered_swap.ensures.hands in
    let item = c.index-jobs-swap.result in
    record {
      so_far = text_on (kept_swap_text z) c.args.jobs.now _ _ _ _ _ _ _ c.each.swap item item lt c.index-jobs-swap.is
          (handed_was _ _ _ _ _ _ _ (kept_swap_text z c.each.swap item) _ c.in_ok-found.was h) c.each.invariant.so_far;
      later = omega (arith, c.each.invariant.later, h.later);
      counted =
          rw (c.in_ok-count.ensures, c.in_ok-found.ensures.count) (counted_on z c.args.jobs.now c.each.swap item item c.each.count _ lt
          c.index-jobs-swap.is c.each.invariant.counted);
    }

pub returns-clause-hands : goal.returns-clause-hands
returns-clause-hands g c =
    let le : length c.args.jobs.now ≤ c.each.swap = omega (arith, c.each-test.false, c.swaps-all.ensures, c.requires.shown.one_each) in
    hands_ok _ _ _ _ _ _ _ _ _ refl (all_lines (kept_swap_text (many_kept c.args.world.now)) c.args.jobs.now _ _ _ _ _ c.each.swap
    le c.each.invariant.so_far) c.each.invariant.later

pub returns-clause-count : goal.returns-clause-count
returns-clause-count g c =
    let le : length c.args.jobs.now ≤ c.each.swap = omega (arith, c.each-test.false, c.swaps-all.ensures, c.requires.shown.one_each) in
    counted_all (many_kept c.args.world.now) c.args.jobs.now c.each.swap _ _ le c.each.invariant.counted
