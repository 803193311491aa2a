use Rattle.std.proofs.Common.{◌+◌, ◌∙◌, get_or, ap, arith}
use Rattle.std.proofs.lemmas.List.{get_or_default, take_all}
use Rattle.wallet_journal.specs.Memory.{total}
use Rattle.wallet_journal.specs.declared.contents.Span.{Span}
use Rattle.wallet_journal.proofs.Overlay.{total_more, total_within}
use Rattle.wallet_journal.proofs.contents.total_length.Goals as goal

pub overflow_add-sum : goal.overflow_add-sum
overflow_add-sum c =
    let none : Span = record { at = 0; len = 0 } in
    let s = get_or c.args.spans.now c.spans.span-index none in
    let is = get_or_default c.args.spans.now c.spans.span-index none s c.spans-test.true in
    omega (
      arith,
      c.spans.invariant,
      total_more c.args.spans.now c.spans.span-index s c.spans-test.true is,
      total_within c.args.spans.now
          (c.spans.span-index + 1),
      c.requires,
      c.ranges.most.fits,
    )

pub spans-preserved : goal.spans-preserved
spans-preserved c =
    let none : Span = record { at = 0; len = 0 } in
    let s = get_or c.args.spans.now c.spans.span-index none in
    let is = get_or_default c.args.spans.now c.spans.span-index none s c.spans-test.true in
    omega (arith, c.spans.invariant, total_more c.args.spans.now c.spans.span-index s c.spans-test.true is)

pub returns : goal.returns
returns c = c.spans.invariant ∙ ap total (take_all c.spans.span-index c.args.spans.now c.spans-test.false)
