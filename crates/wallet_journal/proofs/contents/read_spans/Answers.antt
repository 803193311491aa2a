use Rattle.std.proofs.Common.{◌≡◌, ◌∙◌, ℕ, List, length, take, get_or, ap, sym, refl, arith, rules}
use Rattle.std.proofs.lemmas.List.{get_or_default, length-replicate}
use Rattle.wallet_journal.specs.Device.{slice, written}
use Rattle.wallet_journal.specs.Held.{after_writes, no_bytes}
use Rattle.wallet_journal.specs.Memory.{span_writes}
use Rattle.wallet_journal.specs.declared.contents.Span.{Span}
use Rattle.wallet_journal.proofs.Overlay.{cleared, ends_within, span_on, writes_more, so_far_size, start_more, all_read}
use Rattle.wallet_journal.proofs.contents.read_spans.Goals as goal

pub spans-init : goal.spans-init
spans-init c = record {
  read = cleared c.args.at (length c.args.buf.now) c.clear.new.buf c.requires.range c.clear.ensures;
  start = refl;
  size = ap length c.clear.ensures ∙ length-replicate (length c.args.buf.now) 0;
}

pub bounded_part-end-requires : goal.bounded_part-end-requires
bounded_part-end-requires c =
    let none : Span = record { at = 0; len = 0 } in
    let s = get_or c.args.spans.now c.spans.span-index none in
    ends_within c.args.bytes.now c.args.spans.now c.spans.span-index c.spans.start s c.requires.total c.spans-test.true
    (get_or_default c.args.spans.now c.spans.span-index none s c.spans-test.true) c.spans.invariant.start

pub overlay-requires-clause-place : goal.overlay-requires-clause-place
overlay-requires-clause-place c =
    let none : Span = record { at = 0; len = 0 } in
    let s = get_or c.args.spans.now c.spans.span-index none in
    let is = get_or_default c.args.spans.now c.spans.span-index none s c.spans-test.true in
    omega (
      arith,
      ap length c.bounded_part-end.ensures.part,
      span_on c.args.bytes.now c.args.spans.now c.spans.span-index c.spans.start s c.spans-test.true is
          c.spans.invariant.start c.requires.on_disk,
    )

pub spans-preserved : goal.spans-preserved
spans-preserved c =
    let none : Span = record { at = 0; len = 0 } in
    let s = get_or c.args.spans.now c.spans.span-index none in
    let is = get_or_default c.args.spans.now c.spans.span-index none s c.spans-test.true in
    let before = after_writes no_bytes (take c.spans.span-index (span_writes c.args.bytes.now c.args.spans.now)) in
    let inv = c.spans.invariant in
    let same : c.spans.buf ≡ slice c.args.at (length c.spans.buf) before = inv.read ∙ ap (λ (n : ℕ). slice c.args.at n before) (sym inv.size) in
    let kept : length c.overlay.new.buf ≡ length c.spans.buf = search rules in
    record {
      read =
          c.overlay.ensures before (so_far_size c.args.bytes.now c.args.spans.now c.spans.span-index c.spans.start s c.spans-test.true is inv.start
          c.requires.on_disk) same
          ∙ ap (λ (n : ℕ). slice c.args.at n (written before s.at c.bounded_part-end.result.0.now)) inv.size
          ∙ ap (λ (b : List ℕ). slice c.args.at (length c.args.buf.now) (written before s.at b)) c.bounded_part-end.ensures.part
          ∙ ap (λ (b : List ℕ). slice c.args.at (length c.args.buf.now) b) (sym
          (writes_more c.args.bytes.now c.args.spans.now c.spans.span-index c.spans.start s c.spans-test.true is inv.start c.requires.on_disk));
      start = c.bounded_part-end.ensures.end ∙ start_more c.args.bytes.now c.args.spans.now c.spans.span-index c.spans.start s c.spans-test.true is inv.start
          c.requires.on_disk;
      size = kept ∙ inv.size;
    }

pub returns : goal.returns
returns c =
    c.spans.invariant.read ∙ ap (λ (b : List ℕ). slice c.args.at (length c.args.buf.now) b)
    (all_read c.args.bytes.now c.args.spans.now c.spans.span-index c.spans-test.false)
