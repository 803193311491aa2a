use Rattle.std.proofs.Common.{◌≡◌, ◌≤◌, ◌-◌, ◌++◌, ◌∙◌, ℕ, List, length, take, drop, replicate, ap, sym, arith}
use Rattle.std.proofs.lemmas.List.{length-take-le}
use Rattle.wallet_journal.specs.Memory.{total, span_writes, crash_writes}
use Rattle.wallet_journal.specs.declared.contents.Span.{Span}
use Rattle.wallet_journal.proofs.Writes.{total_front, writes_front, writes_lost, left_other}
use Rattle.wallet_journal.proofs.contents.lose.Goals as goal

pub total_length-kept-requires : goal.total_length-kept-requires
total_length-kept-requires c =
    omega (
      arith,
      total_front c.args.spans.now.items c.args.synced,
      ap (λ (l : List Span). total (take c.args.synced l)) c.deref.ensures.value,
      c.requires.total,
      c.len.ensures,
    )

pub fill_image-requires : goal.fill_image-requires
fill_image-requires c =
    omega (
      arith,
      total_front c.args.spans.now.items c.args.synced,
      ap (λ (l : List Span). total (take c.args.synced l)) c.deref.ensures.value,
      c.requires.total,
      c.total_length-kept.ensures,
    )

pub returns-then-image-eq0-clause-total : goal.returns-then-image-eq0-clause-total
returns-then-image-eq0-clause-total c =
    let kept : c.total_length-kept.result ≡ total (take c.args.synced c.args.spans.now.items) =
    c.total_length-kept.ensures ∙ ap (λ (l : List Span). total (take c.args.synced l)) c.deref.ensures.value in
    let within : c.total_length-kept.result ≤ length c.args.bytes.now.items =
    omega (arith, total_front c.args.spans.now.items c.args.synced, kept, c.requires.total) in
    ap total c.truncate.ensures.items ∙ sym kept ∙ sym (ap length c.truncate-then-image-eq0.ensures.items
    ∙ length-take-le c.total_length-kept.result c.args.bytes.now.items within)

pub returns-then-image-eq0-clause-writes : goal.returns-then-image-eq0-clause-writes
returns-then-image-eq0-clause-writes c =
    let kept : c.total_length-kept.result ≡ total (take c.args.synced c.args.spans.now.items) =
    c.total_length-kept.ensures ∙ ap (λ (l : List Span). total (take c.args.synced l)) c.deref.ensures.value in
    let writes = span_writes c.args.bytes.now.items c.args.spans.now.items in
    (λ i. span_writes ((c.truncate-then-image-eq0.ensures.items ∙ ap (λ (k : ℕ). take k c.args.bytes.now.items) kept) i) (c.truncate.ensures.items i))
    ∙ writes_front c.args.bytes.now.items c.args.spans.now.items c.args.synced
    ∙ ap (λ (n : ℕ). crash_writes n (take c.args.synced writes) (drop c.args.synced writes)) (sym c.if-image-eq0.true)

pub returns-then-image-ne1-clause-writes : goal.returns-then-image-ne1-clause-writes
returns-then-image-ne1-clause-writes c =
    let kept : c.total_length-kept.result ≡ total (take c.args.synced c.args.spans.now.items) =
    c.total_length-kept.ensures ∙ ap (λ (l : List Span). total (take c.args.synced l)) c.deref.ensures.value in
    let writes = span_writes c.args.bytes.now.items c.args.spans.now.items in
    ap (λ (b : List ℕ). span_writes b c.args.spans.now.items) (c.fill_image.ensures
    ∙ ap (λ (k : ℕ). take k c.args.bytes.now.items ++ replicate (length c.args.bytes.now.items - k) c.args.image) kept)
    ∙ writes_lost c.args.bytes.now.items c.args.spans.now.items c.args.synced c.args.image c.requires.total c.requires.synced
    ∙ sym (left_other c.args.image (take c.args.synced writes) (drop c.args.synced writes) c.if-image-eq0.false c.if-image-ne1.true)
