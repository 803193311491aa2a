use Rattle.std.proofs.Common.{◌≡◌, ◌+◌, ◌-◌, ℕ, length, [], ◌∷◌, sym, ◌∙◌, ap, arith, length-append}
use Rattle.wallet_journal.specs.Device.{Write}
use Rattle.wallet_journal.specs.Held.{Held}
use Rattle.wallet_journal.specs.Memory.{with_write, total}
use Rattle.wallet_journal.specs.declared.contents.Span.{Span}
use Rattle.wallet_journal.proofs.Writes.{put_shown, total_push}
use Rattle.wallet_journal.proofs.contents.Contents.put.Goals as goal

pub invariant_of-self : goal.invariant_of-self
invariant_of-self c =
    let inv = c.self.invariant in
    let more = c.args.bytes.now in
    let old = c.self.inside.bytes.items in
    let spans = c.self.inside.spans.items in
    let s : Span = record { at = c.args.at; len = length more } in
    let w : Write = record { at = c.args.at; bytes = more } in
    let is = c.put_bytes.ensures.items in
    let is' = c.put_span.ensures.items in
    let long = length-append c.self.inside.bytes.items c.args.bytes.now in
    let spare : c.self.inside.spare ≡ c.args.self.now.spare = ap (λ (h : Held). h.spare) c.self.view_is in (
      ap total is' ∙ total_push spans s ∙ ap (λ (n : ℕ). n + length more) inv.0 ∙ sym (length-append old more) ∙ ap length (sym is),
      omega (arith, inv.1, ap length is', length-append spans (s ∷ [])),
      omega (arith, inv.2, ap length is', length-append spans (s ∷ []), c.put_span.ensures.capacity, spare, c.requires.spare),
      omega (arith, inv.3, ap length is, long, c.put_bytes.ensures.capacity, spare, c.requires.spare, c.requires.few),
    )

pub returns : goal.returns
returns c =
    let inv = c.self.invariant in
    let s : Span = record { at = c.args.at; len = length c.args.bytes.now } in
    put_shown c.self.inside.bytes.items c.args.bytes.now c.self.inside.spans.items s c.self.inside.synced (c.self.inside.spare - 1)
    c.put_bytes.new.bytes.items c.put_span.new.spans.items
    c.put_bytes.ensures.items c.put_span.ensures.items inv.0 (λ i. length c.args.bytes.now) inv.1
    ∙ ap (λ (h : Held). with_write h c.args.at c.args.bytes.now (h.spare - 1)) c.self.view_is
