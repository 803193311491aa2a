use Rattle.std.proofs.Common.{◌∙◌, ℕ, List, length, ap, sym, subst}
use Rattle.std.specs.List.{AllByRecursion}
use Rattle.wallet_journal.specs.Device.{slice}
use Rattle.wallet_journal.specs.Held.{AreOnDisk, IsOnDisk, visible_bytes, after_writes, no_bytes}
use Rattle.wallet_journal.specs.Memory.{span_writes}
use Rattle.wallet_journal.proofs.Overlay.{read_whole, on_whole}
use Rattle.wallet_journal.proofs.contents.Contents.read.Goals as goal

pub read_spans-requires-clause-on_disk : goal.read_spans-requires-clause-on_disk
read_spans-requires-clause-on_disk c =
    let on = subst AreOnDisk (sym c.self.view_is) c.requires.on_disk in
    let whole = on_whole c.self.inside.bytes.items c.self.inside.spans.items c.self.inside.synced on.0 on.1 in
    subst (AllByRecursion IsOnDisk) (λ i. span_writes ((sym c.deref-2.ensures.value) i) ((sym c.deref.ensures.value) i)) whole

pub returns : goal.returns
returns c =
    c.read_spans.ensures
    ∙ (λ i. slice c.args.at (length c.args.buf.now) (after_writes no_bytes (span_writes (c.deref-2.ensures.value i) (c.deref.ensures.value i))))
    ∙ ap (λ (b : List ℕ). slice c.args.at (length c.args.buf.now) b) (read_whole c.self.inside.bytes.items c.self.inside.spans.items c.self.inside.synced
    c.self.inside.spare ∙ ap visible_bytes c.self.view_is)
