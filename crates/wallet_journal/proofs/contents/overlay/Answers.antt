use Rattle.std.proofs.Common.{◌∙◌, refl}
use Rattle.wallet_journal.proofs.Overlay.{overlay_none, overlay_some}
use Rattle.wallet_journal.proofs.contents.overlay.Goals as goal

pub returns-then-from-to : goal.returns-then-from-to
returns-then-from-to c old size same =
    c.paste.ensures
    ∙ overlay_some old c.args.bytes.now c.args.buf.now _ c.args.at c.args.place c.max-from.result c.min-to.result size c.requires.range c.requires.place
    c.max-from.ensures c.min-to.ensures c.if-from-to.true refl same

pub returns-else-from-to : goal.returns-else-from-to
returns-else-from-to c old size same =
    overlay_none old c.args.bytes.now c.args.buf.now c.args.at c.args.place c.max-from.result c.min-to.result size c.requires.range c.requires.place
    c.max-from.ensures c.min-to.ensures c.if-from-to.false same
