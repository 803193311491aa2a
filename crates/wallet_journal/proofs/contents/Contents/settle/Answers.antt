use Rattle.std.proofs.Common.{◌≡◌, length, ◌∙◌, ap, arith}
use Rattle.wallet_journal.specs.Memory.{all_synced}
use Rattle.wallet_journal.proofs.Writes.{settle_shown}
use Rattle.wallet_journal.proofs.contents.Contents.settle.Goals as goal

pub returns : goal.returns
returns c =
    let n : c.len-self-inside.result ≡ length c.self.inside.spans.items = omega (arith, c.len-self-inside.ensures) in
    settle_shown c.self.inside.bytes.items c.self.inside.spans.items c.self.inside.synced c.len-self-inside.result c.self.inside.spare n
    ∙ ap all_synced c.self.view_is
