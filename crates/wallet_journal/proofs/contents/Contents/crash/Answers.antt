use Rattle.std.proofs.Common.{◌≡◌, length, arith}
use Rattle.wallet_journal.proofs.Writes.{crash_shown}
use Rattle.wallet_journal.proofs.contents.Contents.crash.Goals as goal

pub returns : goal.returns
returns c =
    let n : c.len-synced.result ≡ length c.lose.new.spans.items = omega (arith, c.len-synced.ensures) in
    crash_shown c.self.inside.bytes.items c.self.inside.spans.items c.self.inside.synced c.self.inside.spare c.args.self c.lose.new.bytes.items
    c.lose.new.spans.items c.len-synced.result c.args.image
    c.self.view_is n c.lose.ensures.writes
