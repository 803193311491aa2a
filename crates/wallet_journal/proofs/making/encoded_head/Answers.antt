use Rattle.std.proofs.Common.{◌≡◌, length, rules}
use Rattle.wallet_journal.proofs.Head.{head_is}
use Rattle.wallet_journal.proofs.making.encoded_head.Goals as goal

pub returns : goal.returns
returns c =
    let size : length c.args.id.now ≡ 32 = search rules in
    head_is c.args.id.now c.copy_from_slice.new.self c.args.me size c.copy_from_slice.ensures.after
