use Rattle.std.proofs.Common.{arith}
use Rattle.offer_moves.proofs.Ranges.{within_ok}
use Rattle.swap_clear.proofs.Within.{small_ends}
use Rattle.swap_clear.proofs.limits.make_proposals.Goals as goal

pub each_proposed-requires : goal.each_proposed-requires
each_proposed-requires c =
    let k = within_ok _ _ 2 32 _ _ c.in_ok-check_range.ensures in
    rw c.as_slice.ensures (small_ends c.args.numbered.now (omega (arith, k.1, c.len.ensures)) c.requires)
