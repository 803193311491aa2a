use Rattle.std.proofs.Common.{length, arith}
use Rattle.std.specs.Prelude.{codes}
use Rattle.swap_digraph.specs.Deal.{most_parties}
use Rattle.offer_moves.proofs.Ranges.{within_ok}
use Rattle.offer_header.proofs.Allowed.{few_parties}
use Rattle.offer_header.proofs.limits.read_parties.Goals as goal

pub each_acting-requires : goal.each_acting-requires
each_acting-requires c =
    let most = few_parties c.args.version in
    let r = within_ok c.args.line (codes "parties") 2 (most_parties c.args.version) (length c.args.parties.now) _
    (rw c.most_parties-most.ensures at c.in_ok-check_range.ensures) in
    record { names = omega (arith, most, r.1, c.requires.names) }
