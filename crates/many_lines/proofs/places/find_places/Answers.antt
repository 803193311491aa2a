use Rattle.std.proofs.Common.{◌≤◌, ap, arith, length}
use Rattle.many_lines.proofs.Placed.{are_placed}
use Rattle.many_lines.proofs.Walks.{swaps_done}
use Rattle.many_lines.proofs.places.find_places.Goals as goal

pub returns-clause-placed : goal.returns-clause-placed
returns-clause-placed c =
    let many = c.args.many.now in
    let le : length many.chains ≤ c.swaps.swap = omega (arith, c.swaps-test.false, ap length c.as_slice-chains.ensures) in
    rw c.new.ensures (are_placed many c.swaps.list.items c.requires.chains c.requires.swaps
    (swaps_done many c.swaps.list.items many.chains c.swaps.swap _ le c.swaps.invariant))
