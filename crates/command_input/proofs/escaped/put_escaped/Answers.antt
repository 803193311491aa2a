use Rattle.std.proofs.Common.{◌≡◌, length, rules}
use Rattle.command_input.proofs.Codes.{escaped_done}
use Rattle.command_input.proofs.escaped.put_escaped.Goals as goal

pub returns : goal.returns
returns c =
    let none : length c.loop-rest.rest.now ≡ 0 = search rules in
    escaped_done c.loop-rest.out.items c.loop-rest.rest.now _ none c.loop-rest.invariant
