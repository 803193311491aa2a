use Rattle.std.proofs.Common.{◌≡◌, Ok, Err, map}
use Rattle.std.proofs.lemmas.Result.{err_from_is_err_and}
use Rattle.swap_world.specs.Value.{new_world}
use Rattle.swap_many.specs.Opening.{opened_swaps}
use Rattle.many_lines.proofs.Opening.{are_openable}
use Rattle.swap_commands.proofs.ManyWorlds.{are_opened, fails_placed, is_lacking, known_lack, lack_fails, named_lack}
use Rattle.swap_commands.proofs.many.open.Goals as goal

pub returns-in_err-places-clause-refused : goal.returns-in_err-places-clause-refused
returns-in_err-places-clause-refused c =
    let p = err_from_is_err_and c.from_residual.result c.from_residual.ensures.1 in
    rw (p.1, p.2) (fails_placed c.args.many.now c.in_err-places.field-0.0 c.in_err-places.ensures.exact)

pub new-requires : goal.new-requires
new-requires c =
    rw (c.as_slice.ensures, c.in_ok-worlds.ensures)
    (are_openable c.args.many.now c.in_ok-places.places c.requires.chains c.requires.swaps c.in_ok-places.ensures.placed)

pub overdrawn-requires-clause-chain : goal.overdrawn-requires-clause-chain
overdrawn-requires-clause-chain c =
    let many = c.args.many.now in
    let places = c.in_ok-places.places in
    let lack = c.in-Err-Refused.lack in
    let made : opened_swaps many.units (map new_world many.jobs) places ≡ Err lack =
    rw (c.as_slice.ensures, c.in_ok-worlds.ensures, c.in-Err-Refused.field-0-is) at c.in-Err-Refused.ensures in
    (named_lack many lack c.requires.chains (known_lack many places lack made)).0

pub overdrawn-requires-clause-account : goal.overdrawn-requires-clause-account
overdrawn-requires-clause-account c =
    let many = c.args.many.now in
    let places = c.in_ok-places.places in
    let lack = c.in-Err-Refused.lack in
    let made : opened_swaps many.units (map new_world many.jobs) places ≡ Err lack =
    rw (c.as_slice.ensures, c.in_ok-worlds.ensures, c.in-Err-Refused.field-0-is) at c.in-Err-Refused.ensures in
    (named_lack many lack c.requires.chains (known_lack many places lack made)).1

pub returns-in-Ok-clause-opened : goal.returns-in-Ok-clause-opened
returns-in-Ok-clause-opened c =
    let many = c.args.many.now in
    let places = c.in_ok-places.places in
    let made : opened_swaps many.units (map new_world many.jobs) places ≡ Ok c.in-Ok.world =
    rw (c.as_slice.ensures, c.in_ok-worlds.ensures) at c.in-Ok.ensures in
    are_opened many places c.in-Ok.world c.requires.swaps c.in_ok-places.ensures.placed c.in_ok-places.ensures.exact
    (are_openable many places c.requires.chains c.requires.swaps c.in_ok-places.ensures.placed) made

pub returns-in-Err-Refused-clause-refused : goal.returns-in-Err-Refused-clause-refused
returns-in-Err-Refused-clause-refused c =
    let many = c.args.many.now in
    let places = c.in_ok-places.places in
    let lack = c.in-Err-Refused.lack in
    let made : opened_swaps many.units (map new_world many.jobs) places ≡ Err lack =
    rw (c.as_slice.ensures, c.in_ok-worlds.ensures, c.in-Err-Refused.field-0-is) at c.in-Err-Refused.ensures in
    lack_fails many places lack c.overdrawn.result c.overdrawn.ensures (is_lacking many places lack c.in_ok-places.ensures.exact made)
