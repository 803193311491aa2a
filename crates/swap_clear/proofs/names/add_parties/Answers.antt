use Rattle.std.proofs.Common.{map}
use Rattle.std.proofs.lemmas.Result.{err_from_is_err_and}
use Rattle.swap_base.proofs.Steps.{steps_fail}
use Rattle.swap_clear.specs.Names.{wished_name_step}
use Rattle.swap_clear.proofs.names.add_parties.Goals as goal

pub returns-in_err-add_party : goal.returns-in_err-add_party
returns-in_err-add_party c =
    let p = err_from_is_err_and c.from_residual.result c.from_residual.ensures.1 in
    rw (p.1, p.2) (steps_fail c.in_err-add_party.field-0.0 (wished_name_step c.args.line) (map (λ k. k.now) c.loop-name.names.keys) c.args.parties.now
    c.loop-name.name-index c.name-item.result _ c.loop-name-test.true c.name-item.is c.in_err-add_party.ensures c.loop-name.invariant)
