use Rattle.std.proofs.Common.{map}
use Rattle.std.proofs.lemmas.Result.{err_from_is_err_and}
use Rattle.swap_base.proofs.Steps.{steps_done, steps_on, steps_fail}
use Rattle.offer_header.specs.Names.{known_name, all_known}
use Rattle.offer_header.proofs.names.check_all_known.Goals as goal

pub returns-in_err-check_known : goal.returns-in_err-check_known
unfolding all_known
returns-in_err-check_known c =
    let p = err_from_is_err_and c.from_residual.result c.from_residual.ensures.1 in
    rw (p.1, p.2) (steps_fail c.in_err-check_known.field-0.0 (λ u name. known_name c.args.line (map (λ k. k.now) c.args.all.now.keys) name) tt
    c.args.names.now c.loop-name.name-index c.name-item.result _ c.loop-name-test.true c.name-item.is
    (rw c.as_slice.ensures at c.in_err-check_known.ensures) c.loop-name.invariant)

pub loop-name-preserved : goal.loop-name-preserved
unfolding all_known
loop-name-preserved c =
    steps_on (λ u name. known_name c.args.line (map (λ k. k.now) c.args.all.now.keys) name) tt tt c.args.names.now c.loop-name.name-index c.name-item.result _
    c.loop-name-test.true c.name-item.is (rw c.as_slice.ensures at c.in_ok-check_known.ensures) c.loop-name.invariant

pub returns : goal.returns
unfolding all_known
returns c =
    steps_done (λ u name. known_name c.args.line (map (λ k. k.now) c.args.all.now.keys) name) tt c.args.names.now c.loop-name.name-index _ c.loop-name-test.false
    c.loop-name.invariant
