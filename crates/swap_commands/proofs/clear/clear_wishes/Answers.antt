use Rattle.std.proofs.lemmas.Result.{err_from_is_err_and}
use Rattle.command_input.specs.Input.{desk}
use Rattle.swap_commands.proofs.Clearings.{against_further, is_cleared}
use Rattle.swap_commands.proofs.clear.clear_wishes.Goals as goal

pub refuse_further_line-requires : goal.refuse_further_line-requires
refuse_further_line-requires g c = record { fits = c.in_ok-text.ensures.line.stands.fits }

pub returns-in-Ok-clause-cleared : goal.returns-in-Ok-clause-cleared
returns-in-Ok-clause-cleared g c = is_cleared _ _ _ _ _ c.in_ok-text.ensures.line c.in_ok-text.ensures.cleared c.in-Ok.ensures

pub returns-in-Err-clause-stops : goal.returns-in-Err-clause-stops
returns-in-Err-clause-stops g c = λ has.
    let mid = desk (g.S.Source.left c.first_wishes.new.source) (g.S.Source.faults c.first_wishes.new.source) c.first_wishes.new.input in
    let now = desk (g.S.Source.left c.refuse_further_line.new.source) (g.S.Source.faults c.refuse_further_line.new.source) c.refuse_further_line.new.input in
    against_further has _ _ mid now _ c.in_ok-text.ensures.cleared c.in_ok-text.ensures.line c.in-Err.fault c.in-Err.ensures

pub returns-in_err-text-clause-stops : goal.returns-in_err-text-clause-stops
returns-in_err-text-clause-stops g c = λ has.
    let p = err_from_is_err_and c.from_residual.result c.from_residual.ensures.1 in
    rw (p.1, p.2) (c.in_err-text.ensures.stops has)
