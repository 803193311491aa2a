use Rattle.std.proofs.Common.{false, slice_index_or, sym, ap, ◌∙◌, subst}
use Rattle.std.specs.Prelude.{Result}
use Rattle.std.specs.List.{list_any}
use Rattle.swap_base.specs.Fault.{Gives}
use Rattle.command_input.specs.declared.reason.Reason.{Reason}
use Rattle.offer_moves.specs.Placed.{deviating, crafted_by_others}
use Rattle.offer_moves.proofs.placed.check_crafters.Goals as goal

pub returns-in-Craft : goal.returns-in-Craft
returns-in-Craft c =
    let line = c.args.line in
    let conforming = c.args.conforming.now in
    let same =
    ap (crafted_by_others conforming line) c.in-Craft.is
    ∙ (ap (λ vs. deviating line (list_any (λ v. slice_index_or conforming v false) vs)) (sym c.as_slice.ensures)
    ∙ ap (deviating line) (sym c.any_conforms.ensures)) in
    subst (λ (r : Result (Unit {0}) Reason). Gives {X = Unit {0}} {Y = Unit {0}} (λ u. u) c.check_deviator.result r) (sym same) c.check_deviator.ensures
