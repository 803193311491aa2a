use Rattle.std.proofs.Common.{◌∙◌, ℕ, List, Option, ap, sym, filter, not, length, arith}
use Rattle.std.specs.List.{range_with_len}
use Rattle.digraph_check.specs.Tree.{is_entered, all_entered}
use Rattle.digraph_check.proofs.Answered.{shows_reached, shows_stranded, shows_none}
use Rattle.digraph_check.proofs.ClosedSets.{closed_of_set, connected_of_none, excluded}
use Rattle.digraph_check.proofs.check.strong.Goals as goal

pub returns-then-not-enters_all-clause-exact : goal.returns-then-not-enters_all-clause-exact
returns-then-not-enters_all-clause-exact c =
    shows_reached c.args.graph.now c.in_ok-from_zero.from_zero c.in_ok-reached.reached c.in_ok-from_zero.ensures
    (sym (c.enters_all.ensures ∙ ap all_entered c.as_slice.ensures) ∙ c.if-not-enters_all.true)
    (c.in_ok-reached.ensures ∙ ap (λ (t : List (Option ℕ)). filter (is_entered t) (range_with_len 0 (length t))) c.as_slice-then-not-enters_all.ensures)

pub returns-then-not-enters_all-clause-closed : goal.returns-then-not-enters_all-clause-closed
returns-then-not-enters_all-clause-closed c =
    closed_of_set c.args.graph.now c.in_ok-reached.reached c.requires.ends (omega arith) (returns-then-not-enters_all-clause-exact c)

pub returns-then-not-enters_all-clause-not_connected : goal.returns-then-not-enters_all-clause-not_connected
returns-then-not-enters_all-clause-not_connected c = excluded c.args.graph.now c.in_ok-reached.reached (returns-then-not-enters_all-clause-closed c)

pub returns-then-not-enters_all-2-clause-exact : goal.returns-then-not-enters_all-2-clause-exact
returns-then-not-enters_all-2-clause-exact c =
    shows_stranded c.args.graph.now c.in_ok-from_zero.from_zero c.in_ok-to_zero.to_zero c.in_ok-stranded.stranded (omega arith) c.in_ok-from_zero.ensures
    (sym (c.enters_all.ensures ∙ ap all_entered c.as_slice.ensures) ∙ c.if-not-enters_all.false)
    c.in_ok-to_zero.ensures
    (sym (c.enters_all-2.ensures ∙ ap all_entered c.as_slice-2.ensures) ∙ c.if-not-enters_all-2.true)
    (c.in_ok-stranded.ensures ∙ ap (λ (t : List (Option ℕ)). filter (λ v. not (is_entered t v)) (range_with_len 0 (length t)))
    c.as_slice-then-not-enters_all-2.ensures)

pub returns-then-not-enters_all-2-clause-closed : goal.returns-then-not-enters_all-2-clause-closed
returns-then-not-enters_all-2-clause-closed c =
    closed_of_set c.args.graph.now c.in_ok-stranded.stranded c.requires.ends (omega arith) (returns-then-not-enters_all-2-clause-exact c)

pub returns-then-not-enters_all-2-clause-not_connected : goal.returns-then-not-enters_all-2-clause-not_connected
returns-then-not-enters_all-2-clause-not_connected c = excluded c.args.graph.now c.in_ok-stranded.stranded (returns-then-not-enters_all-2-clause-closed c)

pub returns-clause-exact : goal.returns-clause-exact
returns-clause-exact c =
    shows_none c.args.graph.now c.in_ok-from_zero.from_zero c.in_ok-to_zero.to_zero (omega arith) c.in_ok-from_zero.ensures
    (sym (c.enters_all.ensures ∙ ap all_entered c.as_slice.ensures) ∙ c.if-not-enters_all.false)
    c.in_ok-to_zero.ensures
    (sym (c.enters_all-2.ensures ∙ ap all_entered c.as_slice-2.ensures) ∙ c.if-not-enters_all-2.false)

pub returns-clause-connected : goal.returns-clause-connected
returns-clause-connected c = connected_of_none c.args.graph.now (sym (returns-clause-exact c))

pub returns-clause-trees : goal.returns-clause-trees
returns-clause-trees c = record {
  from_zero = c.in_ok-from_zero.ensures.spanning (sym (c.enters_all.ensures ∙ ap all_entered c.as_slice.ensures) ∙ c.if-not-enters_all.false);
  to_zero = c.in_ok-to_zero.ensures.spanning (sym (c.enters_all-2.ensures ∙ ap all_entered c.as_slice-2.ensures) ∙ c.if-not-enters_all-2.false);
}
