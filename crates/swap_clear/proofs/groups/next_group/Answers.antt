use Rattle.std.proofs.Common.{◌≡◌, ◌∙◌, ◌≤◌, length, subst, sym, ap, ap₂, arith}
use Rattle.swap_digraph.specs.Value.{Graph}
use Rattle.swap_digraph.specs.Graph.{HasEnds, first_is}
use Rattle.swap_clear.specs.Groups.{own_graph, inner_arcs}
use Rattle.swap_clear.specs.Leaders.{choose_leaders}
use Rattle.swap_clear.proofs.Sizes.{set_few, arcs_few, parse_arcs, set_some, own_ends_hold, own_led, next_none, next_empty, next_some, next_fails}
use Rattle.swap_clear.proofs.groups.next_group.Goals as goal

pub returns-then-not-is_first_party : goal.returns-then-not-is_first_party
returns-then-not-is_first_party c =
    next_none c.args.graph.now c.args.number c.args.v c.in_ok-set.set c.in_ok-set.ensures
    (sym (c.is_first_party.ensures ∙ ap (first_is c.args.v) c.as_slice.ensures) ∙ c.if-not-is_first_party.true)

pub returns-then-is_empty : goal.returns-then-is_empty
returns-then-is_empty c =
    next_empty c.args.graph.now c.args.number c.args.v c.in_ok-set.set c.in_ok-numbers.numbers c.in_ok-set.ensures
    (c.in_ok-numbers.ensures ∙ ap (inner_arcs c.args.graph.now) c.as_slice-2.ensures)
    (sym (c.is_first_party.ensures ∙ ap (first_is c.args.v) c.as_slice.ensures) ∙ c.if-not-is_first_party.false)
    (sym c.is_empty.ensures ∙ c.if-is_empty.true)

pub own_graph-requires-clause-few : goal.own_graph-requires-clause-few
own_graph-requires-clause-few c =
    let l = set_few c.args.graph.now c.args.v c.as_slice-3.result.now (c.as_slice-3.ensures ∙ c.in_ok-set.ensures) in
    omega (arith, l)

pub own_graph-requires-clause-few_arcs : goal.own_graph-requires-clause-few_arcs
own_graph-requires-clause-few_arcs c =
    let l = arcs_few c.args.graph.now c.in_ok-set.set c.as_slice-4.result.now
    (c.as_slice-4.ensures ∙ (c.in_ok-numbers.ensures ∙ ap (inner_arcs c.args.graph.now) c.as_slice-2.ensures)) in
    omega (arith, l)

pub own_graph-requires-clause-numbers : goal.own_graph-requires-clause-numbers
own_graph-requires-clause-numbers c =
    parse_arcs c.args.graph.now c.in_ok-set.set c.as_slice-4.result.now
    (c.as_slice-4.ensures ∙ (c.in_ok-numbers.ensures ∙ ap (inner_arcs c.args.graph.now) c.as_slice-2.ensures))

pub own_graph-requires-clause-ends : goal.own_graph-requires-clause-ends
own_graph-requires-clause-ends c =
    own_ends_hold c.args.graph.now c.requires.ends c.args.v c.requires.v c.as_slice-3.result.now c.as_slice-4.result.now
    (c.as_slice-3.ensures ∙ c.in_ok-set.ensures)
    (c.as_slice-4.ensures ∙ (c.in_ok-numbers.ensures ∙ ap (inner_arcs c.args.graph.now) c.as_slice-2.ensures)
    ∙ sym (ap (inner_arcs c.args.graph.now) c.as_slice-3.ensures))

pub make_group-requires-clause-parties : goal.make_group-requires-clause-parties
make_group-requires-clause-parties c =
    let few = set_few c.args.graph.now c.args.v c.in_ok-set.set c.in_ok-set.ensures in
    let some = set_some c.args.graph.now c.args.v c.in_ok-set.set c.in_ok-set.ensures c.requires.v in
    let size : c.in_ok-own.own.n ≡ length c.in_ok-set.set =
    ap (λ (x : Graph). x.n) (c.in_ok-own.ensures ∙ ap₂ (own_graph c.args.graph.now) c.as_slice-3.ensures c.as_slice-4.ensures) in
    (omega (arith, some, size), omega (arith, few, size))

pub make_group-requires-clause-ends : goal.make_group-requires-clause-ends
make_group-requires-clause-ends c =
    subst (λ (x : Graph). HasEnds x) (sym (c.in_ok-own.ensures ∙ ap₂ (own_graph c.args.graph.now) c.as_slice-3.ensures c.as_slice-4.ensures))
    (own_ends_hold c.args.graph.now c.requires.ends c.args.v c.requires.v c.in_ok-set.set c.in_ok-numbers.numbers c.in_ok-set.ensures
    (c.in_ok-numbers.ensures ∙ ap (inner_arcs c.args.graph.now) c.as_slice-2.ensures))

pub make_group-requires-clause-some : goal.make_group-requires-clause-some
make_group-requires-clause-some c =
    subst (λ (x : Graph). 1 ≤ length (choose_leaders x)) (sym (c.in_ok-own.ensures
    ∙ ap₂ (own_graph c.args.graph.now) c.as_slice-3.ensures c.as_slice-4.ensures))
    (own_led c.args.graph.now c.requires.ends c.args.v c.requires.v c.in_ok-set.set c.in_ok-numbers.numbers c.in_ok-set.ensures
    (c.in_ok-numbers.ensures ∙ ap (inner_arcs c.args.graph.now) c.as_slice-2.ensures) (sym c.is_empty.ensures ∙ c.if-is_empty.false))

pub returns-in-Ok : goal.returns-in-Ok
returns-in-Ok c =
    next_some c.args.graph.now c.args.number c.args.v c.in_ok-set.set c.in_ok-numbers.numbers c.in_ok-own.own c.in-Ok.group c.in_ok-set.ensures
    (c.in_ok-numbers.ensures ∙ ap (inner_arcs c.args.graph.now) c.as_slice-2.ensures)
    (c.in_ok-own.ensures ∙ ap₂ (own_graph c.args.graph.now) c.as_slice-3.ensures c.as_slice-4.ensures)
    (sym (c.is_first_party.ensures ∙ ap (first_is c.args.v) c.as_slice.ensures) ∙ c.if-not-is_first_party.false)
    (sym c.is_empty.ensures ∙ c.if-is_empty.false) c.in-Ok.ensures

pub returns : goal.returns
returns c =
    next_fails c.in-Err.fault c.args.graph.now c.args.number c.args.v c.in_ok-set.set c.in_ok-numbers.numbers c.in_ok-own.own c.in_ok-set.ensures
    (c.in_ok-numbers.ensures ∙ ap (inner_arcs c.args.graph.now) c.as_slice-2.ensures)
    (c.in_ok-own.ensures ∙ ap₂ (own_graph c.args.graph.now) c.as_slice-3.ensures c.as_slice-4.ensures)
    (sym (c.is_first_party.ensures ∙ ap (first_is c.args.v) c.as_slice.ensures) ∙ c.if-not-is_first_party.false)
    (sym c.is_empty.ensures ∙ c.if-is_empty.false) c.in-Err.ensures
