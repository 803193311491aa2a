use Rattle.std.proofs.Common.{rules, List, Option, ℕ, sym, refl, subst}
use Rattle.digraph_check.specs.Tree.{IsCrossing, IsSearch}
use Rattle.digraph_check.proofs.Grown.{grown_first, grown_more, grown_smaller, searched}
use Rattle.digraph_check.proofs.search.tree_from_zero.Goals as goal

pub loop-number-init : goal.loop-number-init
loop-number-init c =
    grown_first (record { n = c.args.n; arcs = c.args.arcs.now }) c.in_ok-tree.tree.items
    (c.in_ok-tree.ensures.items_if_clones_equal (λ y h. search rules))

pub loop-number-smaller : goal.loop-number-smaller
loop-number-smaller c =
    grown_smaller (record { n = c.args.n; arcs = c.args.arcs.now }) c.loop-number.tree.items _ c.in-Some.number c.requires.ends c.loop-number.invariant
    c.in-Some.ensures.some.0
    (subst (λ (t : List (Option ℕ)). IsCrossing c.args.arcs.now t c.in-Some.number) c.deref.ensures.value c.in-Some.ensures.some.1) refl

pub loop-number-preserved : goal.loop-number-preserved
loop-number-preserved c =
    grown_more (record { n = c.args.n; arcs = c.args.arcs.now }) c.loop-number.tree.items _ c.in-Some.number c.requires.ends c.loop-number.invariant
    c.in-Some.ensures.some.0
    (subst (λ (t : List (Option ℕ)). IsCrossing c.args.arcs.now t c.in-Some.number) c.deref.ensures.value c.in-Some.ensures.some.1) refl

pub returns : goal.returns
returns c =
    subst (λ (t : List (Option ℕ)). IsSearch (record { n = c.args.n; arcs = c.args.arcs.now }) t) (sym c.new.ensures)
    (searched (record { n = c.args.n; arcs = c.args.arcs.now }) c.loop-number.tree.items c.requires.ends c.loop-number.invariant
    (λ a lt crossing. c.in_default.ensures.none a lt (subst (λ (t : List (Option ℕ)). IsCrossing c.args.arcs.now t a) (sym c.deref.ensures.value) crossing)))
