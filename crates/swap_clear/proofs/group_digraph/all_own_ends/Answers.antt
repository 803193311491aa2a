use Rattle.std.proofs.Common.{◌∙◌, ◌<◌, ◌∷◌, [], ◌++◌, get_or, length, List, ap, sym, subst}
use Rattle.swap_base.proofs.Lists.{in_place}
use Rattle.swap_digraph.specs.declared.arc_ends.ArcEnds.{ArcEnds}
use Rattle.swap_digraph.specs.Graph.{ends}
use Rattle.swap_clear.specs.Groups.{own_ends}
use Rattle.swap_clear.proofs.Loops.{each_more}
use Rattle.swap_clear.proofs.group_digraph.all_own_ends.Goals as goal

pub bounds-arcs-number : goal.bounds-arcs-number
bounds-arcs-number c =
    subst (λ (xs : List ArcEnds). get_or c.args.numbers.now c.loop-number.number-index 0 < length xs) (sym c.arcs.ensures)
    (c.requires.numbers _ (in_place c.args.numbers.now c.loop-number.number-index 0 c.loop-number-test.true))

pub loop-number-preserved : goal.loop-number-preserved
loop-number-preserved c =
    each_more (λ a. own_ends c.args.set.now (ends c.args.graph.now a)) c.args.numbers.now c.loop-number.number-index 0 c.loop-number.list.items
    c.push.new.self.items c.loop-number-test.true
    (c.in_ok-push.ensures.items ∙ ap (λ (e : ArcEnds). c.loop-number.list.items ++ e ∷ []) (c.own_ends.ensures
    ∙ ap (λ (xs : List ArcEnds). own_ends c.args.set.now (get_or xs (get_or c.args.numbers.now c.loop-number.number-index 0) (record { from = 0; to = 0 })))
    c.arcs.ensures)) c.loop-number.invariant
