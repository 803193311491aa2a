use Rattle.std.proofs.Common.{◌≡◌, ◌∙◌, get_or, not, List, ◌++◌, ◌∷◌, [], ap, sym, ℕ}
use Rattle.swap_digraph.specs.declared.arc_ends.ArcEnds.{ArcEnds}
use Rattle.digraph_check.specs.Reach.{reaches}
use Rattle.leader_check.proofs.Passes.{to_below}
use Rattle.swap_clear.specs.Groups.{is_cyclic, left_out, reachable_parties}
use Rattle.swap_clear.proofs.Loops.{listed_on, listed_off}
use Rattle.swap_clear.proofs.left_out.left_out.Goals as goal
use Rattle.swap_clear.proofs.left_out.left_out.Goals.{then-not-reaches+in_ok-closed+in_ok-push, else-not-reaches}

abbrev end_at : List ArcEnds → ℕ → ArcEnds
end_at xs a = get_or xs a (record { from = 0; to = 0 })

pub loop-number-preserved : goal.loop-number-preserved
loop-number-preserved c =
    let n = c.loop-number.number in
    let xs = c.arcs-arc-items.result.now in
    let below = to_below c.args.graph.now xs n c.requires.ends c.arcs-arc-items.ensures c.loop-number-test.true in
    let is : c.reaches.result ≡ is_cyclic c.args.graph.now n =
    c.reaches.ensures ∙ c.requires.rows.tells (end_at xs n).to (end_at xs n).from below
    ∙ ap (λ (ys : List ArcEnds). reaches c.args.graph.now (end_at ys n).to (end_at ys n).from) c.arcs-arc-items.ensures in
    elim c.if-not-reaches.branch [
      | then-not-reaches+in_ok-closed+in_ok-push w ↦
          listed_on (left_out c.args.graph.now) (λ a. not (is_cyclic c.args.graph.now a)) n c.loop-number.list.items c.if-not-reaches.list.items
          (ap not (sym is ∙ w.if-not-reaches.true))
          (ap (λ v. v.items) w.list-is ∙ w.in_ok-push.ensures.items
          ∙ ap (λ (set : List ℕ). c.loop-number.list.items ++ (record { arc = n; closed = set }) ∷ []) (w.in_ok-closed.ensures
          ∙ ap (λ (ys : List ArcEnds). reachable_parties c.args.graph.now (end_at ys n).to) c.arcs-arc-items.ensures)) c.loop-number.invariant
      | else-not-reaches w ↦ ap (λ v. v.items) w.list-is
          ∙ listed_off (left_out c.args.graph.now) (λ a. not (is_cyclic c.args.graph.now a)) n c.loop-number.list.items
          (ap not (sym is ∙ w.if-not-reaches.false)) c.loop-number.invariant
    ]
