use Rattle.std.proofs.Common.{◌∙◌, ap, ℕ, List, ◌++◌, ◌∷◌, [], arith}
use Rattle.leader_check.specs.Followers.{is_follower}
use Rattle.leader_check.proofs.Rows.{length-row, walks_none, walks_next, row_found, rows_first, rows_more, rows_all}
use Rattle.leader_check.proofs.cycle.walk_rows.Goals as goal

pub first_row-requires : goal.first_row-requires
first_row-requires c = let s =
    length-row (is_follower c.args.graph.now c.args.leaders.now) c.args.graph.now.n c.deref.result.now (c.deref.ensures.value
    ∙ c.in_ok-follows.ensures) in omega (arith, s)

pub loop-k-init : goal.loop-k-init
loop-k-init c =
    rows_first c.args.graph.now c.args.leaders.now c.in_ok-first_row.field-0 c.push.new.self.items (c.in_ok-push.ensures.items
    ∙ ap (λ (xs : List (List ℕ)). xs ++ c.in_ok-first_row.field-0 ∷ []) c.new-rows.ensures.items)
    (walks_none c.args.graph.now c.args.leaders.now c.deref.result.now c.in_ok-first_row.field-0 (c.deref.ensures.value
    ∙ c.in_ok-follows.ensures) c.in_ok-first_row.ensures.parties c.in_ok-first_row.ensures.stays)

pub next_row-requires-clause-follows : goal.next_row-requires-clause-follows
next_row-requires-clause-follows c =
    length-row (is_follower c.args.graph.now c.args.leaders.now) c.args.graph.now.n c.deref-in-loop-k.result.now (c.deref-in-loop-k.ensures.value
    ∙ c.in_ok-follows.ensures)

pub next_row-requires-clause-row : goal.next_row-requires-clause-row
next_row-requires-clause-row c =
    (row_found c.args.graph.now c.args.leaders.now c.loop-k.k c.loop-k.rows.items c.index.result.now c.as_slice.result.now c.loop-k.invariant
    c.index.ensures c.as_slice.ensures).parties

pub loop-k-preserved : goal.loop-k-preserved
loop-k-preserved c =
    let tells =
    row_found c.args.graph.now c.args.leaders.now c.loop-k.k c.loop-k.rows.items c.index.result.now c.as_slice.result.now c.loop-k.invariant
    c.index.ensures c.as_slice.ensures in
    rows_more c.args.graph.now c.args.leaders.now c.loop-k.k c.in_ok-row.row c.loop-k.rows.items c.push-in-loop-k.new.self.items
    c.in_ok-push-2.ensures.items c.loop-k.invariant
    (walks_next c.args.graph.now c.args.leaders.now c.loop-k.k c.deref-in-loop-k.result.now c.as_slice.result.now c.in_ok-row.row
    (c.deref-in-loop-k.ensures.value ∙ c.in_ok-follows.ensures) tells c.in_ok-row.ensures.parties c.in_ok-row.ensures.leads)

pub returns : goal.returns
returns c = rows_all c.args.graph.now c.args.leaders.now c.loop-k.k c.loop-k.rows.items (omega arith) c.loop-k.invariant
