use Rattle.std.proofs.Common.{◌≡◌, ◌∙◌, ap, map, length, arith}
use Rattle.std.specs.List.{range_with_len}
use Rattle.swap_gen.specs.Word.{DrawState}
use Rattle.swap_gen.specs.Drawn.{drawn_arcs, drawn_amount}
use Rattle.swap_gen.proofs.Together.{few_arcs, faultless_arcs, deal_is, graph_with}
use Rattle.swap_gen.proofs.plain.plain_deal.Goals as goal

pub drawn_amounts-requires-clause-few : goal.drawn_amounts-requires-clause-few
drawn_amounts-requires-clause-few c =
    let few = few_arcs _ _ c.in_ok-arcs.arcs.items c.requires.high c.in_ok-arcs.ensures.arcs in
    omega (arith, few, c.len.ensures)

pub build_graph-requires-clause-few : goal.build_graph-requires-clause-few
build_graph-requires-clause-few c =
    let few = few_arcs _ _ c.in_ok-arcs.arcs.items c.requires.high c.in_ok-arcs.ensures.arcs in
    omega (arith, few)

pub build_graph-requires-clause-sound : goal.build_graph-requires-clause-sound
build_graph-requires-clause-sound c = faultless_arcs _ _ c.in_ok-arcs.arcs.items c.requires.low c.in_ok-arcs.ensures.arcs

pub returns-clause-deal : goal.returns-clause-deal
returns-clause-deal c =
    let seed = c.args.draws.now.seed in
    let n = c.args.parties in
    let arcs = c.in_ok-arcs.ensures.arcs ∙ ap (λ (s : DrawState). drawn_arcs s.seed n) c.leader_count-leaders.ensures.draws in
    let size : c.len.result ≡ length (drawn_arcs seed n) = omega (arith, c.len.ensures, ap length arcs) in
    deal_is seed n _ _ _ _ _ _
    (c.in_ok-build_graph.ensures ∙ ap (graph_with n) arcs)
    (c.in_ok-lowest.ensures ∙ ap (range_with_len 0) c.leader_count-leaders.ensures.count)
    (c.in_ok-amounts.ensures.amounts
    ∙ ap (λ (s : DrawState). map (drawn_amount s.seed n) (range_with_len 0 c.len.result)) c.in_ok-arcs.ensures.draws
    ∙ ap (λ (s : DrawState). map (drawn_amount s.seed n) (range_with_len 0 c.len.result)) c.leader_count-leaders.ensures.draws
    ∙ ap (λ k. map (drawn_amount seed n) (range_with_len 0 k)) size)
    c.empty.ensures c.empty-2.ensures c.empty-3.ensures
