use Rattle.std.proofs.Common.{◌∙◌, sym, ap}
use Rattle.swap_digraph.specs.Graph.{resolve_all_ends, entering}
use Rattle.conduct_check.specs.Judged.{judged_book}
use Rattle.swap_rules.specs.Party.{first_key}
use Rattle.conduct_check.specs.Standing.{is_valid_on_first_arc}
use Rattle.conduct_check.proofs.Valid.{first_is_key, valid_into}
use Rattle.conduct_check.proofs.conduct.is_valid_arc_key.Goals as goal

pub returns-then-arcs-arc : goal.returns-then-arcs-arc
returns-then-arcs-arc c = λ first.
    let j = c.args.judged.now in
    let d = j.deal.now in
    c.requires.standing.valid c.args.key.now.lock c.requires.lock
    ∙ ap (is_valid_on_first_arc d (entering d.graph j.party))
    (first_is_key (first_key (judged_book j) j.party c.args.key.now.lock) c.args.key.now first)
    ∙ valid_into d j.party c.args.arc c.args.key.now c.requires.arc (ap (λ arcs. (resolve_all_ends arcs c.args.arc).to) (sym c.arcs.ensures)
    ∙ c.if-arcs-arc.true)
