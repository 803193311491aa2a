use Rattle.std.proofs.Common.{subst}
use Rattle.std.specs.Prelude.{slice_index_or}
use Rattle.swap_base.specs.Lists.{IsElement}
use Rattle.swap_base.proofs.Lists.{in_place}
use Rattle.swap_rules.proofs.Words.{enters}
use Rattle.party_notes.proofs.kept.opens_first.Goals as goal

pub opens_arc-requires-clause-arc : goal.opens_arc-requires-clause-arc
opens_arc-requires-clause-arc c =
    let arcs = c.entering.result.now in
    let arc = slice_index_or arcs 0 0 in
    (enters c.args.deal.now c.args.me arc (subst (IsElement arc) c.entering.ensures (in_place arcs 0 0 c.in-len1-up.len_at_least))).0
