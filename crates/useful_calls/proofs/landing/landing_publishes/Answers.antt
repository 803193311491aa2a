use Rattle.std.proofs.Common.{subst}
use Rattle.std.specs.Prelude.{slice_index_or}
use Rattle.swap_base.specs.Lists.{IsElement}
use Rattle.swap_base.proofs.Lists.{in_place}
use Rattle.swap_rules.proofs.Words.{leaves}
use Rattle.useful_calls.proofs.landing.landing_publishes.Goals as goal

pub put_landing-requires-clause-arc : goal.put_landing-requires-clause-arc
put_landing-requires-clause-arc c =
    let arcs = c.leaving-arc-items.result.now in
    let arc = slice_index_or arcs c.arcs.arc-index 0 in
    (leaves c.args.deal.now c.args.me arc (subst (IsElement arc) c.leaving-arc-items.ensures (in_place arcs c.arcs.arc-index 0 c.arcs-test.true))).0
