use Rattle.std.proofs.Common.{◌≡◌, drop}
use Rattle.offer_moves.specs.Lists.{collected_results}
use Rattle.offer_moves.proofs.Lists.{with_front}
use Rattle.offer_header.proofs.limits.limit_each.Given as goal

abbrev pub invariant-loop-part : goal.invariant-loop-part
invariant-loop-part g l = with_front l.list.items (collected_results (g.T.Limited.limited_value l.context l.line) (drop l.part-index l.parts)) ≡ collected_results
    (g.T.Limited.limited_value l.context l.line) l.parts
