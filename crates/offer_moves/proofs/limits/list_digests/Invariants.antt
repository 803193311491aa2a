use Rattle.std.proofs.Common.{◌≡◌, codes, drop}
use Rattle.offer_moves.specs.Lists.{collected_results}
use Rattle.offer_moves.specs.FieldLimits.{to_digest}
use Rattle.offer_moves.proofs.Lists.{with_front}
use Rattle.offer_moves.proofs.limits.list_digests.Given as goal

abbrev pub invariant-loop-text : goal.invariant-loop-text
invariant-loop-text l =
    with_front l.digests.items (collected_results (to_digest l.line (codes "locks")) (drop l.text-index l.texts)) ≡ collected_results (to_digest l.line (codes "locks")) l.texts
