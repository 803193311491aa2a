use Rattle.std.proofs.Common.{codes}
use Rattle.offer_moves.proofs.Lists.{starts}
use Rattle.offer_moves.specs.FieldLimits.{to_digest}
use Rattle.offer_moves.proofs.limits.list_digests.Goals as goal

pub loop-text-init : goal.loop-text-init
loop-text-init c = rw c.new-digests.ensures.items (starts (to_digest c.args.line (codes "locks")) c.args.texts.now)
