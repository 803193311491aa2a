use Rattle.offer_moves.proofs.Lists.{starts}
use Rattle.offer_moves.specs.Limits.{parse_sig}
use Rattle.offer_moves.proofs.limits.parse_sigs.Goals as goal

pub loop-text-init : goal.loop-text-init
loop-text-init c = rw c.new-sigs.ensures.items (starts (parse_sig c.args.line) c.args.texts.now)
