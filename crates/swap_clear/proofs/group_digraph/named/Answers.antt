use Rattle.swap_base.proofs.Lists.{in_place}
use Rattle.swap_clear.proofs.group_digraph.named.Goals as goal

pub bounds-set-k : goal.bounds-set-k
bounds-set-k c = c.requires _ (in_place c.args.places.now c.loop-k.k-index 0 c.loop-k-test.true)
