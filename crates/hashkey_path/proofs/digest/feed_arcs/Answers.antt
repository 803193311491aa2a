use Rattle.std.proofs.Common.{sym}
use Rattle.hashkey_path.specs.Digest.{arc_bytes}
use Rattle.hashkey_path.proofs.Feeding.{feeds_as, feeds_both, each_more}
use Rattle.hashkey_path.proofs.digest.feed_arcs.Goals as goal

pub arcs-preserved : goal.arcs-preserved
arcs-preserved c =
    feeds_as _ _ _ _ (sym (each_more (arc_bytes c.args.deal.now) c.arcs.arc)) (feeds_both _ _ _ _ _ c.arcs.invariant c.feed_arc.ensures)
