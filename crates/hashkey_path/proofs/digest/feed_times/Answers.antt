use Rattle.hashkey_path.proofs.Feeding.{feeds_as, feeds_both}
use Rattle.hashkey_path.proofs.digest.feed_times.Goals as goal

pub returns : goal.returns
returns c =
    feeds_both _ _ _ _ _ (feeds_as _ _ _ _ c.to_be_bytes.ensures c.update.ensures)
    (feeds_both _ _ _ _ _ (feeds_as _ _ _ _ c.to_be_bytes-2.ensures c.update-2.ensures) (feeds_as _ _ _ _ c.to_be_bytes-3.ensures c.update-3.ensures))
