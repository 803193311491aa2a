use Rattle.std.proofs.Common.{[], ◌∷◌, get_or, rules}
use Rattle.std.specs.Int.{w32, w64, to_be_bytes}
use Rattle.swap_digraph.specs.Deal.{party, counterparty, amount}
use Rattle.hashkey_path.proofs.Feeding.{feeds_as, feeds_both}
use Rattle.hashkey_path.proofs.digest.feed_arc.Goals as goal

pub returns : goal.returns
returns c =
    feeds_both _ _ _ _ _ (feeds_as _ _ _ (party c.args.deal.now c.args.arc ∷ counterparty c.args.deal.now c.args.arc ∷ []) (search rules) c.update.ensures)
    (feeds_both _ _ _ _ _ (feeds_as _ _ _ (to_be_bytes w64 (amount c.args.deal.now c.args.arc)) (search rules) c.update-2.ensures)
    (feeds_as _ _ _ (to_be_bytes w32 (get_or c.args.deal.now.timelocks c.args.arc 0)) (search rules) c.update-3.ensures))
