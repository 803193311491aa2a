use Rattle.hash_chains.specs.Lanes.{lane}
use Rattle.hash_chains.proofs.Lanes.{start_is}
use Rattle.hash_chains.proofs.blocks.four_starts.Goals as goal

pub returns : goal.returns
returns c = λ j lt.
    start_is _ (lane c.args.seed j) _ _ _ _ (c.lane_start.ensures j lt) (c.tails.ensures j lt)
