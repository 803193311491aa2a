use Rattle.std.proofs.Common.{ℕ, slice_index, sym, ◌∙◌}
use Rattle.hash_chains.specs.Lanes.{lane, start_message}
use Rattle.hash_chains.proofs.Lanes.{start_words}
use Rattle.hash_chains.proofs.blocks.lane_start.Goals as goal

pub returns : goal.returns
returns c = λ j lt.
    let h = lane c.args.seed j in
    let tail : ℕ = slice_index c.args.tail j in
    c.first_hash.ensures j lt (start_message h tail) (c.block.ensures j lt ∙ sym (start_words h tail))
