use Rattle.std.proofs.Common.{ℕ, sym, ap, ◌∙◌}
use Rattle.hash_chains.specs.Lanes.{block_words, lane, step_message}
use Rattle.hash_chains.proofs.Lanes.{step_words}
use Rattle.hash_chains.proofs.blocks.chain_step.Goals as goal

pub returns : goal.returns
returns c = λ j lt.
    let h = lane c.args.y j in
    c.first_hash.ensures j lt (step_message h)
    (c.block.ensures j lt ∙ ap (λ (t : ℕ). block_words 2 h t 0 264) (c.splat.ensures j lt) ∙ sym (step_words h))
