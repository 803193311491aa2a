use Rattle.std.proofs.Common.{ℕ, List, [], get_or, slice_index, ap, ◌∙◌}
use Rattle.hash_chains.specs.Chains.{chain_value}
use Rattle.hash_signature.specs.Signature.{digit, signed_value, made_signature}
use Rattle.hash_signature.proofs.Chains.{all_filled}
use Rattle.hash_signature.proofs.key.walked.Goals as goal

pub returns : goal.returns
unfolding made_signature
returns c =
    all_filled (signed_value c.args.seed.now c.args.party c.args.lock c.args.message.now) _ [] c.carried.ensures.long (λ j lt. c.carried.ensures.each j lt
    ∙ (ap (λ (l : List ℕ). chain_value (slice_index l j) (get_or c.chain_starts.result j [])) c.digits.ensures.value ∙ ap (chain_value (digit c.args.message.now j)) (c.chain_starts.ensures.each j lt)))
