use Rattle.std.proofs.Common.{ℕ, ◌<◌, ◌-◌, List, [], get_or, slice_index, arith, ap, ◌∙◌}
use Rattle.hash_chains.specs.Chains.{chain_value}
use Rattle.hash_signature.specs.Signature.{signature_chain_end}
use Rattle.hash_signature.proofs.Chains.{held_more, held_all}
use Rattle.hash_signature.proofs.sig.digest_of_carried.Goals as goal

pub chains-preserved : goal.chains-preserved
chains-preserved c =
    let j : ℕ = c.chains.j in
    let lt : j < 67 = omega arith in
    held_more (signature_chain_end c.args.message.now c.args.values.now) j _ _
    (c.carried-ends.ensures.each j lt
    ∙ ap (λ (n : ℕ). chain_value n (get_or c.args.values.now j [])) (c.rests.ensures j lt ∙ ap (λ (l : List ℕ). 15 - slice_index l j) c.digits.ensures.value))
    (c.update-in-chains.ensures _ c.chains.invariant)

pub returns : goal.returns
returns c =
    c.finalize.ensures _ (held_all (signature_chain_end c.args.message.now c.args.values.now) c.chains.j _ (omega arith) c.chains.invariant)
