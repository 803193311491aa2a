use Rattle.std.proofs.Common.{ℕ, ◌*◌, ◌%◌, ◌^◌, slice_index, replicate, ap, ◌∙◌, arith}
use Rattle.std.proofs.lemmas.Simd.{get_or-zip2, get_or-replicate}
use Rattle.hash_chains.proofs.ops.left.Goals as goal

pub returns : goal.returns
returns c = λ j lt.
    get_or-zip2 (λ (a b : ℕ). a * 2 ^ b % 2 ^ 32) c.args.x (replicate 4 c.args.by) j 0 0 0 (omega arith) lt
    ∙ ap (λ (k : ℕ). slice_index c.args.x j * 2 ^ k % 2 ^ 32) (get_or-replicate 4 j c.args.by 0 lt)
