use Rattle.std.proofs.Common.{ℕ, slice_index, ◌∙◌, arith, Fits, w32}
use Rattle.std.proofs.lemmas.Simd.{Each1-get_or}
use Rattle.hash_chains.proofs.Lanes.{joined_is}
use Rattle.hash_chains.proofs.ops.joined.Goals as goal

pub returns : goal.returns
returns c = λ j lt.
    let x : Fits w32 (slice_index c.args.x j) = Each1-get_or (λ (a : ℕ). Fits w32 a) c.args.x j 0 (omega arith) c.fits-x.1 in
    let y : Fits w32 (slice_index c.args.y j) = Each1-get_or (λ (a : ℕ). Fits w32 a) c.args.y j 0 (omega arith) c.fits-y.1 in
    c.sum.ensures j lt
    ∙ rw (c.left.ensures j lt, c.right.ensures j lt) (joined_is (slice_index c.args.x j) (slice_index c.args.y j) x.fits y.fits)
