use Rattle.std.proofs.Common.{◌≡◌, ℕ, min, slice_index, arith}
use Rattle.sha2.specs.Sha256.{digest_bytes}
use Rattle.hash_chains.specs.Lanes.{lane}
use Rattle.hash_chains.proofs.Lengths.{each_more, none_each}
use Rattle.hash_chains.proofs.each.chain_after_each.Goals as goal

pub steps-init : goal.steps-init
steps-init c = λ j lt. none_each (digest_bytes (lane c.args.y j) 8) (slice_index c.args.counts j)

pub steps-preserved : goal.steps-preserved
steps-preserved c = λ j lt.
    each_more (lane c.steps.reached j) _ _ _ c.steps.i (slice_index c.args.counts j) (c.chain_step-next.ensures j lt)
    (c.all_advanced-moved.ensures j lt) (c.steps.invariant j lt)

pub returns : goal.returns
returns c = λ j lt.
    let n : ℕ = slice_index c.args.counts j in
    let most = c.requires j lt in
    let e : min c.steps.i n ≡ n = omega arith in
    rw e at (c.steps.invariant j lt)
