use Rattle.std.proofs.Common.{◌≡◌, ℕ, ◌<◌, min, slice_index}
use Rattle.sha2.specs.Sha256.{digest_bytes}
use Rattle.hash_chains.specs.Chains.{chain_value}
use Rattle.hash_chains.specs.Lanes.{lane}
use Rattle.hash_chains.proofs.each.chain_after_each.Given as goal

abbrev pub invariant-steps : goal.invariant-steps
invariant-steps l = (j : ℕ) → j < 4 → digest_bytes (lane l.reached j) 8 ≡ chain_value (min l.i (slice_index l.counts j)) (digest_bytes (lane l.fn.y j) 8)
