use Rattle.std.proofs.Common.{◌≡◌, ℕ, ◌+◌, ◌<◌, length}
use Rattle.sha2.specs.Sha256.{digest_bytes}
use Rattle.hash_chains.specs.Chains.{chain_value}
use Rattle.hash_chains.specs.Fours.{HasRow}
use Rattle.hash_chains.specs.Lanes.{lane}
use Rattle.hash_chains.proofs.chains.walk.Given as goal

abbrev pub invariant-steps : goal.invariant-steps
invariant-steps l = record {
  long : length l.rows ≡ 16;
  here : (i : ℕ) → i < 4 → digest_bytes (lane l.reached i) 8 ≡ chain_value l.n (digest_bytes (lane l.fn.start i) 8);
  each : (n : ℕ) → n < l.n + 1 → HasRow (λ k i. chain_value k (digest_bytes (lane l.fn.start i) 8)) n l.rows;
}
