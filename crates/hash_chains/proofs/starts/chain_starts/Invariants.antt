use Rattle.std.proofs.Common.{◌≡◌, ℕ, ◌<◌, [], length, get_or}
use Rattle.hash_chains.specs.Chains.{chain_start}
use Rattle.hash_chains.proofs.starts.chain_starts.Given as goal

abbrev pub invariant-chains : goal.invariant-chains
invariant-chains l = record {
  long : length l.starts ≡ 67;
  each : (k : ℕ) → k < l.j → get_or l.starts k [] ≡ chain_start l.seed l.party l.lock k;
}
