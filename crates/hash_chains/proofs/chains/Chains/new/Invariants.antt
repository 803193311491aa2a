use Rattle.std.proofs.Common.{◌≡◌, ℕ, ◌*◌, ◌<◌, length, get_or}
use Rattle.hash_chains.specs.Fours.{AreFourChains, no_four}
use Rattle.hash_chains.proofs.chains.Chains.new.Given as goal

abbrev pub invariant-fours : goal.invariant-fours
invariant-fours l = record {
  long : length l.fours.items ≡ 17;
  each : (g : ℕ) → g < l.g → AreFourChains l.seed l.party l.lock (4 * g) (get_or l.fours.items g no_four);
}
