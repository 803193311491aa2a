use Rattle.std.proofs.Common.{◌≡◌, ℕ, ◌*◌, ◌<◌, [], length, get_or}
use Rattle.hash_chains.specs.Fours.{AreStarts}
use Rattle.hash_chains.proofs.starts.starts_by_fours.Given as goal

abbrev pub invariant-fours : goal.invariant-fours
invariant-fours l = record {
  long : length l.fours ≡ 17;
  each : (g : ℕ) → g < l.g → AreStarts l.seed l.party l.lock (4 * g) (get_or l.fours g []);
}
