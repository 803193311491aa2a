use Rattle.std.proofs.Common.{ℕ, ◌<◌, ◌≤◌, ◌+◌, length, slice_index_or}
use Rattle.swap_many.specs.Value.{no_chain}
use Rattle.swap_many.proofs.quiet.horizon_rounds.Given as goal

abbrev pub invariant-chains : goal.invariant-chains
invariant-chains l = record {
  few : l.rounds ≤ l.most;
  low : 0 < l.rounds → (q : ℕ) × (q < length l.chains) × ((slice_index_or l.chains q no_chain).clock.height + l.rounds ≤ l.horizon);
}
