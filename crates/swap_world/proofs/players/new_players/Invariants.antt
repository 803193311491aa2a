use Rattle.std.proofs.Common.{◌≡◌, ℕ, ◌<◌, ◌≤◌, length, get_or, map, None}
use Rattle.std.specs.List.{range_with_len}
use Rattle.party_wallet.specs.Wallets.{job_wallet}
use Rattle.swap_world.specs.Actors.{job_actor}
use Rattle.swap_world.proofs.players.new_players.Given as goal

abbrev pub invariant-parties : goal.invariant-parties
invariant-parties l = record {
  so_far : l.players.items ≡ map (job_actor l.job) (range_with_len 0 l.p);
  one_each : length l.wallets.items ≡ l.job.deal.graph.n;
  wallets : (k : ℕ) → l.p ≤ k → k < l.job.deal.graph.n → get_or l.wallets.items k None ≡ job_wallet l.job.deal l.job.conforming l.job.seeds k;
}
