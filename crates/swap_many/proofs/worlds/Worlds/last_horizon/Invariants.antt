use Rattle.std.proofs.Common.{◌≡◌, ◌≤◌, take, length}
use Rattle.std.specs.List.{range_with_len}
use Rattle.swap_base.specs.Lists.{greatest}
use Rattle.swap_run.specs.Fair.{the_horizon}
use Rattle.swap_many.specs.Value.{nth_world}
use Rattle.swap_many.proofs.worlds.Worlds.last_horizon.Given as goal

abbrev pub invariant-swaps : goal.invariant-swaps
invariant-swaps l =
    (l.last ≡ greatest (λ s. the_horizon (nth_world l.self s).deal) (take l.swap (range_with_len 0 (length l.self.worlds)))) × (l.last ≤ 14000)
