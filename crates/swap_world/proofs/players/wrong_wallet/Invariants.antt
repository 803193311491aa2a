use Rattle.std.proofs.Common.{◌≡◌, ℕ, ◌<◌, None}
use Rattle.swap_world.specs.Actors.{mismatched_lock}
use Rattle.swap_world.proofs.players.wrong_wallet.Given as goal

abbrev pub invariant-parties : goal.invariant-parties
invariant-parties l = (q : ℕ) → q < l.p → mismatched_lock l.job q ≡ None
