use Rattle.std.proofs.Common.{◌≡◌, length, map, take, drop}
use Rattle.std.specs.Vec.Iter.{into_iter_items}
use Rattle.swap_job.specs.declared.job.Purpose.TheVariants.{Run}
use Rattle.swap_offer.specs.Wallets.{prepared_wallets}
use Rattle.swap_world.specs.Value.{new_world}
use Rattle.swap_commands.proofs.many.new_worlds.Given as goal

abbrev pub invariant-swaps : goal.invariant-swaps
invariant-swaps l = record {
  so_far : l.worlds.items ≡ map new_world (take (length l.worlds.items) l.many.jobs);
  rest : map (λ v. v.items) (into_iter_items l.own-iterator) ≡ map (prepared_wallets Run) (drop (length l.worlds.items) l.many.jobs);
}
