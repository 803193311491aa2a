use Rattle.std.proofs.Common.{◌≡◌, map}
use Rattle.std.specs.List.{range_with_len}
use Rattle.swap_gen.specs.Events.{touching}
use Rattle.swap_gen.proofs.generator.all_touching.Given as goal

abbrev pub invariant-loop-p : goal.invariant-loop-p
invariant-loop-p l = l.lists.items ≡ map (touching l.graph) (range_with_len 0 l.p)
