use Rattle.std.proofs.Common.{◌≡◌, filter, ◌==◌, ◌||◌}
use Rattle.std.specs.List.{range_with_len}
use Rattle.swap_digraph.specs.Graph.{ends}
use Rattle.swap_gen.proofs.generator.touching.Given as goal

abbrev pub invariant-loop-number : goal.invariant-loop-number
invariant-loop-number l = l.numbers.items ≡ filter (λ a. (l.p == (ends l.graph a).from) || (l.p == (ends l.graph a).to)) (range_with_len 0 l.number)
