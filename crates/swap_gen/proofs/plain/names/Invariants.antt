use Rattle.std.proofs.Common.{◌≡◌, map}
use Rattle.std.specs.List.{range_with_len}
use Rattle.swap_gen.specs.Drawn.{drawn_party_label}
use Rattle.swap_gen.proofs.plain.names.Given as goal

abbrev pub invariant-loop-p : goal.invariant-loop-p
invariant-loop-p l = l.names.items ≡ map drawn_party_label (range_with_len 0 l.p)
