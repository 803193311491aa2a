-- The arcs that touch the parties of a deal.
use Rattle.std.specs.Prelude.{ℕ, List, map}
use Rattle.std.specs.List.{range_with_len}
use Rattle.swap_digraph.specs.declared.deal.Deal.{Deal}
use Rattle.swap_run.specs.Fair.{adjacent_arcs}

-- those that touch each party, by party
abbrev pub all_adjacent : Deal → List (List ℕ)
all_adjacent d = map (adjacent_arcs d) (range_with_len 0 d.graph.n)
