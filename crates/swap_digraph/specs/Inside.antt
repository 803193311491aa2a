-- What the fields of a digraph mean, and what holds of them.
use Rattle.std.specs.Prelude.{◌≡◌, ◌≤◌, map, length}
use Rattle.std.specs.List.{range_with_len}
use Rattle.swap_digraph.specs.Value.{Graph}
use Rattle.swap_digraph.specs.Graph.{entering, leaving}
use Rattle.swap_digraph.specs.declared.digraph.Digraph.TheInside.{Inside}

abbrev pub header_graph : Inside → Graph
header_graph d = record { n = d.n; arcs = d.arcs }

-- The lists of entering and leaving arcs agree with the arcs.
pub record Agrees (d : Inside) : Type 0 where
  pub few : length d.arcs ≤ 128
  pub entering : d.entering ≡ map (entering (header_graph d)) (range_with_len 0 d.n)
  pub leaving : d.leaving ≡ map (leaving (header_graph d)) (range_with_len 0 d.n)
