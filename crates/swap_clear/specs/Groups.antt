-- The arcs that are left out, the groups of parties, and a group's own digraph.
use Rattle.std.specs.Prelude.{ℕ, ◌==◌, ◌&&◌, Bool, not, List, length, map, filter, position, unwrap_or, slice_index}
use Rattle.swap_digraph.specs.declared.arc_ends.ArcEnds.{ArcEnds}
use Rattle.swap_digraph.specs.Value.{Graph}
use Rattle.swap_digraph.specs.Graph.{parties, arcs, ends, is_listed}
use Rattle.digraph_check.specs.Reach.{reaches}
use Rattle.swap_clear.specs.declared.answer.LeftOut.{LeftOut}

-- the parties that v reaches, ascending
abbrev pub reachable_parties : Graph → ℕ → List ℕ
reachable_parties g v = filter (λ w. reaches g v w) (parties g)

-- whether the arc lies on a cycle: its counterparty reaches its party
abbrev pub is_cyclic : Graph → ℕ → Bool
is_cyclic g a = reaches g (ends g a).to (ends g a).from

abbrev pub left_out : Graph → ℕ → LeftOut
left_out g a = record { arc = a; closed = reachable_parties g (ends g a).to }

-- the arcs that lie on no cycle, ascending, each with what its counterparty reaches
abbrev pub all_left_out : Graph → List LeftOut
all_left_out g = map (left_out g) (filter (λ a. not (is_cyclic g a)) (arcs g))

-- the parties that v reaches and that reach v, ascending
abbrev pub strong_component : Graph → ℕ → List ℕ
strong_component g v = filter (λ w. reaches g v w && reaches g w v) (parties g)

-- the arcs with both ends in the set, ascending
abbrev pub inner_arcs : Graph → List ℕ → List ℕ
inner_arcs g set = filter (λ a. is_listed (ends g a).from set && is_listed (ends g a).to set) (arcs g)

-- where v stands in the set
abbrev pub index_in_set : List ℕ → ℕ → ℕ
index_in_set set v = unwrap_or (position (λ w. w == v) set) 0

-- the party at that place of the set
abbrev pub find_party : List ℕ → ℕ → ℕ
find_party set k = slice_index set k

abbrev pub own_ends : List ℕ → ArcEnds → ArcEnds
own_ends set e = record { from = index_in_set set e.from; to = index_in_set set e.to }

-- the set's own digraph: its parties by their places, and those arcs in order
abbrev pub own_graph : Graph → List ℕ → List ℕ → Graph
own_graph g set numbers = record { n = length set; arcs = map (λ a. own_ends set (ends g a)) numbers }
