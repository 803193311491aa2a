-- Which parties reach which, by walks along arcs, and the closed set that is answered.
use Rattle.std.specs.Prelude.{ℕ, zero, suc, Bool, not, ◌==◌, ◌&&◌, ◌||◌, List, map, filter, Option, Some, None, if◌then◌else◌}
use Rattle.std.specs.List.{list_any, list_all}
use Rattle.swap_digraph.specs.declared.arc_ends.ArcEnds.{ArcEnds}
use Rattle.swap_digraph.specs.Value.{Graph}
use Rattle.swap_digraph.specs.Graph.{parties, has_arc}

-- whether a walk of at most k arcs leads from u to v: u is v, or an arc leads from u to a party
-- from which a walk of fewer does
unfoldable pub reaches_in_arcs : Graph → ℕ → ℕ → ℕ → Bool
reaches_in_arcs g zero u v = u == v
reaches_in_arcs g (suc k) u v = (u == v) || list_any (λ w. has_arc g u w && reaches_in_arcs g k w v) (parties g)

-- whether a walk leads from u to v; one of at most as many arcs as there are parties does, if any
unfoldable pub reaches : Graph → ℕ → ℕ → Bool
reaches g u v = reaches_in_arcs g g.n u v

-- the parties that party 0 reaches, ascending
abbrev pub reached : Graph → List ℕ
reached g = filter (λ v. reaches g 0 v) (parties g)

-- the parties that don't reach party 0, ascending
abbrev pub stranded : Graph → List ℕ
stranded g = filter (λ v. not (reaches g v 0)) (parties g)

-- what party 0 reaches, where that isn't everything; else the parties that don't reach party 0,
-- where there are any
unfoldable pub closed_set : Graph → Option (List ℕ)
closed_set g =
    if not (list_all (λ v. reaches g 0 v) (parties g)) then Some (reached g)
    else if not (list_all (λ v. reaches g v 0) (parties g)) then Some (stranded g)
    else None

abbrev pub reversed_ends : ArcEnds → ArcEnds
reversed_ends a = record { from = a.to; to = a.from }

-- the digraph with each arc turned round
abbrev pub reversed : Graph → Graph
reversed g = record { n = g.n; arcs = map reversed_ends g.arcs }
