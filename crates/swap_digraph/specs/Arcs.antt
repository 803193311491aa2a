-- The digraph that arcs make, or the least arc's first fault.
use Rattle.std.specs.Prelude.{◌==◌, ◌&&◌, ℕ, Bool, not, nat_lt, List, [], ◌∷◌, ◌++◌, length, position, Option, Some, None, Result, Ok, Err}
use Rattle.std.specs.Prelude.{if◌then◌else◌}
use Rattle.swap_base.specs.Lists.{or_else}
use Rattle.swap_digraph.specs.declared.arc_ends.ArcEnds.{ArcEnds}
use Rattle.swap_digraph.specs.declared.fault.ArcFault.{ArcFault}
use Rattle.swap_digraph.specs.declared.fault.ArcFault.TheVariants.{OutOfRange, SelfArc, Parallel}
use Rattle.swap_digraph.specs.declared.deal.Version.{Version}
use Rattle.swap_digraph.specs.declared.deal.Version.TheVariants.{One, Two}
use Rattle.swap_digraph.specs.Value.{Graph}

abbrev pub same_ends : ArcEnds → ArcEnds → Bool
same_ends a b = (a.from == b.from) && (a.to == b.to)

-- version 1 has no two arcs with the same ends: the least arc before k with its ends
abbrev pub parallel : Version → ℕ → Option ℕ → Option ArcFault
parallel One k (Some j) = Some (Parallel j k)
parallel One k None = None
parallel Two k j = None

-- the first fault of arc k, where those before it come first in the list
unfoldable pub arc_fault : ℕ → Version → List ArcEnds → ℕ → ArcEnds → Option ArcFault
arc_fault n version before k a =
    if not (nat_lt a.from n && nat_lt a.to n) then Some (OutOfRange k)
    else if a.from == a.to then Some (SelfArc k)
    else parallel version k (position (same_ends a) before)

-- the first fault of the least arc that has one, among those that come after others
abbrev pub next_arc_fault : ℕ → Version → List ArcEnds → List ArcEnds → Option ArcFault
next_arc_fault n version before [] = None
next_arc_fault n version before (a ∷ arcs) = or_else (arc_fault n version before (length before) a) (next_arc_fault n version (before ++ a ∷ []) arcs)

unfoldable pub first_fault : ℕ → Version → List ArcEnds → Option ArcFault
first_fault n version arcs = next_arc_fault n version [] arcs

abbrev pub graph_or : ℕ → List ArcEnds → Option ArcFault → Result Graph ArcFault
graph_or n arcs None = Ok (record { n = n; arcs = arcs })
graph_or n arcs (Some fault) = Err fault

unfoldable pub build_digraph : ℕ → Version → List ArcEnds → Result Graph ArcFault
build_digraph n version arcs = graph_or n arcs (first_fault n version arcs)
