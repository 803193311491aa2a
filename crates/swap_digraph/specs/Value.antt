-- What callers see of a digraph.
use Rattle.std.specs.Prelude.{ℕ, List}
use Rattle.swap_digraph.specs.declared.arc_ends.ArcEnds.{ArcEnds}

pub record Graph : Type 0 where
  -- the number of parties
  pub n : ℕ
  pub arcs : List ArcEnds
