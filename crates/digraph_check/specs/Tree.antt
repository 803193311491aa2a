-- Trees of walks from party 0.
use Rattle.std.specs.Prelude.{◌≡◌, ◌≢◌, ℕ, zero, suc, ◌<◌, Bool, false, IsTrue, ◌==◌, ◌||◌, List, length, Option, Some, None, is_some, slice_index_or}
use Rattle.std.specs.List.{list_all, range_with_len}
use Rattle.swap_digraph.specs.declared.arc_ends.ArcEnds.{ArcEnds}
use Rattle.swap_digraph.specs.Value.{Graph}
use Rattle.swap_digraph.specs.Graph.{ends, resolve_all_ends}
use Rattle.digraph_check.specs.Reach.{reaches, reversed}
use Rattle.digraph_check.specs.declared.certificate.Trees.{Trees}

-- the arc of the tree that enters v, if any
abbrev pub tree_arc : List (Option ℕ) → ℕ → Option ℕ
tree_arc tree v = slice_index_or tree v None

-- v is party 0, or an arc of the tree enters it
abbrev pub is_entered : List (Option ℕ) → ℕ → Bool
is_entered tree v = (v == 0) || is_some (tree_arc tree v)

abbrev pub all_entered : List (Option ℕ) → Bool
all_entered tree = list_all (λ v. is_entered tree v) (range_with_len 0 (length tree))

-- the arc leads from a party that the tree enters to one that it doesn't
abbrev pub IsCrossing : List ArcEnds → List (Option ℕ) → ℕ → Type 0
IsCrossing arcs tree a = IsTrue (is_entered tree (resolve_all_ends arcs a).from) × (is_entered tree (resolve_all_ends arcs a).to ≡ false)

-- where the arc came from, and v itself where there is none
abbrev pub tree_parent : Graph → ℕ → Option ℕ → ℕ
tree_parent g v None = v
tree_parent g v (Some a) = (ends g a).from

-- where one stands after k steps back from v, against the arcs of the tree; party 0 has none and
-- ends the walk
unfoldable pub walked_back : Graph → List (Option ℕ) → ℕ → ℕ → ℕ
walked_back g tree zero v = v
walked_back g tree (suc k) v = walked_back g tree k (tree_parent g v (tree_arc tree v))

-- Every party but 0 has an arc that enters it, and these arcs, walked back, lead to party 0.
pub record IsTree (g : Graph) (tree : List (Option ℕ)) : Type 0 where
  pub entries : length tree ≡ g.n
  pub root : tree_arc tree 0 ≡ None
  pub entered : (v : ℕ) → v < g.n → v ≢ 0 → (a : ℕ) × (tree_arc tree v ≡ Some a) × (a < length g.arcs) × ((ends g a).to ≡ v)
  pub back : (v : ℕ) → v < g.n → walked_back g tree g.n v ≡ 0

-- The tree enters exactly the parties that party 0 reaches.
pub record IsSearch (g : Graph) (tree : List (Option ℕ)) : Type 0 where
  pub entries : length tree ≡ g.n
  pub reached : (v : ℕ) → v < g.n → is_entered tree v ≡ reaches g 0 v
  pub spanning : IsTrue (all_entered tree) → IsTree g tree

-- One tree leads from party 0 to every party. The other does so in the digraph with each arc turned
-- round, and so leads from every party to party 0.
pub record AreTrees (g : Graph) (t : Trees) : Type 0 where
  pub from_zero : IsTree g t.from_zero
  pub to_zero : IsTree (reversed g) t.to_zero
