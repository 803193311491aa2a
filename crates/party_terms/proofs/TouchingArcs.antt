-- The arcs next to a party are arcs of its digraph.
use Rattle.std.proofs.Common.{◌≡◌, ◌==◌, ℕ, ◌<◌, List, length, slice_index_or}
use Rattle.swap_base.proofs.Lists.{from_filter, from_range, in_place}
use Rattle.swap_digraph.specs.Value.{Graph}
use Rattle.swap_digraph.specs.Graph.{arcs, ends, entering, leaving}

entered : (g : Graph) (v i : ℕ) → i < length (entering g v) → slice_index_or (entering g v) i 0 < length g.arcs
entered g v i lt =
    let k = from_filter (λ a. (ends g a).to == v) (slice_index_or (entering g v) i 0) (arcs g) (in_place (entering g v) i 0 lt) in
    from_range (slice_index_or (entering g v) i 0) (length g.arcs) k.0

left : (g : Graph) (v i : ℕ) → i < length (leaving g v) → slice_index_or (leaving g v) i 0 < length g.arcs
left g v i lt =
    let k = from_filter (λ a. (ends g a).from == v) (slice_index_or (leaving g v) i 0) (arcs g) (in_place (leaving g v) i 0 lt) in
    from_range (slice_index_or (leaving g v) i 0) (length g.arcs) k.0

pub entering_below : (g : Graph) (v i : ℕ) (items : List ℕ) → items ≡ entering g v → i < length items → slice_index_or items i 0 < length g.arcs
entering_below g v i items e lt = rw e (entered g v i (rw e at lt))

pub leaving_below : (g : Graph) (v i : ℕ) (items : List ℕ) → items ≡ leaving g v → i < length items → slice_index_or items i 0 < length g.arcs
leaving_below g v i items e lt = rw e (left g v i (rw e at lt))
