use Rattle.std.specs.List.{flat_map, range_with_len}
use Rattle.hashkey_path.specs.Digest.{arc_bytes, Feeds}
use Rattle.hashkey_path.proofs.digest.feed_arcs.Given as goal

abbrev pub invariant-arcs : goal.invariant-arcs
invariant-arcs l = Feeds l.fn.hasher l.hasher (flat_map (arc_bytes l.deal) (range_with_len 0 l.arc))
