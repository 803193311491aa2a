use Rattle.std.proofs.Common.{ℕ, List, slice_index, refl, ◌∙◌}
use Rattle.hash_chains.specs.Lanes.{block_words, lane}
use Rattle.hash_chains.proofs.Lanes.{lane-at, lane_of_sixteen}
use Rattle.hash_chains.proofs.blocks.block.Goals as goal

pub returns : goal.returns
returns c = λ j lt.
    let y : List (List ℕ) = c.args.y in
    lane_of_sixteen _ _ _ _ _ _ _ _ _ _ _ _ _ _ _ _ j
    ∙ rw (
      c.joined.ensures j lt,
      c.joined-2.ensures j lt,
      c.joined-3.ensures j lt,
      c.joined-4.ensures j lt,
      c.joined-5.ensures j lt,
      c.joined-6.ensures j lt,
      c.joined-7.ensures j lt,
      c.joined-8.ensures j lt,
      c.joined-9.ensures j lt,
      c.splat-none.ensures j lt,
      c.splat.ensures j lt,
      c.splat-2.ensures j lt,
      c.splat-3.ensures j lt,
      ← lane-at y j 0,
      ← lane-at y j 1,
      ← lane-at y j 2,
      ← lane-at y j 3,
      ← lane-at y j 4,
      ← lane-at y j 5,
      ← lane-at y j 6,
      ← lane-at y j 7,
    )
    (refl {a = block_words c.args.kind (lane y j) (slice_index c.args.tail j) c.args.next c.args.bits})
