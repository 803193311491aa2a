use Rattle.std.proofs.Common.{ℕ, List, slice_index, refl, ◌∙◌}
use Rattle.sha2.specs.Sha256.{round}
use Rattle.hash_chains.specs.Lanes.{lane}
use Rattle.hash_chains.proofs.Lanes.{lane-at, lane_of_eight}
use Rattle.hash_chains.proofs.rounds.round.Goals as goal

pub returns : goal.returns
returns c = λ j lt.
    let v : List (List ℕ) = c.args.v in
    lane_of_eight _ _ _ _ _ _ _ _ j
    ∙ rw (
      c.sum-4.ensures j lt,
      c.sum-5.ensures j lt,
      c.sum-temp2.ensures j lt,
      c.sum-temp1.ensures j lt,
      c.sum-3.ensures j lt,
      c.sum-2.ensures j lt,
      c.sum.ensures j lt,
      c.big_sigma1.ensures j lt,
      c.big_sigma0.ensures j lt,
      c.ch.ensures j lt,
      c.maj.ensures j lt,
      c.splat.ensures j lt,
      ← lane-at v j 0,
      ← lane-at v j 1,
      ← lane-at v j 2,
      ← lane-at v j 3,
      ← lane-at v j 4,
      ← lane-at v j 5,
      ← lane-at v j 6,
      ← lane-at v j 7,
    )
    (refl {a = round (lane v j) c.args.k (slice_index c.args.word j)})
