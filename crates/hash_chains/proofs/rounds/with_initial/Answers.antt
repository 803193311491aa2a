use Rattle.std.proofs.Common.{ℕ, List, refl, ◌∙◌}
use Rattle.hash_chains.proofs.Lanes.{lane-at, lane_of_eight}
use Rattle.hash_chains.proofs.rounds.with_initial.Goals as goal

pub returns : goal.returns
returns c = λ j lt.
    let v : List (List ℕ) = c.args.v in
    lane_of_eight _ _ _ _ _ _ _ _ j
    ∙ rw (
      lane-at v j 0,
      lane-at v j 1,
      lane-at v j 2,
      lane-at v j 3,
      lane-at v j 4,
      lane-at v j 5,
      lane-at v j 6,
      lane-at v j 7,
      c.sum.ensures j lt,
      c.sum-2.ensures j lt,
      c.sum-3.ensures j lt,
      c.sum-4.ensures j lt,
      c.sum-5.ensures j lt,
      c.sum-6.ensures j lt,
      c.sum-7.ensures j lt,
      c.sum-8.ensures j lt,
      c.splat.ensures j lt,
      c.splat-2.ensures j lt,
      c.splat-3.ensures j lt,
      c.splat-4.ensures j lt,
      c.splat-5.ensures j lt,
      c.splat-6.ensures j lt,
      c.splat-7.ensures j lt,
      c.splat-8.ensures j lt,
    )
    refl
