use Rattle.std.proofs.Common.{refl, ◌∙◌}
use Rattle.hash_chains.proofs.Lanes.{lane_of_eight}
use Rattle.hash_chains.proofs.rounds.initial.Goals as goal

pub returns : goal.returns
returns c = λ j lt.
    lane_of_eight _ _ _ _ _ _ _ _ j
    ∙ rw (
      c.splat.ensures j lt,
      c.splat-2.ensures j lt,
      c.splat-3.ensures j lt,
      c.splat-4.ensures j lt,
      c.splat-5.ensures j lt,
      c.splat-6.ensures j lt,
      c.splat-7.ensures j lt,
      c.splat-8.ensures j lt,
    )
    refl
