use Rattle.std.proofs.Common.{ℕ, List, ◌∙◌}
use Rattle.hash_chains.specs.Lanes.{lane}
use Rattle.hash_chains.proofs.Lanes.{lane-at, lane_of_eight}
use Rattle.hash_chains.proofs.Lengths.{cond_eight}
use Rattle.hash_chains.proofs.each.all_advanced.Goals as goal

pub returns : goal.returns
returns c = λ j lt.
    let next : List (List ℕ) = c.args.next in
    let reached : List (List ℕ) = c.args.reached in
    lane_of_eight _ _ _ _ _ _ _ _ j
    ∙ rw (
      c.advanced_chain.ensures j lt,
      c.advanced_chain-2.ensures j lt,
      c.advanced_chain-3.ensures j lt,
      c.advanced_chain-4.ensures j lt,
      c.advanced_chain-5.ensures j lt,
      c.advanced_chain-6.ensures j lt,
      c.advanced_chain-7.ensures j lt,
      c.advanced_chain-8.ensures j lt,
      ← lane-at next j 0,
      ← lane-at next j 1,
      ← lane-at next j 2,
      ← lane-at next j 3,
      ← lane-at next j 4,
      ← lane-at next j 5,
      ← lane-at next j 6,
      ← lane-at next j 7,
      ← lane-at reached j 0,
      ← lane-at reached j 1,
      ← lane-at reached j 2,
      ← lane-at reached j 3,
      ← lane-at reached j 4,
      ← lane-at reached j 5,
      ← lane-at reached j 6,
      ← lane-at reached j 7,
    )
    (cond_eight _ (lane next j) (lane reached j))
