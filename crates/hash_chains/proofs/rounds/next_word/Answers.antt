use Rattle.std.proofs.Common.{◌≡◌, ℕ, ◌+◌, ◌%◌, List, refl, arith}
use Rattle.hash_chains.proofs.Lanes.{lane-at, lane-set}
use Rattle.hash_chains.proofs.rounds.next_word.Goals as goal

pub returns-clause-value : goal.returns-clause-value
returns-clause-value c = λ j lt.
    let w : List (List ℕ) = c.args.w.now in
    let at : c.args.place % 16 ≡ c.args.place = omega arith in
    rw (
      at,
      lane-at w j ((c.args.place + 14) % 16),
      lane-at w j ((c.args.place + 9) % 16),
      lane-at w j ((c.args.place + 1) % 16),
      lane-at w j c.args.place,
      c.sum-word.ensures j lt,
      c.sum.ensures j lt,
      c.sum-first.ensures j lt,
      c.small_sigma1.ensures j lt,
      c.small_sigma0.ensures j lt,
    )
    refl

pub returns-clause-window : goal.returns-clause-window
returns-clause-window c = λ j lt. lane-set c.args.w.now j c.args.place _
