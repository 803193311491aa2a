use Rattle.std.proofs.Common.{◌≡◌, ℕ, ◌*◌, List, [], ◌∷◌, take, drop, get_or, slice_index, w32}
use Rattle.std.specs.Int.{to_be_bytes}
use Rattle.hash_chains.specs.Lanes.{lane}
use Rattle.hash_chains.proofs.Lengths.{digest_of_words, eight_cases}
use Rattle.hash_chains.proofs.values.value_lanes.Goals as goal

pub returns : goal.returns
unfolding lane
returns c = λ j lt.
    let a : List ℕ = get_or c.args.values.now j [] in
    digest_of_words _ a (c.column.ensures.long j lt)
    (eight_cases (λ i. to_be_bytes w32
    (slice_index (lane (c.column.result ∷ c.column-2.result ∷ c.column-3.result ∷ c.column-4.result ∷ c.column-5.result ∷ c.column-6.result
    ∷ c.column-7.result ∷ c.column-8.result ∷ []) j) i) ≡ take 4 (drop (4 * i) a))
    (c.column.ensures.bytes j lt)
    (c.column-2.ensures.bytes j lt)
    (c.column-3.ensures.bytes j lt)
    (c.column-4.ensures.bytes j lt)
    (c.column-5.ensures.bytes j lt)
    (c.column-6.ensures.bytes j lt)
    (c.column-7.ensures.bytes j lt)
    (c.column-8.ensures.bytes j lt))
