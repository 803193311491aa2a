use Rattle.std.proofs.Common.{ℕ, List, ap, ◌∙◌}
use Rattle.sha2.specs.Sha256.{IsWindow, add_state, compress, initial_hash_256, rounds, schedule}
use Rattle.hash_chains.specs.Lanes.{lane}
use Rattle.sha2.proofs.Schedule256.{IsWindow_first, slice_index-first_words, length-first_words}
use Rattle.hash_chains.proofs.rounds.first_hash.Goals as goal

pub returns : goal.returns
unfolding compress rounds
returns c = λ j lt b words.
    let h : List ℕ = initial_hash_256 in
    let w : List ℕ = lane c.args.words j in
    let window : IsWindow w (schedule b 48) 16 =
    IsWindow_first b w (rw words (length-first_words b 16)) (λ k l. rw words (slice_index-first_words b 16 k l)) in
    let s1 = c.first_four_steps-v.ensures j lt b h window (c.initial.ensures j lt) in
    let s2 = c.first_four_steps-v-2.ensures j lt b h window s1 in
    let s3 = c.first_four_steps-v-3.ensures j lt b h window s2 in
    let s4 = c.first_four_steps-v-4.ensures j lt b h window s3 in
    let s5 = c.sixteen_steps-v.ensures j lt b h (window, s4) in
    let s6 = c.sixteen_steps-v-2.ensures j lt b h s5 in
    let s7 = c.sixteen_steps-v-3.ensures j lt b h s6 in
    c.with_initial.ensures j lt ∙ ap (add_state h) s7.1
