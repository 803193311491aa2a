-- Amounts drawn one after another.
use Rattle.std.proofs.Common.{◌≡◌, ℕ, ◌+◌, ◌*◌, ◌%◌, ◌<◌, ◌≤◌, List, [], ◌∷◌, ◌++◌, map, ap, ◌∙◌, arith}
use Rattle.std.specs.List.{range_with_len}
use Rattle.swap_digraph.proofs.Ranges.{map_more}
use Rattle.swap_gen.specs.Word.{word, next, DrawState}
use Rattle.swap_gen.specs.Drawn.{drawn_amount}
use Rattle.swap_gen.proofs.Places.{next_is}

abbrev at_place : ℕ → ℕ → DrawState
at_place seed k = record { seed = seed; place = k }

pub amount_more : (seed n a : ℕ) (draws drew : DrawState) (w : ℕ) (old new : List ℕ) → n ≤ 24 → a < 96
    → draws ≡ record { seed = seed; place = 1 + 2 * n + a } → w ≡ word draws.seed draws.place → drew ≡ record draws { place = next draws.place }
    → new ≡ old ++ (1 + w % 1000) ∷ [] → old ≡ map (drawn_amount seed n) (range_with_len 0 a)
    → (new ≡ map (drawn_amount seed n) (range_with_len 0 (a + 1))) × (drew ≡ record { seed = seed; place = 1 + 2 * n + (a + 1) })
amount_more seed n a draws drew w old new few lt is drawn on more so_far =
    let same : w ≡ word seed (1 + 2 * n + a) = drawn ∙ ap (λ (s : DrawState). word s.seed s.place) is in
    let step : next (1 + 2 * n + a) ≡ 1 + 2 * n + (a + 1) = next_is (1 + 2 * n + a) (omega arith) ∙ omega arith in
    let place : drew ≡ record { seed = seed; place = next (1 + 2 * n + a) } = on ∙ ap (λ (s : DrawState). record s { place = next s.place }) is in (
      map_more (drawn_amount seed n) a old new (more ∙ ap (λ (x : ℕ). old ++ (1 + x % 1000) ∷ []) same) so_far,
      place ∙ ap (at_place seed) step,
    )
