-- The parties that craft a hashkey, one after another: whether each has a seed.
use Rattle.std.proofs.Common.{◌≡◌, ℕ, ◌+◌, ◌<◌, ◌≤◌, true, false, cond, List, [], ◌∷◌, length, get_or, drop, drop-cons, add-one}
use Rattle.std.proofs.Common.{slice_index_or, None, is_some, Ok, Err, refl, sym, ap, ◌∙◌, arith}
use Rattle.std.specs.Prelude.{Result}
use Rattle.std.proofs.lemmas.List.{length-drop, nil_from_length}
use Rattle.swap_job.specs.Crafted.{Seeds}
use Rattle.command_input.specs.declared.reason.Reason.{Reason}
use Rattle.command_input.specs.declared.reason.Reason.TheVariants.{NoSeed}
use Rattle.offer_events.specs.Event.{each_seeded}

-- the seed of the party in a place
split : (seeds : Seeds) (via : List ℕ) (i v : ℕ) → i < length via → v ≡ get_or via i v
    → each_seeded seeds (drop i via) ≡ cond (is_some (slice_index_or seeds v None)) (each_seeded seeds (drop (i + 1) via)) (Err (NoSeed v))
split seeds via i v l is =
    let e : drop i via ≡ v ∷ drop (i + 1) via = rw (add-one, drop-cons via i v l, ← is) refl in ap (each_seeded seeds) e

pub seeded_on : (seeds : Seeds) (via : List ℕ) (i v : ℕ) (total : Result (Unit {0}) Reason) → i < length via → v ≡ get_or via i v
    → is_some (slice_index_or seeds v None) ≡ true → each_seeded seeds (drop i via) ≡ total → each_seeded seeds (drop (i + 1) via) ≡ total
seeded_on seeds via i v total l is h so_far =
    sym (split seeds via i v l is ∙ ap (λ b. cond b (each_seeded seeds (drop (i + 1) via)) (Err (NoSeed v))) h) ∙ so_far

pub seeded_stops : (seeds : Seeds) (via : List ℕ) (i v : ℕ) (total : Result (Unit {0}) Reason) → i < length via → v ≡ get_or via i v
    → is_some (slice_index_or seeds v None) ≡ false → each_seeded seeds (drop i via) ≡ total → total ≡ Err (NoSeed v)
seeded_stops seeds via i v total l is h so_far =
    sym so_far ∙ (split seeds via i v l is ∙ ap (λ b. cond b (each_seeded seeds (drop (i + 1) via)) (Err (NoSeed v))) h)

pub seeded_done : (seeds : Seeds) (via : List ℕ) (i : ℕ) (total : Result (Unit {0}) Reason) → length via ≤ i → each_seeded seeds (drop i via) ≡ total
    → total ≡ Ok tt
seeded_done seeds via i total le so_far =
    let e : drop i via ≡ [] = nil_from_length (drop i via) (omega (arith, length-drop i via)) in sym so_far ∙ ap (each_seeded seeds) e
