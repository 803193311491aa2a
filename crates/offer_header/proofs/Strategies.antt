-- The names of the strategies that somebody answers for.
use Rattle.std.proofs.Common.{◌≡◌, ℕ, Bool, List}
use Rattle.std.specs.List.{list_any}
use Rattle.std.specs.Str.{bytes_eq}
use Rattle.offer_header.specs.Names.{has_strategy}

-- whoever has a strategy of each of these names, and of no other, has those of these names
pub same_strategies : (names : List (List ℕ)) (has : List ℕ → Bool) → ((name : List ℕ) → list_any (bytes_eq name) names ≡ has name)
    → has_strategy names ≡ has
same_strategies names has h = λ j name. h name j
