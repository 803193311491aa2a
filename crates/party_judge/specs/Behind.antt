-- What stands behind the lines of agreements.
use Rattle.std.specs.Prelude.{◌≡◌, ℕ, Bool, true, List, [], ◌∷◌, not}
use Rattle.party_judge.specs.Agreements.{is_agreement}

abbrev pub begins_without_agreement : List (List ℕ) → Bool
begins_without_agreement [] = true
begins_without_agreement (l ∷ ls) = not (is_agreement l)

-- The first of these lines, if there is one, tells no agreement.
abbrev pub IsBehindAgreements : List (List ℕ) → Type 0
IsBehindAgreements ls = begins_without_agreement ls ≡ true
