-- Accounts that are read pair by pair, and chains one by one.
use Rattle.std.proofs.Common.{◌≡◌, ◌<◌, ◌≤◌, ℕ, zero, suc, List, [], ◌∷◌, ◌++◌, Result, Ok, refl, sym, arith, ◌∙◌}
use Rattle.std.specs.List.{All}
use Rattle.std.proofs.lemmas.List.Elements.{All-append}
use Rattle.transcript_book.specs.declared.said.Misspelling.{Misspelling}
use Rattle.many_lines.specs.Fields.{account_added, further_accounts, most_units}
use Rattle.many_lines.specs.Below.{AreChainsBelow, AreLowUnits}
use Rattle.many_lines.specs.declared.accounts.ChainAccounts.{ChainAccounts}

-- an account was added
pub pair_on : (old new : ChainAccounts) (name word : List ℕ) (all one rest : List (List ℕ)) (total : Result ChainAccounts Misspelling)
    → all ≡ name ∷ one → one ≡ word ∷ rest → account_added old name word ≡ Ok new → further_accounts old all ≡ total → further_accounts new rest ≡ total
pair_on old new name word all one rest total first second added so_far =
    let whole : all ≡ name ∷ word ∷ rest = first ∙ rw second refl in
    let step : further_accounts old all ≡ further_accounts new rest = rw (whole, added) refl in
    sym step ∙ so_far

one : (P : ℕ → Type 0) (x : ℕ) → P x → All P (x ∷ [])
one P x h zero d lt = h
one P x h (suc k) d lt = absurd (omega (arith, lt))

pub low_more : (us : List ℕ) (u : ℕ) → AreLowUnits us → u ≤ most_units → AreLowUnits (us ++ u ∷ [])
low_more us u low le = All-append (λ n. n ≤ most_units) us (u ∷ []) low (one (λ n. n ≤ most_units) u le)

pub below_more : (count : ℕ) (cs : List ℕ) (c : ℕ) → AreChainsBelow count cs → c < count → AreChainsBelow count (cs ++ c ∷ [])
below_more count cs c below lt = All-append (λ n. n < count) cs (c ∷ []) below (one (λ n. n < count) c lt)

pub none_above : (count : ℕ) → AreChainsBelow count []
none_above count k d lt = absurd (omega (arith, lt))
