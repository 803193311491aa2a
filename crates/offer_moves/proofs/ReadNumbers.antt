-- What is known of a number or a path that was read.
use Rattle.std.proofs.Common.{◌≡◌, ℕ, ◌%◌, ◌<◌, true, length, List, [], ◌∷◌, Ok, refl, arith, ltb-true}
use Rattle.std.specs.Prelude.{nat_lt}
use Rattle.std.specs.List.{list_all}
use Rattle.std.proofs.lemmas.Bool.Decides.{nat_tests}
use Rattle.swap_base.proofs.Lists.{and_both}
use Rattle.command_input.specs.declared.reason.Reason.TheVariants.{OverLimit}
use Rattle.offer_moves.specs.Lists.{collected_results}
use Rattle.offer_moves.specs.Names.{party_of_name}
use Rattle.offer_moves.proofs.Chains.{went}
use Rattle.offer_moves.proofs.Ranges.{passed, party_below}
use Rattle.offer_moves.specs.Limits.{number_below_count}

pub number_below_ok : (line : ℕ) (field : List ℕ) (count n m : ℕ) → number_below_count line field count n ≡ Ok m → m < count
unfolding number_below_count
number_below_ok line field count n m e =
    let p = passed (nat_lt n count) (n % 256) m (OverLimit line field n) e in
    let b : n < count = ltb-true n count p.0 in
    let s : n % 256 ≡ m = p.1 in
    omega (arith, b, s)

pub each_below : (line count : ℕ) (names xs : List (List ℕ)) (path : List ℕ) → length names ≡ count → collected_results (party_of_name line names) xs ≡ Ok path
    → list_all (λ v. nat_lt v count) path ≡ true
unfolding collected_results
each_below line count names [] path same e = let s : path ≡ [] = cc e in rw s refl
each_below line count names (x ∷ xs) path same e =
    let p = went (party_of_name line names x) _ path e in
    let q = went (collected_results (party_of_name line names) xs) _ path p.2 in
    let s : p.0 ∷ q.0 ≡ path = cc (q.2) in
    let l : p.0 < count = omega (arith, same, party_below line names x p.0 p.1) in
    rw (← s) (and_both (nat_lt p.0 count) (list_all (λ v. nat_lt v count) q.0) (grind (arith, nat_tests)) (each_below line count names xs q.0 same q.1))
