-- Numbers that were read are in their ranges.
use Rattle.std.proofs.Common.{◌≡◌, ℕ, ◌<◌, ◌≤◌, ◌&&◌, Bool, true, false, cond, length, List, [], Option, Some, None, Ok, Err, refl, sym, arith}
use Rattle.std.specs.Prelude.{position, nat_le}
use Rattle.std.specs.Str.{bytes_eq}
use Rattle.std.proofs.lemmas.Bool.{leb-true}
use Rattle.std.proofs.lemmas.List.Quantifiers.{position-Some}
use Rattle.swap_base.proofs.Lists.{and_parts}
use Rattle.command_input.specs.declared.reason.Reason.TheVariants.{OverLimit}
use Rattle.offer_moves.specs.FieldLimits.{ranged_number, check_range}
use Rattle.offer_moves.specs.Names.{found_place, party_of_name}
use Rattle.offer_moves.proofs.Chains.{went}

pub passed : {A R : Type 0} (b : Bool) (x y : A) (d : R) → cond b (Ok x) (Err d) ≡ Ok y → (b ≡ true) × (x ≡ y)
passed true x y d e = (refl, cc)
passed false x y d e = absurd (cc e)

pub within_ok : (line : ℕ) (field : List ℕ) (low high n : ℕ) (u : Unit {0}) → check_range line field low high n ≡ Ok u → (low ≤ n) × (n ≤ high)
unfolding check_range
within_ok line field low high n u e =
    let p = passed (nat_le low n && nat_le n high) tt u (OverLimit line field n) e in
    let q = and_parts (nat_le low n) (nat_le n high) p.0 in
    (leb-true low n q.0, leb-true n high q.1)

pub number_within_ok : (line : ℕ) (field : List ℕ) (low high n m : ℕ) → ranged_number line field low high n ≡ Ok m → (low ≤ m) × (m ≤ high) × (m ≡ n)
unfolding ranged_number
number_within_ok line field low high n m h =
    let one = went (check_range line field low high n) (λ u. Ok n) m h in
    let r = within_ok line field low high n one.0 one.1 in
    let same : n ≡ m = cc (one.2) in
    (omega arith, omega arith, sym same)

found_below : (line : ℕ) (name : List ℕ) (names : List (List ℕ)) (o : Option ℕ) (p : ℕ) → position (bytes_eq name) names ≡ o → found_place line name o ≡ Ok p
    → p < length names
found_below line name names None p h e = absurd (cc e)
found_below line name names (Some k) p h e =
    let l : k < length names = (position-Some (bytes_eq name) names k [] h).0 in
    let s : k ≡ p = cc e in
    omega arith

pub party_below : (line : ℕ) (names : List (List ℕ)) (name : List ℕ) (p : ℕ) → party_of_name line names name ≡ Ok p → p < length names
unfolding party_of_name
party_below line names name p e = found_below line name names (position (bytes_eq name) names) p refl e
