-- A text falls into the parts that it was put together from, where none of them holds the byte
-- between them.
use Rattle.std.proofs.Common.{◌≡◌, ◌==◌, ℕ, ◌≤◌, ◌<◌, nat_le, Bool, true, false, cond, List, [], ◌∷◌, ◌++◌, refl, ap}
use Rattle.std.proofs.Common.{◌∙◌, arith, eqb-true, eq-eqb}
use Rattle.std.specs.List.{list_all, AllByRecursion}
use Rattle.std.proofs.lemmas.Bool.{leb-true, le-leb}
use Rattle.swap_base.proofs.Lists.{and_parts, and_both}
use Rattle.transcript_book.specs.Between.{between, longer_first, separated_parts}

-- every byte of the word is at least n
abbrev pub IsHigh : ℕ → List ℕ → Type 0
IsHigh n w = list_all (λ x. nat_le n x) w ≡ true

other_byte : (b n x : ℕ) → b < n → nat_le n x ≡ true → (x == b) ≡ false
other_byte b n x lt e = by (x == b) refl
  where
    by : (t : Bool) → (x == b) ≡ t → (x == b) ≡ false
    by true k = let same : x ≡ b = eqb-true x b k in let low : n ≤ x = leb-true n x e in absurd (omega arith)
    by false k = k

pub high_append : (n : ℕ) (v w : List ℕ) → IsHigh n v → IsHigh n w → IsHigh n (v ++ w)
high_append n [] w h k = k
high_append n (x ∷ v) w h k = let p =
    and_parts (nat_le n x) (list_all (λ y. nat_le n y) v) h in and_both (nat_le n x) (list_all (λ y. nat_le n y) (v ++ w)) p.0 (high_append n v w p.1 k)

higher : (m n x : ℕ) → m ≤ n → nat_le n x ≡ true → nat_le m x ≡ true
higher m n x le e = let low : n ≤ x = leb-true n x e in le-leb m x (omega arith)

pub high_too : (m n : ℕ) (w : List ℕ) → m ≤ n → IsHigh n w → IsHigh m w
high_too m n [] le h = refl
high_too m n (x ∷ w) le h = let p =
    and_parts (nat_le n x) (list_all (λ y. nat_le n y) w) h in
    and_both (nat_le m x) (list_all (λ y. nat_le m y) w) (higher m n x le p.0) (high_too m n w le p.1)

parts_alone : (b n : ℕ) (w : List ℕ) → b < n → IsHigh n w → separated_parts b w ≡ w ∷ []
parts_alone b n [] lt h = refl
parts_alone b n (x ∷ w) lt h =
    let p = and_parts (nat_le n x) (list_all (λ y. nat_le n y) w) h in
    ap (λ t. cond t ([] ∷ separated_parts b w) (longer_first x (separated_parts b w))) (other_byte b n x lt p.0) ∙ ap (longer_first x) (parts_alone b n w lt p.1)

self_byte : (b : ℕ) → (b == b) ≡ true
self_byte b = eq-eqb b b refl

parts_first : (b n : ℕ) (w rest : List ℕ) → b < n → IsHigh n w → separated_parts b (w ++ b ∷ rest) ≡ w ∷ separated_parts b rest
parts_first b n [] rest lt h = ap (λ t. cond t ([] ∷ separated_parts b rest) (longer_first b (separated_parts b rest))) (self_byte b)
parts_first b n (x ∷ w) rest lt h =
    let p = and_parts (nat_le n x) (list_all (λ y. nat_le n y) w) h in
    ap (λ t. cond t ([] ∷ separated_parts b (w ++ b ∷ rest)) (longer_first x (separated_parts b (w ++ b ∷ rest)))) (other_byte b n x lt p.0)
    ∙ ap (longer_first x) (parts_first b n w rest lt p.1)

pub parts_between : (b n : ℕ) (w : List ℕ) (ws : List (List ℕ)) → b < n → IsHigh n w → AllByRecursion (IsHigh n) ws → separated_parts b (between b (w ∷ ws)) ≡ w ∷ ws
parts_between b n w [] lt h k = parts_alone b n w lt h
parts_between b n w (v ∷ ws) lt h k = parts_first b n w (between b (v ∷ ws)) lt h ∙ ap (λ (l : List (List ℕ)). w ∷ l) (parts_between b n v ws lt k.0 k.1)

-- the whole is as high as its parts and the byte between them
pub high_between : (b n : ℕ) (w : List ℕ) (ws : List (List ℕ)) → n ≤ b → IsHigh n w → AllByRecursion (IsHigh n) ws → IsHigh n (between b (w ∷ ws))
high_between b n w [] le h k = h
high_between b n w (v ∷ ws) le h k =
    high_append n w (b ∷ between b (v ∷ ws)) h (and_both (nat_le n b) (list_all (λ y. nat_le n y) (between b (v ∷ ws))) (le-leb n b le)
    (high_between b n v ws le k.0 k.1))

pub all_append : (n : ℕ) (vs ws : List (List ℕ)) → AllByRecursion (IsHigh n) vs → AllByRecursion (IsHigh n) ws → AllByRecursion (IsHigh n) (vs ++ ws)
all_append n [] ws h k = k
all_append n (v ∷ vs) ws h k = (h.0, all_append n vs ws h.1 k)
