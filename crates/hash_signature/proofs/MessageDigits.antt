-- The digits of a message: how they are written, and that each is at most 15.
use Rattle.std.proofs.Common.{◌≡◌, ℕ, zero, suc, ◌+◌, ◌-◌, ◌*◌, ◌/◌, ◌%◌, ◌<◌, ◌≤◌, List, [], ◌∷◌, ◌++◌, take, length, get_or, refl, sym, ap, ◌∙◌, inl}
use Rattle.std.proofs.Common.{inr, arith, append_assoc}
use Rattle.std.proofs.Math.ListN.{set, length-set}
use Rattle.std.proofs.lemmas.Bool.{cases_lt}
use Rattle.std.proofs.lemmas.List.{get_or_past, take_more, take_more_set, take_all}
use Rattle.hash_signature.specs.Signature.{half_bytes, checksum, three_digits, digits, digit}

half_bytes-append : (m n : List ℕ) → half_bytes (m ++ n) ≡ half_bytes m ++ half_bytes n
half_bytes-append [] n = refl
half_bytes-append (b ∷ m) n = ap (λ l. b / 16 ∷ b % 16 ∷ l) (half_bytes-append m n)

checksum-append : (ds es : List ℕ) → checksum (ds ++ es) ≡ checksum ds + checksum es
checksum-append [] es = omega arith
checksum-append (d ∷ ds) es = let e = checksum-append ds es in omega arith

pub length-half_bytes : (m : List ℕ) → length (half_bytes m) ≡ 2 * length m
length-half_bytes [] = refl
length-half_bytes (b ∷ m) = let e = length-half_bytes m in omega arith

half_bytes_more : (m : List ℕ) (i : ℕ) → i < length m → half_bytes (take (i + 1) m) ≡ half_bytes (take i m) ++ get_or m i 0 / 16 ∷ get_or m i 0 % 16 ∷ []
half_bytes_more m i lt = rw (take_more m i 0) (half_bytes-append (take i m) (get_or m i 0 ∷ []))

-- two digits more are written
pub written_more : (out m : List ℕ) (i : ℕ) → length out ≡ 67 → length m ≡ 32 → i < 32 → take (2 * i) out ≡ half_bytes (take i m)
    → take (2 * (i + 1)) (set (set out (2 * i) (get_or m i 0 / 16)) (2 * i + 1) (get_or m i 0 % 16)) ≡ half_bytes (take (i + 1) m)
written_more out m i lo lm lt so_far =
    let high = get_or m i 0 / 16 in
    let low = get_or m i 0 % 16 in
    let e : 2 * (i + 1) ≡ (2 * i + 1) + 1 = omega arith in
    let a : take ((2 * i + 1) + 1) (set (set out (2 * i) high) (2 * i + 1) low) ≡ take (2 * i + 1) (set out (2 * i) high) ++ low ∷ [] =
    take_more_set (set out (2 * i) high) (2 * i + 1) low (omega (arith, length-set out (2 * i) high)) in
    let b : take (2 * i + 1) (set out (2 * i) high) ≡ take (2 * i) out ++ high ∷ [] = take_more_set out (2 * i) high (omega arith) in
    rw (e, a, b, so_far, half_bytes_more m i (omega arith)) (append_assoc (half_bytes (take i m)) (high ∷ []) (low ∷ []))

-- the sum of two digits more
pub sum_more : (m : List ℕ) (i : ℕ) → i < length m
    → checksum (half_bytes (take (i + 1) m)) ≡ checksum (half_bytes (take i m)) + ((15 - get_or m i 0 / 16) + (15 - get_or m i 0 % 16))
sum_more m i lt =
    let e = checksum-append (half_bytes (take i m)) (get_or m i 0 / 16 ∷ get_or m i 0 % 16 ∷ []) in
    rw (half_bytes_more m i) (omega arith)

-- the three digits of the checksum are written last
pub three_written : (out : List ℕ) (a b c : ℕ) → length out ≡ 67 → set (set (set out 64 a) 65 b) 66 c ≡ take 64 out ++ a ∷ b ∷ c ∷ []
three_written out a b c e =
    let x = set out 64 a in
    let y = set x 65 b in
    let lx : length x ≡ 67 = length-set out 64 a ∙ e in
    let ly : length y ≡ 67 = length-set x 65 b ∙ lx in
    let lz : length (set y 66 c) ≡ 67 = length-set y 66 c ∙ ly in
    let p : take 65 x ≡ take 64 out ++ a ∷ [] = take_more_set out 64 a (omega arith) in
    let q : take 66 y ≡ take 65 x ++ b ∷ [] = take_more_set x 65 b (omega arith) in
    let r : take 67 (set y 66 c) ≡ take 66 y ++ c ∷ [] = take_more_set y 66 c (omega arith) in
    let one : take 66 y ++ c ∷ [] ≡ ((take 64 out ++ a ∷ []) ++ b ∷ []) ++ c ∷ [] = rw (q, p) refl in
    sym (take_all 67 (set y 66 c) (omega arith)) ∙ (r ∙ (one ∙ simp append_assoc))

-- all digits are written
pub all_written : (out m : List ℕ) (i sum : ℕ) → length out ≡ 67 → length m ≡ 32 → i ≡ 32 → take (2 * i) out ≡ half_bytes (take i m)
    → sum ≡ checksum (half_bytes (take i m)) → set (set (set out 64 (sum / 256)) 65 (sum / 16 % 16)) 66 (sum % 16) ≡ digits m
unfolding digits
all_written out m i sum lo lm e written sum_is =
    let whole : take i m ≡ m = take_all i m (omega arith) in
    let a : take 64 out ≡ half_bytes m = ap (λ (n : ℕ). take (2 * n) out) (sym e) ∙ (written ∙ ap half_bytes whole) in
    let b : sum ≡ checksum (half_bytes m) = sum_is ∙ ap (λ l. checksum (half_bytes l)) whole in
    three_written out (sum / 256) (sum / 16 % 16) (sum % 16) lo ∙ (ap (λ l. l ++ three_digits sum) a ∙ ap (λ (n : ℕ). half_bytes m ++ three_digits n) b)

-- what is read past the end is 0
pub bytes_to_end : (m : List ℕ) (n : ℕ) → length m ≤ n → ((k : ℕ) → k < n → get_or m k 0 < 256) → (k : ℕ) → get_or m k 0 < 256
bytes_to_end m n e h k = elim (cases_lt k n) [ inl lt ↦ h k lt | inr le ↦ rw (get_or_past m k 0 (omega arith)) (omega arith) ]

-- each digit of a byte is at most 15
pub half_small : (m : List ℕ) → ((k : ℕ) → get_or m k 0 < 256) → (j : ℕ) → get_or (half_bytes m) j 0 ≤ 15
half_small [] h j = omega arith
half_small (b ∷ m) h zero = let k : b < 256 = h 0 in omega arith
half_small (b ∷ m) h (suc zero) = omega arith
half_small (b ∷ m) h (suc (suc j)) = half_small m (λ k. h (suc k)) j

three_small : (n : ℕ) → n ≤ 960 → (j : ℕ) → get_or (three_digits n) j 0 ≤ 15
three_small n h zero = omega arith
three_small n h (suc zero) = omega arith
three_small n h (suc (suc zero)) = omega arith
three_small n h (suc (suc (suc j))) = omega arith

append_small : (xs ys : List ℕ) (n : ℕ) → ((j : ℕ) → get_or xs j 0 ≤ n) → ((j : ℕ) → get_or ys j 0 ≤ n) → (j : ℕ) → get_or (xs ++ ys) j 0 ≤ n
append_small [] ys n a b j = b j
append_small (x ∷ xs) ys n a b zero = a 0
append_small (x ∷ xs) ys n a b (suc j) = append_small xs ys n (λ k. a (suc k)) b j

pub checksum_small : (ds : List ℕ) → checksum ds ≤ 15 * length ds
checksum_small [] = omega arith
checksum_small (d ∷ ds) = let h = checksum_small ds in omega arith

-- each digit of a message of 32 bytes is at most 15
pub digits_small : (m : List ℕ) → length m ≡ 32 → ((k : ℕ) → get_or m k 0 < 256) → (j : ℕ) → digit m j ≤ 15
unfolding digits
digits_small m e h j =
    let small : checksum (half_bytes m) ≤ 960 = omega (arith, checksum_small (half_bytes m), length-half_bytes m) in
    append_small (half_bytes m) (three_digits (checksum (half_bytes m))) 15 (half_small m h) (three_small (checksum (half_bytes m)) small) j
