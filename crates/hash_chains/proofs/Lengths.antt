-- Values in lanes, and chains of different lengths.
use Rattle.std.proofs.Common.{◌≡◌, ℕ, zero, suc, ◌+◌, ◌*◌, ◌<◌, ◌≤◌, min, List, [], ◌∷◌, ◌++◌, Bool, true, false, cond, nat_lt, inl, inr, take, drop}
use Rattle.std.proofs.Common.{length, slice_index, refl, sym, ap, ◌∙◌, arith}
use Rattle.std.specs.Int.{w32, to_be_bytes}
use Rattle.std.proofs.Math.Seq.{take-add}
use Rattle.std.proofs.lemmas.List.{take_all}
use Rattle.std.proofs.lemmas.Bool.{cases_lt, lt-ltb, le-ltb}
use Rattle.sha2.specs.Sha256.{digest_bytes}
use Rattle.hash_chains.specs.Chains.{chain_value}
use Rattle.hash_chains.specs.Lanes.{first_eight, word_step}
use Rattle.hash_chains.proofs.Lanes.{words_more, no_steps}

pub four_cases : (P : ℕ → Type 0) → P 0 → P 1 → P 2 → P 3 → (j : ℕ) → j < 4 → P j
four_cases P a b c d zero lt = a
four_cases P a b c d (suc zero) lt = b
four_cases P a b c d (suc (suc zero)) lt = c
four_cases P a b c d (suc (suc (suc zero))) lt = d
four_cases P a b c d (suc (suc (suc (suc j)))) lt = absurd (omega arith)

pub eight_cases : (P : ℕ → Type 0) → P 0 → P 1 → P 2 → P 3 → P 4 → P 5 → P 6 → P 7 → (j : ℕ) → j < 8 → P j
eight_cases P a b c d e f g h zero lt = a
eight_cases P a b c d e f g h (suc zero) lt = b
eight_cases P a b c d e f g h (suc (suc zero)) lt = c
eight_cases P a b c d e f g h (suc (suc (suc zero))) lt = d
eight_cases P a b c d e f g h (suc (suc (suc (suc j)))) lt = four_cases (λ k. P (suc (suc (suc (suc k))))) e f g h j (omega arith)

digest_upto : (h a : List ℕ) → ((i : ℕ) → i < 8 → to_be_bytes w32 (slice_index h i) ≡ take 4 (drop (4 * i) a)) → (n : ℕ) → n ≤ 8
    → digest_bytes h n ≡ take (4 * n) a
unfolding digest_bytes
digest_upto h a each zero le = refl
digest_upto h a each (suc n) le =
    let e : 4 * suc n ≡ 4 * n + 4 = omega arith in
    ap (λ (l : List ℕ). l ++ to_be_bytes w32 (slice_index h n)) (digest_upto h a each n (omega arith))
    ∙ ap (λ (l : List ℕ). take (4 * n) a ++ l) (each n (omega arith))
    ∙ sym (take-add (4 * n) 4 a)
    ∙ sym (ap (λ (k : ℕ). take k a) e)

-- the words of a value have its bytes
pub digest_of_words : (h a : List ℕ) → length a ≡ 32 → ((i : ℕ) → i < 8 → to_be_bytes w32 (slice_index h i) ≡ take 4 (drop (4 * i) a)) → digest_bytes h 8 ≡ a
digest_of_words h a long each = digest_upto h a each 8 (omega arith) ∙ take_all 32 a (omega arith)

pub cond_eight : (b : Bool) (x y : List ℕ) →
    cond b (slice_index x 0) (slice_index y 0) ∷ cond b (slice_index x 1) (slice_index y 1) ∷ cond b (slice_index x 2) (slice_index y 2)
    ∷ cond b (slice_index x 3) (slice_index y 3) ∷ cond b (slice_index x 4) (slice_index y 4) ∷ cond b (slice_index x 5) (slice_index y 5)
    ∷ cond b (slice_index x 6) (slice_index y 6) ∷ cond b (slice_index x 7) (slice_index y 7) ∷ []
    ≡ cond b (first_eight x) (first_eight y)
cond_eight true x y = refl
cond_eight false x y = refl

digest_first_eight : (h : List ℕ) → digest_bytes (first_eight h) 8 ≡ digest_bytes h 8
unfolding digest_bytes
digest_first_eight h = refl

pub none_each : (y : List ℕ) (n : ℕ) → y ≡ chain_value (min 0 n) y
none_each y n =
    let e : min 0 n ≡ 0 = omega arith in
    rw e (no_steps y)

-- one step more, where there is one to do
pub each_more : (reached next moved y : List ℕ) (i n : ℕ) → next ≡ word_step reached → moved ≡ cond (nat_lt i n) (first_eight next) (first_eight reached)
    → digest_bytes reached 8 ≡ chain_value (min i n) y → digest_bytes moved 8 ≡ chain_value (min (i + 1) n) y
each_more reached next moved y i n stepped chosen so_far = elim (cases_lt i n) [
  | inl lt ↦
      let now : min i n ≡ i = omega arith in
      let then : min (i + 1) n ≡ i + 1 = omega arith in
      let is : moved ≡ first_eight next = rw (lt-ltb i n lt) at chosen in
      let held : digest_bytes reached 8 ≡ chain_value i y = rw now at so_far in
      rw (is, then) (digest_first_eight next ∙ words_more reached next y i stepped held)
  | inr ge ↦
      let same : min (i + 1) n ≡ min i n = omega arith in
      let is : moved ≡ first_eight reached = rw (le-ltb i n ge) at chosen in
      rw (is, same) (digest_first_eight reached ∙ so_far)
]
