-- Chains: steps in a row, and lists with a value for each chain.
use Rattle.std.proofs.Common.{◌≡◌, ℕ, zero, suc, ◌+◌, ◌<◌, ◌≤◌, List, [], ◌∷◌, ◌++◌, map, take, length, get_or, refl, sym, ap, ap₂, ◌∙◌, subst, arith, append_assoc}
use Rattle.std.specs.List.{range_with_len}
use Rattle.std.proofs.Math.ListN.{set}
use Rattle.std.proofs.lemmas.List.{append-nil, take_all, take_more, take_more_set}
use Rattle.std.proofs.lemmas.List.FromFn.{get_or-map-range_with_len, map-range_with_len_more}
use Rattle.sha2.specs.Hashers.{Holds256}
use Rattle.sha2.specs.declared.Sha256.{Sha256}
use Rattle.swap_base.specs.Text.{joined}
use Rattle.hash_chains.specs.Chains.{chain_step, chain_value}
use Rattle.hash_signature.specs.Signature.{for_chains}

-- steps after steps
pub chain_value-sum : (n k : ℕ) (y : List ℕ) → chain_value n (chain_value k y) ≡ chain_value (n + k) y
unfolding chain_value
chain_value-sum zero k y = ap (λ (i : ℕ). chain_value i y) (omega arith)
chain_value-sum (suc n) k y =
    let e : suc n + k ≡ suc (n + k) = omega arith in
    ap chain_step (chain_value-sum n k y) ∙ sym (ap (λ (i : ℕ). chain_value i y) e)

-- what f gives for the first n chains
abbrev pub first_chains : {X : Type 0} → (ℕ → X) → ℕ → List X
first_chains f n = map f (range_with_len 0 n)

pub all_chains : {X : Type 0} (f : ℕ → X) (n : ℕ) → n ≡ 67 → first_chains f n ≡ for_chains f
unfolding for_chains
all_chains f n e = rw e refl

pub first_chains_more : {X : Type 0} (f : ℕ → X) (n : ℕ) → first_chains f (n + 1) ≡ first_chains f n ++ f n ∷ []
first_chains_more f n = map-range_with_len_more f 0 n n (omega arith)

pub joined-append : (xss yss : List (List ℕ)) → joined (xss ++ yss) ≡ joined xss ++ joined yss
joined-append [] yss = refl
joined-append (xs ∷ xss) yss = ap (λ l. xs ++ l) (joined-append xss yss) ∙ sym (append_assoc xs (joined xss) (joined yss))

pub get_or-for_chains : {X : Type 0} (f : ℕ → X) (j : ℕ) (d : X) → j < 67 → get_or (for_chains f) j d ≡ f j
unfolding for_chains
get_or-for_chains f j d lt = get_or-map-range_with_len f 0 67 j j d lt (omega arith)

-- the bytes of one chain more
pub joined_more : (f : ℕ → List ℕ) (n : ℕ) → joined (first_chains f (n + 1)) ≡ joined (first_chains f n) ++ f n
joined_more f n =
    rw (first_chains_more f n, joined-append (first_chains f n) (f n ∷ [])) (ap (λ l. joined (first_chains f n) ++ l) (append-nil (f n)))

same_first : {X : Type 0} (f g : ℕ → X) (a n : ℕ) → ((j : ℕ) → j < a + n → f j ≡ g j) → map f (range_with_len a n) ≡ map g (range_with_len a n)
same_first f g a zero h = refl
same_first f g a (suc n) h =
    let rest = same_first f g (a + 1) n (λ j lt. h j (omega arith)) in
    ap (λ x. x ∷ map f (range_with_len (a + 1) n)) (h a (omega arith)) ∙ ap (λ l. g a ∷ l) rest

-- two functions that agree on the chains
pub for_chains_same : {X : Type 0} (f g : ℕ → X) → ((j : ℕ) → j < 67 → f j ≡ g j) → for_chains f ≡ for_chains g
for_chains_same f g h = sym (all_chains f 67 refl) ∙ (same_first f g 0 67 (λ j lt. h j (omega arith)) ∙ all_chains g 67 refl)

-- a hasher that is fed with one end more
pub held_more : (f : ℕ → List ℕ) (n : ℕ) (x : List ℕ) (s : Sha256) → x ≡ f n → Holds256 s ((3 ∷ joined (first_chains f n)) ++ x)
    → Holds256 s (3 ∷ joined (first_chains f (n + 1)))
held_more f n x s e h =
    let P : List ℕ → Type 0 = λ m. Holds256 s m in
    let same : (3 ∷ joined (first_chains f n)) ++ x ≡ 3 ∷ joined (first_chains f (n + 1)) = rw (joined_more f n, e) refl in
    subst P same h

-- a hasher that holds the ends of all chains
pub held_all : (f : ℕ → List ℕ) (n : ℕ) (s : Sha256) → n ≡ 67 → Holds256 s (3 ∷ joined (first_chains f n)) → Holds256 s (3 ∷ joined (for_chains f))
held_all f n s e h =
    let P : List ℕ → Type 0 = λ m. Holds256 s m in
    subst P (ap (λ l. 3 ∷ joined l) (all_chains f n e)) h

-- a list with a value for each chain, after one more value in it was written
pub filled_more : {X : Type 0} (f : ℕ → X) (xs : List X) (n : ℕ) (x : X) → length xs ≡ 67 → n < 67 → x ≡ f n → take n xs ≡ first_chains f n
    → take (n + 1) (set xs n x) ≡ first_chains f (n + 1)
filled_more f xs n x len lt e so_far =
    rw (take_more_set xs n x (omega arith), so_far, e, first_chains_more f n) refl

pub filled_all : {X : Type 0} (f : ℕ → X) (xs : List X) (n : ℕ) → length xs ≡ 67 → n ≡ 67 → take n xs ≡ first_chains f n → xs ≡ for_chains f
filled_all f xs n len e so_far = sym (take_all n xs (omega arith)) ∙ (so_far ∙ all_chains f n e)

taken : {X : Type 0} (f : ℕ → X) (xs : List X) (d : X) (n : ℕ) → n ≤ length xs → ((j : ℕ) → j < n → get_or xs j d ≡ f j) → take n xs ≡ first_chains f n
taken f xs d zero le each = refl
taken f xs d (suc n) le each =
    let so_far : take n xs ≡ first_chains f n = taken f xs d n (omega arith) (λ j lt. each j (omega arith)) in
    let e : suc n ≡ n + 1 = omega arith in
    ap (λ (k : ℕ). take k xs) e ∙ (take_more xs n d (omega arith) ∙ (ap₂ (λ l x. l ++ x ∷ []) so_far (each n (omega arith))
    ∙ (sym (first_chains_more f n) ∙ sym (ap (first_chains f) e))))

-- a list with the value of f for each chain
pub all_filled : {X : Type 0} (f : ℕ → X) (xs : List X) (d : X) → length xs ≡ 67 → ((j : ℕ) → j < 67 → get_or xs j d ≡ f j) → xs ≡ for_chains f
all_filled f xs d len each = filled_all f xs 67 len refl (taken f xs d 67 (omega arith) each)
