-- Signatures that are known to be valid.
use Rattle.std.proofs.Common.{◌≡◌, ℕ, zero, suc, ◌-◌, ◌≤◌, ◌<◌, true, not, ◌&&◌, ◌==◌, eqb-true, List, [], ◌∷◌, length, take, drop}
use Rattle.std.proofs.Common.{Option, Some, None, is_none, refl, sym, ◌∙◌, arith}
use Rattle.std.proofs.lemmas.Bool.{not-false, not-true}
use Rattle.std.proofs.lemmas.List.{nil_from_length}
use Rattle.std.proofs.Math.Seq.{take-length, drop-nil}
use Rattle.std.specs.Prelude.{All}
use Rattle.swap_base.proofs.Lists.{and_parts}
use Rattle.swap_digraph.specs.declared.deal.Deal.{Deal}
use Rattle.swap_digraph.specs.declared.deal.Mode.{Mode}
use Rattle.swap_digraph.specs.declared.deal.Mode.TheVariants.{Timelocks, Hashkeys}
use Rattle.hash_signature.specs.declared.sig.Sig.{Sig}
use Rattle.hashkey_path.specs.declared.hashkey.Hashkey.{Hashkey}
use Rattle.hashkey_path.specs.Hashkey.{is_signed, are_signed, wrong_signature, is_wrong_secret, is_wrong_path, is_wrong_signature, is_valid}
use Rattle.hashkey_path.specs.LastSignatures.{are_last_signed, is_last_signed}
use Rattle.hashkey_path.proofs.Validity.{are_signed-is_none}

none_of : (o : Option ℕ) → is_none o ≡ true → o ≡ None
none_of None e = refl
none_of (Some j) e = absurd (cc e)

-- where all of a list's signatures are known, no place is wrong
pub none_wrong : (n j : ℕ) (d : Deal) (lock : ℕ) (secret path : List ℕ) (sigs : List Sig) → length sigs ≤ n
    → are_last_signed n d lock secret path sigs ≡ true → wrong_signature j d lock secret path sigs ≡ None
none_wrong zero j d lock secret [] sigs le e = refl
none_wrong zero j d lock secret (v ∷ rest) [] le e = refl
none_wrong zero j d lock secret (v ∷ rest) (s ∷ inner) le e = absurd (omega arith)
none_wrong (suc n) j d lock secret path sigs le e =
    let all : are_signed d lock secret path sigs ≡ true = (let z : length sigs - suc n ≡ 0 = omega arith in rw z at e) in
    none_of (wrong_signature j d lock secret path sigs) (sym (are_signed-is_none j d lock secret path sigs) ∙ all)

-- all but the head, as slices give it
tail_is : {A : Type 0} (x : A) (xs : List A) → take (length (x ∷ xs) - 1) (drop 1 (x ∷ xs)) ≡ xs
tail_is x xs = let e : length (x ∷ xs) - 1 ≡ length xs = omega arith in rw e (take-length xs)

-- what is known of the lists is known of their tails, where the head isn't known
pub known_on : (n : ℕ) (d : Deal) (lock : ℕ) (secret path : List ℕ) (sigs : List Sig) → n < length sigs
    → are_last_signed n d lock secret path sigs ≡ true
    → are_last_signed n d lock secret (take (length path - 1) (drop 1 path)) (take (length sigs - 1) (drop 1 sigs)) ≡ true
known_on zero d lock secret path sigs lt e = refl
known_on (suc n) d lock secret [] sigs lt e = rw (drop-nil (length (take (length sigs - 1) (drop 1 sigs)) - suc n)) refl
known_on (suc n) d lock secret (v ∷ rest) [] lt e = absurd (omega arith)
known_on (suc n) d lock secret (v ∷ rest) (s ∷ inner) lt e =
    let z : length (s ∷ inner) - suc n ≡ suc (length inner - suc n) = omega arith in
    rw (tail_is v rest, tail_is s inner) (rw z at e)

-- what all vertices are, those after the first are
pub all_on : (P : ℕ → Type 0) (path : List ℕ) → All P path → All P (take (length path - 1) (drop 1 path))
all_on P [] h = h
all_on P (v ∷ rest) h = rw (tail_is v rest) (λ k d lt. h (suc k) d (omega arith))

-- Valid hashkeys.

no_signature : (d : Deal) (lock : ℕ) (secret path : List ℕ) → are_signed d lock secret path [] ≡ true
no_signature d lock secret [] = refl
no_signature d lock secret (v ∷ rest) = refl

signed_after : (k : ℕ) (d : Deal) (lock : ℕ) (secret path : List ℕ) (sigs : List Sig) → are_signed d lock secret path sigs ≡ true
    → are_signed d lock secret (drop k path) (drop k sigs) ≡ true
signed_after zero d lock secret path sigs e = e
signed_after (suc k) d lock secret [] sigs e = refl
signed_after (suc k) d lock secret (v ∷ rest) [] e = no_signature d lock secret (drop k rest)
signed_after (suc k) d lock secret (v ∷ rest) (s ∷ inner) e =
    signed_after k d lock secret rest inner (and_parts (is_signed d lock secret v rest s inner) (are_signed d lock secret rest inner) e).1

-- of a valid hashkey as many signatures are known as one likes
pub valid_is_known : (n : ℕ) (d : Deal) (a : ℕ) (hashlock : List ℕ) (key : Hashkey) → is_valid d a hashlock key ≡ true → is_last_signed n d key ≡ true
valid_is_known zero d a hashlock key e = refl
valid_is_known (suc n) d a hashlock key e =
    let two = and_parts (not (is_wrong_secret hashlock key) && not (is_wrong_path d a d.mode key)) (not (is_wrong_signature d d.mode key)) e in
    by_mode d.mode (and_parts (not (is_wrong_secret hashlock key)) (not (is_wrong_path d a d.mode key)) two.0).1 two.1
  where
    by_mode : (m : Mode) → not (is_wrong_path d a m key) ≡ true → not (is_wrong_signature d m key) ≡ true
        → are_signed d key.lock key.secret (drop (length key.sigs - suc n) key.path) (drop (length key.sigs - suc n) key.sigs) ≡ true
    by_mode Timelocks p s =
        let k = and_parts (length key.path == 0) (length key.sigs == 0) (not-false _ (not-true _ p)) in
        signed_after (length key.sigs - suc n) d key.lock key.secret key.path key.sigs (rw (nil_from_length key.path (eqb-true _ _ k.0)) refl)
    by_mode Hashkeys p s = signed_after (length key.sigs - suc n) d key.lock key.secret key.path key.sigs (not-false _ (not-true _ s))
