-- The words of a line, one after another.
use Rattle.std.proofs.Common.{◌≡◌, ◌&&◌, ℕ, suc, Bool, false, List, [], ◌∷◌, drop, refl}
use Rattle.std.specs.Prelude.{codes}
use Rattle.transcript_book.specs.Reading.{is_word}
use Rattle.told_ledgers.specs.Words.{ends_accepted, ends_unfunded, nth_word}

pub nth_next : (i : ℕ) (ws : List (List ℕ)) → nth_word i (drop 1 ws) ≡ nth_word (suc i) ws
nth_next i [] = refl
nth_next i (w ∷ ws) = refl

-- whether the last two words say that a call was accepted, where sign tells whether the word before
-- these is the sign, and last what holds where there are none
abbrev pub accepted_after : (sign last : Bool) → List (List ℕ) → Bool
accepted_after sign last [] = last
accepted_after sign last (w ∷ ws) = accepted_after (is_word w (codes "=")) (sign && is_word w (codes "accepted")) ws

two_words : (w x : List ℕ) (ws : List (List ℕ))
    → ends_accepted (w ∷ x ∷ ws) ≡ accepted_after (is_word x (codes "=")) (is_word w (codes "=") && is_word x (codes "accepted")) ws
two_words w x [] = refl
two_words w x (y ∷ ws) = two_words x y ws

pub accepted_first : (ws : List (List ℕ)) → ends_accepted ws ≡ accepted_after false false ws
accepted_first [] = refl
accepted_first (w ∷ []) = refl
accepted_first (w ∷ x ∷ ws) = two_words w x ws

-- whether the last three words say that funds were lacking, where sign tells whether the word before
-- these is the sign, lacking whether the two before them say the beginning, and last what holds
-- where there are none
abbrev pub unfunded_after : (sign lacking last : Bool) → List (List ℕ) → Bool
unfunded_after sign lacking last [] = last
unfunded_after sign lacking last (w ∷ ws) = unfunded_after (is_word w (codes "=")) (sign && is_word w (codes "NoFunds")) lacking ws

three_words : (w x y : List ℕ) (ws : List (List ℕ))
    → ends_unfunded (w ∷ x ∷ y ∷ ws)
    ≡ unfunded_after (is_word y (codes "=")) (is_word x (codes "=") && is_word y (codes "NoFunds")) (is_word w (codes "=") && is_word x (codes "NoFunds")) ws
three_words w x y [] = refl
three_words w x y (z ∷ ws) = three_words x y z ws

pub unfunded_first : (ws : List (List ℕ)) → ends_unfunded ws ≡ unfunded_after false false false ws
unfunded_first [] = refl
unfunded_first (w ∷ []) = refl
unfunded_first (w ∷ x ∷ []) = refl
unfunded_first (w ∷ x ∷ y ∷ ws) = three_words w x y ws
