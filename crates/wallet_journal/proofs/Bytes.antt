-- Bytes of a list after a range of it was written or torn.
use Rattle.std.proofs.Common.{◌≡◌, ℕ, zero, suc, ◌+◌, ◌-◌, ◌≤◌, ◌<◌, List, [], ◌∷◌, ◌++◌, length, take, drop, get_or, refl, sym, ◌∙◌, ap, arith}
use Rattle.std.proofs.Common.{length-append, length-drop}
use Rattle.std.proofs.lemmas.List.{take_at, drop_at, take-take, drop-drop, length-take-le, get_or-take, get_or-drop}
use Rattle.wallet_journal.specs.Device.{slice, written, Torn}
use Rattle.wallet_journal.specs.Layout.{byte}

-- what lies in front of a place
pub front : (a m n : ℕ) (xs : List ℕ) → a + m ≤ n → take m (drop a (take n xs)) ≡ take m (drop a xs)
front zero m n xs le = take-take m n xs (omega (arith, le))
front (suc a) m zero xs le = absurd (omega (arith, le))
front (suc a) m (suc n) [] le = refl
front (suc a) m (suc n) (x ∷ xs) le = front a m n xs (omega (arith, le))

module _ (at n : ℕ) (old new : List ℕ) (torn : Torn at n old new) where
  -- a slice in front of the range
  pub slice_before : (a m : ℕ) → a + m ≤ at → slice a m new ≡ slice a m old
  slice_before a m le =
      sym (front a m at new le) ∙ ap (λ (l : List ℕ). take m (drop a l)) torn.before ∙ front a m at old le

  -- what lies behind the range
  pub drop_after : (a : ℕ) → at + n ≤ a → drop a new ≡ drop a old
  drop_after a le =
      let e : at + n + (a - (at + n)) ≡ a = omega (arith, le) in
      ap (λ (k : ℕ). drop k new) (sym e)
      ∙ sym (drop-drop (a - (at + n)) (at + n) new)
      ∙ ap (λ (l : List ℕ). drop (a - (at + n)) l) torn.after
      ∙ drop-drop (a - (at + n)) (at + n) old
      ∙ ap (λ (k : ℕ). drop k old) e

  pub slice_after : (a m : ℕ) → at + n ≤ a → slice a m new ≡ slice a m old
  slice_after a m le = ap (λ (l : List ℕ). take m l) (drop_after a le)

  pub byte_before : (i : ℕ) → i < at → byte new i ≡ byte old i
  byte_before i lt = sym (get_or-take at new i 0 lt) ∙ ap (λ (l : List ℕ). get_or l i 0) torn.before ∙ get_or-take at old i 0 lt

  pub byte_after : (i : ℕ) → at + n ≤ i → byte new i ≡ byte old i
  byte_after i le = at_drop new ∙ ap (λ (l : List ℕ). get_or l 0 0) (drop_after i le) ∙ sym (at_drop old)
    where
      at_drop : (l : List ℕ) → get_or l i 0 ≡ get_or (drop i l) 0 0
      at_drop l = sym (get_or-drop i l 0 0 ∙ ap (λ (k : ℕ). get_or l k 0) e)
        where
          e : i + 0 ≡ i
          e = omega arith

module _ (old : List ℕ) (at : ℕ) (bytes : List ℕ) (fits : at + length bytes ≤ length old) where
  size : length (take at old) ≡ at
  size = length-take-le at old (omega (arith, fits))

  behind : drop at (written old at bytes) ≡ bytes ++ drop (at + length bytes) old
  behind = drop_at (take at old) (bytes ++ drop (at + length bytes) old) at size

  -- what was written stands there
  pub slice_written : slice at (length bytes) (written old at bytes) ≡ bytes
  slice_written = ap (λ (l : List ℕ). take (length bytes) l) behind ∙ take_at bytes (drop (at + length bytes) old) (length bytes) refl

  pub drop_written : drop at (written old at bytes) ≡ bytes ++ drop (at + length bytes) old
  drop_written = behind

  -- nothing changed beside what was written
  pub written_torn : Torn at (length bytes) old (written old at bytes)
  written_torn = record {
    before = take_at (take at old) (bytes ++ drop (at + length bytes) old) at size;
    after = sym (drop-drop (length bytes) at (written old at bytes)) ∙ ap (λ (l : List ℕ). drop (length bytes) l) behind
        ∙ drop_at bytes (drop (at + length bytes) old) (length bytes) refl;
    as_long =
        omega (
          arith,
          fits,
          size,
          length-append (take at old) (bytes ++ drop (at + length bytes) old),
          length-append bytes (drop (at + length bytes) old),
          length-drop (at + length bytes) old,
        );
  }
