-- Names of bytes below 128 are texts.
use Rattle.std.proofs.Common.{◌≡◌, ℕ, ◌<◌, Bool, true, false, nat_lt, List, [], length, get_or, slice_index, refl, subst, arith, ltb-true, ltb-false}
use Rattle.std.proofs.Math.ListN.{get_or-eq_default}
use Rattle.std.proofs.lemmas.List.{get_or_default}
use Rattle.std.proofs.lemmas.Str.{IsUtf8-from_ascii}
use Rattle.std.specs.Str.{IsAscii, IsUtf8}
use Rattle.offer_text.specs.Words.{AreTexts}

-- the bytes of a text, each below 128
abbrev IsLow : List ℕ → Type 0
IsLow bs = (i : ℕ) → i < length bs → slice_index bs i < 128

-- past the end of a text stands 0
pub low_is_ascii : (bs : List ℕ) → IsLow bs → IsAscii bs
low_is_ascii bs each i = go (nat_lt i (length bs)) refl
  where
    go : (b : Bool) → nat_lt i (length bs) ≡ b → slice_index bs i < 128
    go true e = each i (ltb-true i (length bs) e)
    go false e = let z : slice_index bs i ≡ 0 = get_or-eq_default bs 0 (ltb-false i (length bs) e) in omega (arith, z)

pub low_are_texts : (names : List (List ℕ)) → ((p : ℕ) → p < length names → IsLow (get_or names p [])) → AreTexts names
low_are_texts names low p d lt =
    subst IsUtf8 (get_or_default names p [] d lt) (IsUtf8-from_ascii (get_or names p []) (low_is_ascii (get_or names p []) (low p lt)))
