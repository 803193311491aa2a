-- Names are texts, and so is no text.
use Rattle.std.proofs.Common.{◌≡◌, ℕ, ◌<◌, Bool, true, false, nat_lt, List, [], length, get_or, refl, sym, subst, arith, ltb-true, ltb-false}
use Rattle.std.proofs.lemmas.List.{get_or_past}
use Rattle.std.proofs.lemmas.Str.{IsUtf8-from_ascii}
use Rattle.std.specs.Str.{IsUtf8}
use Rattle.offer_header.specs.Names.{AreNames}
use Rattle.offer_text.specs.Words.{AreTexts}
use Rattle.offer_text.proofs.LowTexts.{low_are_texts, low_is_ascii}

pub are_texts : (names : List (List ℕ)) → AreNames names → AreTexts names
are_texts names k = low_are_texts names (λ p lt. (k.name p lt).ascii)

no_text : IsUtf8 []
no_text = IsUtf8-from_ascii [] (low_is_ascii [] (λ i lt. absurd (omega arith)))

-- the name of a party, and no text where the number is nobody's
pub text_at : (names : List (List ℕ)) (p : ℕ) → AreTexts names → IsUtf8 (get_or names p [])
text_at names p texts = go (nat_lt p (length names)) refl
  where
    go : (b : Bool) → nat_lt p (length names) ≡ b → IsUtf8 (get_or names p [])
    go true e = texts p [] (ltb-true p (length names) e)
    go false e = subst IsUtf8 (sym (get_or_past names p [] (ltb-false p (length names) e))) no_text
