-- The values of a command, from what is read.
use Rattle.std.proofs.Common.{◌≡◌, ◌∙◌, ℕ, ◌<◌, ◌^◌, Bool, true, false, List, Option, Some, None, refl, sym, ap, cond, codes, unwrap_or, arith}
use Rattle.program_words.specs.Tables.{choice_range}
use Rattle.program_words.specs.Words.{are_options, is_given, option_number, to_text, asked_ticks}
use Rattle.program_words.specs.Parsed.{Numbers}
use Rattle.program_words.specs.declared.choice.Choice.{Choice}
use Rattle.program_words.specs.declared.choice.Choice.TheVariants.{Ticks}
use Rattle.program_words.proofs.Texts.{has_number}

pub flag_is : (c : Choice) (words : List (List ℕ)) (o : Option (List ℕ)) (b : Bool) → o ≡ Some (cond (is_given c words) (codes "true") (codes "false"))
    → (o ≡ Some (codes "true") → b ≡ true) → (o ≡ Some (codes "false") → b ≡ false) → b ≡ is_given c words
flag_is c words o b is on off = go (is_given c words) refl
  where
    go : (g : Bool) → is_given c words ≡ g → b ≡ is_given c words
    go true g = on (is ∙ rw g refl) ∙ sym g
    go false g = off (is ∙ rw g refl) ∙ sym g

pub number_is : (c : Choice) (ends : ℕ × ℕ) (bound : ℕ) (row : List Choice) (words : List (List ℕ)) (o : Option (List ℕ)) (r : Option ℕ) (other : ℕ)
    → choice_range c ≡ Some ends → are_options row None words ≡ true → ends.1 < bound
    → o ≡ cond (is_given c words) (Some (to_text c words)) None → is_given c words ≡ true → Numbers bound o r → unwrap_or r other ≡ option_number c words
number_is c ends bound row words o r other range ok small is given reads =
    ap (λ (x : Option ℕ). unwrap_or x other)
    (reads ends (to_text c words) (is ∙ rw given refl) (has_number row c ends None words range ok given) small)

pub ticks_is : (row : List Choice) (words : List (List ℕ)) (o : Option (List ℕ)) (r : Option ℕ) → are_options row None words ≡ true
    → o ≡ cond (is_given Ticks words) (Some (to_text Ticks words)) None → (o ≡ None → r ≡ None) → Numbers (2 ^ 32) o r → unwrap_or r 1 ≡ asked_ticks words
ticks_is row words o r ok is none reads = go (is_given Ticks words) refl
  where
    go : (g : Bool) → is_given Ticks words ≡ g → unwrap_or r 1 ≡ asked_ticks words
    go true g = number_is Ticks (1, 1000) (2 ^ 32) row words o r 1 refl ok (omega arith) is g reads ∙ rw g refl
    go false g = ap (λ (x : Option ℕ). unwrap_or x 1) (none (is ∙ rw g refl)) ∙ rw g refl
