-- What a well-formed word looks like to `clap`.
use Rattle.std.proofs.Common.{◌≡◌, ◌∙◌, ◌&&◌, ℕ, Bool, true, false, not, List, [], ◌∷◌, Option, Some, None, refl, sym}
use Rattle.std.proofs.Common.{ap, take, drop, ◌==◌, arith, ◌+◌, suc, cond, ap₂, get_or, eqb-true, one-add}
use Rattle.std.specs.List.{prefix_len, list_any}
use Rattle.std.specs.Str.{bytes_eq}
use Rattle.std.specs.Char.{is_ascii_digit}
use Rattle.std.proofs.lemmas.Slice.Eq.{bytes_eq-Decides}
use Rattle.clap.specs.Lexer.{long_of, short_of}
use Rattle.program_words.specs.Tables.{choice_label, choice_word}
use Rattle.program_words.specs.Words.{attached_text, front, is_equals, is_number, names}
use Rattle.program_words.specs.declared.choice.Choice.{Choice}
use Rattle.program_words.specs.declared.choice.Choice.TheVariants.{Ticks, Transcript, Seed, Parties, Events, Summary}

pub both : (a b : Bool) → (a && b) ≡ true → (a ≡ true) × (b ≡ true)
both true true h = (refl, refl)
both true false h = cc
both false b h = cc

front_cons : (y : ℕ) (rest : List ℕ) → is_equals y ≡ false → front (y ∷ rest) ≡ y ∷ front rest
front_cons y rest h = rw h (ap (λ n. take n (y ∷ rest)) (one-add (prefix_len (λ x. not (is_equals x)) rest)))

behind_cons : (y : ℕ) (rest : List ℕ) → is_equals y ≡ false → attached_text (y ∷ rest) ≡ attached_text rest
behind_cons y rest h =
    let n : ℕ = prefix_len (λ x. not (is_equals x)) rest in
    let e : 1 + n + 1 ≡ suc (n + 1) = omega arith in
    rw h (ap (λ k. cond (list_any is_equals rest) (Some (drop k (y ∷ rest))) None) e)

-- what begins with a byte before its first `=` begins with it
begins : (x : ℕ) (t word : List ℕ) → x ∷ t ≡ front word → (rest : List ℕ) × (word ≡ x ∷ rest) × (t ≡ front rest) × (is_equals x ≡ false)
begins x t [] h = cc
begins x t (y ∷ rest) h = go (is_equals y) refl
  where
    go : (b : Bool) → is_equals y ≡ b → (tail : List ℕ) × (y ∷ rest ≡ x ∷ tail) × (t ≡ front tail) × (is_equals x ≡ false)
    go true e =
        let bad : x ∷ t ≡ [] = rw e at h in
        cc
    go false e =
        let good : x ∷ t ≡ y ∷ front rest = h ∙ front_cons y rest e in
        let same : y ≡ x = cc in
        (rest, cc, cc, rw (← same) e)

-- no option has an empty name
named : (c : Choice) → choice_label c ≡ [] → ⊥
named Ticks h = cc
named Transcript h = cc
named Seed h = cc
named Parties h = cc
named Events h = cc
named Summary h = cc

dashes : List ℕ
dashes = 45 ∷ 45 ∷ []

-- a word that names an option is a long option to `clap`
pub record IsLong (word : List ℕ) (c : Choice) : Type 0 where
  pub front : front word ≡ 45 ∷ 45 ∷ choice_label c
  pub long : long_of word ≡ Some (choice_label c, attached_text word)
  pub no_dashes : bytes_eq word (45 ∷ 45 ∷ []) ≡ false

pub is_long : (word : List ℕ) (c : Choice) → names word c ≡ true → IsLong word c
is_long word c h =
    let e : 45 ∷ 45 ∷ choice_label c ≡ front word = (bytes_eq-Decides (choice_word c) (front word)).0 h in
    let one = begins 45 (45 ∷ choice_label c) word e in
    let two = begins 45 (choice_label c) one.0 one.2 in
    shape two.0 (one.1 ∙ ap (λ (t : List ℕ). 45 ∷ t) two.1) two.2 (sym e)
  where
    shape : (rest : List ℕ) → word ≡ 45 ∷ 45 ∷ rest → choice_label c ≡ front rest → front word ≡ 45 ∷ 45 ∷ choice_label c → IsLong word c
    shape [] w f e = absurd (named c f)
    shape (x ∷ rest) w f e =
        record {
          front = e;
          long = rw w (ap₂ (λ (n : List ℕ) (v : Option (List ℕ)). Some (n, v)) (sym f)
              (sym (behind_cons 45 (45 ∷ x ∷ rest) refl ∙ behind_cons 45 (x ∷ rest) refl)));
          no_dashes = rw w refl;
        }

-- a number is a plain word to `clap`, and names no option
pub record IsPlain (word : List ℕ) : Type 0 where
  pub long : long_of word ≡ None
  pub short : short_of word ≡ None
  pub no_dashes : bytes_eq word (45 ∷ 45 ∷ []) ≡ false
  pub nameless : (c : Choice) → names word c ≡ false

digit_first : (x : ℕ) (rest : List ℕ) → is_ascii_digit x ≡ true → IsPlain (x ∷ rest)
digit_first x rest h =
    let no_dash : (x == 45) ≡ false = go (x == 45) refl in
    record {
      long = rw no_dash refl;
      short = rw no_dash refl;
      no_dashes = rw no_dash refl;
      nameless = λ c. none c (names (x ∷ rest) c) refl;
    }
  where
    go : (b : Bool) → (x == 45) ≡ b → (x == 45) ≡ false
    go true e =
        let same : x ≡ 45 = eqb-true x 45 e in
        let bad : false ≡ true = rw same at h in
        cc
    go false e = e

    none : (c : Choice) (b : Bool) → names (x ∷ rest) c ≡ b → names (x ∷ rest) c ≡ false
    none c true e =
        let long = is_long (x ∷ rest) c e in
        let one = begins 45 (45 ∷ choice_label c) (x ∷ rest) (sym long.front) in
        let same : x ≡ 45 = ap (λ (t : List ℕ). get_or t 0 0) one.1 in
        let bad : false ≡ true = rw same at h in
        cc
    none c false e = e

pub is_plain : (range : ℕ × ℕ) (word : List ℕ) → is_number range word ≡ true → IsPlain word
is_plain range [] h = cc
is_plain range (x ∷ rest) h =
    let short = both _ _ (both _ _ h).0 in
    digit_first x rest (both _ _ short.1).0
