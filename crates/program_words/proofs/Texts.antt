-- The number that a well-formed option is given.
use Rattle.std.proofs.Common.{◌≡◌, ◌∙◌, ℕ, Bool, true, false, List, [], ◌∷◌, Option, Some, None, refl, sym, subst, find, cond, unwrap_or}
use Rattle.std.proofs.lemmas.Slice.Eq.{bytes_eq-Decides}
use Rattle.program_words.specs.Tables.{choice_label, choice_range, choice_word}
use Rattle.program_words.specs.Words.{verdict_continues, are_options, attached_text, first_or_empty, fits, front, is_given, is_number, names, option_step, choice_step, to_text}
use Rattle.program_words.specs.declared.choice.Choice.{Choice}
use Rattle.program_words.specs.declared.well_formed.Verdict.{Verdict}
use Rattle.program_words.specs.declared.well_formed.Verdict.TheVariants.{Wrong, Done, Waits}
use Rattle.program_words.proofs.Names.{is_plain}
use Rattle.program_words.proofs.Walks.{find_passes, fits_number, one_name}

-- what is told of the words from here on
abbrev Told : List Choice → Choice → ℕ × ℕ → List (List ℕ) → Type 0
Told row c ends words = (waits : Option Choice) → are_options row waits words ≡ true → is_given c words ≡ true → is_number ends (to_text c words) ≡ true

goes_on : (row : List Choice) (words : List (List ℕ)) (v : Verdict) → verdict_continues v (λ next. are_options row next words) ≡ true
    → (waits : Option Choice) × (are_options row waits words ≡ true)
goes_on row words Wrong h = cc
goes_on row words Done h = (None, h)
goes_on row words (Waits own) h = (Some own, h)

-- a word that doesn't name the option
passed : (row : List Choice) (c : Choice) (ends : ℕ × ℕ) (word : List ℕ) (words : List (List ℕ)) (v : Verdict) → names word c ≡ false
    → verdict_continues v (λ next. are_options row next words) ≡ true → is_given c (word ∷ words) ≡ true → Told row c ends words
    → is_number ends (to_text c (word ∷ words)) ≡ true
passed row c ends word words v other good given rest =
    let next = goes_on row words v good in
    rw other (rest next.0 next.1 (rw other at given))

-- the next word of an option that waits
next_number : (row : List Choice) (c : Choice) (ends : ℕ × ℕ) (words : List (List ℕ)) → choice_range c ≡ Some ends → are_options row (Some c) words ≡ true
    → is_number ends (first_or_empty words) ≡ true
next_number row c ends [] range h = cc
next_number row c ends (word ∷ words) range h = go (fits (choice_range c) word) refl
  where
    go : (b : Bool) → fits (choice_range c) word ≡ b → is_number ends word ≡ true
    go false f =
        let bad : false ≡ true = rw f at h in
        cc
    go true f =
        let is = fits_number (choice_range c) word f in
        let same : Some is.0 ≡ Some ends = sym is.1 ∙ range in
        let one : is.0 ≡ ends = cc in
        subst (λ (e : ℕ × ℕ). is_number e word ≡ true) one is.2

by_parts : (row : List Choice) (c : Choice) (ends : ℕ × ℕ) (words : List (List ℕ)) (v : Option (List ℕ)) → choice_range c ≡ Some ends
    → verdict_continues (option_step c (Some ends) v) (λ next. are_options row next words) ≡ true → is_number ends (unwrap_or v (first_or_empty words)) ≡ true
by_parts row c ends words None range h = next_number row c ends words range h
by_parts row c ends words (Some text) range h = go (is_number ends text) refl
  where
    go : (b : Bool) → is_number ends text ≡ b → is_number ends text ≡ true
    go false f =
        let bad : false ≡ true = rw f at h in
        cc
    go true f = f

-- a word that names it
named : (row : List Choice) (c : Choice) (ends : ℕ × ℕ) (word : List ℕ) (words : List (List ℕ)) → choice_range c ≡ Some ends → names word c ≡ true
    → are_options row None (word ∷ words) ≡ true → is_number ends (to_text c (word ∷ words)) ≡ true
named row c ends word words range n ok = rw n (by_option (find (names word) row) refl)
  where
    by_once : (b : Bool) → is_given c words ≡ b
        → verdict_continues (cond b Wrong (option_step c (choice_range c) (attached_text word))) (λ next. are_options row next words) ≡ true
        → is_number ends (unwrap_or (attached_text word) (first_or_empty words)) ≡ true
    by_once true once h = cc
    by_once false once h = by_parts row c ends words (attached_text word) range (rw range at h)

    by_option : (o : Option Choice) → find (names word) row ≡ o → is_number ends (unwrap_or (attached_text word) (first_or_empty words)) ≡ true
    by_option None e =
        let bad : false ≡ true = rw e at ok in
        cc
    by_option (Some own) e =
        let m : names word own ≡ true = find_passes (names word) row own e in
        let same : 45 ∷ 45 ∷ choice_label own ≡ 45 ∷ 45 ∷ choice_label c =
        (bytes_eq-Decides (choice_word own) (front word)).0 m ∙ sym ((bytes_eq-Decides (choice_word c) (front word)).0 n) in
        let one : own ≡ c = one_name own c cc in
        let good : verdict_continues (cond (is_given own words) Wrong (option_step own (choice_range own) (attached_text word))) (λ next. are_options row next words) ≡ true =
        rw e at ok in
        by_once (is_given c words) refl (subst (λ (x : Choice). verdict_continues (cond (is_given x words) Wrong (option_step x (choice_range x) (attached_text word)))
        (λ next. are_options row next words) ≡ true) one good)

by_name : (row : List Choice) (c : Choice) (ends : ℕ × ℕ) (word : List ℕ) (words : List (List ℕ)) → choice_range c ≡ Some ends
    → are_options row None (word ∷ words) ≡ true → is_given c (word ∷ words) ≡ true → Told row c ends words
    → is_number ends (to_text c (word ∷ words)) ≡ true
by_name row c ends word words range ok given rest = go (names word c) refl
  where
    go : (b : Bool) → names word c ≡ b → is_number ends (to_text c (word ∷ words)) ≡ true
    go true n = named row c ends word words range n ok
    go false n = passed row c ends word words (choice_step row None word words) n ok given rest

by_number : (row : List Choice) (c : Choice) (ends : ℕ × ℕ) (own : Choice) (word : List ℕ) (words : List (List ℕ))
    → are_options row (Some own) (word ∷ words) ≡ true → is_given c (word ∷ words) ≡ true → Told row c ends words
    → is_number ends (to_text c (word ∷ words)) ≡ true
by_number row c ends own word words ok given rest = go (fits (choice_range own) word) refl
  where
    go : (b : Bool) → fits (choice_range own) word ≡ b → is_number ends (to_text c (word ∷ words)) ≡ true
    go false f =
        let bad : false ≡ true = rw f at ok in
        cc
    go true f =
        let is = fits_number (choice_range own) word f in
        let plain = is_plain is.0 word is.2 in
        passed row c ends word words (choice_step row (Some own) word words) (plain.nameless c) ok given rest

pub has_number : (row : List Choice) (c : Choice) (ends : ℕ × ℕ) (waits : Option Choice) (words : List (List ℕ)) → choice_range c ≡ Some ends
    → are_options row waits words ≡ true → is_given c words ≡ true → is_number ends (to_text c words) ≡ true
has_number row c ends waits [] range ok given = cc
has_number row c ends None (word ∷ words) range ok given =
    by_name row c ends word words range ok given (λ waits good more. has_number row c ends waits words range good more)
has_number row c ends (Some own) (word ∷ words) range ok given =
    by_number row c ends own word words ok given (λ waits good more. has_number row c ends waits words range good more)
