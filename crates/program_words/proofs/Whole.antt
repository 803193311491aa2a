-- The task of words whose first is looked at alone.
use Rattle.std.proofs.Common.{◌≡◌, ◌∙◌, ℕ, ◌≤◌, length, get_or, map, drop, List, [], ◌∷◌, Some, None, Bool, true, false, refl, sym, ap, arith, cond}
use Rattle.std.proofs.Common.{option_and_then}
use Rattle.program_words.specs.Tables.{parse_verb}
use Rattle.program_words.specs.Words.{are_well_formed, verb_task, asked_task, task_text}
use Rattle.program_words.specs.declared.verb.Verb.{Verb}

-- the task of no words, and of a first word with the rest
pub no_task : {A : Type 0} (f : A → List ℕ) (xs : List A) → length xs ≡ 0 → task_text (map f xs) ≡ None
no_task f [] h = refl
no_task f (x ∷ xs) h = absurd (omega arith)

first_and_rest : {A : Type 0} (f : A → List ℕ) (xs : List A) (x : A) → 1 ≤ length xs → x ≡ get_or xs 0 x
    → task_text (map f xs) ≡ option_and_then (asked_task (map f (drop 1 xs))) (parse_verb (f x))
first_and_rest f [] x some is = absurd (omega arith)
first_and_rest {A = A} f (y ∷ xs) x some is = ap (λ (z : A). option_and_then (asked_task (map f xs)) (parse_verb (f z))) (sym is)

pub wrong_first : {A : Type 0} (f : A → List ℕ) (xs : List A) (x : A) → 1 ≤ length xs → x ≡ get_or xs 0 x → parse_verb (f x) ≡ None
    → task_text (map f xs) ≡ None
wrong_first f xs x some is no_verb = first_and_rest f xs x some is ∙ ap (option_and_then (asked_task (map f (drop 1 xs)))) no_verb

pub wrong_rest : {A : Type 0} (f : A → List ℕ) (xs : List A) (x : A) (verb : Verb) → 1 ≤ length xs → x ≡ get_or xs 0 x → parse_verb (f x) ≡ Some verb
    → are_well_formed verb (map f (drop 1 xs)) ≡ false → task_text (map f xs) ≡ None
wrong_rest f xs x verb some is has wrong = first_and_rest f xs x some is ∙ ap (option_and_then (asked_task (map f (drop 1 xs)))) has
    ∙ ap (λ (b : Bool). cond b (Some (verb_task verb (map f (drop 1 xs)))) None) wrong

pub whole_words : {A : Type 0} (f : A → List ℕ) (xs : List A) (x : A) (verb : Verb) → 1 ≤ length xs → x ≡ get_or xs 0 x → parse_verb (f x) ≡ Some verb
    → are_well_formed verb (map f (drop 1 xs)) ≡ true → task_text (map f xs) ≡ Some (verb_task verb (map f (drop 1 xs)))
whole_words f xs x verb some is has whole = first_and_rest f xs x some is ∙ ap (option_and_then (asked_task (map f (drop 1 xs)))) has
    ∙ ap (λ (b : Bool). cond b (Some (verb_task verb (map f (drop 1 xs)))) None) whole
