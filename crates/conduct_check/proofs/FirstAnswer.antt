-- A first answer, found by going along the list, where what is read is a view of each answer.
use Rattle.std.proofs.Common.{◌≡◌, ℕ, ◌+◌, ◌<◌, Bool, true, false, List, length, get_or, take, Option, Some, None, is_some, ◌||◌, [], ◌∷◌, option_map}
use Rattle.std.proofs.Common.{refl, sym, ◌∙◌}
use Rattle.std.proofs.lemmas.List.{get_or_default}
use Rattle.swap_base.specs.Lists.{or_else, first_given_answer}
use Rattle.std.specs.List.{list_any}
use Rattle.escrow_core.specs.declared.terms.Terms.{Terms}
use Rattle.ledger_core.specs.declared.entry.Entry.{Entry}
use Rattle.ledger_core.specs.History.{published}
use Rattle.ledger_core.specs.Facts.{checked_history_publication, checked_publication}
use Rattle.ledger_core.proofs.FirstAnswer.{found_first, none_first}

is_some-shown : {B C : Type 0} (g : C → B) (r : Option C) → is_some (option_map g r) ≡ is_some r
is_some-shown g None = refl
is_some-shown g (Some x) = refl

pub found_shown : {A B C : Type 0} (g : C → B) (f : A → Option B) (xs : List A) (i : ℕ) (x : A) (r : Option C) → i < length xs → x ≡ get_or xs i x
    → first_given_answer f (take i xs) ≡ None → option_map g r ≡ f x → is_some r ≡ true → option_map g r ≡ first_given_answer f xs
found_shown g f xs i x r l e n k s = found_first f xs i x (option_map g r) l e n k (is_some-shown g r ∙ s)

pub none_shown : {A B C : Type 0} (g : C → B) (f : A → Option B) (xs : List A) (i : ℕ) (x : A) (r : Option C) → i < length xs → x ≡ get_or xs i x
    → first_given_answer f (take i xs) ≡ None → option_map g r ≡ f x → is_some r ≡ false → first_given_answer f (take (i + 1) xs) ≡ None
none_shown g f xs i x r l e n k s = none_first f xs i x (option_map g r) l e n k (is_some-shown g r ∙ s)

or_some : {B : Type 0} (o r : Option B) (b : Bool) → is_some r ≡ b → is_some (or_else o r) ≡ (is_some o || b)
or_some None r b h = h
or_some (Some x) r b h = refl

-- whether there is a first answer
pub some_first : {A B : Type 0} (f : A → Option B) (xs : List A) → is_some (first_given_answer f xs) ≡ list_any (λ x. is_some (f x)) xs
some_first f [] = refl
some_first f (x ∷ xs) = or_some (f x) (first_given_answer f xs) (list_any (λ y. is_some (f y)) xs) (some_first f xs)

-- the first answer where an element holds no memory

pub found_at : {A B C : Type 0} (g : C → B) (f : A → Option B) (xs : List A) (i : ℕ) (d : A) (r : Option C) → i < length xs
    → first_given_answer f (take i xs) ≡ None → option_map g r ≡ f (get_or xs i d) → is_some r ≡ true → option_map g r ≡ first_given_answer f xs
found_at g f xs i d r l n k s = found_shown g f xs i (get_or xs i d) r l (get_or_default xs i d (get_or xs i d) l) n k s

pub none_at : {A B C : Type 0} (g : C → B) (f : A → Option B) (xs : List A) (i : ℕ) (d : A) (r : Option C) → i < length xs
    → first_given_answer f (take i xs) ≡ None → option_map g r ≡ f (get_or xs i d) → is_some r ≡ false → first_given_answer f (take (i + 1) xs) ≡ None
none_at g f xs i d r l n k s = none_shown g f xs i (get_or xs i d) r l (get_or_default xs i d (get_or xs i d) l) n k s

-- whether there is a publish
pub some_published : (t : Terms) (h : List Entry) → is_some (published h) ≡ is_some (checked_history_publication t h)
some_published t h = sym (is_some-shown (checked_publication t) (published h))
