-- What `clap` keeps of an option's use, and of its default.
use Rattle.std.proofs.Common.{◌≡◌, ◌∙◌, ◌++◌, ℕ, Bool, true, false, List, [], ◌∷◌, Option}
use Rattle.std.proofs.Common.{Some, None, refl, sym, ap, subst, find, codes, is_some, fold, map, cond, append-nil}
use Rattle.std.specs.Str.{bytes_eq}
use Rattle.std.proofs.lemmas.Slice.Eq.{bytes_eq-Decides}
use Rattle.clap.specs.Walk.{Row, Text, at_row, has_row, more_values, used, with_default}
use Rattle.clap.specs.Takes.{use_passes}
use Rattle.clap.specs.declared.builder.value_parser.Reading.TheVariants.{AsWritten}
use Rattle.clap.specs.declared.parser.matches.ValueSource.TheVariants.{DefaultValue, CommandLine}
use Rattle.program_words.specs.Tables.{choice_label, choice_range}
use Rattle.program_words.specs.declared.choice.Choice.{Choice}
use Rattle.program_words.proofs.Rules.{rule, option_rule}

abbrev pub has_id : Text → Row → Bool
has_id id r = bytes_eq r.id id

abbrev pub or_else : {A : Type 0} → Option A → Option A → Option A
or_else (Some x) o = Some x
or_else None o = o

pub or_none : {A : Type 0} (o : Option A) → or_else o None ≡ o
or_none (Some x) = refl
or_none None = refl

pub or_assoc : {A : Type 0} (x y z : Option A) → or_else (or_else x y) z ≡ or_else x (or_else y z)
or_assoc (Some x) y z = refl
or_assoc None y z = refl

-- the values of a use, and its row
abbrev pub values_with : Option (ℕ × ℕ) → Text → List Text
values_with None text = []
values_with (Some range) text = text ∷ []

abbrev pub value_with : Option (ℕ × ℕ) → Text → Text
value_with None text = codes "true"
value_with (Some range) text = text

abbrev pub given_row : Option (ℕ × ℕ) → Text → Text → Row
given_row r id text = record {
  id = id;
  values = value_with r text ∷ [];
  count = None;
  source = Some CommandLine;
  reading = AsWritten;
}

abbrev pub default_row : Text → Row
default_row id = record {
  id = id;
  values = codes "false" ∷ [];
  count = None;
  source = Some DefaultValue;
  reading = AsWritten;
}

no_row : (id : Text) (rows : List Row) → find (has_id id) rows ≡ None → has_row id rows ≡ false
no_row id [] h = refl
no_row id (r ∷ rows) h = go (bytes_eq r.id id) refl (no_row id rows)
  where
    go : (b : Bool) → bytes_eq r.id id ≡ b → (find (has_id id) rows ≡ None → has_row id rows ≡ false) → has_row id (r ∷ rows) ≡ false
    go true e rec =
        let bad : Some r ≡ None = rw e at h in
        cc
    go false e rec = rw e (rec (rw e at h))

some_row : (id : Text) (rows : List Row) → has_row id rows ≡ true → is_some (find (has_id id) rows) ≡ true
some_row id [] h = cc
some_row id (r ∷ rows) h = go (bytes_eq r.id id) refl (some_row id rows)
  where
    go : (b : Bool) → bytes_eq r.id id ≡ b → (has_row id rows ≡ true → is_some (find (has_id id) rows) ≡ true)
        → is_some (find (has_id id) (r ∷ rows)) ≡ true
    go true e rec = rw e refl
    go false e rec = rw e (rec (rw e at h))

joins : (id : Text) (change : Row → List Row) (missing rows : List Row) → has_row id rows ≡ false
    → at_row id change missing rows ≡ rows ++ missing
joins id change missing [] h = refl
joins id change missing (r ∷ rows) h = go (bytes_eq r.id id) refl (joins id change missing rows)
  where
    go : (b : Bool) → bytes_eq r.id id ≡ b → (has_row id rows ≡ false → at_row id change missing rows ≡ rows ++ missing)
        → at_row id change missing (r ∷ rows) ≡ r ∷ rows ++ missing
    go true e rec =
        let bad : true ≡ false = rw e at h in
        cc
    go false e rec = rw e (ap (λ (l : List Row). r ∷ l) (rec (rw e at h)))

find_push : (p : Row → Bool) (rows : List Row) (r : Row) → find p (rows ++ r ∷ []) ≡ or_else (find p rows) (cond (p r) (Some r) None)
find_push p [] r = refl
find_push p (x ∷ rows) r = go (p x) (find_push p rows r)
  where
    go : (b : Bool) → find p (rows ++ r ∷ []) ≡ or_else (find p rows) (cond (p r) (Some r) None)
        → cond b (Some x) (find p (rows ++ r ∷ [])) ≡ or_else (cond b (Some x) (find p rows)) (cond (p r) (Some r) None)
    go true rec = refl
    go false rec = rec

-- a first use of an option adds its row
used_joins : (r : Option (ℕ × ℕ)) (id text : Text) (rows : List Row) → has_row id rows ≡ false
    → used (option_rule r id) (values_with r text) rows ≡ rows ++ given_row r id text ∷ []
used_joins None id text rows h =
    rw (joins id (λ _. []) [] rows h, append-nil) (joins id (more_values CommandLine (codes "true" ∷ [])) (given_row None id text ∷ []) rows h)
used_joins (Some range) id text rows h =
    rw (joins id (λ _. []) [] rows h, append-nil) (joins id (more_values CommandLine (text ∷ [])) (given_row (Some range) id text ∷ []) rows h)

pub used_finds : (c : Choice) (text : Text) (rows : List Row) (id : Text) → find (has_id (choice_label c)) rows ≡ None
    → find (has_id id) (used (rule c) (values_with (choice_range c) text) rows)
    ≡ or_else (find (has_id id) rows) (cond (bytes_eq (choice_label c) id) (Some (given_row (choice_range c) (choice_label c) text)) None)
used_finds c text rows id h =
    ap (find (has_id id)) (used_joins (choice_range c) (choice_label c) text rows (no_row (choice_label c) rows h))
    ∙ find_push (has_id id) rows (given_row (choice_range c) (choice_label c) text)

-- a first use of an option passes
use_fits : (r : Option (ℕ × ℕ)) (id text : Text) (rows : List Row) → has_row id rows ≡ false
    → use_passes false (option_rule r id) (values_with r text) rows ≡ true
use_fits None id text rows h = rw h refl
use_fits (Some range) id text rows h = rw h refl

pub first_use_passes : (c : Choice) (text : Text) (rows : List Row) → find (has_id (choice_label c)) rows ≡ None
    → use_passes false (rule c) (values_with (choice_range c) text) rows ≡ true
first_use_passes c text rows h = use_fits (choice_range c) (choice_label c) text rows (no_row (choice_label c) rows h)

-- a default
abbrev pub default_with : Option (ℕ × ℕ) → Text → Option Row
default_with None id = Some (default_row id)
default_with (Some range) id = None

default_joins : (r : Option (ℕ × ℕ)) (own : Text) (rows : List Row) (id : Text)
    → find (has_id id) (with_default rows (option_rule r own))
    ≡ or_else (find (has_id id) rows) (cond (bytes_eq own id) (default_with r own) None)
default_joins r own rows id = go r (has_row own rows) refl
  where
    none : (r : Option (ℕ × ℕ)) (b : Bool) → find (has_id id) rows ≡ or_else (find (has_id id) rows) (cond b None None)
    none r true = sym (or_none (find (has_id id) rows))
    none r false = sym (or_none (find (has_id id) rows))

    there : (o : Option Row) → is_some o ≡ true → o ≡ or_else o (Some (default_row own))
    there (Some x) h = refl
    there None h = cc

    kept : (b : Bool) → bytes_eq own id ≡ b → has_row own rows ≡ true
        → find (has_id id) rows ≡ or_else (find (has_id id) rows) (cond b (Some (default_row own)) None)
    kept true e h =
        let same : own ≡ id = (bytes_eq-Decides own id).0 e in
        there (find (has_id id) rows) (subst (λ (t : Text). is_some (find (has_id t) rows) ≡ true) same (some_row own rows h))
    kept false e h = sym (or_none (find (has_id id) rows))

    go : (r : Option (ℕ × ℕ)) (b : Bool) → has_row own rows ≡ b → find (has_id id) (with_default rows (option_rule r own))
        ≡ or_else (find (has_id id) rows) (cond (bytes_eq own id) (default_with r own) None)
    go None true h = rw h (kept (bytes_eq own id) refl h)
    go None false h = rw h (ap (find (has_id id)) (joins own (more_values DefaultValue (codes "false" ∷ [])) (default_row own ∷ []) rows h)
        ∙ find_push (has_id id) rows (default_row own))
    go (Some range) true h = rw h (none (Some range) (bytes_eq own id))
    go (Some range) false h = rw h (none (Some range) (bytes_eq own id))

abbrev pub default_in : List Choice → Text → Option Row
default_in [] id = None
default_in (c ∷ row) id = or_else (cond (bytes_eq (choice_label c) id) (default_with (choice_range c) (choice_label c)) None) (default_in row id)

pub defaults_find : (row : List Choice) (rows : List Row) (id : Text)
    → find (has_id id) (fold with_default rows (map rule row)) ≡ or_else (find (has_id id) rows) (default_in row id)
defaults_find [] rows id = sym (or_none (find (has_id id) rows))
defaults_find (c ∷ row) rows id =
    let one : Option Row = cond (bytes_eq (choice_label c) id) (default_with (choice_range c) (choice_label c)) None in
    defaults_find row (with_default rows (rule c)) id
    ∙ ap (λ (o : Option Row). or_else o (default_in row id)) (default_joins (choice_range c) (choice_label c) rows id)
    ∙ or_assoc (find (has_id id) rows) one (default_in row id)
