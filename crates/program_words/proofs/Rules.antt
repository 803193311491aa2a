-- The options as `clap`'s rules.
use Rattle.std.proofs.Common.{◌≡◌, ◌∙◌, ◌&&◌, ◌||◌, ℕ, Bool, true, false, not, List, [], ◌∷◌, Option, Some, None, refl, sym, ap, subst, find, codes}
use Rattle.std.proofs.Common.{is_some, map, option_map}
use Rattle.std.specs.Str.{bytes_eq}
use Rattle.clap.specs.Walk.{Rule, Text, arg_by_id, arg_by_long, has_long}
use Rattle.clap.specs.Simple.{new_rule, new_shape, Shape}
use Rattle.clap.specs.declared.builder.action.ArgAction.TheVariants.{Set, SetTrue}
use Rattle.clap.specs.declared.builder.value_parser.ValueParser.TheVariants as vp
use Rattle.clap.proofs.WalkLemmas.{find-map}
use Rattle.program_words.specs.Tables.{choice_label, choice_range, choice_word}
use Rattle.program_words.specs.Words.{names}
use Rattle.program_words.specs.declared.choice.Choice.{Choice}
use Rattle.program_words.proofs.Names.{IsLong}

-- the rule of an option that takes no number, and that of one that takes a number, as they are
-- built
abbrev pub flag_rule : Text → Rule
flag_rule id = record (new_rule id) {
  long = Some id;
  action = Some SetTrue;
  range = Some (record { start_inclusive = 0; end_inclusive = 0 });
  defaults = codes "false" ∷ [];
  missing = codes "true" ∷ [];
  parser = Some vp.Bool;
}

abbrev pub number_rule : Text → Rule
number_rule id = record (new_rule id) {
  long = Some id;
  action = Some Set;
  range = Some (record { start_inclusive = 1; end_inclusive = 1 });
  parser = Some vp.String;
}

abbrev pub option_rule : Option (ℕ × ℕ) → Text → Rule
option_rule None id = flag_rule id
option_rule (Some range) id = number_rule id

abbrev pub rule : Choice → Rule
rule c = option_rule (choice_range c) (choice_label c)

-- a command with these rules, built
abbrev pub shape : Text → List Rule → Shape
shape name rules = record (new_shape name) {
  rules = rules;
  disable_help_flag = true;
  disable_help_subcommand = true;
  is_built = true;
}

id_test : (nm : Text) (r : Option (ℕ × ℕ)) (id : Text) → bytes_eq (option_rule r id).id nm ≡ bytes_eq id nm
id_test nm None id = refl
id_test nm (Some range) id = refl

or_false : (b : Bool) → (b || false) ≡ b
or_false true = refl
or_false false = refl

long_test : (nm : Text) (r : Option (ℕ × ℕ)) (id : Text)
    → (not (is_some (option_rule r id).index) && has_long (option_rule r id) nm) ≡ bytes_eq id nm
long_test nm None id = or_false (bytes_eq id nm)
long_test nm (Some range) id = or_false (bytes_eq id nm)

-- the rule of a name is that of the option that the word names
same_find : (row : List Choice) (word : Text) (c : Choice) → IsLong word c
    → find (names word) row ≡ find (λ x. bytes_eq (choice_label x) (choice_label c)) row
same_find row word c h = subst (λ (f : Text). find (λ x. bytes_eq (choice_word x) f) row
    ≡ find (λ x. bytes_eq (choice_label x) (choice_label c)) row) (sym h.front) refl

pub by_long : (row : List Choice) (word : Text) (c : Choice) → IsLong word c → find (names word) row ≡ Some c
    → arg_by_long (map rule row) (choice_label c) ≡ Some (rule c)
by_long row word c h found =
    sym (find-map (λ a. not (is_some a.index) && has_long a (choice_label c)) rule row)
    ∙ ap (λ (p : Choice → Bool). option_map rule (find p row)) (λ j x. long_test (choice_label c) (choice_range x) (choice_label x) j)
    ∙ ap (option_map rule) (sym (same_find row word c h) ∙ found)

pub by_id : (row : List Choice) (word : Text) (c : Choice) → IsLong word c → find (names word) row ≡ Some c
    → arg_by_id (map rule row) (choice_label c) ≡ Some (rule c)
by_id row word c h found =
    sym (find-map (λ a. bytes_eq a.id (choice_label c)) rule row)
    ∙ ap (λ (p : Choice → Bool). option_map rule (find p row)) (λ j x. id_test (choice_label c) (choice_range x) (choice_label x) j)
    ∙ ap (option_map rule) (sym (same_find row word c h) ∙ found)
