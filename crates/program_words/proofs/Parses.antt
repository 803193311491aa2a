-- What `clap` makes of well-formed words.
use Rattle.std.proofs.Common.{◌≡◌, ◌∙◌, ◌&&◌, ℕ, Bool, true, false, List, [], ◌∷◌, Option, Some, None, refl, ap, ap₂, find}
use Rattle.std.proofs.Common.{is_some, fold, map, cond, option_and_then}
use Rattle.std.specs.List.{list_all}
use Rattle.clap.specs.Walk.{Row, Rule, Text, Walk, finished, idle, nothing_held, row_text, rows_after, rows_of, settled, walked}
use Rattle.clap.specs.Simple.{App, argument_words, built, entered, is_simple, matches_of, names_of}
use Rattle.clap.specs.Takes.{built_takes, default_passes, entered_passes, level_passes, is_valid, settle_passes, takes, walk_passes}
use Rattle.clap.specs.Matches.{found_of, one_text}
use Rattle.clap.specs.declared.parser.matches.ArgMatches.{ArgMatches}
use Rattle.clap.proofs.WalkLemmas.{one_text-rows}
use Rattle.program_words.specs.Tables.{choice_label, choice_range}
use Rattle.program_words.specs.Words.{are_options, is_given, to_text}
use Rattle.program_words.specs.Parsed.{option_reading, reading}
use Rattle.program_words.specs.declared.choice.Choice.{Choice}
use Rattle.program_words.proofs.Rules.{rule, shape}
use Rattle.program_words.proofs.Rows.{default_in, default_with, defaults_find, given_row, has_id, or_else}
use Rattle.program_words.proofs.Steps.{at}
use Rattle.program_words.proofs.Walks.{Goes, expect, walks}

pub both_true : (a b : Bool) → a ≡ true → b ≡ true → (a && b) ≡ true
both_true a b h k = rw (h, k) refl

-- a command whose rules, built, are those of the row
pub record Builds (name : Text) (row : List Choice) (a : App) : Type 0 where
  pub is_built : built a ≡ record { top = shape name (map rule row); subs = [] }
  pub is_simple : is_simple a ≡ true
  pub has_name : a.top.no_binary_name ≡ false
  pub defaults : list_all default_passes (map rule row) ≡ true
  pub valid : (rows : List Row) → is_valid (shape name (map rule row)) rows false ≡ true

starts : (name : Text) (row : List Choice) (words : List Text) → are_options row None words ≡ true
    → Goes name (map rule row) idle nothing_held words [] (λ c. expect c None words)
starts name row words ok = walks name row None words nothing_held [] ok (record { settles = refl; rows = refl; fresh = λ c given. refl })

abbrev after_build : Text → List Choice → App
after_build name row = record { top = shape name (map rule row); subs = [] }

arguments : (a : App) (first : Text) (words : List Text) → a.top.no_binary_name ≡ false → argument_words a (first ∷ words) ≡ words
arguments a first words h = rw h refl

passes_built : (name : Text) (row : List Choice) (words : List Text) → are_options row None words ≡ true → list_all default_passes (map rule row) ≡ true
    → ((rows : List Row) → is_valid (shape name (map rule row)) rows false ≡ true) → built_takes (after_build name row) nothing_held words ≡ true
passes_built name row words ok defaults valid =
    let g = starts name row words ok in
    let rs : List Rule = map rule row in
    let end : Walk = fold (walked rs []) (at idle nothing_held) words in
    let last : (settle_passes rs false end.held && (list_all default_passes rs && is_valid (shape name rs) (finished rs end.held) false)) ≡ true =
    both_true _ _ g.settles (both_true _ _ defaults (valid (finished rs end.held))) in
    let level : (walk_passes (shape name rs) [] (at idle nothing_held) words
    && (settle_passes rs false end.held && (list_all default_passes rs && is_valid (shape name rs) (finished rs end.held) false))) ≡ true =
    both_true _ _ g.passes last in
    ap (λ (stop : Option (Text × List Text)). entered_passes (after_build name row) stop
    && level_passes (shape name rs) [] nothing_held words (is_some (entered (after_build name row) stop))) g.stopped
    ∙ level

-- it takes them
pub taken : (name : Text) (row : List Choice) (a : App) (first : Text) (words : List Text) → Builds name row a → are_options row None words ≡ true
    → takes a (first ∷ words) ≡ true
taken name row a first words b ok = both_true _ _ b.is_simple
    (ap₂ (λ (x : App) (ws : List Text). built_takes x nothing_held ws) b.is_built (arguments a first words b.has_name)
    ∙ passes_built name row words ok b.defaults b.valid)

-- what a parse finds of an option is its use, or else its default
pub found : (name : Text) (row : List Choice) (a : App) (first : Text) (words : List Text) → Builds name row a → are_options row None words ≡ true
    → (c : Choice) → find (has_id (choice_label c)) (matches_of a (first ∷ words)) ≡ or_else (expect c None words) (default_in row (choice_label c))
found name row a first words b ok c =
    let g = starts name row words ok in
    let rs : List Rule = map rule row in
    ap₂ (λ (x : App) (ws : List Text). find (has_id (choice_label c)) (rows_after x.top.rules (names_of x) ws)) b.is_built (arguments a first words b.has_name)
    ∙ defaults_find row (settled rs (fold (walked rs []) (at idle nothing_held) words).held).rows (choice_label c)
    ∙ ap (λ (o : Option Row). or_else o (default_in row (choice_label c))) (g.found c)

-- the text that is read of an option
pub read : (m : ArgMatches) (rows : List Row) (c : Choice) (o : Option Row) → rows_of (found_of m) ≡ rows → find (has_id (choice_label c)) rows ≡ o
    → one_text (found_of m) (choice_label c) ≡ option_and_then row_text o
read m rows c o is at = one_text-rows (found_of m) (choice_label c) ∙ ap (λ (l : List Row). option_and_then row_text (find (has_id (choice_label c)) l)) is
    ∙ ap (option_and_then row_text) at

by_kind : (r : Option (ℕ × ℕ)) (id text : Text) (given : Bool)
    → option_and_then row_text (or_else (cond given (Some (given_row r id text)) None) (default_with r id)) ≡ option_reading r given text
by_kind None id text true = refl
by_kind None id text false = refl
by_kind (Some range) id text true = refl
by_kind (Some range) id text false = refl

-- an option of the row whose default is its own
pub one_read : (m : ArgMatches) (row : List Choice) (c : Choice) (words : List Text) (rows : List Row) → rows_of (found_of m) ≡ rows
    → find (has_id (choice_label c)) rows ≡ or_else (expect c None words) (default_in row (choice_label c))
    → default_in row (choice_label c) ≡ default_with (choice_range c) (choice_label c) → one_text (found_of m) (choice_label c) ≡ reading c words
one_read m row c words rows is there default =
    read m rows c (or_else (expect c None words) (default_in row (choice_label c))) is there
    ∙ ap (λ (d : Option Row). option_and_then row_text (or_else (expect c None words) d)) default
    ∙ by_kind (choice_range c) (choice_label c) (to_text c words) (is_given c words)
