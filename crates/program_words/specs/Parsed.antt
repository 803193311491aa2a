-- The words as `clap` reads them: its command of each first word, and what it finds.
use Rattle.std.specs.Prelude.{◌≡◌, ◌<◌, ⊤, Bool, true, ℕ, List, [], ◌∷◌, map, codes, Option, Some, None, if◌then◌else◌}
use Rattle.std.specs.Str.Parse.{digits_value}
use Rattle.clap.specs.Walk.{Rule, Text}
use Rattle.clap.specs.Simple.{App, Shape, new_rule, new_shape}
use Rattle.clap.specs.Matches.{found_of, one_text}
use Rattle.clap.specs.declared.builder.action.ArgAction.TheVariants.{SetTrue}
use Rattle.clap.specs.declared.parser.matches.ArgMatches.{ArgMatches}
use Rattle.program_words.specs.Tables.{choices, choice_label, choice_range}
use Rattle.program_words.specs.Words.{is_given, is_number, to_text}
use Rattle.program_words.specs.declared.choice.Choice.{Choice}
use Rattle.program_words.specs.declared.verb.Verb.{Verb}
use Rattle.program_words.specs.declared.verb.Verb.TheVariants.{Check, Run, Race, Audit, Make, Gen, Clear, Many}

abbrev pub first_word : Verb → Text
first_word Check = codes "check"
first_word Run = codes "run"
first_word Race = codes "race"
first_word Audit = codes "audit"
first_word Make = codes "make"
first_word Gen = codes "gen"
first_word Clear = codes "clear"
first_word Many = codes "many"

-- an option that takes no number, and one that takes a number
abbrev pub flag_rule : Text → Rule
flag_rule name = record (new_rule name) { long = Some name; action = Some SetTrue }

abbrev pub number_rule : Text → Rule
number_rule name = record (new_rule name) { long = Some name }

abbrev pub option_rule : Option (ℕ × ℕ) → Text → Rule
option_rule None name = flag_rule name
option_rule (Some range) name = number_rule name

abbrev pub choice_rule : Choice → Rule
choice_rule choice = option_rule (choice_range choice) (choice_label choice)

-- a command with no options yet, and none for help
abbrev pub bare_shape : Text → Shape
bare_shape name = record (new_shape name) { disable_help_flag = true }

abbrev pub bare_app : Text → App
bare_app name = record { top = bare_shape name; subs = [] }

-- the command of a first word
abbrev pub verb_app : Verb → App
verb_app verb = record { top = record (bare_shape (first_word verb)) { rules = map choice_rule (choices verb) }; subs = [] }

-- what is read of an option, by whether it is given and its text: `true` or `false` of a flag, and
-- a number's text where it is given
abbrev pub option_reading : Option (ℕ × ℕ) → Bool → Text → Option Text
option_reading None given text = Some (if given then codes "true" else codes "false")
option_reading (Some range) given text = if given then Some text else None

abbrev pub reading : Choice → List Text → Option Text
reading choice words = option_reading (choice_range choice) (is_given choice words) (to_text choice words)

abbrev pub AreRead : List Choice → List Text → ArgMatches → Type 0
AreRead [] words m = ⊤
AreRead (choice ∷ row) words m = (one_text (found_of m) (choice_label choice) ≡ reading choice words) × AreRead row words m

-- what a reader of numbers below a bound promises of a text
abbrev pub Numbers : ℕ → Option (List ℕ) → Option ℕ → Type 0
Numbers bound o r = (ends : ℕ × ℕ) (text : List ℕ) → o ≡ Some text → is_number ends text ≡ true → ends.1 < bound → r ≡ Some (digits_value 10 text)
