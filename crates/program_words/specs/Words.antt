-- Which words are well formed, and what they ask for.
use Rattle.std.specs.Prelude.{◌≤◌, ℕ, Bool, true, false, ◌==◌, ◌&&◌, List, [], ◌∷◌, length, nat_le, Option, Some, None, if◌then◌else◌}
use Rattle.std.specs.Prelude.{option_and_then, find, unwrap_or}
use Rattle.std.specs.List.{list_all, list_any, before_first, after_first}
use Rattle.std.specs.Str.{bytes_eq}
use Rattle.std.specs.Str.Parse.{digits_value}
use Rattle.std.specs.Char.{is_ascii_digit}
use Rattle.program_words.specs.Tables.{choices, needed_choices, choice_range, parse_verb, choice_word}
use Rattle.program_words.specs.declared.choice.Choice.{Choice}
use Rattle.program_words.specs.declared.choice.Choice.TheVariants.{Ticks, Transcript, Seed, Parties, Events, Summary}
use Rattle.program_words.specs.declared.well_formed.Verdict.{Verdict}
use Rattle.program_words.specs.declared.well_formed.Verdict.TheVariants.{Wrong, Done, Waits}
use Rattle.program_words.specs.declared.verb.Verb.{Verb}
use Rattle.program_words.specs.declared.verb.Verb.TheVariants.{Check, Run, Race, Audit, Make, Gen, Clear, Many}
use Rattle.program_words.specs.declared.task.Task.{Task}
use Rattle.program_words.specs.declared.task.Task.TheVariants as task
use Rattle.program_words.specs.declared.task.Order.TheVariants as order

-- ---- one word

abbrev pub is_equals : ℕ → Bool
is_equals byte = byte == 61

-- what stands before the first `=` of a word, and what stands behind it where there is one
abbrev pub front : List ℕ → List ℕ
front word = before_first is_equals word

abbrev pub attached_text : List ℕ → Option (List ℕ)
attached_text word = if list_any is_equals word then Some (after_first is_equals word) else None

-- the word is the option's, alone or with something behind `=`
abbrev pub names : List ℕ → Choice → Bool
names word choice = bytes_eq (choice_word choice) (front word)

-- the text has 1 to 10 decimal digits and nothing else
abbrev pub is_short_numeral : List ℕ → Bool
is_short_numeral text = nat_le 1 (length text) && nat_le (length text) 10 && list_all is_ascii_digit text

-- the text has 1 to 10 decimal digits, and its number lies in the range
abbrev pub is_number : ℕ × ℕ → List ℕ → Bool
is_number range text = is_short_numeral text && (nat_le range.0 (digits_value 10 text) && nat_le (digits_value 10 text) range.1)

-- ---- well-formed words: a word is wrong, or it is done with, or the number of its option is the
-- next word

-- an option's word, by the numbers that the option takes and by what stands behind `=`
abbrev pub option_step : Choice → Option (ℕ × ℕ) → Option (List ℕ) → Verdict
option_step choice None None = Done
option_step choice None (Some text) = Wrong
option_step choice (Some range) None = Waits choice
option_step choice (Some range) (Some text) = if is_number range text then Done else Wrong

abbrev pub fits : Option (ℕ × ℕ) → List ℕ → Bool
fits None word = false
fits (Some range) word = is_number range word

abbrev pub named_step : Option Choice → List ℕ → List (List ℕ) → Verdict
named_step None word later = Wrong
named_step (Some choice) word later =
    if list_any (λ other. names other choice) later then Wrong else option_step choice (choice_range choice) (attached_text word)

-- a word, where an option waits for its number or none does; `later` are the words that follow
abbrev pub choice_step : List Choice → Option Choice → List ℕ → List (List ℕ) → Verdict
choice_step row None word later = named_step (find (names word) row) word later
choice_step row (Some choice) word later = if fits (choice_range choice) word then Done else Wrong

abbrev pub verdict_continues : Verdict → (Option Choice → Bool) → Bool
verdict_continues Wrong next = false
verdict_continues Done next = next None
verdict_continues (Waits choice) next = next (Some choice)

-- the words are options of the row, in any order, each at most once, with their numbers
abbrev pub are_options : List Choice → Option Choice → List (List ℕ) → Bool
are_options row None [] = true
are_options row (Some choice) [] = false
are_options row waiting (word ∷ words) = verdict_continues (choice_step row waiting word words) (λ next. are_options row next words)

-- the words name the option
abbrev pub is_given : Choice → List (List ℕ) → Bool
is_given choice words = list_any (λ word. names word choice) words

abbrev pub are_well_formed : Verb → List (List ℕ) → Bool
are_well_formed verb words = are_options (choices verb) None words && list_all (λ choice. is_given choice words) (needed_choices verb)

-- ---- what they ask for

abbrev pub first_or_empty : List (List ℕ) → List ℕ
first_or_empty [] = []
first_or_empty (word ∷ words) = word

-- the text that an option is given: what stands behind `=`, or the next word
abbrev pub to_text : Choice → List (List ℕ) → List ℕ
to_text choice [] = []
to_text choice (word ∷ words) = if names word choice then unwrap_or (attached_text word) (first_or_empty words) else to_text choice words

abbrev pub option_number : Choice → List (List ℕ) → ℕ
option_number choice words = digits_value 10 (to_text choice words)

abbrev pub asked_ticks : List (List ℕ) → ℕ
asked_ticks words = if is_given Ticks words then option_number Ticks words else 1

abbrev pub verb_task : Verb → List (List ℕ) → Task
verb_task Check words = task.Input order.Check
verb_task Run words = task.Input (order.Run (is_given Transcript words))
verb_task Race words = task.Race (asked_ticks words) (is_given Transcript words)
verb_task Audit words = task.Input order.Audit
verb_task Make words = task.Input order.Make
verb_task Gen words = task.Number (record {
  seed = option_number Seed words;
  parties = option_number Parties words;
  events = option_number Events words;
  summary = is_given Summary words;
})
verb_task Clear words = task.Input order.Clear
verb_task Many words = task.Input order.Many

abbrev pub asked_task : List (List ℕ) → Verb → Option Task
asked_task words verb = if are_well_formed verb words then Some (verb_task verb words) else None

-- the task that the words ask for: no other words are well formed
abbrev pub task_text : List (List ℕ) → Option Task
task_text [] = None
task_text (word ∷ words) = option_and_then (asked_task words) (parse_verb word)

-- the numbers of a task lie in their ranges
abbrev pub AreNumbersInRange : Task → Type 0
AreNumbersInRange (task.Input order) = Unit {0}
AreNumbersInRange (task.Race ticks transcript) = (1 ≤ ticks) × (ticks ≤ 1000)
AreNumbersInRange (task.Number request) = (2 ≤ request.parties) × (request.parties ≤ 24) × (request.events ≤ 200000)
