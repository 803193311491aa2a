-- The table of the commands: their first words, their options, and the numbers that these take.
use Rattle.std.specs.Prelude.{ℕ, List, [], ◌∷◌, ◌++◌, codes, Option, Some, None, if◌then◌else◌}
use Rattle.std.specs.Str.{bytes_eq}
use Rattle.program_words.specs.declared.choice.Choice.{Choice}
use Rattle.program_words.specs.declared.choice.Choice.TheVariants.{Ticks, Transcript, Seed, Parties, Events, Summary}
use Rattle.program_words.specs.declared.verb.Verb.{Verb}
use Rattle.program_words.specs.declared.verb.Verb.TheVariants.{Check, Run, Race, Audit, Make, Gen, Clear, Many}

-- the first words
abbrev pub parse_verb : List ℕ → Option Verb
parse_verb word = if bytes_eq word (codes "check") then Some Check
    else if bytes_eq word (codes "run") then Some Run
    else if bytes_eq word (codes "race") then Some Race
    else if bytes_eq word (codes "audit") then Some Audit
    else if bytes_eq word (codes "make") then Some Make
    else if bytes_eq word (codes "gen") then Some Gen
    else if bytes_eq word (codes "clear") then Some Clear
    else if bytes_eq word (codes "many") then Some Many
    else None

-- the options that may follow each
abbrev pub choices : Verb → List Choice
choices Check = []
choices Run = Transcript ∷ []
choices Race = Ticks ∷ Transcript ∷ []
choices Audit = []
choices Make = []
choices Gen = Seed ∷ Parties ∷ Events ∷ Summary ∷ []
choices Clear = []
choices Many = []

-- the options that must follow each
abbrev pub needed_choices : Verb → List Choice
needed_choices Check = []
needed_choices Run = []
needed_choices Race = []
needed_choices Audit = []
needed_choices Make = []
needed_choices Gen = Seed ∷ Parties ∷ Events ∷ []
needed_choices Clear = []
needed_choices Many = []

-- the options' names
abbrev pub choice_label : Choice → List ℕ
choice_label Ticks = codes "ticks"
choice_label Transcript = codes "transcript"
choice_label Seed = codes "seed"
choice_label Parties = codes "parties"
choice_label Events = codes "events"
choice_label Summary = codes "summary"

-- the least and the greatest number that an option takes, where it takes one
abbrev pub choice_range : Choice → Option (ℕ × ℕ)
choice_range Ticks = Some (1, 1000)
choice_range Transcript = None
choice_range Seed = Some (0, 4294967295)
choice_range Parties = Some (2, 24)
choice_range Events = Some (0, 200000)
choice_range Summary = None

-- the word that names an option
abbrev pub choice_word : Choice → List ℕ
choice_word choice = codes "--" ++ choice_label choice
