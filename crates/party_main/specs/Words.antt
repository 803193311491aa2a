-- What the words of the program `party` ask for, and how much is read for it.
use Rattle.std.specs.Prelude.{ℕ, List, [], ◌∷◌, codes, Option, Some, None, if◌then◌else◌}
use Rattle.std.specs.Str.{bytes_eq}
use Rattle.party_judge.specs.declared.form.Form.TheVariants.{Lines, Json}
use Rattle.party_main.specs.declared.command.Command.{Command}
use Rattle.party_main.specs.declared.command.Command.TheVariants.{Keys, Deal, Terms, Next, Judge}

-- the commands that have no name
abbrev pub nameless_command : List ℕ → Option Command
nameless_command word = if bytes_eq word (codes "deal") then Some Deal else if bytes_eq word (codes "judge") then Some (Judge Lines) else None

-- the commands that have a party's name
abbrev pub named_command : List ℕ → List ℕ → Option Command
named_command word name =
    if bytes_eq word (codes "keys") then Some (Keys name)
    else if bytes_eq word (codes "terms") then Some (Terms name)
    else if bytes_eq word (codes "next") then Some (Next name)
    else None

-- the judgement that an option asks for
abbrev pub judge_command : List ℕ → Option Command
judge_command option = if bytes_eq option (codes "--json") then Some (Judge Json) else None

-- the commands of two words: behind `judge` stands its option, and behind any other a name
abbrev pub long_command : List ℕ → List ℕ → Option Command
long_command word further = if bytes_eq word (codes "judge") then judge_command further else named_command word further

-- what words ask for, if they are a command's
abbrev pub words_party_command : List (List ℕ) → Option Command
words_party_command [] = None
words_party_command (word ∷ []) = nameless_command word
words_party_command (word ∷ further ∷ []) = long_command word further
words_party_command (word ∷ further ∷ third ∷ more) = None

-- the most bytes of an input of `keys`, `deal` or `terms`
abbrev pub short_limit : ℕ
short_limit = 1048576

-- the most bytes of an input of `next`
abbrev pub next_limit : ℕ
next_limit = 566231040

-- the most bytes of an input of `judge`
abbrev pub judge_limit : ℕ
judge_limit = 150994944

-- the most bytes that are read for a command
abbrev pub command_input_limit : Command → ℕ
command_input_limit (Keys name) = short_limit
command_input_limit Deal = short_limit
command_input_limit (Terms name) = short_limit
command_input_limit (Next name) = next_limit
command_input_limit (Judge form) = judge_limit
