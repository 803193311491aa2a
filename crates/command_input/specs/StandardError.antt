-- What is told on standard error.
use Rattle.std.specs.Prelude.{ℕ, List, [], ◌∷◌, codes}
use Rattle.swap_base.specs.Text.{joined}
use Rattle.command_input.specs.declared.reason.Reason.{Reason}
use Rattle.command_input.specs.Line.{refusal_line_text}
use Rattle.command_input.specs.declared.exit.Told.{Told}
use Rattle.command_input.specs.declared.exit.Told.TheVariants.{Words, Line}

-- what is told, as a text
abbrev pub told_text : Told → List ℕ
told_text (Words words) = words.now
told_text (Line line) = line

-- the line of a reason, with its line feed
abbrev pub refusal_text : List (List ℕ) → Reason → List ℕ
refusal_text names reason = joined (refusal_line_text names reason ∷ codes "\n" ∷ [])
