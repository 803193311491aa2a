-- An input of wishes: one line, and no further one that isn't blank.
use Rattle.std.specs.Prelude.{◌≡◌, ℕ, List, [], ◌∷◌, Err}
use Rattle.command_input.specs.declared.refusal.Refusal.{Refusal}
use Rattle.command_input.specs.Lines.{collect_lines, filled_lines}
use Rattle.command_input.specs.Written.{Written}
use Rattle.swap_clear.specs.ClearedText.{IsClearedLine}
use Rattle.command_input.specs.Input.{InputProgress, ahead}
use Rattle.swap_commands.specs.Output.{refuse_further_line, plain_text}

-- The input is one line of wishes, and the text is what is cleared of it.
pub record IsCleared (bytes text : List ℕ) : Type 0 where
  pub line : ℕ
  pub wishes : List ℕ
  pub lines : filled_lines 1 (collect_lines bytes) ≡ (line, wishes) ∷ []
  pub cleared : IsClearedLine line wishes text

-- what is said against further lines
abbrev pub IsFurther : InputProgress → List ℕ → Refusal → Type 0
IsFurther s bytes refusal = (refuse_further_line (ahead s bytes) ≡ Err refusal.reason) × (refusal.names ≡ [])

-- what a clearing promises that wrote its output
pub record IsClearing (input : List ℕ) (output : Written) : Type 0 where
  pub text : List ℕ
  pub shown : output ≡ plain_text text
  pub cleared : IsCleared input text
