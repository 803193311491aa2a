-- What the lines of an input tell, one after another, and what that leads to.
use Rattle.std.specs.Prelude.{◌≡◌, ◌+◌, ℕ, true, List, [], ◌∷◌, Result, Ok, Err}
use Rattle.std.specs.List.{FoldsTo}
use Rattle.swap_base.specs.Fault.{◌>>=◌}
use Rattle.command_input.specs.Input.{Desk, Ends, Stops, ahead}
use Rattle.command_input.specs.declared.fault.InputFault.{InputFault}

-- the events of lines, or what is said against the first line that tells none; `count` lines came
-- before
unfoldable pub lines_told : {E R : Type 0} → (ℕ → ℕ → List ℕ → Result E R) → ℕ → List (ℕ × List ℕ) → Result (List E) R
lines_told told count [] = Ok []
lines_told told count (l ∷ ls) = told count l.0 l.1 >>= λ event. lines_told told (count + 1) ls >>= λ events. Ok (event ∷ events)

-- A line told an event, which has led from old to new.
pub record HasTakenEvent {E R A : Type 0} (leads : A → E → A → Type 0) (told : Result E R) (old new : A) : Type 0 where
  pub event : E
  pub is_told : told ≡ Ok event
  pub stepped : leads old event new

-- The lines ahead were all read and told events, which have led from old to new.
pub record IsWalked {E R A : Type 0} (leads : A → E → A → Type 0) (told : ℕ → ℕ → List ℕ → Result E R) (old new : A) (first now : Desk) : Type 0 where
  pub events : List E
  pub are_told : Ends (λ bytes. lines_told told 0 (ahead first.at bytes) ≡ Ok events) first now
  pub met : now.at.over ≡ true
  pub stepped : FoldsTo leads old events new

-- What a reading answers between two desks. P holds of its result. Where the reading stopped, Q
-- relates the bytes to the refusal, whatever comes after them.
abbrev pub ReadsOrStops : {T R : Type 0} → (T → Desk → Desk → Type 0) → (List ℕ → R → Type 0) → Desk → Desk → Result T (InputFault R) → Type 0
ReadsOrStops P Q old new (Ok x) = P x old new
ReadsOrStops P Q old new (Err fault) = Stops Q old new fault
