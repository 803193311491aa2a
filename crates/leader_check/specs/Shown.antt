-- What the check of leaders answers.
use Rattle.std.specs.Prelude.{ℕ, List, Option, Some, None}
use Rattle.leader_check.specs.declared.leader_answer.Levels.{Levels as LevelsOf}
use Rattle.leader_check.specs.declared.leader_answer.LeaderAnswer.{LeaderAnswer}
use Rattle.leader_check.specs.declared.leader_answer.LeaderAnswer.TheVariants.{Levels, Cycle}

-- the cycle that the answer shows
abbrev pub cycle_shown : LeaderAnswer → Option (List ℕ)
cycle_shown (Levels levels) = None
cycle_shown (Cycle list) = Some list

-- what holds of the levels, where the answer has levels
abbrev pub IfLevels : LeaderAnswer → (LevelsOf → Type 0) → Type 0
IfLevels (Levels levels) P = P levels
IfLevels (Cycle list) P = Unit {0}

-- what holds of the cycle, where the answer has a cycle
abbrev pub IfCycle : LeaderAnswer → (List ℕ → Type 0) → Type 0
IfCycle (Levels levels) P = Unit {0}
IfCycle (Cycle list) P = P list
