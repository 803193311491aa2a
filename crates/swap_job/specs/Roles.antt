-- How the parties of a job act.
use Rattle.std.specs.Prelude.{◌≡◌, ℕ, Bool, true, List, slice_index_or, false, []}
use Rattle.swap_job.specs.declared.job.Job.{Job}
use Rattle.swap_job.specs.declared.job.Role.{Role}
use Rattle.swap_job.specs.declared.job.Role.TheVariants.{Strategy, Manual, Conforming, Script}
use Rattle.swap_job.specs.declared.moves.Move.{Move}

-- the strategy that the role follows, if any, is held
abbrev pub IsHeld : (List ℕ → Bool) → Role → Type 0
IsHeld holds (Strategy name) = holds name ≡ true
IsHeld holds _ = Unit {0}

-- the role of party p
abbrev pub job_role : Job → ℕ → Role
job_role job p = slice_index_or job.roles p Manual

-- the role of a party that conforms
abbrev pub is_conforming : Role → Bool
is_conforming Conforming = true
is_conforming _ = false

-- the moves of a role's script
abbrev pub role_script : Role → List Move
role_script (Script moves) = moves
role_script _ = []
