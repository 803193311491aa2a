-- What acts for each party of a job, and whether its wallet is right.
use Rattle.std.specs.Prelude.{◌≡◌, ℕ, ◌<◌, Bool, true, false, List, length, map, All, is_some, slice_index_or, if◌then◌else◌}
use Rattle.std.specs.Prelude.{Option, Some, None}
use Rattle.std.specs.List.{range_with_len}
use Rattle.swap_base.specs.declared.fault.Fault.{Fault}
use Rattle.swap_base.specs.declared.fault.Fault.TheVariants.{Refused, NoMemory}
use Rattle.swap_digraph.specs.declared.deal.Deal.{Deal}
use Rattle.swap_job.specs.Fitting.{IsPartyMove}
use Rattle.swap_job.specs.Roles.{IsHeld, job_role, is_conforming, role_script}
use Rattle.swap_job.specs.declared.job.Job.{Job}
use Rattle.swap_job.specs.declared.job.Role.{Role}
use Rattle.swap_job.specs.declared.job.Role.TheVariants as kinds
use Rattle.party_wallet.specs.Fits.{wrong_lock}
use Rattle.party_machine.specs.Machine.{new_machine}
use Rattle.swap_run.specs.Run.{first_plan}
use Rattle.swap_world.specs.Players.{Racer}
use Rattle.swap_world.specs.declared.player.Player.TheVariants.{Conforming, Planned, Manual}
use Rattle.swap_world.specs.declared.players.WrongWallet.{WrongWallet}

-- For each party it is listed whether it conforms, and its seed, if any. Each conforming party has
-- a seed.
pub record ConformingHaveSeeds (job : Job) : Type 0 where
  pub conforming : length job.conforming ≡ job.deal.graph.n
  pub seeds : length job.seeds ≡ job.deal.graph.n
  pub there : (p : ℕ) → p < job.deal.graph.n → slice_index_or job.conforming p false ≡ true → is_some (slice_index_or job.seeds p None) ≡ true

-- A party has the role of a conforming one exactly where it conforms. The moves of a script are
-- its party's.
pub record HaveRoles (job : Job) : Type 0 where
  pub conforming : job.conforming ≡ map is_conforming job.roles
  pub scripts : (p : ℕ) → p < job.deal.graph.n → All (IsPartyMove job.deal job.seeds p) (role_script (job_role job p))

-- each strategy that a role follows is held
abbrev pub AreHeld : (List ℕ → Bool) → List Role → Type 0
AreHeld holds roles = (p : ℕ) → p < length roles → IsHeld holds (slice_index_or roles p kinds.Manual)

-- what acts for a party without a wallet: its script, its strategy, or its own calls alone
abbrev pub by_role : Deal → Role → Racer
by_role d (kinds.Script moves) = Planned (first_plan d (kinds.Script moves))
by_role d (kinds.Strategy name) = Planned (first_plan d (kinds.Strategy name))
by_role d _ = Manual

-- what acts with the seed of party p, where there is one
abbrev pub role_actor : Deal → Role → ℕ → Option (List ℕ) → Racer
role_actor d role p None = by_role d role
role_actor d role p (Some seed) = Conforming (new_machine d p seed) tt

-- what acts for party p, where its wallet is right
abbrev pub job_actor : Job → ℕ → Racer
job_actor job p =
    if slice_index_or job.conforming p false then role_actor job.deal (job_role job p) p (slice_index_or job.seeds p None)
    else by_role job.deal (job_role job p)

-- what acts for each party
abbrev pub team : Job → List Racer
team job = map (job_actor job) (range_with_len 0 job.deal.graph.n)

abbrev pub wrong_lock_if_seeded : Deal → ℕ → Option (List ℕ) → Option ℕ
wrong_lock_if_seeded d p None = None
wrong_lock_if_seeded d p (Some seed) = wrong_lock d p seed

-- the least lock for which the seed of party p lacks what the deal states, where p conforms
abbrev pub mismatched_lock : Job → ℕ → Option ℕ
mismatched_lock job p = if slice_index_or job.conforming p false then wrong_lock_if_seeded job.deal p (slice_index_or job.seeds p None) else None

-- every wallet is right
abbrev pub AllFit : Job → Type 0
AllFit job = (p : ℕ) → p < job.deal.graph.n → mismatched_lock job p ≡ None

-- Party and lock are the first for which a wallet is wrong.
pub record IsFirstWrong (job : Job) (w : WrongWallet) : Type 0 where
  pub party : w.party < job.deal.graph.n
  pub lock : mismatched_lock job w.party ≡ Some w.lock
  pub before : (p : ℕ) → p < w.party → mismatched_lock job p ≡ None

-- what is told of the first wallet that is wrong
abbrev pub IsFirstWrongFault : Job → Fault WrongWallet → Type 0
IsFirstWrongFault job NoMemory = Unit {0}
IsFirstWrongFault job (Refused w) = IsFirstWrong job w
