-- The seeds that a job needs, and whether they are those of its deal.
use Rattle.std.specs.Prelude.{◌≡◌, ℕ, ◌<◌, ◌&&◌, ◌||◌, nat_eq, All, Bool, true, false, List, [], map, is_none, slice_index_or, option_map}
use Rattle.std.specs.Prelude.{if◌then◌else◌, Option, Some, None, Result, Ok}
use Rattle.std.specs.List.{list_any, range_with_len}
use Rattle.swap_base.specs.Lists.{first_given_answer}
use Rattle.swap_job.specs.declared.job.Job.{Job}
use Rattle.swap_job.specs.Fitting.{IsPartyMove}
use Rattle.swap_job.specs.Roles.{job_role, role_script}
use Rattle.swap_job.specs.declared.moves.Move.{Move}
use Rattle.swap_job.specs.declared.moves.Move.TheVariants.{Craft}
use Rattle.swap_job.specs.declared.job.Role.{Role}
use Rattle.swap_job.specs.declared.job.Purpose.{Purpose}
use Rattle.swap_job.specs.declared.job.Purpose.TheVariants.{Run, Race, Make, Audit}
use Rattle.swap_job.specs.declared.job.Finish.TheVariants.{Stop}
use Rattle.swap_offer.specs.Proposed.{HaveSeeds}
use Rattle.offer_header.specs.Header.{simple_role}
use Rattle.command_input.specs.declared.reason.Reason.{Reason}
use Rattle.command_input.specs.declared.reason.Reason.TheVariants.{NoSeed, WrongWallet}
use Rattle.party_wallet.specs.Fits.{wrong_lock}
use Rattle.party_wallet.specs.Value.{WalletState}
use Rattle.party_wallet.specs.Wallets.{new_wallets}
use Rattle.swap_offer.specs.Checks.{unless_wrong}

-- party p conforms
abbrev pub party_conforms : Job → ℕ → Bool
party_conforms job p = slice_index_or job.conforming p false

-- the seed of party p, where it is there
abbrev pub party_seed : Job → ℕ → Option (List ℕ)
party_seed job p = slice_index_or job.seeds p None

-- party p crafts a hashkey in a move
abbrev pub crafts : ℕ → Move → Bool
crafts p (Craft a lock via onto) = list_any (nat_eq p) via
crafts p _ = false

-- party p crafts a hashkey in a script
abbrev pub role_crafts : ℕ → Role → Bool
role_crafts p role = list_any (crafts p) (role_script role)

abbrev pub is_crafter : Job → ℕ → Bool
is_crafter job p = list_any (role_crafts p) job.roles

-- the parties whose seeds a purpose needs: for a run and a race those that conform or craft in a
-- script, for making all
abbrev pub needs_seed : Purpose → Job → ℕ → Bool
needs_seed Run job p = party_conforms job p || is_crafter job p
needs_seed Race job p = party_conforms job p || is_crafter job p
needs_seed Make job p = true
needs_seed _ job p = false

-- the reason against a party p whose seed is needed and isn't there
abbrev pub no_seed : Job → ℕ → Option Reason
no_seed job p = if needs_seed job.purpose job p && is_none (party_seed job p) then Some (NoSeed p) else None

-- the seeds that the job's purpose needs are there
unfoldable pub seeded : Job → Result (Unit {0}) Reason
seeded job = unless_wrong (first_given_answer (no_seed job) (range_with_len 0 job.deal.graph.n))

-- the reason against a seed of party p, by the least lock for which it lacks what the deal states
abbrev pub wrong_seed : Job → ℕ → Option (List ℕ) → Option Reason
wrong_seed job p None = None
wrong_seed job p (Some seed) = option_map (WrongWallet p) (wrong_lock job.deal p seed)

-- the reason against the seed of a conforming party p, where it is there
abbrev pub wrong_wallet : Job → ℕ → Option Reason
wrong_wallet job p = if party_conforms job p then wrong_seed job p (party_seed job p) else None

-- the seeds of conforming parties that are there are those of the deal
unfoldable pub fitting : Job → Result (Unit {0}) Reason
fitting job = unless_wrong (first_given_answer (wrong_wallet job) (range_with_len 0 job.deal.graph.n))

-- a plain job's deal states nothing that seeds give, and a transcript tells no seed
abbrev pub fitting_wallets : Purpose → Job → Result (Unit {0}) Reason
fitting_wallets Make job = Ok tt
fitting_wallets Audit job = Ok tt
fitting_wallets _ job = fitting job

-- the seeds give what the deal states of them
unfoldable pub walleted : Job → Result (Unit {0}) Reason
walleted job = fitting_wallets job.purpose job

-- the wallets that a purpose needs: for a run and a race those of the parties
abbrev pub prepared_wallets : Purpose → Job → List (Option WalletState)
prepared_wallets Run job = new_wallets job.deal job.conforming job.seeds
prepared_wallets Race job = new_wallets job.deal job.conforming job.seeds
prepared_wallets _ job = []

-- A party's seed is there, and gives it what the deal states for each lock.
pub record HasWallet (job : Job) (p : ℕ) : Type 0 where
  pub seed : List ℕ
  pub there : party_seed job p ≡ Some seed
  pub fits : wrong_lock job.deal p seed ≡ None

-- each conforming party has its wallet
abbrev pub HaveWallets : Job → Type 0
HaveWallets job = (p : ℕ) → p < job.deal.graph.n → party_conforms job p ≡ true → HasWallet job p

-- for a run and a race each conforming party has its wallet
abbrev pub HaveRequiredWallets : Purpose → Job → Type 0
HaveRequiredWallets Run job = HaveWallets job
HaveRequiredWallets Race job = HaveWallets job
HaveRequiredWallets _ job = Unit {0}

-- a plain job has the seed of each party
abbrev pub HaveRequiredSeeds : Purpose → Job → Type 0
HaveRequiredSeeds Make job = HaveSeeds job
HaveRequiredSeeds _ job = Unit {0}

-- a transcript tells no seed, and nothing is done after its last entry
abbrev pub IsUntoldJob : Purpose → Job → Type 0
IsUntoldJob Audit job = ((p : ℕ) → party_seed job p ≡ None) × (job.finish ≡ Stop)
IsUntoldJob _ job = Unit {0}

-- each move of a script fits, and stands on an arc that touches its party
abbrev pub HaveScripts : Job → Type 0
HaveScripts job = (p : ℕ) → p < job.deal.graph.n → All (IsPartyMove job.deal job.seeds p) (role_script (job_role job p))

-- for a run and a race, and of a plain job
abbrev pub HaveRequiredScripts : Purpose → Job → Type 0
HaveRequiredScripts Run job = HaveScripts job
HaveRequiredScripts Race job = HaveScripts job
HaveRequiredScripts Make job = HaveScripts job
HaveRequiredScripts _ job = Unit {0}

-- in a transcript each role is simple
abbrev pub AreSimpleRoles : Purpose → Job → Type 0
AreSimpleRoles Audit job = job.roles ≡ map simple_role job.conforming
AreSimpleRoles _ job = Unit {0}
