-- Jobs whose written header is read as the very job.
use Rattle.std.proofs.Common.{◌≡◌, ◌≤◌, ℕ, Bool, true, List, length, map, Option, Some, None, Ok, arith}
use Rattle.std.specs.Prelude.{All}
use Rattle.std.specs.Str.{IsUtf8}
use Rattle.swap_digraph.specs.Deal.{most_arcs, version_path_limit}
use Rattle.swap_digraph.specs.declared.deal.Version.{Version}
use Rattle.swap_digraph.specs.declared.deal.Version.TheVariants.{One, Two}
use Rattle.swap_job.specs.Roles.{is_conforming}
use Rattle.swap_job.specs.declared.job.Job.{Job}
use Rattle.swap_job.specs.declared.job.Role.{Role}
use Rattle.swap_job.specs.declared.job.Role.TheVariants.{Conforming, Manual, Script, Strategy}
use Rattle.offer_moves.specs.declared.moves.Sizes.{Sizes}
use Rattle.offer_header.specs.Scripts.{roles_placed}
use Rattle.swap_offer.specs.Job.{provided}
use Rattle.typed_books.specs.Typed.{IsDigest}
use Rattle.read_back.specs.Headers.{IsShowable}
use Rattle.read_back.specs.Made.{reads_jobs}
use Rattle.read_back.proofs.MoveLimits.{IsLimited, IsSmall}

-- what the moves of a job's scripts may name
abbrev pub sizes_at : Job → Sizes
sizes_at job = record { arcs = length job.deal.graph.arcs; locks = length job.deal.leaders; path = version_path_limit job.deal.version }

-- a role with moves within their limits, or with an existing strategy that has a text for its name
abbrev pub IsToldRole : (List ℕ → Bool) → Sizes → ℕ → Role → Type 0
IsToldRole has s n Conforming = Unit {0}
IsToldRole has s n Manual = Unit {0}
IsToldRole has s n (Script moves) = (length moves ≤ 1000) × All (IsLimited s n) moves
IsToldRole has s n (Strategy name) = (has name ≡ true) × IsUtf8 name

-- a seed, where there is one, is a digest
abbrev pub MayBeDigest : Option (List ℕ) → Type 0
MayBeDigest None = Unit {0}
MayBeDigest (Some seed) = IsDigest seed

-- A job that its header line tells whole.
pub record IsTold (has : List ℕ → Bool) (job : Job) : Type 0 where
  pub purpose : reads_jobs job.purpose ≡ true
  pub shown : IsShowable job
  pub roles : length job.roles ≡ job.deal.graph.n
  pub acting : job.conforming ≡ map is_conforming job.roles
  pub seeds : length job.seeds ≡ job.deal.graph.n
  pub digests : All MayBeDigest job.seeds
  pub said : All (IsToldRole has (sizes_at job) (length job.names)) job.roles
  pub placed : (line : ℕ) → roles_placed job.deal.graph.arcs job.conforming line 0 job.roles ≡ Ok tt
  pub lacks_none : provided job ≡ Ok tt

pub few_arcs : (v : Version) (n : ℕ) → n ≤ most_arcs v → n ≤ 128
few_arcs One n le = omega arith
few_arcs Two n le = le

pub sizes_are_small : (has : List ℕ → Bool) (job : Job) → IsTold has job → IsSmall (sizes_at job)
sizes_are_small has job k = record {
  arcs = few_arcs job.deal.version (length job.deal.graph.arcs) k.shown.accepted.arcs.1;
  locks = k.shown.accepted.leaders.1;
}
