-- Who takes part in a job's run.
use Rattle.std.specs.Prelude.{ℕ, Bool, false, List, [], slice_index_or, Option, Some, None, if◌then◌else◌}
use Rattle.swap_digraph.specs.declared.deal.Deal.{Deal}
use Rattle.swap_job.specs.Crafted.{Seeds}
use Rattle.swap_job.specs.declared.job.Job.{Job}
use Rattle.swap_job.specs.declared.job.Role.{Role}
use Rattle.swap_rules.specs.Due.{Wallet}
use Rattle.party_machine.specs.Wallet.{seed_wallet}
use Rattle.swap_run.specs.Run.{Cast, conforms, party_role}
use Rattle.swap_run.specs.Asked.{is_strategy}

-- what party v signs with; that of a party without a seed is never used
abbrev pub signing_wallet : Option (List ℕ) → ℕ → Deal → Wallet
signing_wallet (Some seed) v d = seed_wallet seed v d
signing_wallet None v d = seed_wallet [] v d

-- the parties that conform sign with their seeds
abbrev pub made_cast : Deal → List Bool → Seeds → List Role → Cast
made_cast d conforming seeds roles = record {
  deal = d;
  conforming = conforming;
  wallet = λ v. signing_wallet (slice_index_or seeds v None) v d;
  seeds = seeds;
  roles = roles;
  answers = λ k. None;
}

-- who takes part in a job's run
abbrev pub job_cast : Job → Cast
job_cast job = made_cast job.deal job.conforming job.seeds job.roles

-- party v asks a strategy when it acts: it follows one, and doesn't conform
abbrev pub asks : Cast → ℕ → Bool
asks c v = if conforms c v then false else is_strategy (party_role c v)
