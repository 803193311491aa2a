-- What the seeds of a job's parties give them.
use Rattle.std.specs.Prelude.{◌≡◌, ℕ, List, Option, Some, None, slice_index_or}
use Rattle.party_wallet.specs.Fits.{wrong_lock}
use Rattle.party_wallet.specs.Value.{WalletState}
use Rattle.party_wallet.specs.Wallets.{new_wallets}
use Rattle.swap_job.specs.declared.job.Job.{Job}

-- Party p has a seed, which gives it what the deal states of it for each lock.
pub record OwnsKeys (job : Job) (p : ℕ) : Type 0 where
  pub seed : List ℕ
  pub there : slice_index_or {A = Option (List ℕ)} job.seeds p None ≡ Some seed
  pub fits : wrong_lock job.deal p seed ≡ None

-- the wallet of each party that conforms and has a seed, with nothing signed
abbrev pub inside_wallets : Job → List (Option WalletState)
inside_wallets job = new_wallets job.deal job.conforming job.seeds
