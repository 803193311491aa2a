-- A world whose swaps and chains can be shown.
use Rattle.std.specs.Prelude.{◌≡◌, ◌<◌, ◌≤◌, ℕ, List, [], length, slice_index_or}
use Rattle.swap_job.specs.declared.job.Job.{Job}
use Rattle.swap_many.specs.Value.{ManyState, nth_world}

-- Swap s of the world is that job.
pub record IsShownSwap (w : ManyState) (s : ℕ) (job : Job) : Type 0 where
  pub deal : (nth_world w s).deal ≡ job.deal
  pub conforming : length job.conforming ≡ job.deal.graph.n

-- The world has these swaps.
pub record AreShown (w : ManyState) (jobs : List Job) : Type 0 where
  pub one_each : length jobs ≡ length w.worlds
  pub swaps : (s : ℕ) (job : Job) → s < length jobs → job ≡ slice_index_or jobs s job → IsShownSwap w s job

-- Chain i of the world has an account for each of these names.
pub record IsChainShown (w : ManyState) (i : ℕ) (names : List (List ℕ)) : Type 0 where
  pub few : length names ≤ 64
  pub accounts : length (slice_index_or w.openings i []) ≡ length names

-- The world has chains whose accounts have these names.
pub record AreChainsShown (w : ManyState) (names : List (List (List ℕ))) : Type 0 where
  pub one_each : length names ≡ length w.openings
  pub chains : (i : ℕ) (accounts : List (List ℕ)) → i < length names → accounts ≡ slice_index_or names i accounts → IsChainShown w i accounts
