-- Events that a world of the deal can take.
use Rattle.std.specs.Prelude.{◌≡◌, ◌<◌, ◌≤◌, ℕ, Bool, true, false, List, IsTrue, length, slice_index_or}
use Rattle.swap_digraph.specs.declared.deal.Deal.{Deal}
use Rattle.swap_job.specs.declared.event.Event.{Event}
use Rattle.swap_job.specs.declared.event.Event.TheVariants.{Tick, Look, Act, Call, Crash}
use Rattle.swap_job.specs.declared.job.Job.{Job}
use Rattle.swap_job.specs.declared.moves.Move.{Move}
use Rattle.swap_job.specs.Crafted.{Seeds}
use Rattle.swap_job.specs.Fitting.{IsFitting, is_near}
use Rattle.swap_job.specs.Resolved.{move_arc}

-- The arc's ledger may tick by k heights.
pub record CanTick (d : Deal) (a k : ℕ) : Type 0 where
  pub arc : a < length d.graph.arcs
  pub some : 1 ≤ k
  pub few : k ≤ 1000000

-- The party may look at the arc, which touches it.
pub record CanLook (d : Deal) (p a : ℕ) : Type 0 where
  pub known : p < d.graph.n
  pub arc : a < length d.graph.arcs
  pub adjacent : IsTrue (is_near d p a)

-- The party, which doesn't conform, may make the move, which fits and stands on an arc that touches
-- it.
pub record CanCall (d : Deal) (conforming : List Bool) (seeds : Seeds) (p : ℕ) (mv : Move) : Type 0 where
  pub known : p < d.graph.n
  pub deviates : slice_index_or conforming p false ≡ false
  pub fits : IsFitting d seeds mv
  pub adjacent : IsTrue (is_near d p (move_arc mv))

-- The conforming party may crash within disk call k of its act, counted from 0; an act has four
-- disk calls at most.
pub record CanCrash (d : Deal) (conforming : List Bool) (p k : ℕ) : Type 0 where
  pub known : p < d.graph.n
  pub conforms : slice_index_or conforming p false ≡ true
  pub few : k ≤ 3

-- the event may come, whatever came before, where these parties conform and have these seeds
abbrev pub CanStep : Deal → List Bool → Seeds → Event → Type 0
CanStep d conforming seeds (Tick a k) = CanTick d a k
CanStep d conforming seeds (Look p a) = CanLook d p a
CanStep d conforming seeds (Act p) = p < d.graph.n
CanStep d conforming seeds (Call p mv) = CanCall d conforming seeds p mv
CanStep d conforming seeds (Crash p k image) = CanCrash d conforming p k

-- the event may come in the job, whatever came before
abbrev pub IsJobEvent : Job → Event → Type 0
IsJobEvent job event = CanStep job.deal job.conforming job.seeds event
