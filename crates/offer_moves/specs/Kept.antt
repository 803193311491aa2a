-- What is known of a move that was read.
use Rattle.std.specs.Prelude.{◌≡◌, ℕ, ◌<◌, IsTrue, nat_lt, slice_index_or, is_some, None, length, Ok}
use Rattle.std.specs.List.{list_all}
use Rattle.swap_job.specs.declared.moves.Move.{Move}
use Rattle.swap_job.specs.declared.moves.Move.TheVariants.{Craft}
use Rattle.swap_job.specs.Resolved.{move_arc}
use Rattle.swap_job.specs.Crafted.{Seeds}
use Rattle.swap_job.specs.Fitting.{NamesFitting}
use Rattle.swap_digraph.specs.declared.deal.Deal.{Deal}
use Rattle.offer_moves.specs.Placed.{received}

-- the parties that craft are below n
abbrev pub AreBoundedCrafters : ℕ → Move → Type 0
AreBoundedCrafters n (Craft a lock via onto) = IsTrue (list_all (λ v. nat_lt v n) via)
AreBoundedCrafters n _ = Unit {0}

-- A move stands on one of the arcs, and each party that crafts is one of the parties.
pub record CanStand (arcs parties : ℕ) (mv : Move) : Type 0 where
  pub arc : move_arc mv < arcs
  pub crafters : AreBoundedCrafters parties mv

-- the parties that craft have seeds
abbrev pub AreSeeded : Seeds → Move → Type 0
AreSeeded seeds (Craft a lock via onto) = IsTrue (list_all (λ v. is_some (slice_index_or seeds v None)) via)
AreSeeded seeds _ = Unit {0}

-- what a move keeps to before it is known where it stands
pub record IsMadeMove (d : Deal) (seeds : Seeds) (line : ℕ) (mv : Move) : Type 0 where
  pub arc : move_arc mv < length d.graph.arcs
  pub below : AreBoundedCrafters d.graph.n mv
  pub names : (u : Unit {0}) → received d.graph.arcs line mv ≡ Ok u → AreSeeded seeds mv → NamesFitting d seeds mv
