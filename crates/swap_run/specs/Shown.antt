-- When a plan is what its party may be shown.
use Rattle.std.specs.Prelude.{ℕ}
use Rattle.std.specs.List.{All}
use Rattle.swap_digraph.specs.declared.deal.Deal.{Deal}
use Rattle.swap_job.specs.Crafted.{Seeds}
use Rattle.swap_job.specs.Fitting.{IsPartyMove}
use Rattle.swap_run.specs.View.{IsView}
use Rattle.swap_run.specs.Run.{Plan}

-- What the plan of party v knows is a view of it, and the moves that are left are its own.
pub record IsShown (d : Deal) (seeds : Seeds) (v : ℕ) (n : Plan) : Type 0 where
  pub view : IsView d v n.known
  pub moves : All (IsPartyMove d seeds v) n.moves
