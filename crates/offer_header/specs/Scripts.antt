-- Where the moves of a header's scripts stand.
use Rattle.std.specs.Prelude.{◌≡◌, ℕ, ◌+◌, Bool, List, [], ◌∷◌, length, All, Result, Ok}
use Rattle.swap_base.specs.Fault.{◌>>=◌, steps}
use Rattle.swap_digraph.specs.declared.arc_ends.ArcEnds.{ArcEnds}
use Rattle.swap_digraph.specs.declared.deal.Deal.{Deal}
use Rattle.swap_digraph.specs.Deal.{IsWellSized, version_path_limit}
use Rattle.swap_job.specs.Crafted.{Seeds}
use Rattle.swap_job.specs.Roles.{role_script}
use Rattle.swap_job.specs.declared.job.Role.{Role}
use Rattle.swap_job.specs.declared.job.Role.TheVariants.{Script}
use Rattle.command_input.specs.declared.reason.Reason.{Reason}
use Rattle.offer_moves.specs.Kept.{CanStand, IsMadeMove}
use Rattle.offer_moves.specs.Moves.{deal_sizes}
use Rattle.offer_moves.specs.Placed.{placed}
use Rattle.offer_header.specs.declared.header.Header.{Header}

-- party p may make each move of its script where it stands
abbrev pub role_placed : List ArcEnds → List Bool → ℕ → ℕ → Role → Result (Unit {0}) Reason
role_placed arcs conforming line p (Script moves) = steps (λ u mv. placed arcs conforming line p mv) tt moves
role_placed arcs conforming line p _ = Ok tt

-- party p and the parties after it may make each move of their scripts where it stands
unfoldable pub roles_placed : List ArcEnds → List Bool → ℕ → ℕ → List Role → Result (Unit {0}) Reason
roles_placed arcs conforming line p [] = Ok tt
roles_placed arcs conforming line p (role ∷ roles) = do
  u ← role_placed arcs conforming line p role
  roles_placed arcs conforming line (p + 1) roles

-- the moves of the header's scripts stand where their parties may make them
unfoldable pub scripts_placed : ℕ → Header → Result (Unit {0}) Reason
scripts_placed line h = roles_placed h.arcs h.conforming line 0 h.roles

-- every move of a header's scripts stands on one of its arcs, and its parties craft
abbrev pub AllStand : Header → Type 0
AllStand h = All (λ r. All (CanStand (length h.arcs) (length h.conforming)) (role_script r)) h.roles

-- every move of a header's scripts is made for its deal, whatever else the deal says
abbrev pub AreMade : ℕ → Header → Type 0
AreMade line h =
    (d : Deal) (seeds : Seeds) → IsWellSized d
    → deal_sizes d ≡ record { arcs = length h.arcs; locks = length h.leaders; path = version_path_limit h.version }
    → d.graph.n ≡ length h.names → All (λ r. All (IsMadeMove d seeds line) (role_script r)) h.roles
