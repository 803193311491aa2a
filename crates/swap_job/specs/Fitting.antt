-- The moves that fit a deal, whatever is known.
use Rattle.std.specs.Prelude.{◌<◌, ◌≤◌, ℕ, Bool, true, false, nat_lt, IsTrue, List, length, slice_index_or, is_some, Option, Some, None, ◌==◌, ◌||◌}
use Rattle.std.specs.List.{list_all}
use Rattle.swap_digraph.specs.declared.deal.Deal.{Deal}
use Rattle.swap_digraph.specs.Deal.{path_limit, party, counterparty}
use Rattle.ledger_core.specs.declared.entry.Call.{Call}
use Rattle.ledger_core.specs.History.{fit}
use Rattle.swap_job.specs.Crafted.{Seeds}
use Rattle.swap_job.specs.Resolved.{move_arc, plain_call}
use Rattle.swap_job.specs.declared.moves.Move.{Move}
use Rattle.swap_job.specs.declared.moves.Move.TheVariants.{Craft, Replay, Wait}

-- a move that names no opening, no crafting party and no height
abbrev pub is_plain_move : Move → Bool
is_plain_move (Craft a lock via onto) = false
is_plain_move (Replay a lock onto) = false
is_plain_move (Wait a height) = false
is_plain_move _ = true

abbrev pub fits_if : Deal → ℕ → Option Call → Bool
fits_if d a (Some c) = fit d a c
fits_if d a None = true

-- The parties are some, not more than a path may have, and each is there and has a seed.
pub record CanCraft (d : Deal) (seeds : Seeds) (via : List ℕ) : Type 0 where
  pub some : 1 ≤ length via
  pub few : length via ≤ path_limit d
  pub known : IsTrue (list_all (λ v. nat_lt v d.graph.n) via)
  pub seeded : IsTrue (list_all (λ v. is_some (slice_index_or seeds v None)) via)

-- the arc is in range, where one is named
abbrev pub IsArc : Deal → Option ℕ → Type 0
IsArc d None = Unit {0}
IsArc d (Some a) = a < length d.graph.arcs

-- what a move names is there, and the call that it states fits
abbrev pub NamesFitting : Deal → Seeds → Move → Type 0
NamesFitting d seeds (Craft a lock via onto) = (lock < length d.leaders) × CanCraft d seeds via × IsArc d onto
NamesFitting d seeds (Replay a lock onto) = (lock < length d.leaders) × (onto < length d.graph.arcs)
NamesFitting d seeds mv = IsTrue (fits_if d (move_arc mv) (plain_call d mv))

-- The move stands on an arc of the deal, and names and states what fits it.
pub record IsFitting (d : Deal) (seeds : Seeds) (mv : Move) : Type 0 where
  pub arc : move_arc mv < length d.graph.arcs
  pub names : NamesFitting d seeds mv

-- v is one of the two parties of arc a
abbrev pub is_near : Deal → ℕ → ℕ → Bool
is_near d v a = (v == party d a) || (v == counterparty d a)

-- The move fits, and stands on an arc that touches party p.
pub record IsPartyMove (d : Deal) (seeds : Seeds) (p : ℕ) (mv : Move) : Type 0 where
  pub fits : IsFitting d seeds mv
  pub adjacent : IsTrue (is_near d p (move_arc mv))
