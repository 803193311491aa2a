-- The terms, hashkeys and openings that a move needs.
use Rattle.std.specs.Prelude.{◌≡◌, ◌≤◌, ℕ, ◌+◌, IsTrue, length, Option, Some, None}
use Rattle.swap_digraph.specs.declared.deal.Deal.{Deal}
use Rattle.swap_digraph.specs.Deal.{path_limit}
use Rattle.hashkey_path.specs.declared.hashkey.Hashkey.{Hashkey}
use Rattle.escrow_core.specs.declared.terms.Terms.{Terms}
use Rattle.escrow_core.specs.Terms.{stated_terms}
use Rattle.ledger_core.specs.declared.entry.Call.TheVariants.{Unlock}
use Rattle.ledger_core.specs.History.{Opening, opening, accepted, fit}
use Rattle.ledger_core.specs.declared.runs.Item.{Item}
use Rattle.ledger_core.specs.declared.runs.Item.TheVariants.{One, Ticks}
use Rattle.swap_job.specs.Resolved.{overridden_terms}
use Rattle.swap_job.specs.declared.moves.Move.{Move}
use Rattle.swap_job.specs.declared.moves.Move.TheVariants.{Publish}

-- the terms that a publish states
abbrev pub move_publish_terms : Deal → Move → Option Terms
move_publish_terms d (Publish a start delta bound timelock amount locks) = Some (overridden_terms (stated_terms d a) start delta bound timelock amount locks)
move_publish_terms d _ = None

-- n parties can be put before the hashkey; where there is none, the last of them makes its own
abbrev pub HasPathRoom : Deal → ℕ → Option Hashkey → Type 0
HasPathRoom d n None = n ≤ path_limit d
HasPathRoom d n (Some key) = (n + length key.path ≤ path_limit d) × (length key.sigs ≡ length key.path)

-- An unlock with the hashkey fits, and it has as many signatures as vertices.
pub record IsUsable (d : Deal) (key : Hashkey) : Type 0 where
  pub fits : IsTrue (fit d 0 (Unlock key))
  pub paired : length key.sigs ≡ length key.path

-- the opening of lock i that an item is, if it is one
abbrev pub item_opening : ℕ → Item → Option Opening
item_opening i (One e) = opening i e.height (accepted e)
item_opening i (Ticks r) = None
