-- What a script or a strategy is shown when it is asked for its next call, and the calls that it
-- may answer.
use Rattle.std.specs.Prelude.{◌≡◌, ◌<◌, ℕ, false, IsTrue, [], length, Option}
use Rattle.std.specs.Option.{ForSome}
use Rattle.swap_digraph.specs.declared.deal.Deal.{Deal}
use Rattle.swap_digraph.specs.Deal.{IsWellSized}
use Rattle.ledger_core.specs.declared.entry.Call.{Call}
use Rattle.ledger_core.specs.History.{fit}
use Rattle.ledger_core.specs.Book.{Histories, history, IsLegalBook}
use Rattle.swap_job.specs.Fitting.{is_near}

-- The histories that party v of the deal knows: a legal book, which is empty where an arc doesn't
-- touch it.
pub record IsView (d : Deal) (v : ℕ) (known : Histories) : Type 0 where
  pub sized : IsWellSized d
  pub party : v < d.graph.n
  pub legal : IsLegalBook d known
  pub far : (a : ℕ) → a < length d.graph.arcs → is_near d v a ≡ false → history known a ≡ []

-- The call stands on an arc that touches v, and fits.
pub record IsPartyAnswer (d : Deal) (v : ℕ) (x : ℕ × Call) : Type 0 where
  pub arc : x.0 < length d.graph.arcs
  pub near : IsTrue (is_near d v x.0)
  pub fits : IsTrue (fit d x.0 x.1)

-- the answer is no call, or one that stands on an arc that touches v and fits
abbrev pub MayAnswer : Deal → ℕ → Option (ℕ × Call) → Type 0
MayAnswer d v o = ForSome o (IsPartyAnswer d v)
