-- A book without its refused calls.
use Rattle.std.specs.Prelude.{◌≡◌, ℕ, Bool, true, false, List, map}
use Rattle.std.specs.List.{filter}
use Rattle.swap_digraph.specs.declared.deal.Deal.{Deal}
use Rattle.escrow_core.specs.declared.reply.Reply.{Reply}
use Rattle.escrow_core.specs.declared.reply.Reply.TheVariants.{Accepted}
use Rattle.ledger_core.specs.declared.entry.Entry.{Entry}
use Rattle.ledger_core.specs.History.{height, balance, held}
use Rattle.ledger_core.specs.Book.{Histories, history}
use Rattle.swap_rules.specs.Outcome.{outcome}

abbrev pub is_accepted : Reply → Bool
is_accepted Accepted = true
is_accepted _ = false

-- the entries that were accepted: every tick, and the calls that weren't refused
abbrev pub accepted_calls : List Entry → List Entry
accepted_calls h = filter (λ e. is_accepted e.reply) h

-- the book with every refused entry left out
abbrev pub accepted_only : Histories → Histories
accepted_only b = map accepted_calls b

-- The heights, balances, held amounts and outcomes of one book are those of another.
pub record HoldTheSame (d : Deal) (b other : Histories) : Type 0 where
  pub heights : (a : ℕ) → height (history other a) ≡ height (history b a)
  pub balances : (a p : ℕ) → balance d a (history other a) p ≡ balance d a (history b a) p
  pub held : (a : ℕ) → held (history other a) ≡ held (history b a)
  pub outcomes : (v : ℕ) → outcome d other v ≡ outcome d b v
