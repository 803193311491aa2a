-- Rounds in which nobody makes a call.
use Rattle.std.specs.Prelude.{◌≡◌, ℕ, suc, List, fold, slice_set, None}
use Rattle.swap_digraph.specs.declared.deal.Deal.{Deal}
use Rattle.ledger_core.specs.Book.{Histories, history}
use Rattle.party_wallet.specs.Value.{signed_hashkey}
use Rattle.swap_rules.specs.Due.{due, first}
use Rattle.swap_run.specs.Run.{Cast, Notes, State}
use Rattle.swap_run.specs.Fair.{repeat, adjacent_arcs, ticks, round, round_unless_ended}

-- the histories k, with those of the book b at these arcs
abbrev pub overlaid_histories : Histories → List ℕ → Histories → Histories
overlaid_histories b arcs k = fold (λ k a. slice_set k a (history b a)) k arcs

-- what v notes once it has looked at each arc that touches it
abbrev pub looked : Deal → Histories → ℕ → Notes → Notes
looked d b v n = record n { known = overlaid_histories b (adjacent_arcs d v) n.known }

-- nothing is due for v once it has looked at each arc that touches it
abbrev pub IsIdle : Cast → Histories → ℕ → Notes → Type 0
IsIdle c b v n = first (due c.deal v (c.wallet v) (signed_hashkey n.signed) (overlaid_histories b (adjacent_arcs c.deal v) n.known)) ≡ None

-- a round after n ticks of each ledger leads from s to where n + 1 rounds lead
abbrev pub SkipsQuietRounds : Cast → ℕ → State → Type 0
SkipsQuietRounds c n s = repeat (suc n) (round_unless_ended c) s ≡ round c (repeat n (ticks c) s)
