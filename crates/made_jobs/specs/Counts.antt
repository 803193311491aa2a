-- What a summary counts.
use Rattle.std.specs.Prelude.{ℕ, Bool, true, false, not, List, length, count_by}
use Rattle.std.specs.List.{sum_by}
use Rattle.escrow_core.specs.declared.reply.Reply.{Reply}
use Rattle.escrow_core.specs.declared.reply.Reply.TheVariants.{Accepted}
use Rattle.ledger_core.specs.declared.entry.Entry.{Entry}
use Rattle.ledger_core.specs.Book.{Histories}
use Rattle.swap_rules.specs.declared.outcome.Outcome.{Outcome}
use Rattle.swap_rules.specs.declared.outcome.Outcome.TheVariants.{NoDeal, FreeRide, Underwater, Deal, Discount}

abbrev pub is_counted_accepted : Reply → Bool
is_counted_accepted Accepted = true
is_counted_accepted _ = false

-- an entry whose reply isn't accepted
abbrev pub is_refused : Entry → Bool
is_refused e = not (is_counted_accepted e.reply)

-- all entries of a book, ticks too
abbrev pub entry_count : Histories → ℕ
entry_count b = sum_by length b

-- those of them that are refused
abbrev pub refused_count : Histories → ℕ
refused_count b = sum_by (count_by is_refused) b

abbrev pub same_outcome : Outcome → Outcome → Bool
same_outcome NoDeal NoDeal = true
same_outcome FreeRide FreeRide = true
same_outcome Underwater Underwater = true
same_outcome Deal Deal = true
same_outcome Discount Discount = true
same_outcome _ _ = false

-- how many parties ended so
abbrev pub ended_so : Outcome → List Outcome → ℕ
ended_so o outcomes = count_by (same_outcome o) outcomes
