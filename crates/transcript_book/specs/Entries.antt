-- The entry that a line states, after those before it.
use Rattle.std.specs.Prelude.{◌&&◌, ◌+◌, ℕ, nat_le, List, length, Result, Ok, if◌then◌else◌}
use Rattle.swap_base.specs.Fault.{◌>>=◌}
use Rattle.swap_digraph.specs.declared.deal.Deal.{Deal}
use Rattle.swap_digraph.specs.Deal.{touches}
use Rattle.escrow_core.specs.declared.reply.Reply.{Reply}
use Rattle.ledger_core.specs.declared.entry.Sender.{Sender}
use Rattle.ledger_core.specs.declared.entry.Sender.TheVariants.{Party, Clock}
use Rattle.ledger_core.specs.declared.entry.What.{What}
use Rattle.ledger_core.specs.declared.entry.What.TheVariants.{Call as Made, Tick}
use Rattle.ledger_core.specs.declared.entry.Entry.{Entry}
use Rattle.ledger_core.specs.History.{height, fit}
use Rattle.ledger_core.specs.Ledger.{call_entry, tick_entry}
use Rattle.ledger_core.specs.WellFormed.{written_height}
use Rattle.transcript_book.specs.declared.said.Said.{Said}
use Rattle.transcript_book.specs.declared.said.Misspelling.{Misspelling}
use Rattle.transcript_book.specs.Reading.{line_said, misspelt}

-- the entry at a height of arc a, where it is a fitting call of one of the arc's parties or a tick
-- by 1 to 1,000,000
abbrev pub placed_entry : Deal → (a at : ℕ) → Reply → Sender → What → Result Entry Misspelling
placed_entry d a at reply (Party p) (Made c) = if touches d p a && fit d a c then Ok (call_entry p at c reply) else misspelt
placed_entry d a at reply Clock (Tick k) = if nat_le 1 k && nat_le k 1000000 then Ok (tick_entry k (written_height (at + k)) reply) else misspelt
placed_entry d a at reply _ _ = misspelt

abbrev pub said_entry : Deal → (a at : ℕ) → Said → Result Entry Misspelling
said_entry d a at s = placed_entry d a at s.reply s.sender s.what

-- the entry of arc a that a line states at a height
unfoldable pub parse_entry : Deal → (a at : ℕ) → List ℕ → Result Entry Misspelling
parse_entry d a at line = line_said (length d.leaders) line >>= λ s. said_entry d a at s

-- the entry of arc a that a line states after those before it
abbrev pub parse_next_entry : Deal → ℕ → List Entry → List ℕ → Result Entry Misspelling
parse_next_entry d a past line = parse_entry d a (written_height (height past)) line
