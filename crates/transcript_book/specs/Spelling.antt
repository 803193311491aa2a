-- Every line that says something is written in the one spelling of what it says.
use Rattle.std.specs.Prelude.{◌≡◌, ◌≢◌, ℕ, List, length, Ok}
use Rattle.escrow_core.specs.declared.reply.Reply.TheVariants.{SenderFull, ClockFull}
use Rattle.ledger_core.specs.declared.entry.Call.{Call}
use Rattle.ledger_core.specs.declared.entry.Call.TheVariants.{Publish}
use Rattle.ledger_core.specs.declared.entry.Sender.{Sender}
use Rattle.ledger_core.specs.declared.entry.Sender.TheVariants.{Party, Clock}
use Rattle.ledger_core.specs.declared.entry.What.{What}
use Rattle.ledger_core.specs.declared.entry.What.TheVariants.{Call as Made, Tick}
use Rattle.transcript_book.specs.declared.said.Said.{Said}
use Rattle.transcript_book.specs.Between.{spaced}
use Rattle.typed_books.specs.Typed.{IsTypedReply, IsTypedSender, IsTypedWhat}
use Rattle.transcript_book.specs.Words.{entry_words}
use Rattle.transcript_book.specs.Reading.{line_said}
use Rattle.transcript_book.specs.Lines.{IsStatedWhat}

-- a publish states as many locks as the deal has
abbrev pub HasLocks : ℕ → Call → Type 0
HasLocks locks (Publish t) = length t.locks ≡ locks
HasLocks locks _ = Unit {0}

-- a party calls, and the clock ticks
abbrev pub IsPaired : ℕ → Sender → What → Type 0
IsPaired locks (Party p) (Made c) = HasLocks locks c
IsPaired locks Clock (Tick k) = Unit {0}
IsPaired locks _ _ = ⊥

-- The line is exactly what is written for what it says, in a deal with this number of locks.
pub record IsSpelling (locks : ℕ) (line : List ℕ) (s : Said) : Type 0 where
  pub line_is : line ≡ spaced (entry_words s.sender s.what s.reply)
  pub paired : IsPaired locks s.sender s.what
  pub sender : IsTypedSender s.sender
  pub what : IsTypedWhat s.what
  pub reply : IsTypedReply s.reply
  pub stated : IsStatedWhat s.what s.reply
  pub sender_not_full : s.reply ≢ SenderFull
  pub clock_not_full : s.reply ≢ ClockFull

-- Whatever a line says is spelled as a writer spells it.
abbrev pub OneSpelling : Type 0
OneSpelling = (locks : ℕ) (line : List ℕ) (s : Said) → line_said locks line ≡ Ok s → IsSpelling locks line s
