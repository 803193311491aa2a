-- A legal book can be stated.
use Rattle.std.specs.Prelude.{◌<◌, ℕ, length, All}
use Rattle.swap_digraph.specs.declared.deal.Deal.{Deal}
use Rattle.ledger_core.specs.declared.entry.Entry.{Entry}
use Rattle.ledger_core.specs.Book.{Histories, history, IsLegalBook}
use Rattle.typed_books.specs.Typed.{IsTypedReply, IsTypedSender, IsTypedWhat}
use Rattle.transcript_book.specs.Lines.{IsStated}

-- An entry of the program's own types.
pub record IsTyped (e : Entry) : Type 0 where
  pub sender : IsTypedSender e.sender
  pub what : IsTypedWhat e.what
  pub reply : IsTypedReply e.reply

-- A transcript can state each legal book.
abbrev pub LegalIsStated : Type 0
LegalIsStated = (d : Deal) (b : Histories) → IsLegalBook d b → ((a : ℕ) → a < length b → All IsTyped (history b a)) → IsStated d b
