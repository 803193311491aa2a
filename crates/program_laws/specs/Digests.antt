-- Books whose calls hold digests: what the program's own types hold, and what makes every entry of
-- a legal book one of them.
use Rattle.std.specs.Prelude.{◌<◌, ℕ, length, All}
use Rattle.swap_digraph.specs.declared.deal.Deal.{Deal}
use Rattle.swap_digraph.specs.Deal.{IsWellSized}
use Rattle.ledger_core.specs.declared.entry.Call.{Call}
use Rattle.ledger_core.specs.declared.entry.Call.TheVariants.{Publish, Unlock}
use Rattle.ledger_core.specs.declared.entry.What.{What}
use Rattle.ledger_core.specs.declared.entry.What.TheVariants.{Call as Made, Tick}
use Rattle.ledger_core.specs.Book.{Histories, history, IsLegalBook}
use Rattle.typed_books.specs.Typed.{IsDigest, IsSignature}
use Rattle.transcript_book.specs.Stated.{IsTyped}

-- the call's digests have 32 bytes each, and its signatures 67 digests each
abbrev pub HasDigests : Call → Type 0
HasDigests (Publish t) = All IsDigest t.locks
HasDigests (Unlock key) = IsDigest key.secret × All IsSignature key.sigs
HasDigests _ = Unit {0}

abbrev pub StatesDigests : What → Type 0
StatesDigests (Made c) = HasDigests c
StatesDigests (Tick k) = Unit {0}

-- every call of the book states digests of these lengths
abbrev pub HoldsDigests : Histories → Type 0
HoldsDigests b = (a : ℕ) → a < length b → All (λ e. StatesDigests e.what) (history b a)

-- Every entry of a legal book that holds digests is one of the program's own types.
abbrev pub LegalIsTyped : Type 0
LegalIsTyped = (d : Deal) (b : Histories) → IsWellSized d → IsLegalBook d b → HoldsDigests b → (a : ℕ) → a < length b → All IsTyped (history b a)
