-- Books whose calls and ticks are values of the program's own types.
use Rattle.std.specs.Prelude.{List, All}
use Rattle.ledger_core.specs.declared.entry.Entry.{Entry}
use Rattle.ledger_core.specs.Book.{Histories}
use Rattle.typed_books.specs.Typed.{IsTypedWhat}

-- the call or the tick of the entry is a value of the program's own types
abbrev pub IsTypedEntry : Entry → Type 0
IsTypedEntry e = IsTypedWhat e.what

abbrev pub AreTyped : List Entry → Type 0
AreTyped = All IsTypedEntry

abbrev pub IsTypedBook : Histories → Type 0
IsTypedBook = All AreTyped
