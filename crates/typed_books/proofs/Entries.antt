-- The entries of ticks and of items.
use Rattle.std.proofs.Common.{◌<◌, ℕ, zero, suc, ◌+◌, ◌*◌, ◌^◌, List, [], ◌∷◌, All}
use Rattle.std.proofs.lemmas.List.Elements.{All-append, All-head, All-nil, All-push, All-tail}
use Rattle.escrow_core.specs.declared.reply.Reply.TheVariants.{Accepted}
use Rattle.ledger_core.specs.Ledger.{tick_entry}
use Rattle.ledger_core.specs.Runs.{ledger_entries, expand, ticks_above}
use Rattle.ledger_core.specs.declared.runs.Item.{Item}
use Rattle.typed_books.specs.Books.{AreTyped, IsTypedEntry}

pub ticks_typed : (at k count : ℕ) → k < 2 ^ 32 → AreTyped (ticks_above at k count)
ticks_typed at k zero lt = All-nil IsTypedEntry
ticks_typed at k (suc n) lt = All-push IsTypedEntry (ticks_above at k n) (tick_entry k (at + k * suc n) Accepted) (ticks_typed at k n lt) lt

-- the entries of the item are typed
abbrev pub IsTypedItem : Item → Type 0
IsTypedItem i = AreTyped (ledger_entries i)

pub expanded_typed : (items : List Item) → All IsTypedItem items → AreTyped (expand items)
expanded_typed [] h = All-nil IsTypedEntry
expanded_typed (x ∷ xs) h =
    All-append IsTypedEntry (ledger_entries x) (expand xs) (All-head IsTypedItem x xs h) (expanded_typed xs (All-tail IsTypedItem x xs h))
