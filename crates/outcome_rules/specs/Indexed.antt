-- The indexes of a book.
use Rattle.std.specs.Prelude.{◌≡◌, ℕ, List}
use Rattle.swap_digraph.specs.declared.deal.Deal.{Deal}
use Rattle.ledger_core.specs.declared.entry.Entry.{Entry}
use Rattle.ledger_core.specs.Book.{Histories}
use Rattle.history_index.specs.Value.{IndexState, new_index, IsSameArc}
use Rattle.history_index.specs.Indexes.{all_entries, AreIndexes}

-- The index of arc a, with these entries.
pub record IsArcIndex (d : Deal) (a : ℕ) (h : List Entry) (i : IndexState) : Type 0 where
  pub arc : IsSameArc (new_index d a) i
  pub entries : i.entries ≡ h

-- One index per arc, with the histories of the book.
pub record AreBookIndexes (d : Deal) (b : Histories) (known : List IndexState) : Type 0 where
  pub indexes : AreIndexes d known
  pub entries : all_entries known ≡ b
