-- What the fields of an index mean, and what holds of them.
use Rattle.std.specs.Prelude.{◌≡◌, ◌≤◌, ◌+◌, ℕ, length, vec_capacity}
use Rattle.ledger_core.specs.Runs.{expand}
use Rattle.history_index.specs.Value.{IndexState}
use Rattle.history_index.specs.Numbers.{IsIndexable}
use Rattle.history_index.specs.Made.{history_calls}
use Rattle.history_index.specs.Kept.{AreAnswers, AreCalls}
use Rattle.history_index.specs.declared.caller.Caller.{Caller}
use Rattle.history_index.specs.declared.index.Index.TheInside.{Inside}

-- what its fields show
abbrev pub build_index : Inside → IndexState
build_index i = record { arc = i.arc; from = i.from.party; to = i.to.party; terms = i.terms; entries = expand i.past.items; spare = i.room }

-- n further numbers have room.
abbrev pub HasRoom : ℕ → Caller → Type 0
HasRoom n c = length c.numbers.items + n ≤ vec_capacity c.numbers

-- The entries are indexable, and what is kept of them is what the scans of them give.
pub record IsKeptIndex (i : Inside) : Type 0 where
  pub locks : length i.terms.locks ≤ 8
  pub indexable : IsIndexable i.from.party i.to.party (expand i.past.items)
  pub count : i.count ≡ length (expand i.past.items)
  pub answers : AreAnswers i.terms (expand i.past.items) i.answers
  pub made : i.made.items ≡ history_calls (expand i.past.items)
  pub from : AreCalls i.from.party (expand i.past.items) i.from.numbers.items i.from.kinds
  pub to : AreCalls i.to.party (expand i.past.items) i.to.numbers.items i.to.kinds
  pub room : length i.made.items + i.room ≤ vec_capacity i.made
  pub from_room : HasRoom i.room i.from
  pub to_room : HasRoom i.room i.to
