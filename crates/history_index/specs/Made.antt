-- The calls that stand in a list of entries.
use Rattle.std.specs.Prelude.{◌+◌, ℕ, List, [], ◌∷◌, ◌++◌, if◌then◌else◌}
use Rattle.ledger_core.specs.declared.entry.Entry.{Entry}
use Rattle.ledger_core.specs.Facts.{is_call}
use Rattle.ledger_core.specs.History.{Opening}
use Rattle.history_index.specs.declared.made.Made.{Made}
use Rattle.history_index.specs.declared.made.Opened.{Opened}

-- the calls, with their numbers among all entries, which are counted from n
abbrev pub numbered_calls : ℕ → List Entry → List Made
numbered_calls n [] = []
numbered_calls n (e ∷ h) = if is_call e.what then record { number = n; entry = e } ∷ numbered_calls (n + 1) h else numbered_calls (n + 1) h

-- the calls, with their numbers among all entries
abbrev pub history_calls : List Entry → List Made
history_calls h = numbered_calls 0 h

-- the calls after an entry with number n
abbrev pub updated_calls : ℕ → Entry → List Made → List Made
updated_calls n e ms = if is_call e.what then ms ++ record { number = n; entry = e } ∷ [] else ms

-- the unlock, whose hashkey lies in the index
abbrev pub key_opening : Opened → Opening
key_opening o = record { height = o.height; key = o.key.now }
