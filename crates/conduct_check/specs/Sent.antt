-- The hashkeys that a party sent.
use Rattle.std.specs.Prelude.{ℕ, List, Option, Some, None, map, filter_map}
use denote.Ref.{Bor}
use Rattle.std.specs.List.{flat_map}
use Rattle.hashkey_path.specs.declared.hashkey.Hashkey.{Hashkey}
use Rattle.ledger_core.specs.declared.entry.Call.{Call}
use Rattle.ledger_core.specs.declared.entry.Call.TheVariants.{Unlock}
use Rattle.ledger_core.specs.declared.entry.Entry.{Entry}
use Rattle.ledger_core.specs.Book.{Histories}
use Rattle.history_index.specs.declared.made.Made.{Made}
use Rattle.swap_rules.specs.Party.{pick_call}

-- the hashkey that a call carries
abbrev pub unlock_key : Option Call → Option Hashkey
unlock_key (Some (Unlock key)) = Some key
unlock_key _ = None

-- the hashkeys of v's unlock calls in a history
abbrev pub lock_unlocks : List Entry → ℕ → List Hashkey
lock_unlocks h v = filter_map (λ e. unlock_key (pick_call v e)) h

-- the hashkeys of v's unlock calls among these calls
abbrev pub unlocks_made : List Made → ℕ → List Hashkey
unlocks_made ms v = filter_map (λ m. unlock_key (pick_call v m.entry)) ms

-- the hashkeys of v's unlock calls, in order of arc and entry
abbrev pub party_unlocks : Histories → ℕ → List Hashkey
party_unlocks b v = flat_map (λ h. lock_unlocks h v) b

-- what the references lead to
abbrev pub shown : {A : Type 0} → List (Bor A) → List A
shown rs = map (λ r. r.now) rs
