-- What the program's strategies answer, at turn t, over what their party v knows.
use Rattle.std.specs.Prelude.{ℕ, ◌%◌, List, [], ◌∷◌, length, slice_index_or, Option, Some, None, option_map}
use Rattle.std.specs.List.{flat_map}
use Rattle.swap_digraph.specs.declared.deal.Deal.{Deal}
use Rattle.swap_digraph.specs.Graph.{entering, leaving}
use Rattle.hashkey_path.specs.declared.hashkey.Hashkey.{Hashkey}
use Rattle.escrow_core.specs.declared.terms.Terms.{Terms}
use Rattle.escrow_core.specs.Terms.{stated_terms}
use Rattle.ledger_core.specs.declared.entry.Call.{Call}
use Rattle.ledger_core.specs.declared.entry.Call.TheVariants.{Publish, Unlock, Claim}
use Rattle.ledger_core.specs.History.{accepted}
use Rattle.ledger_core.specs.Book.{Histories}
use Rattle.ledger_core.specs.declared.runs.Item.{Item}
use Rattle.ledger_core.specs.declared.runs.Item.TheVariants.{One, Ticks}

-- the member number t of the list, counted round and round; none where it is empty
abbrev pub item_in_turn : {A : Type 0} → List A → ℕ → Option A
item_in_turn [] t = None
item_in_turn (x ∷ xs) t = Some (slice_index_or (x ∷ xs) (t % length (x ∷ xs)) x)

-- never a call
abbrev pub silent : Deal → ℕ → ℕ → Histories → Option (ℕ × Call)
silent d v t k = None

-- a claim on entering arc number t
abbrev pub greedy : Deal → ℕ → ℕ → Histories → Option (ℕ × Call)
greedy d v t k = option_map (λ a. (a, Claim)) (item_in_turn (entering d.graph v) t)

-- the hashkey of a call, where it is an unlock
abbrev pub call_keys : Option Call → List Hashkey
call_keys (Some (Unlock key)) = key ∷ []
call_keys _ = []

-- the hashkeys of the accepted unlocks that are known, by arc and entry
abbrev pub keys_known : Histories → List Hashkey
keys_known k = flat_map (λ h. flat_map (λ e. call_keys (accepted e)) h) k

-- an unlock on the arc with the hashkey, where both are there
abbrev pub make_unlock : Option ℕ → Option Hashkey → Option (ℕ × Call)
make_unlock (Some a) (Some key) = Some (a, Unlock key)
make_unlock _ _ = None

-- an unlock on entering arc number t with known hashkey number t
abbrev pub replayer : Deal → ℕ → ℕ → Histories → Option (ℕ × Call)
replayer d v t k = make_unlock (item_in_turn (entering d.graph v) t) (item_in_turn (keys_known k) t)

-- the correct terms of arc a but for a bound of 0, which is never correct
abbrev pub spoiled_terms : Deal → ℕ → Terms
spoiled_terms d a = record (stated_terms d a) { bound = 0 }

-- a publish of spoiled terms on leaving arc number t
abbrev pub spoiler : Deal → ℕ → ℕ → Histories → Option (ℕ × Call)
spoiler d v t k = option_map (λ a. (a, Publish (spoiled_terms d a))) (item_in_turn (leaving d.graph v) t)

-- the hashkeys of the item's accepted unlocks: one for an accepted unlock, none for ticks
abbrev pub item_keys : Item → List Hashkey
item_keys (One e) = call_keys (accepted e)
item_keys (Ticks r) = []
