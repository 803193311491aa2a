-- What is forged in a party's name, as a test of one finished book.
use Rattle.std.specs.Prelude.{ℕ, Bool, false, not, ◌&&◌, ◌||◌, ◌==◌, List, ◌∷◌, Option, Some}
use Rattle.std.specs.List.{list_any, flat_map}
use Rattle.std.specs.Str.{bytes_eq}
use Rattle.swap_digraph.specs.declared.deal.Mode.{Mode}
use Rattle.swap_digraph.specs.declared.deal.Mode.TheVariants.{Timelocks, Hashkeys}
use Rattle.swap_digraph.specs.declared.deal.Deal.{Deal}
use Rattle.swap_digraph.specs.Deal.{leads, lock_hashlock}
use Rattle.hash_signature.specs.declared.sig.Sig.{Sig}
use Rattle.hash_signature.specs.Signature.{hashed_value}
use Rattle.hashkey_path.specs.declared.hashkey.Hashkey.{Hashkey}
use Rattle.ledger_core.specs.declared.entry.Call.{Call}
use Rattle.ledger_core.specs.declared.entry.Call.TheVariants.{Unlock}
use Rattle.ledger_core.specs.declared.entry.Entry.{Entry}
use Rattle.ledger_core.specs.History.{accepted}
use Rattle.ledger_core.specs.Book.{Histories}
use Rattle.swap_rules.specs.Party.{pick_call, unlock_hashkey}
use Rattle.swap_rules.specs.Conduct.{is_first_key, carries}

-- whether an unlock call of v carries this hashkey
abbrev pub has_made : Histories → ℕ → Hashkey → Bool
has_made b v key = list_any (λ e. is_first_key (unlock_hashkey key.lock (pick_call v e)) key) (flat_map (λ h. h) b)

-- whether a suffix of the hashkey begins with v although no unlock call of v carries that suffix;
-- the path and the signatures are the hashkey's from some place on
abbrev pub has_forged_suffix : Histories → ℕ → Hashkey → List ℕ → List Sig → Bool
has_forged_suffix b v key (u ∷ p) (s ∷ sigs) =
    ((u == v) && not (has_made b v (record { lock = key.lock; secret = key.secret; path = u ∷ p; sigs = s ∷ sigs })))
    || has_forged_suffix b v key p sigs
has_forged_suffix b v key _ _ = false

-- whether an accepted call is forged in v's name: with hashkeys by a suffix, with timelocks by the
-- secret of a lock that v leads
unfoldable pub forges : Mode → Deal → Histories → ℕ → Option Call → Bool
forges Timelocks d b v (Some (Unlock key)) =
    bytes_eq (hashed_value key.secret) (lock_hashlock d key.lock)
    && leads d v key.lock
    && not (list_any (λ e. carries key.secret (pick_call v e)) (flat_map (λ h. h) b))
forges Hashkeys d b v (Some (Unlock key)) = has_forged_suffix b v key key.path key.sigs
forges _ d b v _ = false

-- the entry is forged in v's name
abbrev pub is_forged : Deal → Histories → ℕ → Entry → Bool
is_forged d b v e = forges d.mode d b v (accepted e)
