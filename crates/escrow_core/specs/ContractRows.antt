-- Parts of the tables, as a contract decides them.
use Rattle.std.specs.Prelude.{◌==◌, ℕ, min, Bool, not, nat_lt, List, [], ◌∷◌, length, Option, Some, None}
use Rattle.std.specs.List.{list_all, range_with_len}
use Rattle.swap_digraph.specs.declared.deal.Deal.{Deal}
use Rattle.hashkey_path.specs.declared.hashkey.Hashkey.{Hashkey}
use Rattle.hashkey_path.specs.Hashkey.{is_wrong_secret, is_wrong_path, is_wrong_signature}
use Rattle.escrow_core.specs.declared.terms.Terms.{Terms}
use Rattle.escrow_core.specs.declared.reply.Reply.{Reply}
use Rattle.escrow_core.specs.declared.reply.Reply.TheVariants.{Settled, NotCounterparty, WrongSecret, WrongPath, WrongSignature, TooLate, StillLocked}
use Rattle.escrow_core.specs.Terms.{terms_hashlock, last_unlock}
use Rattle.escrow_core.specs.Table.{closed_lock}
use Rattle.escrow_core.specs.Value.{ContractState, is_lock_open}

-- the rows of an unlock that speak of its hashkey
abbrev pub key_rows : Deal → ℕ → Terms → (height : ℕ) → Hashkey → List (Bool × Reply)
key_rows d a t height key =
    (is_wrong_secret (terms_hashlock t key.lock) key, WrongSecret) ∷
    (is_wrong_path d a d.mode key, WrongPath) ∷
    (is_wrong_signature d d.mode key, WrongSignature) ∷
    (nat_lt (last_unlock d.mode t key) height, TooLate (last_unlock d.mode t key)) ∷ []

-- the rows of a claim, by the contract alone
abbrev pub own_claim_rows : ContractState → (sender : ℕ) → List (Bool × Reply)
own_claim_rows c p =
    (c.settled, Settled) ∷
    (not (p == c.to), NotCounterparty) ∷
    (not (list_all (is_lock_open c) (range_with_len 0 (length c.opened))), StillLocked (closed_lock (is_lock_open c) (range_with_len 0 (length c.opened)))) ∷ []

-- the lesser of a number that may be none yet and another
abbrev pub lesser : Option ℕ → ℕ → ℕ
lesser None n = n
lesser (Some m) n = min m n
