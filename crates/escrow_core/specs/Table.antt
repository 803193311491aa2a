-- The rows of the table of replies that a contract decides (Herlihy 2018, section 4). The first row
-- that holds, from top to bottom, gives the reply.
use Rattle.std.specs.Prelude.{◌==◌, ℕ, ◌+◌, Bool, not, nat_lt, List, [], ◌∷◌, if◌then◌else◌}
use Rattle.std.specs.List.{list_all}
use Rattle.swap_digraph.specs.declared.deal.Deal.{Deal}
use Rattle.swap_digraph.specs.Deal.{party, counterparty, locks}
use Rattle.hashkey_path.specs.declared.hashkey.Hashkey.{Hashkey}
use Rattle.hashkey_path.specs.Hashkey.{is_wrong_secret, is_wrong_path, is_wrong_signature}
use Rattle.escrow_core.specs.declared.terms.Terms.{Terms}
use Rattle.escrow_core.specs.declared.reply.Reply.{Reply}
use Rattle.escrow_core.specs.declared.reply.Reply.TheVariants.{Accepted, Settled, NotCounterparty, NotParty, AlreadyUnlocked, WrongSecret, WrongPath}
use Rattle.escrow_core.specs.declared.reply.Reply.TheVariants.{WrongSignature, TooLate, StillLocked, NothingLocked, NotExpired}
use Rattle.escrow_core.specs.Terms.{terms_hashlock, last_unlock, refund_expiry}

abbrev pub first_row : List (Bool × Reply) → Reply
first_row [] = Accepted
first_row (row ∷ rows) = if row.0 then row.1 else first_row rows

-- every lock is opened
abbrev pub are_open : Deal → (ℕ → Bool) → Bool
are_open d is_open = list_all is_open (locks d)

-- the least closed lock
abbrev pub closed_lock : (ℕ → Bool) → List ℕ → ℕ
closed_lock is_open [] = 0
closed_lock is_open (i ∷ is) = if is_open i then closed_lock is_open is else i

-- Each table is that of a contract of arc a with terms t. `is_open` tells which locks are opened,
-- and `settled` whether a claim or refund was accepted.

abbrev pub unlock_rows : Deal → ℕ → Terms → (ℕ → Bool) → Bool → (height sender : ℕ) → Hashkey → List (Bool × Reply)
unlock_rows d a t is_open settled height p key =
    (settled, Settled) ∷
    (not (p == counterparty d a), NotCounterparty) ∷
    (is_open key.lock, AlreadyUnlocked) ∷
    (is_wrong_secret (terms_hashlock t key.lock) key, WrongSecret) ∷
    (is_wrong_path d a d.mode key, WrongPath) ∷
    (is_wrong_signature d d.mode key, WrongSignature) ∷
    (nat_lt (last_unlock d.mode t key) height, TooLate (last_unlock d.mode t key)) ∷ []

abbrev pub claim_rows : Deal → ℕ → (ℕ → Bool) → Bool → (sender : ℕ) → List (Bool × Reply)
claim_rows d a is_open settled p =
    (settled, Settled) ∷
    (not (p == counterparty d a), NotCounterparty) ∷
    (not (are_open d is_open), StillLocked (closed_lock is_open (locks d))) ∷ []

abbrev pub refund_rows : Deal → ℕ → Terms → (ℕ → Bool) → Bool → (height sender : ℕ) → List (Bool × Reply)
refund_rows d a t is_open settled height p =
    (settled, Settled) ∷
    (not (p == party d a), NotParty) ∷
    (are_open d is_open, NothingLocked) ∷
    (nat_lt height (refund_expiry d a t is_open + 1), NotExpired (refund_expiry d a t is_open + 1)) ∷ []
