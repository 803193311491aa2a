-- The first row that applies, where it is known which tests hold.
use Rattle.std.proofs.Common.{◌≡◌, ℕ, ◌+◌, ◌<◌, ◌≤◌, Bool, true, false, cond, not, nat_lt, refl, lt-ltb, le-ltb}
use Rattle.escrow_core.specs.declared.reply.Reply.TheVariants.{Accepted, Settled, NotCounterparty, NotParty, StillLocked, NothingLocked, NotExpired}

pub still_locked : (settled sent all : Bool) (i j : ℕ) → false ≡ settled → sent ≡ true → all ≡ false → j ≡ i
    → StillLocked i ≡ cond settled Settled (cond (not sent) NotCounterparty (cond (not all) (StillLocked j) Accepted))
still_locked settled sent all i j s e a is = rw (← s, e, a, is) refl

pub all_opened : (settled sent all : Bool) (j : ℕ) → false ≡ settled → sent ≡ true → all ≡ true
    → Accepted ≡ cond settled Settled (cond (not sent) NotCounterparty (cond (not all) (StillLocked j) Accepted))
all_opened settled sent all j s e a = rw (← s, e, a) refl

pub nothing_locked : (settled sent all : Bool) (height n : ℕ) → false ≡ settled → sent ≡ true → all ≡ true
    → NothingLocked ≡ cond settled Settled (cond (not sent) NotParty
    (cond all NothingLocked (cond (nat_lt height (n + 1)) (NotExpired (n + 1)) Accepted)))
nothing_locked settled sent all height n s e a = rw (← s, e, a) refl

pub not_expired : (settled sent all : Bool) (height m n : ℕ) → false ≡ settled → sent ≡ true → all ≡ false → m ≡ n → height < m + 1
    → NotExpired (m + 1) ≡ cond settled Settled (cond (not sent) NotParty
    (cond all NothingLocked (cond (nat_lt height (n + 1)) (NotExpired (n + 1)) Accepted)))
not_expired settled sent all height m n s e a is lt = let t : nat_lt height (m + 1) ≡ true = lt-ltb _ _ lt in rw (← s, e, a, ← is, t) refl

pub has_expired : (settled sent all : Bool) (height m n : ℕ) → false ≡ settled → sent ≡ true → all ≡ false → m ≡ n → m + 1 ≤ height
    → Accepted ≡ cond settled Settled (cond (not sent) NotParty (cond all NothingLocked (cond (nat_lt height (n + 1)) (NotExpired (n + 1)) Accepted)))
has_expired settled sent all height m n s e a is le = let t : nat_lt height (m + 1) ≡ false = le-ltb _ _ le in rw (← s, e, a, ← is, t) refl
