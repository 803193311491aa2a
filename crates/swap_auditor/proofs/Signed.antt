-- Signatures that two hashkeys share.
use Rattle.std.proofs.Common.{◌≡◌, ◌==◌, ◌&&◌, ℕ, zero, suc, nat_lt, Bool, true, false, not, cond, List, length, is_none, is_some, get_or, subst, refl}
use Rattle.std.proofs.Common.{sym, ap, ◌∙◌, ◌<◌}
use Rattle.std.specs.Prelude.{All}
use Rattle.swap_digraph.specs.declared.deal.Deal.{Deal}
use Rattle.swap_digraph.specs.Deal.{counterparty}
use Rattle.hashkey_path.specs.declared.hashkey.Hashkey.{Hashkey}
use Rattle.hashkey_path.specs.Hashkey.{is_wrong_secret, is_wrong_path, is_wrong_signature}
use Rattle.hashkey_path.specs.LastSignatures.{is_last_signed}
use Rattle.hashkey_path.proofs.LastSignatures.{valid_is_known}
use Rattle.escrow_core.specs.declared.reply.Reply.{Reply}
use Rattle.escrow_core.specs.declared.reply.Reply.TheVariants.{Accepted, Settled, NotCounterparty, AlreadyUnlocked, WrongSecret, WrongPath}
use Rattle.escrow_core.specs.declared.reply.Reply.TheVariants.{WrongSignature, TooLate, NoContract, SenderFull}
use Rattle.escrow_core.specs.Terms.{terms_hashlock, last_unlock}
use Rattle.ledger_core.specs.declared.entry.Call.{Call}
use Rattle.ledger_core.specs.declared.entry.Call.TheVariants.{Publish, Unlock, Claim, Refund, Transfer}
use Rattle.ledger_core.specs.declared.entry.Entry.{Entry}
use Rattle.ledger_core.specs.History.{height, published, settled, the_terms, is_open, is_full, history_reply, rows}
use Rattle.ledger_core.specs.CallSignatures.{is_known_call}
use Rattle.swap_auditor.specs.Replies.{is_after_check}
use Rattle.swap_auditor.specs.Found.{IsSigned, TellsSignatures, SharesLast}

-- what is known of the one is known of the other
pub shared_is_known : (n : ℕ) (d : Deal) (one other : Hashkey) → SharesLast n one other → IsSigned d other → is_last_signed n d one ≡ true
shared_is_known zero d one other s k = refl
shared_is_known (suc n) d one other s k = rw (s.lock, s.secret, s.path, s.sigs) (k (suc n))

-- a hashkey that was read in a list of signed ones is signed
pub found_is_signed : (d : Deal) (keys read : List Hashkey) (i : ℕ) (x y : Hashkey) → read ≡ keys → All (IsSigned d) keys → i < length read
    → x ≡ get_or read i x → y ≡ x → IsSigned d y
found_is_signed d keys read i x y r all lt is same = subst (IsSigned d) (sym (same ∙ is)) (subst (All (IsSigned d)) (sym r) all i x lt)

pub known_call : (n : ℕ) (d : Deal) (key : Hashkey) → is_last_signed n d key ≡ true → is_known_call n d (Unlock key) ≡ true
known_call zero d key e = refl
known_call (suc n) d key e = e

-- A reply that comes after the row of signatures.

passed : (full none settled other opened secret path signature late : Bool) (last : ℕ)
    → is_after_check (cond full SenderFull (cond none NoContract
    (cond settled Settled (cond other NotCounterparty (cond opened AlreadyUnlocked
    (cond secret WrongSecret (cond path WrongPath (cond signature WrongSignature (cond late (TooLate last) Accepted))))))))) ≡ true
    → (secret ≡ false) × (path ≡ false) × (signature ≡ false)
passed true none settled other opened secret path signature late last e = absurd (cc e)
passed false true settled other opened secret path signature late last e = absurd (cc e)
passed false false true other opened secret path signature late last e = absurd (cc e)
passed false false false true opened secret path signature late last e = absurd (cc e)
passed false false false false true secret path signature late last e = absurd (cc e)
passed false false false false false true path signature late last e = absurd (cc e)
passed false false false false false false true signature late last e = absurd (cc e)
passed false false false false false false false true late last e = absurd (cc e)
passed false false false false false false false false late last e = (refl, refl, refl)

validity_flags : (secret path signature : Bool) → secret ≡ false → path ≡ false → signature ≡ false → (not secret && not path && not signature) ≡ true
validity_flags secret path signature a b c = rw (a, b, c) refl

signed_by : (d : Deal) (a : ℕ) (past : List Entry) (p : ℕ) (key : Hashkey) → is_after_check (history_reply d a past p (Unlock key)) ≡ true → IsSigned d key
unfolding rows
signed_by d a past p key e n =
    let hashlock = terms_hashlock (the_terms past) key.lock in
    let parts = passed (is_full past p) (is_none (published past)) (is_some (settled past)) (not (p == counterparty d a)) (is_open past key.lock)
    (is_wrong_secret hashlock key) (is_wrong_path d a d.mode key) (is_wrong_signature d d.mode key)
    (nat_lt (last_unlock d.mode (the_terms past) key) (height past)) (last_unlock d.mode (the_terms past) key) e in
    valid_is_known n d a hashlock key (validity_flags (is_wrong_secret hashlock key) (is_wrong_path d a d.mode key) (is_wrong_signature d d.mode key) parts.0
    parts.1 parts.2)

-- the reply of the table tells of the signatures of the hashkey that the call presents
pub told : (d : Deal) (a : ℕ) (past : List Entry) (p : ℕ) (c : Call) (r : Reply) → r ≡ history_reply d a past p c → TellsSignatures d c r
told d a past p (Unlock key) r is = λ after. signed_by d a past p key (ap is_after_check (sym is) ∙ after)
told d a past p (Publish t) r is = tt
told d a past p Claim r is = tt
told d a past p Refund r is = tt
told d a past p (Transfer to units) r is = tt
