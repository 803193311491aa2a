-- Hashkeys whose signatures were found valid.
use Rattle.std.specs.Prelude.{◌≡◌, ◌-◌, ℕ, true, IsTrue, All, length, drop}
use Rattle.swap_digraph.specs.declared.deal.Deal.{Deal}
use Rattle.hashkey_path.specs.declared.hashkey.Hashkey.{Hashkey}
use Rattle.hashkey_path.specs.LastSignatures.{is_last_signed}
use Rattle.escrow_core.specs.declared.reply.Reply.{Reply}
use Rattle.ledger_core.specs.declared.entry.Call.{Call}
use Rattle.ledger_core.specs.declared.entry.Call.TheVariants.{Unlock}
use Rattle.swap_auditor.specs.declared.found.Found.TheInside.{Inside}
use Rattle.swap_auditor.specs.Replies.{is_after_check}

-- as many of its last signatures as one likes are valid under the deal
abbrev pub IsSigned : Deal → Hashkey → Type 0
IsSigned d key = (n : ℕ) → IsTrue (is_last_signed n d key)

-- Both have the same lock and secret, and the same last n vertices and signatures.
pub record SharesLast (n : ℕ) (one other : Hashkey) : Type 0 where
  pub lock : one.lock ≡ other.lock
  pub secret : one.secret ≡ other.secret
  pub path : drop (length one.sigs - n) one.path ≡ drop (length other.sigs - n) other.path
  pub sigs : drop (length one.sigs - n) one.sigs ≡ drop (length other.sigs - n) other.sigs

-- the reply to a call that presents a hashkey tells of its signatures
abbrev pub TellsSignatures : Deal → Call → Reply → Type 0
TellsSignatures d (Unlock key) reply = is_after_check reply ≡ true → IsSigned d key
TellsSignatures d _ reply = Unit {0}

-- What the object shows: the deal; and what holds of it.

abbrev pub inside_deal : Inside → Deal
inside_deal f = f.deal

abbrev pub AreSigned : Inside → Type 0
AreSigned f = All (IsSigned f.deal) f.keys.items
