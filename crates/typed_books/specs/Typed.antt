-- What every value of the program's own types meets: numbers are below the bound of their type, and
-- digests have 32 bytes.
use Rattle.std.specs.Prelude.{◌≡◌, ℕ, ◌<◌, ◌^◌, List, length, All}
use Rattle.hex.specs.Hex.{IsBytes}
use Rattle.hash_signature.specs.declared.sig.Sig.{Sig}
use Rattle.hashkey_path.specs.declared.hashkey.Hashkey.{Hashkey}
use Rattle.escrow_core.specs.declared.terms.Terms.{Terms}
use Rattle.escrow_core.specs.declared.reply.Reply.{Reply}
use Rattle.escrow_core.specs.declared.reply.Reply.TheVariants.{TooLate, StillLocked, NotExpired, NoFunds}
use Rattle.ledger_core.specs.declared.entry.Call.{Call}
use Rattle.ledger_core.specs.declared.entry.Call.TheVariants.{Publish, Unlock, Claim, Refund, Transfer}
use Rattle.ledger_core.specs.declared.entry.Sender.{Sender}
use Rattle.ledger_core.specs.declared.entry.Sender.TheVariants.{Party, Clock}
use Rattle.ledger_core.specs.declared.entry.What.{What}
use Rattle.ledger_core.specs.declared.entry.What.TheVariants.{Call as Made, Tick}

-- 32 bytes
pub record IsDigest (x : List ℕ) : Type 0 where
  pub size : length x ≡ 32
  pub bytes : IsBytes x

-- 67 digests
pub record IsSignature (s : Sig) : Type 0 where
  pub size : length s ≡ 67
  pub values : All IsDigest s

pub record IsTerms (t : Terms) : Type 0 where
  pub start : t.start < 2 ^ 32
  pub delta : t.delta < 2 ^ 32
  pub bound : t.bound < 2 ^ 32
  pub timelock : t.timelock < 2 ^ 32
  pub amount : t.amount < 2 ^ 64
  pub locks : All IsDigest t.locks

pub record IsHashkey (key : Hashkey) : Type 0 where
  pub lock : key.lock < 256
  pub secret : IsDigest key.secret
  pub path : All (λ p. p < 256) key.path
  pub sigs : All IsSignature key.sigs

abbrev pub IsTypedCall : Call → Type 0
IsTypedCall (Publish t) = IsTerms t
IsTypedCall (Unlock key) = IsHashkey key
IsTypedCall Claim = Unit {0}
IsTypedCall Refund = Unit {0}
IsTypedCall (Transfer to units) = (to < 256) × (units < 2 ^ 64)

abbrev pub IsTypedWhat : What → Type 0
IsTypedWhat (Made c) = IsTypedCall c
IsTypedWhat (Tick k) = k < 2 ^ 32

abbrev pub IsTypedSender : Sender → Type 0
IsTypedSender (Party p) = p < 256
IsTypedSender Clock = Unit {0}

abbrev pub IsTypedReply : Reply → Type 0
IsTypedReply (TooLate n) = n < 2 ^ 64
IsTypedReply (StillLocked i) = i < 256
IsTypedReply (NotExpired n) = n < 2 ^ 64
IsTypedReply (NoFunds n) = n < 2 ^ 64
IsTypedReply _ = Unit {0}
