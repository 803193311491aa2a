-- Replies that are compared.
use Rattle.std.specs.Prelude.{◌==◌, Bool, true, false}
use Rattle.escrow_core.specs.declared.reply.Reply.{Reply}
use Rattle.escrow_core.specs.declared.reply.Reply.TheVariants.{Accepted, Settled, NotCounterparty, NotParty, AlreadyUnlocked, WrongSecret, WrongPath}
use Rattle.escrow_core.specs.declared.reply.Reply.TheVariants.{WrongSignature, TooLate, StillLocked, NothingLocked, NotExpired, NoContract}
use Rattle.escrow_core.specs.declared.reply.Reply.TheVariants.{AlreadyPublished, NoFunds, SenderFull, ClockFull}

-- whether two replies have the same name and the same number
abbrev pub same_reply : Reply → Reply → Bool
same_reply Accepted Accepted = true
same_reply Settled Settled = true
same_reply NotCounterparty NotCounterparty = true
same_reply NotParty NotParty = true
same_reply AlreadyUnlocked AlreadyUnlocked = true
same_reply WrongSecret WrongSecret = true
same_reply WrongPath WrongPath = true
same_reply WrongSignature WrongSignature = true
same_reply (TooLate m) (TooLate n) = m == n
same_reply (StillLocked i) (StillLocked j) = i == j
same_reply NothingLocked NothingLocked = true
same_reply (NotExpired m) (NotExpired n) = m == n
same_reply NoContract NoContract = true
same_reply AlreadyPublished AlreadyPublished = true
same_reply (NoFunds m) (NoFunds n) = m == n
same_reply SenderFull SenderFull = true
same_reply ClockFull ClockFull = true
same_reply _ _ = false

-- whether the reply to an unlock tells that the hashkey's signatures are valid: what comes after
-- their row in the table
abbrev pub is_after_check : Reply → Bool
is_after_check Accepted = true
is_after_check (TooLate last) = true
is_after_check _ = false
