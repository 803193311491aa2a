-- A reply is the same as itself.
use Rattle.std.proofs.Common.{◌≡◌, true, eq-eqb, refl}
use Rattle.escrow_core.specs.declared.reply.Reply.{Reply}
use Rattle.escrow_core.specs.declared.reply.Reply.TheVariants.{Accepted, Settled, NotCounterparty, NotParty, AlreadyUnlocked, WrongSecret, WrongPath}
use Rattle.escrow_core.specs.declared.reply.Reply.TheVariants.{WrongSignature, TooLate, StillLocked, NothingLocked, NotExpired, NoContract}
use Rattle.escrow_core.specs.declared.reply.Reply.TheVariants.{AlreadyPublished, NoFunds, SenderFull, ClockFull}
use Rattle.swap_auditor.specs.Replies.{same_reply}

pub same_self : (r : Reply) → same_reply r r ≡ true
same_self Accepted = refl
same_self Settled = refl
same_self NotCounterparty = refl
same_self NotParty = refl
same_self AlreadyUnlocked = refl
same_self WrongSecret = refl
same_self WrongPath = refl
same_self WrongSignature = refl
same_self (TooLate n) = eq-eqb n n refl
same_self (StillLocked n) = eq-eqb n n refl
same_self NothingLocked = refl
same_self (NotExpired n) = eq-eqb n n refl
same_self NoContract = refl
same_self AlreadyPublished = refl
same_self (NoFunds n) = eq-eqb n n refl
same_self SenderFull = refl
same_self ClockFull = refl
