-- The words that reports and refusals share. Every number is in decimal.
use Rattle.std.specs.Prelude.{ℕ, List, [], ◌∷◌, codes, decimal, slice_index_or}
use Rattle.swap_base.specs.Text.{joined}
use Rattle.escrow_core.specs.declared.reply.Reply.{Reply}
use Rattle.escrow_core.specs.declared.reply.Reply.TheVariants.{Accepted, Settled, NotCounterparty, NotParty, AlreadyUnlocked, WrongSecret, WrongPath}
use Rattle.escrow_core.specs.declared.reply.Reply.TheVariants.{WrongSignature, TooLate, StillLocked, NothingLocked, NotExpired, NoContract, AlreadyPublished}
use Rattle.escrow_core.specs.declared.reply.Reply.TheVariants.{NoFunds, SenderFull, ClockFull}

-- the name of party p; no text where the number is nobody's
abbrev pub party_name : List (List ℕ) → ℕ → List ℕ
party_name names p = slice_index_or names p []

-- a ledger's answer to a call
unfoldable pub reply_text : Reply → List ℕ
reply_text Accepted = codes "accepted"
reply_text Settled = codes "Settled"
reply_text NotCounterparty = codes "NotCounterparty"
reply_text NotParty = codes "NotParty"
reply_text AlreadyUnlocked = codes "AlreadyUnlocked"
reply_text WrongSecret = codes "WrongSecret"
reply_text WrongPath = codes "WrongPath"
reply_text WrongSignature = codes "WrongSignature"
reply_text (TooLate last) = joined (codes "TooLate " ∷ decimal last ∷ [])
reply_text (StillLocked i) = joined (codes "StillLocked " ∷ decimal i ∷ [])
reply_text NothingLocked = codes "NothingLocked"
reply_text (NotExpired first) = joined (codes "NotExpired " ∷ decimal first ∷ [])
reply_text NoContract = codes "NoContract"
reply_text AlreadyPublished = codes "AlreadyPublished"
reply_text (NoFunds have) = joined (codes "NoFunds " ∷ decimal have ∷ [])
reply_text SenderFull = codes "SenderFull"
reply_text ClockFull = codes "ClockFull"
