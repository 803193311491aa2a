-- The fields of an entry's line. Numbers are in decimal, digests in hexadecimal digits of lower
-- case.
use Rattle.std.specs.Prelude.{ℕ, List, [], ◌∷◌, ◌++◌, map, codes, decimal}
use Rattle.hex.specs.Hex.{encode_lower}
use Rattle.swap_base.specs.Text.{joined}
use Rattle.hash_signature.specs.declared.sig.Sig.{Sig}
use Rattle.hashkey_path.specs.declared.hashkey.Hashkey.{Hashkey}
use Rattle.escrow_core.specs.declared.terms.Terms.{Terms}
use Rattle.escrow_core.specs.declared.reply.Reply.{Reply}
use Rattle.escrow_core.specs.declared.reply.Reply.TheVariants.{Accepted, Settled, NotCounterparty, NotParty, AlreadyUnlocked, WrongSecret, WrongPath}
use Rattle.escrow_core.specs.declared.reply.Reply.TheVariants.{WrongSignature, TooLate, StillLocked, NothingLocked, NotExpired, NoContract}
use Rattle.escrow_core.specs.declared.reply.Reply.TheVariants.{AlreadyPublished, NoFunds, SenderFull, ClockFull}
use Rattle.ledger_core.specs.declared.entry.Call.{Call}
use Rattle.ledger_core.specs.declared.entry.Call.TheVariants.{Publish, Unlock, Claim, Refund, Transfer}
use Rattle.ledger_core.specs.declared.entry.Sender.{Sender}
use Rattle.ledger_core.specs.declared.entry.Sender.TheVariants.{Party, Clock}
use Rattle.ledger_core.specs.declared.entry.What.{What}
use Rattle.ledger_core.specs.declared.entry.What.TheVariants.{Call as Made, Tick}
use Rattle.transcript_book.specs.Between.{between}

-- a list in one field: its members with commas between them, or - where it has none
abbrev pub list_word : List (List ℕ) → List ℕ
list_word [] = codes "-"
list_word (w ∷ ws) = between 44 (w ∷ ws)

-- the digits of a signature's values, one after another
abbrev pub signature_word : Sig → List ℕ
signature_word sig = encode_lower (joined sig)

-- what a publish states: its numbers, and one digest per leader
abbrev pub terms_words : Terms → List (List ℕ)
terms_words t = decimal t.start ∷ decimal t.delta ∷ decimal t.bound ∷ decimal t.timelock ∷ decimal t.amount ∷ map encode_lower t.locks

-- a hashkey: its lock, its secret, its path and its signatures
abbrev pub key_words : Hashkey → List (List ℕ)
key_words key = decimal key.lock ∷ encode_lower key.secret ∷ list_word (map decimal key.path) ∷ list_word (map signature_word key.sigs) ∷ []

abbrev pub call_words : Call → List (List ℕ)
call_words (Publish t) = codes "publish" ∷ terms_words t
call_words (Unlock key) = codes "unlock" ∷ key_words key
call_words Claim = codes "claim" ∷ []
call_words Refund = codes "refund" ∷ []
call_words (Transfer to units) = codes "transfer" ∷ decimal to ∷ decimal units ∷ []

-- a reply, as a report writes it
abbrev pub reply_words : Reply → List (List ℕ)
reply_words Accepted = codes "accepted" ∷ []
reply_words Settled = codes "Settled" ∷ []
reply_words NotCounterparty = codes "NotCounterparty" ∷ []
reply_words NotParty = codes "NotParty" ∷ []
reply_words AlreadyUnlocked = codes "AlreadyUnlocked" ∷ []
reply_words WrongSecret = codes "WrongSecret" ∷ []
reply_words WrongPath = codes "WrongPath" ∷ []
reply_words WrongSignature = codes "WrongSignature" ∷ []
reply_words (TooLate last) = codes "TooLate" ∷ decimal last ∷ []
reply_words (StillLocked i) = codes "StillLocked" ∷ decimal i ∷ []
reply_words NothingLocked = codes "NothingLocked" ∷ []
reply_words (NotExpired first) = codes "NotExpired" ∷ decimal first ∷ []
reply_words NoContract = codes "NoContract" ∷ []
reply_words AlreadyPublished = codes "AlreadyPublished" ∷ []
reply_words (NoFunds have) = codes "NoFunds" ∷ decimal have ∷ []
reply_words SenderFull = codes "SenderFull" ∷ []
reply_words ClockFull = codes "ClockFull" ∷ []

-- an accepted tick by k, or the call of a party with the ledger's reply; no other entry is written
abbrev pub entry_words : Sender → What → Reply → List (List ℕ)
entry_words Clock (Tick k) reply = codes "t" ∷ decimal k ∷ []
entry_words (Party p) (Made c) reply = codes "c" ∷ decimal p ∷ (call_words c ++ codes "=" ∷ reply_words reply)
entry_words _ _ reply = []
