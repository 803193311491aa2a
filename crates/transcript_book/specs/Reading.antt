-- What the line of an entry is read as: the fields in their order, each in its one spelling.
use Rattle.std.specs.Prelude.{◌==◌, ◌&&◌, ◌||◌, ◌+◌, ◌-◌, ◌*◌, ◌^◌, ℕ, zero, suc, Bool, nat_le, nat_lt, List, [], ◌∷◌, length, codes}
use Rattle.std.specs.Prelude.{Result, Ok, Err, if◌then◌else◌}
use Rattle.std.specs.Str.{bytes_eq}
use Rattle.std.specs.List.{list_all}
use Rattle.hex.specs.Hex.{decode_sized}
use Rattle.hex.specs.declared.error.FromHexError.{FromHexError}
use Rattle.swap_base.specs.Fault.{◌>>=◌}
use Rattle.hash_signature.specs.declared.sig.Sig.{Sig}
use Rattle.hash_signature.specs.Signature.{text_values}
use Rattle.escrow_core.specs.declared.reply.Reply.{Reply}
use Rattle.escrow_core.specs.declared.reply.Reply.TheVariants.{Accepted, Settled, NotCounterparty, NotParty, AlreadyUnlocked, WrongSecret, WrongPath}
use Rattle.escrow_core.specs.declared.reply.Reply.TheVariants.{WrongSignature, TooLate, StillLocked, NothingLocked, NotExpired, NoContract}
use Rattle.escrow_core.specs.declared.reply.Reply.TheVariants.{AlreadyPublished, NoFunds}
use Rattle.ledger_core.specs.declared.entry.Call.{Call}
use Rattle.ledger_core.specs.declared.entry.Call.TheVariants.{Publish, Unlock, Claim, Refund, Transfer}
use Rattle.ledger_core.specs.declared.entry.Sender.TheVariants.{Party, Clock}
use Rattle.ledger_core.specs.declared.entry.What.TheVariants.{Call as Made, Tick}
use Rattle.transcript_book.specs.declared.said.Said.{Said}
use Rattle.transcript_book.specs.declared.said.Misspelling.{Misspelling}
use Rattle.transcript_book.specs.declared.said.Misspelling.TheVariants.{Misspelt}
use Rattle.transcript_book.specs.Between.{separated_parts}

abbrev pub misspelt : {A : Type 0} → Result A Misspelling
misspelt = Err Misspelt

-- ---- numbers

-- the number that further digits make of n, below 2 ^ 64
abbrev pub continue_reading : ℕ → List ℕ → Result ℕ Misspelling
continue_reading n [] = Ok n
continue_reading n (b ∷ bs) = if nat_le 48 b && nat_le b 57 && nat_lt (n * 10 + (b - 48)) (2 ^ 64) then continue_reading (n * 10 + (b - 48)) bs else misspelt

-- a number without leading zeros
abbrev pub decimal_number : List ℕ → Result ℕ Misspelling
decimal_number [] = misspelt
decimal_number (b ∷ bs) = if b == 48 then (if length bs == 0 then Ok 0 else misspelt) else continue_reading 0 (b ∷ bs)

-- a number below a limit
abbrev pub bounded_number : ℕ → List ℕ → Result ℕ Misspelling
bounded_number limit w = decimal_number w >>= λ n. if nat_lt n limit then Ok n else misspelt

-- ---- digests and signatures

abbrev pub is_lower_digit : ℕ → Bool
is_lower_digit b = (nat_le 48 b && nat_le b 57) || (nat_le 97 b && nat_le b 102)

abbrev pub decoded_word : Result (List ℕ) FromHexError → Result (List ℕ) Misspelling
decoded_word (Ok bytes) = Ok bytes
decoded_word (Err e) = misspelt

-- a number of bytes, in hexadecimal digits of lower case
abbrev pub lower_hex_bytes : ℕ → List ℕ → Result (List ℕ) Misspelling
lower_hex_bytes n w = if list_all is_lower_digit w then decoded_word (decode_sized w n) else misspelt

abbrev pub lower_hex_digest : List ℕ → Result (List ℕ) Misspelling
lower_hex_digest w = lower_hex_bytes 32 w

abbrev pub parse_signature : List ℕ → Result Sig Misspelling
parse_signature w = lower_hex_bytes 2144 w >>= λ bytes. Ok (text_values bytes)

-- ---- lists

abbrev pub parse_each_word : {A : Type 0} → (List ℕ → Result A Misspelling) → List (List ℕ) → Result (List A) Misspelling
parse_each_word f [] = Ok []
parse_each_word f (w ∷ ws) = f w >>= λ x. parse_each_word f ws >>= λ xs. Ok (x ∷ xs)

-- a list in one field
abbrev pub listed_field : {A : Type 0} → (List ℕ → Result A Misspelling) → List ℕ → Result (List A) Misspelling
listed_field f w = if bytes_eq w (codes "-") then Ok [] else parse_each_word f (separated_parts 44 w)

-- ---- calls, each with the fields that follow it

abbrev pub is_word : List ℕ → List ℕ → Bool
is_word w word = bytes_eq w word

-- the first of the fields, and those after it
abbrev pub first_field : List (List ℕ) → Result (List ℕ × List (List ℕ)) Misspelling
first_field [] = misspelt
first_field (w ∷ ws) = Ok (w, ws)

-- what a field says, and the fields after it
unfoldable pub parse_first_field : {A : Type 0} → (List ℕ → Result A Misspelling) → List (List ℕ) → Result (A × List (List ℕ)) Misspelling
parse_first_field f ws = do
  first ← first_field ws
  x ← f first.0
  Ok (x, first.1)

-- a number of digests, and the fields after them
abbrev pub parse_locks : ℕ → List (List ℕ) → Result (List (List ℕ) × List (List ℕ)) Misspelling
parse_locks zero ws = Ok ([], ws)
parse_locks (suc n) ws = parse_first_field lower_hex_digest ws >>= λ first. parse_locks n first.1 >>= λ r. Ok (first.0 ∷ r.0, r.1)

unfoldable pub parse_publish_fields : ℕ → List (List ℕ) → Result (Call × List (List ℕ)) Misspelling
parse_publish_fields count ws = do
  start ← parse_first_field (bounded_number (2 ^ 32)) ws
  delta ← parse_first_field (bounded_number (2 ^ 32)) start.1
  bound ← parse_first_field (bounded_number (2 ^ 32)) delta.1
  timelock ← parse_first_field (bounded_number (2 ^ 32)) bound.1
  amount ← parse_first_field decimal_number timelock.1
  locks ← parse_locks count amount.1
  Ok (Publish (record { locks = locks.0; start = start.0; delta = delta.0; bound = bound.0; timelock = timelock.0; amount = amount.0 }), locks.1)

unfoldable pub parse_unlock_fields : List (List ℕ) → Result (Call × List (List ℕ)) Misspelling
parse_unlock_fields ws = do
  lock ← parse_first_field (bounded_number 256) ws
  secret ← parse_first_field lower_hex_digest lock.1
  path ← parse_first_field (listed_field (bounded_number 256)) secret.1
  sigs ← parse_first_field (listed_field parse_signature) path.1
  Ok (Unlock (record { lock = lock.0; secret = secret.0; path = path.0; sigs = sigs.0 }), sigs.1)

unfoldable pub read_units : List (List ℕ) → Result (Call × List (List ℕ)) Misspelling
read_units ws = do
  to ← parse_first_field (bounded_number 256) ws
  units ← parse_first_field decimal_number to.1
  Ok (Transfer to.0 units.0, units.1)

abbrev pub parse_named_call : ℕ → List ℕ → List (List ℕ) → Result (Call × List (List ℕ)) Misspelling
parse_named_call locks w ws =
    if is_word w (codes "publish") then parse_publish_fields locks ws
    else if is_word w (codes "unlock") then parse_unlock_fields ws
    else if is_word w (codes "claim") then Ok (Claim, ws)
    else if is_word w (codes "refund") then Ok (Refund, ws)
    else if is_word w (codes "transfer") then read_units ws
    else misspelt

unfoldable pub parse_call : ℕ → List (List ℕ) → Result (Call × List (List ℕ)) Misspelling
parse_call locks ws = do
  first ← first_field ws
  parse_named_call locks first.0 first.1

-- ---- replies of an entry

abbrev pub plain_reply : List ℕ → Result Reply Misspelling
plain_reply w =
    if is_word w (codes "accepted") then Ok Accepted
    else if is_word w (codes "Settled") then Ok Settled
    else if is_word w (codes "NotCounterparty") then Ok NotCounterparty
    else if is_word w (codes "NotParty") then Ok NotParty
    else if is_word w (codes "AlreadyUnlocked") then Ok AlreadyUnlocked
    else if is_word w (codes "WrongSecret") then Ok WrongSecret
    else if is_word w (codes "WrongPath") then Ok WrongPath
    else if is_word w (codes "WrongSignature") then Ok WrongSignature
    else if is_word w (codes "NothingLocked") then Ok NothingLocked
    else if is_word w (codes "NoContract") then Ok NoContract
    else if is_word w (codes "AlreadyPublished") then Ok AlreadyPublished
    else misspelt

abbrev pub numbered_reply : List ℕ → List ℕ → Result Reply Misspelling
numbered_reply w n =
    if is_word w (codes "TooLate") then (decimal_number n >>= λ last. Ok (TooLate last))
    else if is_word w (codes "StillLocked") then (bounded_number 256 n >>= λ i. Ok (StillLocked i))
    else if is_word w (codes "NotExpired") then (decimal_number n >>= λ first. Ok (NotExpired first))
    else if is_word w (codes "NoFunds") then (decimal_number n >>= λ have. Ok (NoFunds have))
    else misspelt

abbrev pub make_reply : List (List ℕ) → Result Reply Misspelling
make_reply (w ∷ []) = plain_reply w
make_reply (w ∷ n ∷ []) = numbered_reply w n
make_reply _ = misspelt

-- ---- entries

abbrev pub equals : List ℕ → Result (Unit {0}) Misspelling
equals w = if is_word w (codes "=") then Ok tt else misspelt

unfoldable pub call_said : ℕ → List (List ℕ) → Result Said Misspelling
call_said locks ws = do
  party ← parse_first_field (bounded_number 256) ws
  call ← parse_call locks party.1
  sign ← parse_first_field equals call.1
  reply ← make_reply sign.1
  Ok (record { sender = Party party.0; what = Made call.0; reply = reply })

abbrev pub nothing_more : List (List ℕ) → Result (Unit {0}) Misspelling
nothing_more [] = Ok tt
nothing_more (w ∷ ws) = misspelt

unfoldable pub tick_said : List (List ℕ) → Result Said Misspelling
tick_said ws = do
  by ← parse_first_field (bounded_number (2 ^ 32)) ws
  u ← nothing_more by.1
  Ok (record { sender = Clock; what = Tick by.0; reply = Accepted })

abbrev pub parse_said : ℕ → List ℕ → List (List ℕ) → Result Said Misspelling
parse_said locks w ws =
    if is_word w (codes "t") then tick_said ws
    else if is_word w (codes "c") then call_said locks ws
    else misspelt

-- what the fields of a line say, in a deal with this number of locks
unfoldable pub words_said : ℕ → List (List ℕ) → Result Said Misspelling
words_said locks ws = do
  first ← first_field ws
  parse_said locks first.0 first.1

-- what a line says
unfoldable pub line_said : ℕ → List ℕ → Result Said Misspelling
line_said locks line = words_said locks (separated_parts 32 line)
