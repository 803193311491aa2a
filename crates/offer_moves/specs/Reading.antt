-- What a move holds: its fields in the order in which they are read, each of its kind, and no
-- others.
use Rattle.std.specs.Prelude.{◌&&◌, ℕ, Bool, true, List, [], ◌∷◌, codes, if◌then◌else◌, Option, Some, None, Result, Ok, Err}
use Rattle.std.specs.Str.{bytes_eq}
use Rattle.serde_json.specs.Data.{Data, Items}
use Rattle.serde_json.specs.Find.{get, as_array}
use Rattle.swap_base.specs.Fault.{◌>>=◌}
use Rattle.command_input.specs.declared.reason.Reason.{Reason}
use Rattle.command_input.specs.declared.reason.Reason.TheVariants.{WrongKind}
use Rattle.offer_moves.specs.Fields.{kind, field_number, field_text, optional_field_number, required_object, only, each, field_list, text_member}
use Rattle.offer_moves.specs.declared.raw.RawTerms.{RawTerms}
use Rattle.offer_moves.specs.declared.raw.RawKey.{RawKey}
use Rattle.offer_moves.specs.declared.raw.RawCraft.{RawCraft}
use Rattle.offer_moves.specs.declared.raw.MoveKind.{MoveKind}
use Rattle.offer_moves.specs.declared.raw.MoveKind.TheVariants as kinds
use Rattle.offer_moves.specs.declared.raw.RawMove.{RawMove}
use Rattle.offer_moves.specs.declared.raw.RawMove.TheVariants.{Publish, Craft, Replay, Raw, Claim, Refund, Transfer, Wait}

-- the texts of a list
unfoldable pub list_texts : ℕ → List ℕ → Option Items → Result (List (List ℕ)) Reason
list_texts line field items = do
  members ← kind line field items
  each (text_member line field) members

abbrev pub optional_texts : ℕ → List ℕ → Option Data → Result (Option (List (List ℕ))) Reason
optional_texts line field None = Ok None
optional_texts line field (Some d) = do
  texts ← list_texts line field (as_array d)
  Ok (Some texts)

-- the texts of a list that may be absent
unfoldable pub optional_field_texts : ℕ → List ℕ → Data → Result (Option (List (List ℕ))) Reason
optional_field_texts line field d = optional_texts line field (get field d)

-- the texts of a list
unfoldable pub field_texts : ℕ → List ℕ → Data → Result (List (List ℕ)) Reason
field_texts line field d = field_list line field (text_member line field) d

-- a wait is a move in a script alone
abbrev pub wait_move_kind : ℕ → (scripted : Bool) → List ℕ → Result MoveKind Reason
wait_move_kind line scripted word = if scripted && bytes_eq word (codes "wait") then Ok kinds.Wait else Err (WrongKind line (codes "do"))

-- the move that a word asks for
abbrev pub word_move_kind : ℕ → (scripted : Bool) → List ℕ → Result MoveKind Reason
word_move_kind line scripted word =
    if bytes_eq word (codes "publish") then Ok kinds.Publish
    else if bytes_eq word (codes "raw") then Ok kinds.Raw
    else if bytes_eq word (codes "claim") then Ok kinds.Claim
    else if bytes_eq word (codes "refund") then Ok kinds.Refund
    else if bytes_eq word (codes "transfer") then Ok kinds.Transfer
    else if bytes_eq word (codes "craft") then Ok kinds.Craft
    else if bytes_eq word (codes "replay") then Ok kinds.Replay
    else wait_move_kind line scripted word

unfoldable pub move_kind : ℕ → (scripted : Bool) → Data → Result MoveKind Reason
move_kind line scripted d = do
  word ← field_text line (codes "do") d
  word_move_kind line scripted word

-- the terms that a publish states in place of the correct ones
unfoldable pub raw_publish_terms : ℕ → Data → Result RawTerms Reason
raw_publish_terms line d = do
  start ← optional_field_number line (codes "start") d
  delta ← optional_field_number line (codes "delta") d
  bound ← optional_field_number line (codes "bound") d
  timelock ← optional_field_number line (codes "timelock") d
  amount ← optional_field_number line (codes "amount") d
  locks ← optional_field_texts line (codes "locks") d
  Ok (record { start = start; delta = delta; bound = bound; timelock = timelock; amount = amount; locks = locks })

abbrev pub publish_fields : List (List ℕ)
publish_fields = codes "amount" ∷ codes "arc" ∷ codes "bound" ∷ codes "delta" ∷ codes "do" ∷ codes "locks" ∷ codes "start" ∷ codes "timelock" ∷ []

unfoldable pub raw_publish_move : ℕ → ℕ → Data → Result RawMove Reason
raw_publish_move line arc d = do
  terms ← raw_publish_terms line d
  u ← only line publish_fields d
  Ok (Publish arc terms)

-- the lock of a craft, the parties that make its hashkey, and what it goes onto
unfoldable pub raw_crafting : ℕ → Data → Result RawCraft Reason
raw_crafting line d = do
  lock ← field_number line (codes "lock") d
  via ← field_texts line (codes "via") d
  onto ← optional_field_number line (codes "onto") d
  Ok (record { lock = lock; via = via; onto = onto })

abbrev pub craft_fields : List (List ℕ)
craft_fields = codes "arc" ∷ codes "do" ∷ codes "lock" ∷ codes "onto" ∷ codes "via" ∷ []

unfoldable pub raw_craft_move : ℕ → ℕ → Data → Result RawMove Reason
raw_craft_move line arc d = do
  craft ← raw_crafting line d
  u ← only line craft_fields d
  Ok (Craft arc craft)

abbrev pub replay_fields : List (List ℕ)
replay_fields = codes "arc" ∷ codes "do" ∷ codes "lock" ∷ codes "onto" ∷ []

unfoldable pub raw_replay_move : ℕ → ℕ → Data → Result RawMove Reason
raw_replay_move line arc d = do
  lock ← field_number line (codes "lock") d
  onto ← field_number line (codes "onto") d
  u ← only line replay_fields d
  Ok (Replay arc lock onto)

-- the hashkey that a raw move presents
unfoldable pub raw_hashkey : ℕ → Data → Result RawKey Reason
raw_hashkey line d = do
  lock ← field_number line (codes "lock") d
  secret ← field_text line (codes "secret") d
  path ← field_texts line (codes "path") d
  sigs ← field_texts line (codes "sigs") d
  Ok (record { lock = lock; secret = secret; path = path; sigs = sigs })

abbrev pub raw_fields : List (List ℕ)
raw_fields = codes "arc" ∷ codes "do" ∷ codes "lock" ∷ codes "path" ∷ codes "secret" ∷ codes "sigs" ∷ []

unfoldable pub raw_unlock_move : ℕ → ℕ → Data → Result RawMove Reason
raw_unlock_move line arc d = do
  key ← raw_hashkey line d
  u ← only line raw_fields d
  Ok (Raw arc key)

abbrev pub plain_fields : List (List ℕ)
plain_fields = codes "arc" ∷ codes "do" ∷ []

unfoldable pub raw_claim_move : ℕ → ℕ → Data → Result RawMove Reason
raw_claim_move line arc d = do
  u ← only line plain_fields d
  Ok (Claim arc)

unfoldable pub raw_refund_move : ℕ → ℕ → Data → Result RawMove Reason
raw_refund_move line arc d = do
  u ← only line plain_fields d
  Ok (Refund arc)

abbrev pub transfer_fields : List (List ℕ)
transfer_fields = codes "arc" ∷ codes "do" ∷ codes "to" ∷ codes "units" ∷ []

unfoldable pub raw_transfer_move : ℕ → ℕ → Data → Result RawMove Reason
raw_transfer_move line arc d = do
  to ← field_text line (codes "to") d
  units ← field_number line (codes "units") d
  u ← only line transfer_fields d
  Ok (Transfer arc to units)

abbrev pub wait_fields : List (List ℕ)
wait_fields = codes "arc" ∷ codes "do" ∷ codes "height" ∷ []

unfoldable pub raw_wait_move : ℕ → ℕ → Data → Result RawMove Reason
raw_wait_move line arc d = do
  height ← field_number line (codes "height") d
  u ← only line wait_fields d
  Ok (Wait arc height)

-- the further fields of a move on that arc
abbrev pub raw_move_of_kind : ℕ → MoveKind → ℕ → Data → Result RawMove Reason
raw_move_of_kind line kinds.Publish arc d = raw_publish_move line arc d
raw_move_of_kind line kinds.Craft arc d = raw_craft_move line arc d
raw_move_of_kind line kinds.Replay arc d = raw_replay_move line arc d
raw_move_of_kind line kinds.Raw arc d = raw_unlock_move line arc d
raw_move_of_kind line kinds.Claim arc d = raw_claim_move line arc d
raw_move_of_kind line kinds.Refund arc d = raw_refund_move line arc d
raw_move_of_kind line kinds.Transfer arc d = raw_transfer_move line arc d
raw_move_of_kind line kinds.Wait arc d = raw_wait_move line arc d

-- the move that an object states
unfoldable pub stated_raw_move : ℕ → (scripted : Bool) → Data → Result RawMove Reason
stated_raw_move line scripted d = do
  kind ← move_kind line scripted d
  arc ← field_number line (codes "arc") d
  raw_move_of_kind line kind arc d

-- a move of a script
unfoldable pub script_move : ℕ → Data → Result RawMove Reason
script_move line d = do
  o ← required_object line (codes "script") d
  stated_raw_move line true d
