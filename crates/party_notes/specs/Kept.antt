-- What a wallet's notes keep for a party of a deal.
use Rattle.std.specs.Prelude.{ℕ, Bool, true, false, not, filter, ◌==◌, ◌&&◌, ◌||◌, max, nat_lt, List, [], ◌∷◌, ◌++◌, length, replicate, slice_index_or, slice_set, Option, Some, None, is_none, if◌then◌else◌}
use Rattle.std.specs.Prelude.{Result, Ok, Err}
use Rattle.swap_base.specs.Fault.{◌>>=◌}
use Rattle.swap_digraph.specs.Graph.{entering, leaving, is_listed}
use Rattle.swap_digraph.specs.declared.deal.Deal.{Deal}
use Rattle.swap_digraph.specs.Deal.{lock_hashlock}
use Rattle.hashkey_path.specs.declared.hashkey.Hashkey.{Hashkey}
use Rattle.hashkey_path.specs.declared.hashkey.HashkeyAnswer.{HashkeyAnswer}
use Rattle.hashkey_path.specs.declared.hashkey.HashkeyAnswer.TheVariants.{Valid}
use Rattle.hashkey_path.specs.Hashkey.{hashkey_answer}
use Rattle.command_input.specs.declared.reason.Reason.TheVariants.{BadLine}
use Rattle.command_input.specs.declared.refusal.Refusal.{Refusal}
use Rattle.party_wallet.specs.Value.{signed_hashkey}
use Rattle.swap_rules.specs.Conduct.{is_first_key}
use Rattle.party_rows.specs.Lines.{nameless, following_line_number}
use Rattle.party_notes.specs.declared.note.Note.{Note}
use Rattle.party_notes.specs.declared.note.Note.TheVariants.{Keep, Torn, Sent, Never, Seen}

-- What was kept, sent and seen.
pub record KeptState : Type 0 where
  -- for each lock the hashkey that was kept, if any
  pub keys : List (Option Hashkey)
  -- the arcs on which a publish was sent, or may have been, and may land; one may stand here twice
  pub sent : List ℕ
  -- for each arc the greatest height at which its ledger was seen
  pub seen : List ℕ
  -- the locks whose notes are torn, or tell different hashkeys; one may stand here twice
  pub stopped : List ℕ

abbrev pub no_notes_kept : Deal → KeptState
no_notes_kept d = record { keys = replicate (length d.leaders) None; sent = []; seen = replicate (length d.graph.arcs) 0; stopped = [] }

abbrev pub is_valid_answer : HashkeyAnswer → Bool
is_valid_answer Valid = true
is_valid_answer _ = false

-- whether the hashkey opens its lock on arc a
abbrev pub opens_arc : Deal → ℕ → Hashkey → Bool
opens_arc d a key = is_valid_answer (hashkey_answer d a (lock_hashlock d key.lock) key)

-- whether the hashkey opens its lock on the first of these arcs
abbrev pub opens_first : Deal → List ℕ → Hashkey → Bool
opens_first d [] key = false
opens_first d (a ∷ arcs) key = opens_arc d a key

-- whether v may have kept the hashkey for its lock, where this was kept before: the same, or none,
-- and then it opens the lock on the arcs that enter v
abbrev pub may_be_kept : Deal → ℕ → Option Hashkey → Hashkey → Bool
may_be_kept d v before key = is_first_key before key || (is_none before && opens_first d (entering d.graph v) key)

-- nothing is signed for the lock
abbrev pub with_stop : KeptState → ℕ → KeptState
with_stop k i = record k { stopped = k.stopped ++ i ∷ [] }

-- with a hashkey for a lock of the deal; where v can't have kept it, the lock stops
abbrev pub with_key : Deal → ℕ → KeptState → Hashkey → KeptState
with_key d v k key =
    if may_be_kept d v (signed_hashkey k.keys key.lock) key then record k { keys = slice_set k.keys key.lock (Some key) } else with_stop k key.lock

-- with the lock of a torn hashkey, in line n
abbrev pub with_torn : Deal → ℕ → KeptState → ℕ → Result KeptState Refusal
with_torn d n k i = if nat_lt i (length d.leaders) then Ok (with_stop k i) else Err (nameless (BadLine n))

-- with a height at which the ledger of arc a was seen, in line n
abbrev pub with_seen : Deal → ℕ → KeptState → ℕ → ℕ → Result KeptState Refusal
with_seen d n k a height =
    if nat_lt a (length d.graph.arcs) then Ok (record k { seen = slice_set k.seen a (max (slice_index_or k.seen a 0) height) }) else Err (nameless (BadLine n))

-- what is kept with the note of line n
abbrev pub with_note : Deal → ℕ → ℕ → KeptState → Note → Result KeptState Refusal
with_note d v n k (Keep key) =
    if nat_lt key.lock (length d.leaders) then Ok (with_key d v k key) else Err (nameless (BadLine n))
with_note d v n k (Torn i) = with_torn d n k i
with_note d v n k (Sent a) = if is_listed a (leaving d.graph v) then Ok (record k { sent = k.sent ++ a ∷ [] }) else Err (nameless (BadLine n))
with_note d v n k (Never a) =
    if is_listed a (leaving d.graph v) then Ok (record k { sent = filter (λ b. not (b == a)) k.sent }) else Err (nameless (BadLine n))
with_note d v n k (Seen a height) = with_seen d n k a height

-- what is kept with further notes, where the first of them is line n
abbrev pub with_notes : Deal → ℕ → ℕ → KeptState → List Note → Result KeptState Refusal
with_notes d v n k [] = Ok k
with_notes d v n k (x ∷ xs) = with_note d v n k x >>= λ next. with_notes d v (following_line_number n) next xs

-- what notes keep, where the first of them is line n
unfoldable pub notes_kept : Deal → ℕ → ℕ → List Note → Result KeptState Refusal
notes_kept d v n notes = with_notes d v n (no_notes_kept d) notes
