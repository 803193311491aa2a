-- What the program keeps of notes.
use Rattle.std.specs.Prelude.{◌≡◌, ℕ, true, List, [], ◌∷◌, length, Option, Some, None}
use Rattle.swap_digraph.specs.declared.deal.Deal.{Deal}
use Rattle.hashkey_path.specs.declared.hashkey.Hashkey.{Hashkey}
use Rattle.swap_rules.specs.Machine.{IsGoodKey}
use Rattle.party_wallet.specs.Value.{signed_hashkey}
use Rattle.party_notes.specs.declared.notes.Notes.{Notes}
use Rattle.party_notes.specs.declared.kept.Kept.{Kept}
use Rattle.party_notes.specs.declared.kept.Noted.{Noted}
use Rattle.party_notes.specs.declared.note.Note.{Note}
use Rattle.party_notes.specs.Notes.{no_note, NotesState}
use Rattle.party_notes.specs.Kept.{KeptState}

abbrev pub notes_state : Notes → NotesState
notes_state n = record { list = n.list; next = n.next }

abbrev pub kept_state : Kept → KeptState
kept_state k = record { keys = k.signed.keys; sent = k.sent; seen = k.seen; stopped = k.stopped }

-- what was taken of notes so far
abbrev pub noted_state : Noted → KeptState
noted_state k = record { keys = k.keys.items; sent = k.sent.items; seen = k.seen.items; stopped = k.stopped.items }

-- There is a place for each lock's hashkey, and for each ledger's height.
pub record HasPlaces (d : Deal) (k : Noted) : Type 0 where
  pub locks : length k.keys.items ≡ length d.leaders
  pub arcs : length k.seen.items ≡ length d.graph.arcs

-- a note, or none
abbrev pub noted_list : Option Note → List Note
noted_list None = []
noted_list (Some x) = x ∷ []

-- The first of these lines, if there is one, is no note.
abbrev pub IsBehindNotes : List (List ℕ) → Type 0
IsBehindNotes ls = no_note ls ≡ true

-- Each hashkey that was kept opens its lock on every arc that enters v.
abbrev pub AreGoodKeptKeys : Deal → ℕ → List (Option Hashkey) → Type 0
AreGoodKeptKeys d v keys = (i : ℕ) (key : Hashkey) → signed_hashkey keys i ≡ Some key → IsGoodKey d v i key
