use Rattle.std.proofs.Common.{◌≡◌, drop}
use Rattle.party_notes.specs.Kept.{with_notes}
use Rattle.party_notes.specs.NoteStates.{noted_state, HasPlaces}
use Rattle.party_notes.proofs.kept.add_notes.Given as goal

abbrev pub invariant-loop-note : goal.invariant-loop-note
invariant-loop-note l =
    (with_notes l.deal l.me l.first (noted_state l.initial.kept) l.notes ≡ with_notes l.deal l.me l.number (noted_state l.kept) (drop l.note-index l.notes))
    × HasPlaces l.deal l.kept
