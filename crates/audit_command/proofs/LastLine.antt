-- What is told of ledgers, by whether the last line was read and whether bytes follow it.
use Rattle.std.proofs.Common.{◌≡◌, ◌<◌, ◌≤◌, ℕ, true, false, List, length, Ok, Err, refl, lt-ltb, le-ltb}
use Rattle.transcript_book.specs.Stages.{BookSoFar, is_finished}
use Rattle.command_input.specs.Input.{limit}
use Rattle.audit_command.specs.declared.reason.TranscriptReason.TheVariants.{BadLine, TooLong, CutShort}
use Rattle.audit_command.specs.Stages.{next_line_number}
use Rattle.audit_command.specs.TranscriptReading.{story_without_rest, story_so_far, unless_long}

module _ (n m : ℕ) (s : BookSoFar) (rest : List ℕ) where
  pub not_over : is_finished s.place ≡ false → story_without_rest n m s rest ≡ unless_long m (Err CutShort)
  not_over e = rw e refl

  pub with_more : is_finished s.place ≡ true → 0 < length rest → story_without_rest n m s rest ≡ Err (BadLine (next_line_number n))
  with_more e some = rw (e, lt-ltb 0 (length rest) some) refl

  pub too_long : is_finished s.place ≡ true → length rest ≤ 0 → limit < m → story_without_rest n m s rest ≡ Err TooLong
  too_long e none long = rw (e, le-ltb 0 (length rest) none, lt-ltb limit m long) refl

  pub without_more : is_finished s.place ≡ true → length rest ≤ 0 → m ≤ limit → story_without_rest n m s rest ≡ Ok (story_so_far s)
  without_more e none few = rw (e, le-ltb 0 (length rest) none, le-ltb limit m few) refl
