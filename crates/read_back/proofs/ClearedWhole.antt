-- The line of each group that is cleared, with a seed for each party, is a plain job.
use Rattle.std.proofs.Common.{◌≡◌, ℕ, Bool, true, cond, List, [], ◌∷◌, length, Some, Ok, Err, refl, ap, ◌∙◌}
use Rattle.std.specs.Str.{is_utf8}
use Rattle.serde_json.specs.Read.{read}
use Rattle.swap_base.specs.Fault.{steps}
use Rattle.swap_job.specs.declared.job.Purpose.TheVariants.{Make}
use Rattle.command_input.specs.declared.reason.Reason.TheVariants.{NotJson}
use Rattle.offer_moves.specs.Fields.{parse_data, object_or}
use Rattle.offer_header.specs.Header.{parse_whole_header}
use Rattle.swap_offer.specs.Job.{parse_header_job, parse_job, job_of_lines}
use Rattle.swap_clear.specs.declared.answer.Group.{Group}
use Rattle.swap_clear.specs.declared.limits.Wishes.{Wishes}
use Rattle.read_back.specs.ClearedJobs.{cleared_job, seeded_data, seeded_line, AreDigitTexts, IsSeeded}
use Rattle.read_back.specs.ClearedJobs.{ClearedGroupsAreMade, ClearedGroupsArePlainJobs, ClearedGroupsArePlainOffers, OnlySeedsAreAdded}
use Rattle.read_back.specs.ClearedJobs.{SeededLineIsOneLine, SeededLineReads, SeededTextIsPlainJob}
use Rattle.read_back.proofs.Steps.{step}
use Rattle.swap_clear.specs.declared.cleared.Cleared.{Cleared}
use Rattle.made_jobs.specs.Making.{made_lines_output, made_output, made_text}
use Rattle.read_back.proofs.Cleared.{groups_are_clear}
use Rattle.read_back.proofs.Deal.{accepted_back, all_placed}
use Rattle.read_back.proofs.ClearedFields.{raw_back, raw_header}
use Rattle.read_back.proofs.ClearedLimited.{header_at, limited_back}
use Rattle.read_back.proofs.ClearedNamed.{numbered_at, numbered_back}
use Rattle.read_back.proofs.ClearedOneLine.{as_given, is_one_line}
use Rattle.read_back.proofs.Shape.{IsClear}
use Rattle.read_back.proofs.ClearedShown.{line_reads}

pub only_seeds_are_added : OnlySeedsAreAdded
only_seeds_are_added w group = refl

object_back : (line : ℕ) (text : List ℕ) (w : Wishes) (group : Group) (texts : List (List ℕ)) → is_utf8 text ≡ true
    → read text ≡ Some (seeded_data w group texts) → parse_data line text ≡ Ok (seeded_data w group texts)
unfolding parse_data
object_back line text w group texts utf8 reads =
    ap (λ (b : Bool). cond b (object_or line (read text)) (Err (NotJson line))) utf8
    ∙ ap (object_or line) reads

module _ (w : Wishes) (group : Group) (k : IsClear w group) (texts seeds : List (List ℕ)) (each : length texts ≡ length group.parties)
    (digits : AreDigitTexts texts seeds) where
  header_back : (has : List ℕ → Bool) (line : ℕ) (text : List ℕ) → is_utf8 text ≡ true → read text ≡ Some (seeded_data w group texts)
      → parse_whole_header has Make line text ≡ Ok (header_at w group texts seeds)
  unfolding parse_whole_header
  header_back has line text utf8 reads =
      step _ (seeded_data w group texts) _ (object_back line text w group texts utf8 reads)
      ∙ step _ (raw_header w group texts) _ (raw_back line w group texts)
      ∙ step _ (numbered_at w group) _ (numbered_back w group k line texts each has)
      ∙ step _ (header_at w group texts seeds) _ (limited_back w group k line texts seeds each digits)
      ∙ step _ tt _ (all_placed w group k line texts seeds each digits)

  job_back : (has : List ℕ → Bool) (line : ℕ) (text : List ℕ) → is_utf8 text ≡ true → read text ≡ Some (seeded_data w group texts)
      → parse_header_job has Make line text ≡ Ok (cleared_job w group seeds)
  unfolding parse_header_job
  job_back has line text utf8 reads =
      step _ (header_at w group texts seeds) _ (header_back has line text utf8 reads) ∙ accepted_back w group k line texts seeds each digits

pub seeded_line_reads : SeededLineReads
seeded_line_reads c group texts seeds s =
    line_reads c.wishes group (groups_are_clear s.line s.text c s.is_cleared group s.is_one) texts seeds s.digits

pub seeded_text_is_plain_job : SeededTextIsPlainJob
seeded_text_is_plain_job c group texts seeds s has line text utf8 reads =
    job_back c.wishes group (groups_are_clear s.line s.text c s.is_cleared group s.is_one) texts seeds s.one_each s.digits has line text utf8 reads

pub cleared_groups_are_plain_jobs : ClearedGroupsArePlainJobs
cleared_groups_are_plain_jobs c group texts seeds s has line =
    let r = seeded_line_reads c group texts seeds s in
    seeded_text_is_plain_job c group texts seeds s has line (seeded_line c.wishes group texts) r.0 r.1

pub seeded_line_is_one_line : SeededLineIsOneLine
seeded_line_is_one_line c group texts seeds s =
    is_one_line c.wishes group (groups_are_clear s.line s.text c s.is_cleared group s.is_one) texts

-- the one line is read as the job, with no event
line_read : (c : Cleared) (group : Group) (texts seeds : List (List ℕ)) → IsSeeded c group texts seeds → (has : List ℕ → Bool)
    → job_of_lines has Make ((1, seeded_line c.wishes group texts) ∷ []) ≡ Ok (cleared_job c.wishes group seeds, [])
unfolding steps
line_read c group texts seeds s has = step _ (cleared_job c.wishes group seeds) _ (cleared_groups_are_plain_jobs c group texts seeds s has 1)

pub cleared_groups_are_plain_offers : ClearedGroupsArePlainOffers
unfolding parse_job
cleared_groups_are_plain_offers c group texts seeds s has =
    ap (job_of_lines has Make) (as_given c.wishes group texts (seeded_line_is_one_line c group texts seeds s)) ∙ line_read c group texts seeds s has

pub cleared_groups_are_made : ClearedGroupsAreMade
unfolding made_output made_text
cleared_groups_are_made c group texts seeds s has =
    ap (made_lines_output has) (as_given c.wishes group texts (seeded_line_is_one_line c group texts seeds s))
    ∙ step _ (cleared_job c.wishes group seeds, []) _ (line_read c group texts seeds s has)
