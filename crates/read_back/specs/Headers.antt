-- The header line that is written of a job is read back, for an audit, as that job.
use Rattle.std.specs.Prelude.{◌≡◌, ◌<◌, ◌==◌, not, ℕ, Bool, List, [], true, false, length, map, All, Some, None, Ok, slice_index_or}
use Rattle.std.specs.Str.{is_utf8}
use Rattle.std.specs.List.{list_all}
use Rattle.serde_json.specs.Read.{read}
use Rattle.swap_digraph.specs.Deal.{IsWellSized}
use Rattle.swap_job.specs.declared.job.Job.{Job}
use Rattle.swap_job.specs.declared.job.Purpose.{Purpose}
use Rattle.swap_job.specs.declared.job.Purpose.TheVariants.{Audit}
use Rattle.swap_job.specs.declared.job.Finish.TheVariants.{Stop}
use Rattle.swap_rules.specs.Accepted.{IsAccepted}
use Rattle.offer_header.specs.Header.{simple_role}
use Rattle.offer_header.specs.Names.{is_name}
use Rattle.offer_header.specs.Raw.{is_plain}
use Rattle.offer_text.specs.HeaderLine.{header_line, is_make, shown_header}
use Rattle.swap_offer.specs.Job.{parse_header_job}
use Rattle.typed_books.specs.Typed.{IsDigest}

-- A job that a transcript can show. Its deal is accepted, the digests of the deal have 32 bytes
-- each, it isn't plain, and it has a name and an actor per party.
pub record IsShowable (job : Job) : Type 0 where
  pub stated : is_make job.purpose ≡ false
  pub sized : IsWellSized job.deal
  pub accepted : IsAccepted job.deal
  pub parties : length job.names ≡ job.deal.graph.n
  pub conforming : length job.conforming ≡ job.deal.graph.n
  pub names : All (λ x. is_name x ≡ true) job.names
  pub apart : (p q : ℕ) → p < length job.names → q < length job.names → slice_index_or job.names p [] ≡ slice_index_or job.names q [] → p ≡ q
  pub hashlocks : All IsDigest job.deal.hashlocks
  pub keys : All (All IsDigest) job.deal.keys

-- the job as an auditor knows it: without seeds and finish, and with every party that doesn't
-- conform acting by its own calls alone
abbrev pub audited_job : Job → Job
audited_job job = record {
  purpose = Audit;
  deal = job.deal;
  names = job.names;
  roles = map simple_role job.conforming;
  conforming = job.conforming;
  seeds = map (λ c. None) job.conforming;
  finish = Stop;
}

-- A text that reads as the header of a job gives that job, whatever strategies exist.
abbrev pub HeaderIsReadBack : Type 0
HeaderIsReadBack =
    (has : List ℕ → Bool) (job : Job) (line : ℕ) (text : List ℕ) → IsShowable job → is_utf8 text ≡ true → read text ≡ Some (shown_header job)
    → parse_header_job has Audit line text ≡ Ok (audited_job job)

-- The header line of a job is text, and is read as the header that is shown.
abbrev pub HeaderReads : Type 0
HeaderReads = (job : Job) → IsShowable job → (is_utf8 (header_line job) ≡ true) × (read (header_line job) ≡ Some (shown_header job))

-- The header line of a job is one line.
abbrev pub HeaderIsOneLine : Type 0
HeaderIsOneLine = (job : Job) → IsShowable job → list_all (λ x. not (x == 10)) (header_line job) ≡ true

-- Every job that a header line gives, but for a plain one, can be shown.
abbrev pub ReadIsShowable : Type 0
ReadIsShowable =
    (has : List ℕ → Bool) (purpose : Purpose) (line : ℕ) (text : List ℕ) (job : Job) → is_plain purpose ≡ false
    → parse_header_job has purpose line text ≡ Ok job → IsShowable job
