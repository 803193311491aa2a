-- What is written of a made job is read as that job, for a check, a run and a race.
use Rattle.std.proofs.Common.{◌≡◌, ℕ, Bool, true, cond, List, length, Some, Ok, Err, sym, ap, ◌∙◌, subst}
use Rattle.std.specs.Prelude.{replicate}
use Rattle.std.specs.Str.{is_utf8}
use Rattle.serde_json.specs.Read.{read}
use Rattle.swap_digraph.specs.declared.deal.Deal.{Deal}
use Rattle.hashkey_path.specs.Digest.{deal_id}
use Rattle.hashkey_path.proofs.Feeding.{any_id}
use Rattle.swap_job.specs.declared.job.Job.{Job}
use Rattle.command_input.specs.declared.reason.Reason.TheVariants.{NotJson}
use Rattle.offer_moves.specs.Fields.{parse_data, object_or}
use Rattle.offer_header.specs.Header.{parse_whole_header, IsHeaderInLimits}
use Rattle.offer_header.specs.Raw.{is_plain, IsVersionMode}
use Rattle.offer_header.specs.Scripts.{scripts_placed}
use Rattle.offer_header.proofs.Limited.{set_contains_ends}
use Rattle.offer_header.proofs.Numbered.{is_numbered}
use Rattle.offer_text.specs.HeaderLine.{made_header}
use Rattle.swap_offer.specs.Checks.{admitted, header_deal, header_digraph, assemble_job, unnamed, IsAcceptedUnless}
use Rattle.swap_offer.specs.Job.{accepted_entries, parse_header_job, provided}
use Rattle.swap_offer.proofs.Admitted.{admitted_is_accepted}
use Rattle.read_back.proofs.HeaderNamed.{numbered_at}
use Rattle.read_back.proofs.Steps.{step}
use Rattle.read_back.proofs.HeaderWhole.{is_remade, mode_of_version, remade, untimed}
use Rattle.read_back.proofs.MadeFields.{raw_back, told_header}
use Rattle.read_back.proofs.MadeLimited.{header_at, limited_back, not_plain}
use Rattle.read_back.proofs.MadeNamed.{numbered_back}
use Rattle.read_back.proofs.ToldJobs.{IsTold}

object_back : (line : ℕ) (text : List ℕ) (job : Job) → is_utf8 text ≡ true → read text ≡ Some (made_header job) → parse_data line text ≡ Ok (made_header job)
unfolding parse_data
object_back line text job utf8 reads =
    ap (λ (b : Bool). cond b (object_or line (read text)) (Err (NotJson line))) utf8
    ∙ ap (object_or line) reads

module _ (has : List ℕ → Bool) (job : Job) (k : IsTold has job) (line : ℕ) where
  is_mode : IsVersionMode job.deal.version job.deal.mode
  is_mode = mode_of_version job.deal.version job.deal k.shown.accepted.of_version

  all_placed : scripts_placed line (header_at job) ≡ Ok tt
  unfolding scripts_placed
  all_placed = k.placed line

  header_back : (text : List ℕ) → is_utf8 text ≡ true → read text ≡ Some (made_header job) → parse_whole_header has job.purpose line text ≡ Ok (header_at job)
  unfolding parse_whole_header
  header_back text utf8 reads =
      step _ (made_header job) _ (object_back line text job utf8 reads)
      ∙ step _ (told_header job.deal.mode job) _ (raw_back job.purpose line job k.purpose is_mode)
      ∙ step _ (numbered_at job) _ (numbered_back has job k line job.deal.mode)
      ∙ step _ (header_at job) _ (limited_back has job k line)
      ∙ step _ tt _ all_placed

  within : IsHeaderInLimits (header_at job)
  within =
      set_contains_ends line job.purpose (told_header job.deal.mode job) (numbered_at job) (header_at job)
      (is_numbered has line (told_header job.deal.mode job) (numbered_at job) (numbered_back has job k line job.deal.mode)) is_mode
      (untimed job k.shown line job.deal.mode) (limited_back has job k line)

  -- the deal of the header is the job's

  id_is : deal_id (unnamed (header_at job) (header_digraph (header_at job)) (replicate 32 0)) ≡ job.deal.id
  id_is =
      any_id (remade job k.shown line (length job.names)) (replicate 32 0)
      ∙ ap deal_id (is_remade job k.shown line) ∙ sym k.shown.accepted.id

  deal_is : header_deal (header_at job) (header_digraph (header_at job)) ≡ job.deal
  deal_is = ap (unnamed (header_at job) (header_digraph (header_at job))) id_is ∙ is_remade job k.shown line

  is_admitted : admitted (header_at job) ≡ Ok (header_digraph (header_at job))
  is_admitted =
      (admitted_is_accepted (header_at job) within).1
      (subst (λ (d : Deal). IsAcceptedUnless (is_plain job.purpose) d) (sym deal_is)
      (subst (λ (b : Bool). IsAcceptedUnless b job.deal) (sym (not_plain job.purpose k.purpose)) k.shown.accepted))

  job_is : assemble_job (header_at job) (header_digraph (header_at job)) ≡ job
  job_is = ap (λ (d : Deal). record job { deal = d }) deal_is

  accepted_back : accepted_entries (header_at job) ≡ Ok job
  unfolding accepted_entries
  accepted_back =
      step _ (header_digraph (header_at job)) _ is_admitted
      ∙ step _ tt _ (subst (λ (x : Job). provided x ≡ Ok tt) (sym job_is) k.lacks_none)
      ∙ ap (λ (j : Job). Ok j) job_is

  pub job_back : (text : List ℕ) → is_utf8 text ≡ true → read text ≡ Some (made_header job) → parse_header_job has job.purpose line text ≡ Ok job
  unfolding parse_header_job
  job_back text utf8 reads = step _ (header_at job) _ (header_back text utf8 reads) ∙ accepted_back
