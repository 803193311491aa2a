-- What an audit writes of a transcript is what was promised of its job and book.
use Rattle.std.proofs.Common.{◌≡◌, ◌≤◌, ℕ, Bool, true, false, List, [], ◌∷◌, length, Result, Ok, refl, sym, ap, ◌∙◌, subst}
use Rattle.swap_base.specs.Fault.{◌>>=◌}
use Rattle.std.proofs.lemmas.List.Elements.{All-weaker}
use Rattle.ledger_core.specs.declared.entry.Call.{Call}
use Rattle.ledger_core.specs.declared.entry.Call.TheVariants.{Publish, Unlock, Claim, Refund, Transfer}
use Rattle.ledger_core.specs.declared.entry.What.{What}
use Rattle.ledger_core.specs.declared.entry.What.TheVariants.{Call as Made, Tick}
use Rattle.ledger_core.specs.Book.{Histories, history, IsLegalBook}
use Rattle.swap_job.specs.declared.event.Event.{Event}
use Rattle.swap_job.specs.declared.job.Job.{Job}
use Rattle.swap_job.specs.declared.job.Purpose.{Purpose}
use Rattle.swap_job.specs.declared.job.Purpose.TheVariants as purposes
use Rattle.swap_run.specs.Program.{program_rule}
use Rattle.command_input.specs.declared.reason.Reason.{Reason}
use Rattle.offer_moves.proofs.Chains.{went}
use Rattle.offer_header.specs.Raw.{is_plain}
use Rattle.swap_offer.specs.Job.{parse_job_events, parse_header_job, parse_job, job_of_lines}
use Rattle.command_input.specs.Lines.{filled_lines, collect_lines}
use Rattle.read_back.specs.Headers.{IsShowable}
use Rattle.read_back.proofs.Onward.{ok_is}
use Rattle.read_back.proofs.Showable.{read_is_showable}
use Rattle.program_laws.specs.Digests.{HasDigests, StatesDigests, HoldsDigests}
use Rattle.program_laws.specs.Transcripts.{HasTranscript}
use Rattle.program_laws.proofs.Reports.{same_report}
use Rattle.transcript_book.specs.Lines.{transcript}
use Rattle.typed_books.specs.Typed.{IsTypedCall, IsTypedWhat}
use Rattle.typed_books.specs.Books.{IsTypedBook, IsTypedEntry}
use Rattle.command_input.specs.Input.{limit}
use Rattle.audit_command.specs.Output.{audit_output}
use Rattle.command_input.specs.Written.{Written}
use Rattle.command_input.specs.Streams.{Streams}
use Rattle.swap_commands.specs.Output.{Chance, collected_book, reason_alone, output_given_chance, reported}
use Rattle.swap_commands.specs.Words.{OfJob, Audit, Run, Race, Command}
use Rattle.swap_commands.specs.Promised.{AsPromised}
use Rattle.swap_commands.specs.Strategies.{given_strategies}
use Rattle.swap_main.specs.KnownStrategies.{by_rule, is_known}
use Rattle.swap_main.specs.Top.{IsDone}
use Rattle.program_laws.proofs.Rules.{program_keeps_digests}
use Rattle.program_laws.proofs.Whole.{runs_hold_digests}
use Rattle.program_laws.specs.Laws.{AuditsTellTheRace, AuditsTellTheRun, IsAudited, ProgramRacesAreAudited, ProgramRunsAreAudited, RacesAreAudited}
use Rattle.program_laws.specs.Laws.{RunsAreAudited}

-- ---- a job that was read can be shown

lines_showable : (has : List ℕ → Bool) (purpose : Purpose) (ls : List (ℕ × List ℕ)) (job : Job) (events : List Event) → is_plain purpose ≡ false
    → job_of_lines has purpose ls ≡ Ok (job, events) → IsShowable job
lines_showable has purpose [] job events stated e = absurd (cc e)
lines_showable has purpose (l ∷ ls) job events stated e =
    let one = went (parse_header_job has purpose l.0 l.1) _ (job, events) e in
    let two = went (parse_job_events purpose one.0 ls) _ (job, events) one.2 in
    let same : one.0 ≡ job = ap (λ (p : Job × List Event). p.0) (ok_is (one.0, two.0) (job, events) two.2) in
    subst IsShowable same (read_is_showable has purpose l.0 l.1 one.0 stated one.1)

job_showable : (has : List ℕ → Bool) (purpose : Purpose) (input : List ℕ) (job : Job) (events : List Event) → is_plain purpose ≡ false
    → parse_job has purpose input ≡ Ok (job, events) → IsShowable job
unfolding parse_job
job_showable has purpose input job events stated e = lines_showable has purpose (filled_lines 1 (collect_lines input)) job events stated e

-- ---- a book of the program's own types holds digests

call_digests : (c : Call) → IsTypedCall c → HasDigests c
call_digests (Publish t) k = k.locks
call_digests (Unlock key) k = (k.secret, k.sigs)
call_digests Claim k = tt
call_digests Refund k = tt
call_digests (Transfer to units) k = tt

what_digests : (w : What) → IsTypedWhat w → StatesDigests w
what_digests (Made c) k = call_digests c k
what_digests (Tick n) k = tt

holds_digests : (b : Histories) → IsTypedBook b → HoldsDigests b
holds_digests b typed = λ a lt.
    All-weaker IsTypedEntry (λ e. StatesDigests e.what) (λ e k. what_digests e.what k) (history b a) (typed a [] lt)

-- ---- what an audit writes of a text that is a transcript

audit_writes : (has : List ℕ → Bool) (chance : Chance) (job : Job) (b : Histories) (output : Written) → IsShowable job → IsLegalBook job.deal b → HoldsDigests b
    → output ≡ reported true job b → length output.text ≤ limit → output_given_chance has chance Audit output.text ≡ Ok (reported false job b)
unfolding output_given_chance reported
audit_writes has chance job b output showable legal digests is le =
    let text : output.text ≡ transcript job b = ap (λ (w : Written). w.text) is in
    let k : HasTranscript job b = record {
      showable = showable;
      legal = legal;
      digests = digests;
      short = subst (λ (l : List ℕ). length l ≤ limit) text le;
    } in
    ap (λ (l : List ℕ). reason_alone (audit_output l)) text
    ∙ ap reason_alone (same_report job b k)

-- ---- what a run and a race write

run_writes : (has : List ℕ → Bool) (chance : Chance) (input : List ℕ) (job : Job) (events : List Event) → parse_job has purposes.Run input ≡ Ok (job, events)
    → output_given_chance has chance (OfJob (Run false)) input ≡ Ok (reported false job (collected_book chance.answers job events))
unfolding output_given_chance
run_writes has chance input job events e =
    ap (λ (r : Result (Job × List Event) Reason). r >>= λ j. Ok (reported false j.0 (collected_book chance.answers j.0 j.1))) e

race_writes : (has : List ℕ → Bool) (chance : Chance) (ticks : ℕ) (input : List ℕ) (job : Job) → parse_job has purposes.Race input ≡ Ok (job, [])
    → output_given_chance has chance (OfJob (Race ticks false)) input ≡ Ok (reported false job chance.book)
unfolding output_given_chance
race_writes has chance ticks input job e =
    ap (λ (r : Result (Job × List Event) Reason). r >>= λ j. Ok (reported false j.0 chance.book)) e

-- ---- the laws

-- either tells of a finding where the other does
same_found : (job : Job) (b : Histories) (output : Written) → output ≡ reported true job b → (reported false job b).found ≡ output.found
unfolding reported
same_found job b output is = ap (λ (w : Written). w.found) (sym is)

audited_as : (has : List ℕ → Bool) (chance : Chance) (command : Command) (input : List ℕ) (job : Job) (b : Histories) (output : Written) → IsShowable job
    → IsLegalBook job.deal b → HoldsDigests b → output ≡ reported true job b → length output.text ≤ limit
    → output_given_chance has chance command input ≡ Ok (reported false job b) → IsAudited has chance command input output
audited_as has chance command input job b output showable legal digests is le writes = record {
  report = reported false job b;
  audited = audit_writes has chance job b output showable legal digests is le;
  same = writes;
  found = same_found job b output is;
}

pub runs_are_audited : RunsAreAudited
runs_are_audited rule has chance input output keeps p le =
    audited_as has chance (OfJob (Run false)) input p.job (collected_book chance.answers p.job p.events) output
    (job_showable has purposes.Run input p.job p.events refl p.is_read) p.promised.kept.legal
    (runs_hold_digests rule has chance.answers input p.job p.events keeps p.is_read p.given) p.shown le
    (run_writes has chance input p.job p.events p.is_read)

pub races_are_audited : RacesAreAudited
races_are_audited rule has chance ticks input output p le =
    audited_as has chance (OfJob (Race ticks false)) input p.job chance.book output (job_showable has purposes.Race input p.job [] refl p.is_read)
    p.promised.kept.legal (holds_digests chance.book p.raced.typed) p.shown le (race_writes has chance ticks input p.job p.is_read)

pub program_runs_are_audited : ProgramRunsAreAudited
program_runs_are_audited words before after found done e le =
    runs_are_audited program_rule is_known done.chance done.read.input done.output program_keeps_digests
    (subst (λ (c : Command). AsPromised is_known (by_rule program_rule) done.chance c done.read.input done.output) e done.promised) le

pub program_races_are_audited : ProgramRacesAreAudited
program_races_are_audited words before after found ticks done e le =
    races_are_audited program_rule is_known done.chance ticks done.read.input done.output
    (subst (λ (c : Command). AsPromised is_known (by_rule program_rule) done.chance c done.read.input done.output) e done.promised) le

-- ---- an audit that is done

-- what an audit writes depends on no chance
any_chance : (has : List ℕ → Bool) (a b : Chance) (text : List ℕ) → output_given_chance has a Audit text ≡ output_given_chance has b Audit text
unfolding output_given_chance
any_chance has a b text = refl

module _ (words others : List (List ℕ)) (before after first last : Streams) (found named : Bool)
    (done : IsDone (given_strategies is_known (by_rule program_rule)) words before after found)
    (told : IsDone (given_strategies is_known (by_rule program_rule)) others first last named) (q : told.read.command ≡ Audit)
    (same : told.read.input ≡ done.output.text) where
  within : length done.output.text ≤ limit
  within = subst (λ (l : List ℕ). length l ≤ limit) same told.read.within

  tells : (command : Command) → IsAudited is_known done.chance command done.read.input done.output
      → (output_given_chance is_known done.chance command done.read.input ≡ Ok told.output) × (named ≡ found)
  tells command k =
      let asked : output_given_chance is_known told.chance Audit told.read.input ≡ Ok told.output =
      subst (λ (c : Command). output_given_chance is_known told.chance c told.read.input ≡ Ok told.output) q told.read.gives in
      let read : output_given_chance is_known told.chance Audit done.output.text ≡ Ok told.output =
      subst (λ (l : List ℕ). output_given_chance is_known told.chance Audit l ≡ Ok told.output) same asked in
      let is : k.report ≡ told.output =
      ok_is k.report told.output (sym k.audited ∙ any_chance is_known done.chance told.chance done.output.text ∙ read) in (
        k.same ∙ ap (λ (w : Written). let r : Result Written Reason = Ok w in r) is,
        sym told.findings ∙ ap (λ (w : Written). w.found) (sym is) ∙ k.found ∙ done.findings,
      )

pub audits_tell_the_run : AuditsTellTheRun
audits_tell_the_run words others before after first last found named done e told q same =
    tells words others before after first last found named done told q same (OfJob (Run false))
    (program_runs_are_audited words before after found done e
    (within words others before after first last found named done told q same))

pub audits_tell_the_race : AuditsTellTheRace
audits_tell_the_race words others before after first last found named ticks done e told q same =
    tells words others before after first last found named done told q same (OfJob (Race ticks false))
    (program_races_are_audited words before after found ticks done e
    (within words others before after first last found named done told q same))
