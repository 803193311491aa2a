-- A fair run of several swaps whose parties all conform is refused for no reason, and nothing is
-- found of it.
use Rattle.std.proofs.Common.{◌≡◌, ◌==◌, ◌<◌, ℕ, suc, ◌+◌, Bool, false, not, List, [], ◌∷◌, length, Option, Some, Result, Ok, Err, refl, sym, ap, ◌∙◌, subst, arith}
use Rattle.swap_io.specs.Tape.{Consumes, IsAtEnd, Tape}
use Rattle.swap_job.specs.declared.job.Job.{Job}
use Rattle.swap_job.specs.declared.job.Finish.TheVariants.{Fair}
use Rattle.outcome_rules.specs.Promises.{AllAreConforming}
use Rattle.command_input.specs.declared.reason.Reason.{Reason}
use Rattle.command_input.specs.Written.{Written}
use Rattle.command_input.specs.Lines.{collect_lines, filled_lines}
use Rattle.swap_run.specs.Asked.{Answers}
use Rattle.swap_world.specs.Gone.{MayGive}
use Rattle.swap_many.specs.Kept.{Kept}
use Rattle.many_lines.specs.Places.{job_of_swap}
use Rattle.many_text.specs.ManyText.{kept_report, finding_count}
use Rattle.swap_commands.specs.Words.{Command, Many, words_command}
use Rattle.swap_commands.specs.Many.{Headed, events_told, headed, many_state}
use Rattle.swap_commands.specs.Output.{Chance, reason_alone, command_output, no_chance, output_given_chance}
use Rattle.swap_commands.specs.Promised.{AsPromised, IsManyRun}
use Rattle.swap_commands.proofs.ManySaying.{gives_many}
use Rattle.swap_main.specs.Top.{AsksFairMany}
use Rattle.swap_main.proofs.Fairly.{all_read}

ok_same : {A E : Type 0} (x y : A) → ◌≡◌ {A = Result A E} (Ok x) (Ok y) → x ≡ y
ok_same x y e = cc e

-- nothing is found of the jobs from swap k on
none_from : (z : Kept) (k : ℕ) (jobs : List Job) → ((i : ℕ) → i < length jobs → (kept_report z (k + i) (job_of_swap jobs i)).findings ≡ [])
    → finding_count z k jobs ≡ 0
none_from z k [] none = refl
none_from z k (job ∷ jobs) none =
    let here : (kept_report z k job).findings ≡ [] = subst (λ n. (kept_report z n job).findings ≡ []) (same k) (none 0 (omega arith)) in
    let few : length (kept_report z k job).findings ≡ 0 = ap length here in
    let rest : finding_count z (k + 1) jobs ≡ 0 = none_from z (k + 1) jobs (λ i l.
    subst (λ n. (kept_report z n (job_of_swap jobs i)).findings ≡ []) (next k i) (none (suc i) (omega (arith, l)))) in
    omega (arith, few, rest)
  where
    same : (k : ℕ) → k + 0 ≡ k
    same k = omega arith

    next : (k i : ℕ) → k + suc i ≡ k + 1 + i
    next k i = omega arith

first_is : (i : ℕ) → i ≡ 0 + i
first_is i = omega arith

module _ (has : List ℕ → Bool) (words : List (List ℕ)) (left left' : Tape) (command : Command) (items : List ℕ)
    (asked : words_command words ≡ Some command) (taken : Consumes left left' items) (end : IsAtEnd left') (a : AsksFairMany has words left left') where
  is_many : command ≡ Many
  is_many = cc (sym asked ∙ a.asked)

  same_items : items ≡ a.input
  same_items = all_read has left left' a.input items a.told taken end

  is_headed : headed has (filled_lines 1 (collect_lines items)) ≡ Ok a.head
  is_headed = ap (λ (xs : List ℕ). headed has (filled_lines 1 (collect_lines xs))) same_items ∙ a.read

  pub many_is_not_refused : (reason : Reason) → ¬ (command_output has command items ≡ Err reason)
  unfolding output_given_chance
  many_is_not_refused reason e =
      let r : ◌≡◌ {A = Result Written Reason} (command_output has Many items) (Err reason) =
      ap (λ (c : Command). command_output has c items) (sym is_many) ∙ e in
      let nobody : Chance = no_chance in
      let made = ap reason_alone (gives_many has nobody.many items a.head [] a.places is_headed a.none a.placed) in
      cc (sym made ∙ r)

  nothing_found : (gives : MayGive) (g : ℕ → Answers) (output : Written) → IsManyRun has gives g items output → output.found ≡ false
  nothing_found gives g output p =
      let head : p.head ≡ a.head = ok_same p.head a.head (sym p.is_headed ∙ is_headed) in
      let events : p.events ≡ [] = ok_same p.events [] (sym p.are_told ∙ (ap (λ (h : Headed). events_told h.many 0 h.lines) head ∙ a.none)) in
      let finish : p.head.finish ≡ Fair = ap (λ (h : Headed). h.finish) head ∙ a.finish in
      let conforming = subst (λ (h : Headed). (s : ℕ) → s < length h.many.jobs
      → AllAreConforming (job_of_swap h.many.jobs s).deal (job_of_swap h.many.jobs s).conforming) (sym head) a.conforming in
      let z : Kept = many_state g p.head.many p.places p.head.finish p.events in
      let none : finding_count z 0 p.head.many.jobs ≡ 0 = none_from z 0 p.head.many.jobs (λ i l.
      subst (λ n. (kept_report z n (job_of_swap p.head.many.jobs i)).findings ≡ []) (first_is i) (p.fair finish events i l (conforming i l))) in
      ap (λ (w : Written). w.found) p.shown ∙ ap (λ (n : ℕ). not (n == 0)) none

  pub many_is_not_named : (gives : MayGive) (chance : Chance) (output : Written) → AsPromised has gives chance command items output → output.found ≡ false
  many_is_not_named gives chance output p =
      nothing_found gives chance.many output (subst (λ (c : Command). AsPromised has gives chance c items output) is_many p)
