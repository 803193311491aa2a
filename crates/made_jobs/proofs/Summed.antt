-- The summary of a number's job, from its run.
use Rattle.std.proofs.Common.{◌≡◌, ◌==◌, ℕ, Bool, not, List, Option, length, sym, ap, ap₂, ◌∙◌, subst}
use Rattle.ledger_core.specs.Book.{Histories, IsLegalBook}
use Rattle.swap_job.specs.declared.job.Job.{Job}
use Rattle.outcome_rules.specs.declared.report.Report.{Report}
use Rattle.outcome_rules.specs.Report.{build_report}
use Rattle.swap_rules.specs.Outcome.{IsEnded}
use Rattle.swap_run.specs.Laws.{IsKept}
use Rattle.swap_world.specs.Cast.{job_cast}
use Rattle.party_wallet.specs.Value.{WalletState}
use Rattle.swap_gen.specs.Drawn.{generated}
use Rattle.swap_gen.specs.Owned.{inside_wallets}
use Rattle.swap_gen.specs.Events.{first_place, GeneratorState}
use Rattle.made_jobs.specs.Summary.{summary, outcome_summary}
use Rattle.made_jobs.specs.Generating.{generated_book, generated_summary, is_found}

-- A report's numbers are those of the summary.

pub summed_is : (job : Job) (count : ℕ) (b : Histories) (r : Report) (t : List ℕ) → r ≡ build_report job.deal job.conforming b
    → t ≡ outcome_summary job.deal count b r.outcomes (length r.findings) → t ≡ summary job count b
unfolding summary build_report
summed_is job count b r t is e = e ∙ ap (λ (x : Report). outcome_summary job.deal count b x.outcomes (length x.findings)) is

pub found_is : (job : Job) (b : Histories) (r : Report) (found : Bool) → r ≡ build_report job.deal job.conforming b → found ≡ not (length r.findings == 0)
    → found ≡ is_found job b
found_is job b r found is e = e ∙ ap (λ (x : Report). not (length x.findings == 0)) is

-- A generator that has gone on in the job of its number.
module _ (seed n count : ℕ) (first : GeneratorState) (begins : first ≡ record { seed = seed; parties = n; place = first_place seed n }) where
  pub job_still : (now : GeneratorState) (j : Job) → now.seed ≡ first.seed → now.parties ≡ first.parties → j ≡ generated now.seed now.parties
      → j ≡ generated seed n
  job_still now j s p e =
      e ∙ ap (λ x. generated x now.parties) (s ∙ ap (λ (g : GeneratorState). g.seed) begins)
      ∙ ap (λ m. generated seed m) (p ∙ ap (λ (g : GeneratorState). g.parties) begins)

  pub wallets_still : (wallets : List (Option WalletState)) → wallets ≡ inside_wallets (generated seed n)
      → wallets ≡ inside_wallets (generated first.seed first.parties)
  wallets_still wallets e = e ∙ ap (λ (g : GeneratorState). inside_wallets (generated g.seed g.parties)) (sym begins)

  pub book_still : (b : Histories) → b ≡ generated_book first.seed first.parties count → b ≡ generated_book seed n count
  book_still b e = e ∙ ap (λ (g : GeneratorState). generated_book g.seed g.parties count) begins

  pub kept_still : IsKept (job_cast (generated first.seed first.parties)) (generated_book first.seed first.parties count)
      → IsKept (job_cast (generated seed n)) (generated_book seed n count)
  kept_still k = subst (λ (g : GeneratorState). IsKept (job_cast (generated g.seed g.parties)) (generated_book g.seed g.parties count)) begins k

  pub ended_still : IsEnded (generated first.seed first.parties).deal (generated_book first.seed first.parties count)
      → IsEnded (generated seed n).deal (generated_book seed n count)
  ended_still k = subst (λ (g : GeneratorState). IsEnded (generated g.seed g.parties).deal (generated_book g.seed g.parties count)) begins k

-- What is summed of the number's job and its book.
module _ (seed n count : ℕ) (j : Job) (b : Histories) (job_is : j ≡ generated seed n) (book_is : b ≡ generated_book seed n count) where
  pub legal_is : IsKept (job_cast (generated seed n)) (generated_book seed n count) → IsLegalBook j.deal b
  legal_is k =
      subst (λ (x : Job). IsLegalBook x.deal b) (sym job_is) (subst (λ (y : Histories). IsLegalBook (generated seed n).deal y) (sym book_is) k.legal)

  pub text_is : (t : List ℕ) → t ≡ summary j count b → t ≡ generated_summary seed n count
  unfolding generated_summary
  text_is t e = e ∙ ap₂ (λ (x : Job) (y : Histories). summary x count y) job_is book_is

  pub shown_is : (found : Bool) → found ≡ is_found j b → found ≡ is_found (generated seed n) (generated_book seed n count)
  shown_is found e = e ∙ ap₂ (λ (x : Job) (y : Histories). is_found x y) job_is book_is
