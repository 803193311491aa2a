-- What several swaps promise of what is shown of them: the laws of their run by the histories of
-- the chains.
use Rattle.std.proofs.Common.{◌≡◌, ◌<◌, ℕ, false, List, [], length, sym, ap, arith, subst}
use Rattle.std.specs.List.{All}
use Rattle.ledger_core.specs.Book.{Histories}
use Rattle.swap_job.specs.declared.job.Finish.{Finish}
use Rattle.swap_job.specs.declared.job.Finish.TheVariants.{Stop, Fair}
use Rattle.swap_rules.specs.Findings.{findings}
use Rattle.swap_rules.specs.Outcome.{IsEnded}
use Rattle.outcome_rules.specs.Report.{is_conforming_party, build_report}
use Rattle.outcome_rules.specs.Promises.{AllAreConforming}
use Rattle.swap_run.specs.Asked.{Answers, with_answers}
use Rattle.swap_run.specs.Run.{Cast, State}
use Rattle.swap_run.specs.Laws.{IsKept}
use Rattle.swap_world.specs.Cast.{job_cast}
use Rattle.swap_many.specs.declared.many_event.ManyEvent.{ManyEvent}
use Rattle.swap_many.specs.declared.place.Place.{Place}
use Rattle.swap_many.specs.Chains.{Setup, book}
use Rattle.swap_many.specs.Many.{Run, many_finish, many_start}
use Rattle.swap_many.specs.Kept.{Kept, kept_finish, kept_run, kept_start}
use Rattle.swap_many.specs.Laws.{CanCome, Follows, IsReadySetup}
use Rattle.swap_many.specs.Value.{AreUnitsPlaced}
use Rattle.swap_many.proofs.Follow.{books_are_kept, runs_follow}
use Rattle.swap_many.proofs.Finish.{many_finishes_end}
use Rattle.swap_many.proofs.Units.{units_are_placed}
use Rattle.swap_many.proofs.Dealt.{every_fair_swap_is_dealt}
use Rattle.many_lines.specs.Places.{job_of_swap}
use Rattle.many_lines.specs.Setup.{setup_with_answers}
use Rattle.many_lines.specs.Whole.{AreSwaps}
use Rattle.many_lines.specs.declared.many_job.ManyJob.{ManyJob}
use Rattle.many_text.specs.ManyText.{swap_book, kept_report}
use Rattle.swap_commands.specs.Many.{kept_after_finish, many_state, finished_run}
use Rattle.swap_commands.specs.Promised.{AreManyPromised}
use Rattle.swap_commands.proofs.Promises.{is_promised}

-- What holds of a run at its end, stopped or finished.
record Holds (m : Setup) (r : Run) (z : Kept) : Type 0 where
  pub follows : Follows m r z
  pub kept : (s : ℕ) → s < m.swaps → IsKept (m.cast s) (book m r.chains s)
  pub units : AreUnitsPlaced m r

module _ (m : Setup) (events : List ManyEvent) (ready : IsReadySetup m) (can : All (CanCome m) events) where
  all_holds : (finish : Finish) → Holds m (finished_run finish m events) (kept_after_finish finish m (kept_run m events))
  all_holds Stop = record {
    follows = (runs_follow m events ready can).0;
    kept = λ s l. books_are_kept m events s ready can l;
    units = λ i l. units_are_placed m events i ready can l;
  }
  all_holds Fair = let f = many_finishes_end m events ready can in record { follows = f.follows; kept = f.kept; units = f.units }

  all_ended : (finish : Finish) → finish ≡ Fair → (s : ℕ) → s < m.swaps → IsEnded (m.cast s).deal (book m (finished_run finish m events).chains s)
  all_ended Stop e = absurd (cc e)
  all_ended Fair e = (many_finishes_end m events ready can).ended

-- the book that is kept is that of the histories
book_is : (m : Setup) (r : Run) (z : Kept) (s : ℕ) → Follows m r z → s < m.swaps → book m r.chains s ≡ swap_book z s
book_is m r z s follows l = sym (ap (λ (t : State). t.book) (follows.swaps s l))

without_answers : (c : Cast) (g : Answers) (b : Histories) → IsKept (with_answers c g) b → IsKept c b
without_answers c g b k = record { legal = k.legal; conducted = k.conducted }

module _ (many : ManyJob) (g : ℕ → Answers) (places : List (List Place)) (events : List ManyEvent) (swaps : AreSwaps many)
    (ready : IsReadySetup (setup_with_answers g many places)) (can : All (CanCome (setup_with_answers g many places)) events) (finish : Finish) where
  pub are_promised : AreManyPromised many (setup_with_answers g many places) (finished_run finish (setup_with_answers g many places) events) (many_state g many places finish events)
  are_promised =
      let m : Setup = setup_with_answers g many places in
      let r : Run = finished_run finish m events in
      let z : Kept = many_state g many places finish events in
      let h : Holds m r z = all_holds m events ready can finish in
      record {
        follows = h.follows;
        swaps = λ s l.
            let job = job_of_swap many.jobs s in
            is_promised (λ name. false) job (swap_book z s) (swaps.swaps s l).accepted
            (subst (λ (b : Histories). IsKept (job_cast job) b) (book_is m r z s h.follows l)
            (without_answers (job_cast job) (g s) (book m r.chains s) (h.kept s l)));
        units = h.units;
      }

  pub are_ended : finish ≡ Fair → (s : ℕ) → s < length many.jobs → IsEnded (job_of_swap many.jobs s).deal (swap_book (many_state g many places finish events) s)
  are_ended fair s l =
      let m : Setup = setup_with_answers g many places in
      subst (λ (b : Histories). IsEnded (job_of_swap many.jobs s).deal b)
      (book_is m (finished_run finish m events) (many_state g many places finish events) s (all_holds m events ready can finish).follows l)
      (all_ended m events ready can finish fair s l)

  -- a swap whose parties all conform, where the finish is fair and no event came before it
  fair_dealt : (s : ℕ) → s < length many.jobs → AllAreConforming (job_of_swap many.jobs s).deal (job_of_swap many.jobs s).conforming
      → (kept_report (many_state g many places Fair []) s (job_of_swap many.jobs s)).findings ≡ []
  unfolding build_report
  fair_dealt s l all =
      let m : Setup = setup_with_answers g many places in
      let job = job_of_swap many.jobs s in
      let f = many_finishes_end m [] ready (λ i x low. absurd (omega (arith, low))) in
      subst (λ (b : Histories). findings job.deal (is_conforming_party job.conforming) b ≡ [])
      (book_is m (many_finish m (many_start m)) (kept_finish m (kept_start m)) s f.follows l) (every_fair_swap_is_dealt m s ready l all).nothing

  pub are_fair : finish ≡ Fair → events ≡ [] → (s : ℕ) → s < length many.jobs → AllAreConforming (job_of_swap many.jobs s).deal (job_of_swap many.jobs s).conforming
      → (kept_report (many_state g many places finish events) s (job_of_swap many.jobs s)).findings ≡ []
  are_fair fair none s l all =
      subst (λ (x : Finish × List ManyEvent). (kept_report (many_state g many places x.0 x.1) s (job_of_swap many.jobs s)).findings ≡ [])
      (λ i. (sym fair i, sym none i)) (fair_dealt s l all)
