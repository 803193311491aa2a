-- Where what is written is determined.
use Rattle.std.proofs.Common.{◌≡◌, ℕ, Bool, true, false, cond, List, [], ◌∷◌, length, get_or, Result, Ok, Option, refl}
use Rattle.std.proofs.Common.{sym, ap, ◌∙◌, subst, arith}
use Rattle.std.specs.List.{list_any}
use Rattle.std.proofs.lemmas.List.{get_or_append_left}
use Rattle.swap_digraph.specs.declared.deal.Deal.{Deal}
use Rattle.ledger_core.specs.declared.entry.Call.{Call}
use Rattle.ledger_core.specs.Book.{Histories}
use Rattle.swap_job.specs.Resolved.{resolved}
use Rattle.swap_run.specs.Script.{next_call, moves_left}
use Rattle.swap_job.specs.declared.event.Event.{Event}
use Rattle.swap_job.specs.declared.event.Event.TheVariants.{Tick, Look, Act, Call as Made, Crash}
use Rattle.swap_job.specs.declared.job.Finish.{Finish}
use Rattle.swap_job.specs.declared.job.Finish.TheVariants.{Stop, Fair}
use Rattle.swap_job.specs.declared.job.Job.{Job}
use Rattle.swap_job.specs.declared.job.Purpose.TheVariants as purposes
use Rattle.swap_job.specs.declared.job.Role.{Role}
use Rattle.swap_job.specs.declared.job.Role.TheVariants.{Conforming, Manual, Script, Strategy}
use Rattle.command_input.specs.declared.reason.Reason.{Reason}
use Rattle.swap_rules.specs.Machine.{Begins}
use Rattle.swap_rules.proofs.Prefixes.{begins_more, begins_refl}
use Rattle.swap_run.specs.Asked.{Answers, StrategyRule, is_strategy, IsByRule}
use Rattle.swap_run.specs.Run.{Cast, Question, State, conforms, party_role, party_plan, look, next_action, act, watch, after_turn, question}
use Rattle.swap_run.specs.Run.{after_question, answered_call, role_act, step, continued_run, run, start}
use Rattle.swap_run.proofs.Asked.{runs_without_strategies, finishes_without_strategies, rules_decide_runs, rules_decide_finishes, take_asked, make_asked, begins_length}
use Rattle.swap_run.proofs.Reached.{finish_events}
use Rattle.swap_world.specs.Cast.{job_cast}
use Rattle.swap_offer.specs.Job.{parse_job}
use Rattle.command_input.specs.Lines.{collect_lines, filled_lines}
use Rattle.command_input.specs.Written.{Written}
use Rattle.swap_main.specs.Laws.{SameWithoutStrategies, RulesDecide}
use Rattle.swap_main.specs.KnownStrategies.{by_rule}
use Rattle.swap_main.proofs.ManyTexts.{one_text}
use Rattle.swap_commands.specs.Output.{AreGiven, Chance, command_cast, finished_state, output_given_chance, job_output, reported, run_state}
use Rattle.swap_commands.specs.Words.{OfJob, Audit, Clear, Many, Check, Run, Race, Make}
use Rattle.swap_main.proofs.ManyDecided.{as_before}

-- What is written depends on the state alone.

written_for : (a b : Chance) (transcript : Bool) (job : Job) (events : List Event) (read : Result (Job × List Event) Reason) (ls : List (ℕ × List ℕ))
    → read ≡ Ok (job, events) → run_state a.answers job events ≡ run_state b.answers job events
    → job_output a (Run transcript) ls read ≡ job_output b (Run transcript) ls read
written_for a b transcript job events read ls is same =
    ap (λ (r : Result (Job × List Event) Reason). job_output a (Run transcript) ls r) is
    ∙ (ap (λ (s : State). let r : Result Written Reason = Ok (reported transcript job s.book) in r) same
    ∙ sym (ap (λ (r : Result (Job × List Event) Reason). job_output b (Run transcript) ls r) is))

written_same : (has : List ℕ → Bool) (a b : Chance) (transcript : Bool) (input : List ℕ) (job : Job) (events : List Event)
    → parse_job has purposes.Run input ≡ Ok (job, events) → run_state a.answers job events ≡ run_state b.answers job events
    → output_given_chance has a (OfJob (Run transcript)) input ≡ output_given_chance has b (OfJob (Run transcript)) input
unfolding output_given_chance
written_same has a b transcript input job events is same =
    written_for a b transcript job events (parse_job has purposes.Run input) (filled_lines 1 (collect_lines input)) is same

-- Where nobody follows a strategy.

plain_finish : (fin : Finish) (job : Job) (a : Answers) (s : State) → list_any is_strategy job.roles ≡ false
    → finished_state fin (command_cast a job) s ≡ finished_state fin (job_cast job) s
plain_finish Stop job a s none = refl
plain_finish Fair job a s none = finishes_without_strategies (job_cast job) a s none

plain_state : (job : Job) (a : Answers) (events : List Event) → list_any is_strategy job.roles ≡ false
    → run_state a job events ≡ finished_state job.finish (job_cast job) (run (job_cast job) events)
plain_state job a events none =
    ap (λ (s : State). finished_state job.finish (command_cast a job) s) (runs_without_strategies (job_cast job) a (start (job_cast job)) events none)
    ∙ plain_finish job.finish job a (run (job_cast job) events) none

pub same_without_strategies : SameWithoutStrategies
same_without_strategies has a b transcript input job events is none =
    written_same has a b transcript input job events is (plain_state job a.answers events none ∙ sym (plain_state job b.answers events none))

-- What is asked stays in its place.

act_begins : (c : Cast) (s : State) (v : ℕ) (role : Role) → Begins s.asked (role_act c s v role).asked
act_begins c s v Conforming = begins_refl s.asked
act_begins c s v Manual = begins_refl s.asked
act_begins c s v (Script moves) =
    as_before s (role_act c s v (Script moves)) (take_asked c (after_turn s v (moves_left (party_plan s v).known (party_plan s v).moves)) v
    (next_call c.deal c.seeds (party_plan s v).known (party_plan s v).moves))
act_begins c s v (Strategy name) =
    (question s v name ∷ [], take_asked c (after_question s v name) v (answered_call c.deal v (c.answers (length s.asked))))

either_begins : (b : Bool) (s t u : State) → Begins s.asked t.asked → Begins s.asked u.asked → Begins s.asked (cond b t u).asked
either_begins true s t u x y = x
either_begins false s t u x y = y

step_begins : (c : Cast) (s : State) (e : Event) → Begins s.asked (step c s e).asked
step_begins c s (Tick a k) = begins_refl s.asked
step_begins c s (Look v a) = either_begins (conforms c v) s (look s v a) (watch c s v a) (begins_refl s.asked) (begins_refl s.asked)
step_begins c s (Act v) =
    either_begins (conforms c v) s (act c s v) (role_act c s v (party_role c v)) (as_before s (act c s v) (make_asked c s v (next_action c s v)))
    (act_begins c s v (party_role c v))
step_begins c s (Made v mv) =
    as_before s (step c s (Made v mv)) (take_asked c s v (resolved c.deal c.seeds s.book mv))
step_begins c s (Crash v k image) = begins_refl s.asked

run_begins : (c : Cast) (s : State) (events : List Event) → Begins s.asked (continued_run c s events).asked
run_begins c s [] = begins_refl s.asked
run_begins c s (e ∷ events) =
    begins_more s.asked (step c s e).asked (continued_run c (step c s e) events).asked (step_begins c s e) (run_begins c (step c s e) events)

finished_begins : (fin : Finish) (c : Cast) (s : State) → Begins s.asked (finished_state fin c s).asked
finished_begins Stop c s = begins_refl s.asked
finished_begins Fair c s =
    let r = finish_events c s in
    subst (λ (t : State). Begins s.asked t.asked) (sym r.state) (run_begins c s r.events)

early : (rule : StrategyRule) (c : Cast) (s t u : State) → Begins t.asked u.asked → IsByRule rule c s u → IsByRule rule c s t
early rule c s t u b by = λ i q lo hi is.
    let l = begins_length t.asked u.asked b in
    by i q lo (omega arith) (is ∙ sym (ap (λ (qs : List Question). get_or qs i q) b.1 ∙ get_or_append_left t.asked b.0 q i hi))

late : (rule : StrategyRule) (c : Cast) (s t u : State) → Begins s.asked t.asked → IsByRule rule c s u → IsByRule rule c t u
late rule c s t u b by = λ i q lo hi is. let l = begins_length s.asked t.asked b in by i q (omega arith) hi is

-- Where a rule gives each answer.

-- all that a run asks is answered by the rule
abbrev IsRunByRule : StrategyRule → Answers → Job → List Event → Type 0
IsRunByRule rule a job events = IsByRule rule (command_cast a job) (start (job_cast job)) (run_state a job events)

module _ (rule : StrategyRule) (job : Job) (a b : Answers) (events : List Event) where
  abbrev mid : Answers → State
  mid x = run (command_cast x job) events

  mids : IsRunByRule rule a job events → IsRunByRule rule b job events → mid b ≡ mid a
  mids k l =
      rules_decide_runs rule (command_cast a job) b (start (job_cast job)) events
      (early rule (command_cast a job) (start (job_cast job)) (mid a) (run_state a job events) (finished_begins job.finish (command_cast a job) (mid a)) k)
      (early rule (command_cast b job) (start (job_cast job)) (mid b) (run_state b job events) (finished_begins job.finish (command_cast b job) (mid b)) l)

  ends : (fin : Finish) (s : State) → IsByRule rule (command_cast a job) s (finished_state fin (command_cast a job) s)
      → IsByRule rule (command_cast b job) s (finished_state fin (command_cast b job) s) → finished_state fin (command_cast b job) s ≡ finished_state fin (command_cast a job) s
  ends Stop s k l = refl
  ends Fair s k l = rules_decide_finishes rule (command_cast a job) b s k l

  same_state : IsRunByRule rule a job events → IsRunByRule rule b job events → run_state a job events ≡ run_state b job events
  same_state k l =
      let e : mid b ≡ mid a = mids k l in
      let after : IsByRule rule (command_cast b job) (mid b) (finished_state job.finish (command_cast b job) (mid b)) =
      late rule (command_cast b job) (start (job_cast job)) (mid b) (run_state b job events) (run_begins (command_cast b job) (start
      (job_cast job)) events) l in
      sym (ap (λ (s : State). finished_state job.finish (command_cast b job) s) e ∙ ends job.finish (mid a)
      (late rule (command_cast a job) (start (job_cast job)) (mid a) (run_state a job events) (run_begins (command_cast a job) (start
      (job_cast job)) events) k)
      (subst (λ (s : State). IsByRule rule (command_cast b job) s (finished_state job.finish (command_cast b job) s)) e after))

-- a rule of names, as one of what is asked
abbrev of_question : (List ℕ → Deal → ℕ → ℕ → Histories → Option (ℕ × Call)) → StrategyRule
of_question rule d q = rule q.strategy d q.party q.turn q.known

signature_matches : (rule : List ℕ → Deal → ℕ → ℕ → Histories → Option (ℕ × Call)) (a : Answers) (job : Job) (events : List Event)
    → AreGiven (by_rule rule) job.deal a (run_state a job events).asked → IsRunByRule (of_question rule) a job events
signature_matches rule a job events given = λ i q lo hi is. given i q hi is

one_run : (rule : List ℕ → Deal → ℕ → ℕ → Histories → Option (ℕ × Call)) (has : List ℕ → Bool) (a b : Chance) (transcript : Bool) (input : List ℕ)
    (job other : Job) (events others : List Event) → parse_job has purposes.Run input ≡ Ok (job, events) → parse_job has purposes.Run input ≡ Ok (other, others)
    → AreGiven (by_rule rule) job.deal a.answers (run_state a.answers job events).asked
    → AreGiven (by_rule rule) other.deal b.answers (run_state b.answers other others).asked
    → output_given_chance has a (OfJob (Run transcript)) input ≡ output_given_chance has b (OfJob (Run transcript)) input
one_run rule has a b transcript input job other events others is is' given given' =
    let read : ◌≡◌ {A = Result (Job × List Event) Reason} (Ok (other, others)) (Ok (job, events)) = sym is' ∙ is in
    let same : ◌≡◌ {A = Job × List Event} (other, others) (job, events) = cc read in
    written_same has a b transcript input job events is
    (same_state (of_question rule) job a.answers b.answers events (signature_matches rule a.answers job events given)
    (signature_matches rule b.answers job events
    (subst (λ (j : Job × List Event). AreGiven (by_rule rule) j.0.deal b.answers (run_state b.answers j.0 j.1).asked) same given')))

as_one : (one other : Written) → ◌≡◌ {A = Result Written Reason} (Ok one) (Ok other) → one ≡ other
as_one one other e = cc e

pub rules_decide : RulesDecide
unfolding output_given_chance
rules_decide rule has a b (OfJob (Run transcript)) input one other plain e p f q =
    as_one one other (sym e ∙ one_run rule has a b transcript input p.job q.job p.events q.events p.is_read q.is_read p.given q.given ∙ f)
rules_decide rule has a b (OfJob (Race ticks transcript)) input one other plain e p f q = absurd (cc plain)
rules_decide rule has a b (OfJob Check) input one other plain e p f q = as_one one other (sym e ∙ f)
rules_decide rule has a b (OfJob Make) input one other plain e p f q = as_one one other (sym e ∙ f)
rules_decide rule has a b Audit input one other plain e p f q = as_one one other (sym e ∙ f)
rules_decide rule has a b Clear input one other plain e p f q = as_one one other (sym e ∙ f)
rules_decide rule has a b Many input one other plain e p f q = one_text rule a.many b.many has input one other p q
