-- A replay steps a world line by line.
use Rattle.std.proofs.Common.{◌≡◌, ◌<◌, ℕ, ◌+◌, List, [], ◌∷◌, length, get_or, map, Result, Ok, Err, Option, None, Bool, false, refl, sym, ap, ap₂}
use Rattle.std.proofs.Common.{◌∙◌, subst, fold}
use Rattle.std.specs.List.{All, FoldsTo}
use Rattle.std.proofs.lemmas.List.{get_or-map, length-map}
use Rattle.ledger_core.specs.declared.entry.Call.{Call}
use Rattle.std.specs.Prelude.{IfOk}
use Rattle.ledger_core.specs.Book.{Histories}
use Rattle.ledger_core.specs.declared.entry.Book.{Book}
use Rattle.swap_run.specs.Laws.{IsKept}
use Rattle.swap_base.specs.Fault.{◌>>=◌}
use Rattle.swap_job.specs.declared.job.Job.{Job}
use Rattle.swap_job.specs.declared.event.Event.{Event}
use Rattle.swap_job.specs.declared.job.Role.{Role}
use Rattle.command_input.specs.declared.reason.Reason.{Reason}
use Rattle.command_input.specs.Lines.{collect_lines, filled_lines}
use Rattle.swap_offer.specs.Job.{parse_events, limited_event, parse_job, parse_header_job, job_of_lines}
use Rattle.swap_digraph.specs.declared.deal.Deal.{Deal}
use Rattle.swap_run.specs.Asked.{Answers, with_answers}
use Rattle.swap_run.specs.Run.{Cast, Question, State, step, start}
use Rattle.swap_world.specs.Cast.{job_cast, made_cast}
use Rattle.swap_offer.specs.Wallets.{HaveWallets}
use Rattle.swap_world.specs.Actors.{AllFit, AreHeld}
use Rattle.offer_header.specs.Limits.{HoldsEach}
use Rattle.swap_job.specs.declared.job.Role.TheVariants as kinds
use Rattle.swap_job.specs.declared.job.Finish.TheVariants.{Stop}
use Rattle.swap_world.proofs.Gone.{begun, continues_less, gone_then, more_asked, stays}
use Rattle.swap_world.proofs.Team.{all_fit}
use Rattle.swap_world.specs.Gone.{Answered, MayGive, HasAsked, HasGone, MayBeGiven}
use Rattle.swap_world.specs.Value.{WorldState, world_answers, world_cast, answering_cast, Continues, new_world}
use Rattle.swap_commands.specs.Words.{OfJob, JobCommand, Check, Run, Race, Make}
use Rattle.swap_job.specs.declared.job.Purpose.TheVariants as purposes
use Rattle.swap_gen.specs.Made.{made}
use Rattle.made_jobs.specs.Making.{copied, made_text, written_line}
use Rattle.made_jobs.specs.Generating.{IsJobWorld}
use Rattle.made_jobs.proofs.Copying.{made_is}
use Rattle.swap_commands.specs.Output.{AreGiven, Chance, command_cast, command_purpose, finished_state, collected_book, reported, written_check, output_given_chance}
use Rattle.swap_commands.specs.Output.{job_output, plain_text}
use Rattle.swap_world.specs.Recorded.{AreRecorded}
use Rattle.swap_commands.specs.Walk.{lines_told}
use Rattle.swap_commands.specs.Replay.{folded_events, skipped_event, IsConcluded, of_run, of_race, of_check, of_lines, of_make}

-- Events as a walk along their lines tells them.

told_events : (job : Job) (n : ℕ) (ls : List (ℕ × List ℕ)) → parse_events job n ls ≡ lines_told (limited_event job) n ls
unfolding parse_events lines_told
told_events job n [] = refl
told_events job n (l ∷ ls) =
    ap (λ (r : Result (List Event) Reason). limited_event job n l.0 l.1 >>= λ e. r >>= λ es. let t : Result (List Event) Reason = Ok (e ∷ es) in t)
    (told_events job (n + 1) ls)

pub replayed_told : {A : Type 0} (f : A → Event → A) (job : Job) (x : A) (ls : List (ℕ × List ℕ)) (events : List Event)
    → lines_told (limited_event job) 0 ls ≡ Ok events → folded_events f job 0 x ls ≡ Ok (fold f x events)
unfolding folded_events
replayed_told {A} f job x ls events e =
    ap (λ (r : Result (List Event) Reason). r >>= λ es. let t : Result A Reason = Ok (fold f x es) in t) (told_events job 0 ls ∙ e)

pub replayed_refused : {A : Type 0} (f : A → Event → A) (job : Job) (x : A) (ls : List (ℕ × List ℕ)) (reason : Reason)
    → lines_told (limited_event job) 0 ls ≡ Err reason → folded_events f job 0 x ls ≡ Err reason
unfolding folded_events
replayed_refused {A} f job x ls reason e =
    ap (λ (r : Result (List Event) Reason). r >>= λ es. let t : Result A Reason = Ok (fold f x es) in t) (told_events job 0 ls ∙ e)

skipped : (events : List Event) → fold skipped_event tt events ≡ tt
skipped [] = refl
skipped (e ∷ es) = skipped es

pub skipped_told : (job : Job) (ls : List (ℕ × List ℕ)) (events : List Event) → lines_told (limited_event job) 0 ls ≡ Ok events
    → folded_events skipped_event job 0 tt ls ≡ Ok tt
skipped_told job ls events e = replayed_told skipped_event job tt ls events e ∙ ap (λ (u : Unit {0}). Ok u) (skipped events)

-- The lines of an input.

-- a job's header, and what is made along its events, give what is written for the lines
together : {A W : Type 0} (header : Result Job Reason) (events : Job → Result (List Event) Reason) (f : Job → A → Event → A) (x : Job → A) (g : Job → A → W)
    (w : Job × List Event → W) → ((job : Job) (es : List Event) → g job (fold (f job) (x job) es) ≡ w (job, es))
    → (header >>= λ job. (events job >>= λ es. Ok (fold (f job) (x job) es)) >>= λ y. Ok (g job y)) ≡
    (header >>= λ job. events job >>= λ es. Ok (job, es)) >>= λ j. Ok (w j)
together {A = A} {W = W} (Err r) events f x g w same = refl
together {A = A} {W = W} (Ok job) events f x g w same = go (events job)
  where
    go : (r : Result (List Event) Reason) → ((r >>= λ es. Ok (fold (f job) (x job) es)) >>= λ y. Ok (g job y)) ≡ (r >>= λ es. Ok (job, es)) >>= λ j. Ok (w j)
    go (Ok es) = ap (λ (v : W). Ok v) (same job es)
    go (Err r) = refl

regroup_make : (header : Result Job Reason) (text : Job → Result (List ℕ) Reason) → (header >>= λ job. text job >>= λ t. Ok (plain_text t))
    ≡ (header >>= text) >>= λ t. Ok (plain_text t)
regroup_make (Ok job) text = refl
regroup_make (Err r) text = refl

written_make : (read : Result (Job × List Event) Reason) (ls : List (ℕ × List ℕ)) → ((read >>= λ j. Ok (made_text j.0 ls)) >>= λ t. Ok (plain_text t))
    ≡ read >>= λ j. Ok (plain_text (made_text j.0 ls))
written_make (Ok j) ls = refl
written_make (Err r) ls = refl

of_some_make : (has : List ℕ → Bool) (a : Chance) (l : ℕ × List ℕ) (ls : List (ℕ × List ℕ))
    → of_make has l.0 l.1 ls ≡ job_output a Make (l ∷ ls) (job_of_lines has purposes.Make (l ∷ ls))
unfolding of_make
of_some_make has a l ls =
    regroup_make (parse_header_job has purposes.Make l.0 l.1) (λ job. copied 0 (written_line (made job)) ls)
    ∙ ap (λ (r : Result (List ℕ) Reason). r >>= λ t. Ok (plain_text t)) (made_is has l ls)
    ∙ written_make (job_of_lines has purposes.Make (l ∷ ls)) ls

of_some : (has : List ℕ → Bool) (a : Chance) (command : JobCommand) (ls : List (ℕ × List ℕ))
    → of_lines has a command ls ≡ job_output a command ls (job_of_lines has (command_purpose command) ls)
unfolding of_run of_race of_check folded_events
of_some has a command [] = by command
  where
    by : (command : JobCommand) → of_lines has a command [] ≡ job_output a command [] (job_of_lines has (command_purpose command) [])
    by (Run transcript) = refl
    by (Race ticks transcript) = refl
    by Check = refl
    by Make = refl
of_some has a (Run transcript) (l ∷ ls) =
    together (parse_header_job has purposes.Run l.0 l.1) (λ job. parse_events job 0 ls) (λ job. step (command_cast a.answers job)) (λ job. start (job_cast job))
    (λ job s. reported transcript job (finished_state job.finish (command_cast a.answers job) s).book) (λ j. reported transcript j.0
    (collected_book a.answers j.0 j.1))
    (λ job es. refl)
of_some has a (Race ticks transcript) (l ∷ ls) =
    together (parse_header_job has purposes.Race l.0 l.1) (λ job. parse_events job 0 ls) (λ job. skipped_event) (λ job. tt)
    (λ job u. reported transcript job a.book) (λ j. reported transcript j.0 a.book) (λ job es. refl)
of_some has a Check (l ∷ ls) = together (parse_header_job has (command_purpose Check) l.0 l.1) (λ job. parse_events job 0 ls) (λ job. skipped_event) (λ job. tt)
    (λ job u. written_check job) (λ j. written_check j.0) (λ job es. refl)
of_some has a Make (l ∷ ls) = of_some_make has a l ls

pub of_input : (has : List ℕ → Bool) (a : Chance) (command : JobCommand) (input : List ℕ)
    → of_lines has a command (filled_lines 1 (collect_lines input)) ≡ output_given_chance has a (OfJob command) input
unfolding output_given_chance parse_job
of_input has a (Run transcript) input = of_some has a (Run transcript) (filled_lines 1 (collect_lines input))
of_input has a (Race ticks transcript) input = of_some has a (Race ticks transcript) (filled_lines 1 (collect_lines input))
of_input has a Check input = of_some has a Check (filled_lines 1 (collect_lines input))
of_input has a Make input = of_some has a Make (filled_lines 1 (collect_lines input))

-- Worlds.

pub same_cast : (job : Job) (w : WorldState) → IsJobWorld job w → world_cast w ≡ job_cast job
same_cast job w k = ap₂ (λ (d : Deal) (rs : List Role). made_cast d w.conforming w.seeds rs) k.deal k.roles
    ∙ ap₂ (λ (c : List Bool) (s : List (Option (List ℕ))). made_cast job.deal c s job.roles) k.conforming k.seeds

-- each strategy that the job names exists
pub held : (has : List ℕ → Bool) (roles : List Role) → HoldsEach has roles → AreHeld has roles
held has roles all = λ p lt. all p kinds.Manual lt

-- a reason against an event is one whatever is made of the events
pub replay_fails : {A : Type 0} (f : A → Event → A) (x : A) (job : Job) (ls : List (ℕ × List ℕ)) (reason : Reason)
    → folded_events skipped_event job 0 tt ls ≡ Err reason → folded_events f job 0 x ls ≡ Err reason
unfolding folded_events
replay_fails {A = A} f x job ls reason e = by (parse_events job 0 ls) e
  where
    by : (r : Result (List Event) Reason) → (r >>= λ es. let y : Result (Unit {0}) Reason = Ok (fold skipped_event tt es) in y) ≡ Err reason
        → (r >>= λ es. let y : Result A Reason = Ok (fold f x es) in y) ≡ Err reason
    by (Ok es) e = absurd (cc e)
    by (Err r) e =
        let same : ◌≡◌ {A = Result (Unit {0}) Reason} (Err r) (Err reason) = e in
        let is : r ≡ reason = cc same in
        ap (λ (z : Reason). let y : Result A Reason = Err z in y) is

-- What strategies are asked and answer.

-- what was asked and answered was given
pub are_given : (gives : MayGive) (d : Deal) (more : List Answered) (asked : List Question) (given : List (Option (ℕ × Call)))
    → asked ≡ map (λ x. x.question) more → given ≡ map (λ x. x.answer) more → All (MayBeGiven gives d) more → AreGiven gives d (λ k. get_or given k None) asked
are_given gives d more asked given eq ea may = λ i q lt is.
    let x : Answered = record { question = q; answer = None } in
    let low : i < length more = subst (λ n. i < n) (length-map more (λ (y : Answered). y.question)) (subst (λ (qs : List Question). i < length qs) eq lt) in
    let same : q ≡ (get_or more i x).question =
    is ∙ (ap (λ (qs : List Question). get_or qs i q) eq ∙ get_or-map (λ (y : Answered). y.question) more i x q low) in
    let answer : get_or given i None ≡ (get_or more i x).answer =
    ap (λ (os : List (Option (ℕ × Call))). get_or os i None) ea ∙ get_or-map (λ (y : Answered). y.answer) more i x None low in
    subst (λ (o : Option (ℕ × Call)). gives q.strategy d q.party q.turn q.known o) (sym answer)
    (subst (λ (p : Question). gives p.strategy d p.party p.turn p.known (get_or more i x).answer) (sym same) (may i x low))

-- Worlds of a job.

pub is_of_new : (job : Job) (w : WorldState) → w ≡ new_world job → IsJobWorld job w
is_of_new job w e = record {
  deal = ap (λ (x : WorldState). x.deal) e;
  conforming = ap (λ (x : WorldState). x.conforming) e;
  seeds = ap (λ (x : WorldState). x.seeds) e;
  roles = ap (λ (x : WorldState). x.roles) e;
}

pub stays_finished : (gives : MayGive) (w : WorldState) → HasGone gives (finished_state Stop) w w
stays_finished gives w = stays gives (finished_state Stop) w (λ a. refl)

-- A world that has gone on.

module _ (gives : MayGive) (job : Job) (w new : WorldState) (k : IsJobWorld job w) where
  pub is_of_still : (f : Cast → State → State) → HasGone gives f w new → IsJobWorld job new
  is_of_still f e = record {
    deal = ap (λ (x : WorldState). x.deal) e.same ∙ k.deal;
    conforming = ap (λ (x : WorldState). x.conforming) e.same ∙ k.conforming;
    seeds = ap (λ (x : WorldState). x.seeds) e.same ∙ k.seeds;
    roles = ap (λ (x : WorldState). x.roles) e.same ∙ k.roles;
  }

  pub goes_on_still : (f : Cast → State → State) → HasGone gives f w new → w.stopped ≡ false → new.stopped ≡ false
  goes_on_still f e on = ap (λ (x : WorldState). x.stopped) e.same ∙ on

  for_job : (a : Answers) → answering_cast w a ≡ command_cast a job
  for_job a = ap (λ (c : Cast). with_answers c a) (same_cast job w k)

  -- after the job's finish
  pub concluded : (b : Histories) → b ≡ new.state.book → HasAsked gives (new_world job) w → HasGone gives (finished_state job.finish) w new
      → AreRecorded (world_cast new) new.state → IsConcluded gives job w b
  concluded b is asked h kept =
      let a = world_answers new in
      let state : new.state ≡ finished_state job.finish (command_cast a job) w.state =
      h.state a (λ i l. refl) ∙ ap (λ (c : Cast). finished_state job.finish c w.state) (for_job a) in
      let all = more_asked gives (new_world job) w new asked k.deal h.asked in
      record {
        answers = a;
        continues = continues_less gives w new a h.asked (λ i l. refl);
        given = subst (λ (s : State). AreGiven gives job.deal a s.asked) state
            (are_given gives job.deal all.more new.state.asked new.answers all.questions all.answers all.may);
        book = is ∙ ap (λ (s : State). s.book) state;
        recorded =
            subst (AreRecorded (command_cast a job)) state
            (subst (λ (c : Cast). AreRecorded c new.state) (same_cast job new (is_of_still (finished_state job.finish) h)) kept);
      }

  -- the book of the world
  pub concluded_book : {E : Type 0} (r : Result Book E) → IfOk r (λ b. b.histories ≡ new.state.book) → HasAsked gives (new_world job) w
      → HasGone gives (finished_state job.finish) w new → AreRecorded (world_cast new) new.state → IfOk r (λ b. IsConcluded gives job w b.histories)
  concluded_book (Ok b) is asked h kept = concluded b.histories is asked h kept
  concluded_book (Err e) is asked h kept = tt

-- A world that has stepped by events.

abbrev pub StepsBy : MayGive → WorldState → Event → WorldState → Type 0
StepsBy gives w e v = HasGone gives (λ c s. step c s e) w v

has_stepped : (gives : MayGive) (w v : WorldState) (events : List Event) → FoldsTo (StepsBy gives) w events v
    → HasGone gives (λ c s. fold (step c) s events) w v
has_stepped gives w v [] p = subst (λ (x : WorldState). HasGone gives (λ c s. s) w x) p (begun gives w)
has_stepped gives w v (e ∷ es) p = gone_then gives (λ c s. step c s e) (λ c s. fold (step c) s es) w p.0 v p.1 (has_stepped gives p.0 v es p.2)

module _ (gives : MayGive) (job : Job) (new w : WorldState) (is : new ≡ new_world job) (events : List Event) (way : FoldsTo (StepsBy gives) new events w) where
  pub has_asked : HasAsked gives (new_world job) w
  has_asked = subst (λ (x : WorldState). HasAsked gives x w) is (has_stepped gives new w events way).asked

  -- the state is the one to which the events of the lines lead
  pub leads_to : (a : Answers) → Continues w a → (ls : List (ℕ × List ℕ)) → lines_told (limited_event job) 0 ls ≡ Ok events
      → folded_events (step (command_cast a job)) job 0 (start (job_cast job)) ls ≡ Ok w.state
  leads_to a x ls e =
      let state : w.state ≡ fold (step (command_cast a job)) (start (job_cast job)) events =
      (has_stepped gives new w events way).state a x
      ∙ ap₂ (λ (c : Cast) (s : State). fold (step c) s events) (for_job gives job new new (is_of_new job new is) a) (ap (λ (x : WorldState). x.state) is) in
      replayed_told (step (command_cast a job)) job (start (job_cast job)) ls events e ∙ ap (λ (s : State). Ok s) (sym state)

pub kept_book : {E : Type 0} (job : Job) (w : WorldState) → IsJobWorld job w → (r : Result Book E) → IfOk r (λ b. b.histories ≡ w.state.book)
    → IsKept (world_cast w) w.state.book → IfOk r (λ b. IsKept (job_cast job) b.histories)
kept_book job w k (Ok b) is kept = subst (λ (c : Cast). IsKept c b.histories) (same_cast job w k) (subst (IsKept (world_cast w)) (sym is) kept)
kept_book job w k (Err e) is kept = tt

-- where the conforming parties have their wallets, each is right
pub wallets_fit : (job : Job) → HaveWallets job → AllFit job
wallets_fit job have = all_fit job (λ p lt t. let h = have p lt t in (h.seed, h.there, h.fits))
