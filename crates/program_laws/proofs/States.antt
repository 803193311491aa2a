-- Every state of a run holds digests.
use Rattle.std.proofs.Common.{◌≡◌, ◌==◌, ◌+◌, ◌<◌, ℕ, zero, suc, nat_le, Bool, true, false, cond, List, [], ◌∷◌, ◌++◌, length, fold, get_or, Option, Some}
use Rattle.std.proofs.Common.{None, refl, sym, ap, ◌∙◌, arith, append_assoc, append-nil, length-append}
use Rattle.std.proofs.Math.Seq.{get_or-append_seam}
use Rattle.std.specs.Prelude.{All, slice_index_or, slice_set}
use Rattle.std.specs.List.{range_with_len}
use Rattle.std.proofs.lemmas.List.Elements.{All-head, All-map, All-nil, All-push, All-replicate, All-set, All-tail}
use Rattle.swap_digraph.specs.Graph.{arcs}
use Rattle.swap_job.specs.Fitting.{is_near}
use Rattle.swap_digraph.specs.declared.deal.Deal.{Deal}
use Rattle.hashkey_path.specs.declared.hashkey.Hashkey.{Hashkey}
use Rattle.party_wallet.specs.Value.{signed_hashkey}
use Rattle.ledger_core.specs.declared.entry.Call.{Call}
use Rattle.ledger_core.specs.declared.entry.Call.TheVariants as calls
use Rattle.ledger_core.specs.declared.entry.Entry.{Entry}
use Rattle.ledger_core.specs.History.{height, history_reply, reply_to_tick}
use Rattle.ledger_core.specs.Ledger.{after_call, call_entry, is_sender_full, tick_entry}
use Rattle.ledger_core.specs.Book.{Histories, history}
use Rattle.swap_rules.specs.Due.{Action}
use Rattle.swap_rules.specs.Machine.{noted}
use Rattle.swap_job.specs.declared.event.Event.{Event}
use Rattle.swap_job.specs.declared.event.Event.TheVariants.{Tick, Look, Act, Call as Made, Crash}
use Rattle.swap_job.specs.declared.job.Finish.{Finish}
use Rattle.swap_job.specs.declared.job.Finish.TheVariants.{Stop, Fair}
use Rattle.swap_job.specs.declared.job.Role.{Role}
use Rattle.swap_job.specs.declared.job.Role.TheVariants.{Conforming, Manual, Script, Strategy}
use Rattle.swap_job.specs.declared.moves.Move.{Move}
use Rattle.swap_job.specs.Resolved.{resolved}
use Rattle.swap_run.specs.Script.{first_call, is_wait_done, is_wait, moves_left, next_call, past_waits, without_first}
use Rattle.swap_run.specs.Run.{Cast, Notes, Plan, Question, State, act, role_act, after_question, after_tick, after_turn, answered_call, ask, conforms}
use Rattle.swap_run.specs.Run.{first_plan, follow, is_party_answer, is_clock_full_reply, is_planned, look, make, next_action, no_histories, no_notes}
use Rattle.swap_run.specs.Run.{state_notes, party_plan, question, plan_with_ledger, plans_seen, party_role, run, continued_run, signed_through_call, start, step}
use Rattle.swap_run.specs.Run.{take_call, watch, crash, is_recorded_after_crash, recorded_hashkeys, relearnt}
use Rattle.swap_run.specs.Fair.{acts, adjacent_arcs, finish, is_above_horizon, looks, most_acts, repeat, round, round_unless_ended, the_horizon, tick_low, ticks, turn}
use Rattle.swap_run.specs.Fair.{turns}
use Rattle.swap_commands.specs.Output.{finished_state}
use Rattle.typed_books.specs.Typed.{IsDigest}
use Rattle.program_laws.specs.Digests.{HasDigests}
use Rattle.program_laws.proofs.Hashes.{May, KeyHas, WalletHas}
use Rattle.program_laws.proofs.Calls.{ActionHas, AnswerHas, BookHas, EntryHas, Has, MoveHas, at_or, next_has, resolved_has, history_has}

abbrev pub RoleHas : Role → Type 0
RoleHas (Script moves) = All MoveHas moves
RoleHas _ = Unit {0}

abbrev pub EventHas : Event → Type 0
EventHas (Made p mv) = MoveHas mv
EventHas _ = Unit {0}

pub record NotesHave (n : Notes) : Type 0 where
  pub known : BookHas n.known
  pub signed : All (May KeyHas) n.signed

pub record PlanHas (n : Plan) : Type 0 where
  pub known : BookHas n.known
  pub moves : All MoveHas n.moves

pub record StateHas (s : State) : Type 0 where
  pub book : BookHas s.book
  pub notes : All NotesHave s.notes
  pub plans : All PlanHas s.plans

-- ---- histories, notes and plans

tick_has : (k : ℕ) (h : List Entry) → Has h → Has (after_tick k h)
unfolding after_tick
tick_has k h p = by (is_clock_full_reply (reply_to_tick h k))
  where
    by : (t : Bool) → Has (cond t h (h ++ tick_entry k (height h + k) (reply_to_tick h k) ∷ []))
    by true = p
    by false = All-push EntryHas h (tick_entry k (height h + k) (reply_to_tick h k)) p tt

made_has : (d : Deal) (a p : ℕ) (c : Call) (h : List Entry) → HasDigests c → Has h → Has (after_call d a p c h)
unfolding after_call
made_has d a p c h digests k = by (is_sender_full (history_reply d a h p c))
  where
    by : (t : Bool) → Has (cond t h (h ++ call_entry p (height h) c (history_reply d a h p c) ∷ []))
    by true = k
    by false = All-push EntryHas h (call_entry p (height h) c (history_reply d a h p c)) k digests

set_has : (b : Histories) (a : ℕ) (h : List Entry) → Has h → BookHas b → BookHas (slice_set b a h)
set_has b a h p k = All-set Has b a h p k

notes_have : (s : State) (v : ℕ) → All NotesHave s.notes → NotesHave (state_notes s v)
notes_have s v k =
    at_or NotesHave s.notes v (record { known = []; signed = [] }) (record { known = All-nil Has; signed = All-nil (May KeyHas) }) k

plan_has : (s : State) (v : ℕ) → All PlanHas s.plans → PlanHas (party_plan s v)
plan_has s v k =
    at_or PlanHas s.plans v (record { known = []; moves = []; turns = 0 }) (record { known = All-nil Has; moves = All-nil MoveHas }) k

signed_has : (signed : List (Option Hashkey)) (i : ℕ) → All (May KeyHas) signed → May KeyHas (signed_hashkey signed i)
signed_has signed i k = at_or (May KeyHas) signed i None tt k

noted_has : (signed : List (Option Hashkey)) (c : Call) (i : ℕ) → HasDigests c → All (May KeyHas) signed → May KeyHas (noted (signed_hashkey signed) c i)
noted_has signed (calls.Unlock key) i h k = by (i == key.lock)
  where
    by : (t : Bool) → May KeyHas (cond t (Some key) (signed_hashkey signed i))
    by true = h
    by false = signed_has signed i k
noted_has signed (calls.Publish t) i h k = signed_has signed i k
noted_has signed calls.Claim i h k = signed_has signed i k
noted_has signed calls.Refund i h k = signed_has signed i k
noted_has signed (calls.Transfer to units) i h k = signed_has signed i k

after_has : (signed : List (Option Hashkey)) (c : Call) → HasDigests c → All (May KeyHas) signed → All (May KeyHas) (signed_through_call signed c)
after_has signed c h k =
    All-map (May KeyHas) (noted (signed_hashkey signed) c) (range_with_len 0 (length signed)) (λ j d lt. noted_has signed c _ h k)

-- ---- scripts

past_has : (k : Histories) (moves : List Move) → All MoveHas moves → All MoveHas (past_waits k moves)
past_has k [] h = All-nil MoveHas
past_has k (mv ∷ moves) h = by (is_wait_done k mv) (past_has k moves (All-tail MoveHas mv moves h))
  where
    by : (t : Bool) → All MoveHas (past_waits k moves) → All MoveHas (cond t (past_waits k moves) (mv ∷ moves))
    by true rest = rest
    by false rest = h

without_has : (moves : List Move) → All MoveHas moves → All MoveHas (without_first moves)
without_has [] h = All-nil MoveHas
without_has (mv ∷ moves) h = by (is_wait mv)
  where
    by : (t : Bool) → All MoveHas (cond t (mv ∷ moves) moves)
    by true = h
    by false = All-tail MoveHas mv moves h

-- what a state holds after a call of v, if any

made_asked : (d : Deal) (s : State) (v : ℕ) (o : Option Action) → (make d s v o).asked ≡ s.asked
made_asked d s v None = refl
made_asked d s v (Some x) = refl

taken_asked : (c : Cast) (s : State) (v : ℕ) (o : Option (ℕ × Call)) → (take_call c s v o).asked ≡ s.asked
taken_asked c s v None = refl
taken_asked c s v (Some x) = refl

module _ (c : Cast) (hashlocks : All IsDigest c.deal.hashlocks) (wallets : (v : ℕ) → WalletHas (c.wallet v)) (roles : All RoleHas c.roles) where
  first_call_has : (k : Histories) (moves : List Move) → BookHas k → All MoveHas moves → May AnswerHas (first_call c.deal c.seeds k moves)
  first_call_has k [] known h = tt
  first_call_has k (mv ∷ moves) known h = resolved_has c.deal c.seeds k mv hashlocks known (All-head MoveHas mv moves h)

  seen_has : (s : State) (v a : ℕ) (h : List Entry) → Has h → All PlanHas s.plans → All PlanHas (plans_seen c s v a h)
  seen_has s v a h p k = by (is_planned (party_role c v))
    where
      by : (t : Bool) → All PlanHas (cond t (slice_set s.plans v (plan_with_ledger (party_plan s v) a h)) s.plans)
      by true =
          let n = plan_has s v k in
          All-set PlanHas s.plans v (plan_with_ledger (party_plan s v) a h)
          (record { known = set_has (party_plan s v).known a h p n.known; moves = n.moves }) k
      by false = k

  make_has : (s : State) (v : ℕ) (o : Option Action) → May ActionHas o → StateHas s → StateHas (make c.deal s v o)
  make_has s v None h k = k
  make_has s v (Some x) h k =
      let n = notes_have s v k.notes in
      let new : Has (after_call c.deal x.arc v x.call (history s.book x.arc)) =
      made_has c.deal x.arc v x.call (history s.book x.arc) h (history_has s.book x.arc k.book) in
      record {
        book = set_has s.book x.arc (after_call c.deal x.arc v x.call (history s.book x.arc)) new k.book;
        notes = All-set NotesHave s.notes v _ (record {
          known = set_has (state_notes s v).known x.arc (after_call c.deal x.arc v x.call (history s.book x.arc)) new n.known;
          signed = after_has (state_notes s v).signed x.call h n.signed;
        }) k.notes;
        plans = k.plans;
      }

  take_has : (s : State) (v : ℕ) (o : Option (ℕ × Call)) → May AnswerHas o → StateHas s → StateHas (take_call c s v o)
  take_has s v None h k = k
  take_has s v (Some x) h k =
      let new : Has (after_call c.deal x.0 v x.1 (history s.book x.0)) =
      made_has c.deal x.0 v x.1 (history s.book x.0) h (history_has s.book x.0 k.book) in
      record {
        book = set_has s.book x.0 (after_call c.deal x.0 v x.1 (history s.book x.0)) new k.book;
        notes = k.notes;
        plans = seen_has s v x.0 (after_call c.deal x.0 v x.1 (history s.book x.0)) new k.plans;
      }

  turned_has : (s : State) (v : ℕ) (moves : List Move) → All MoveHas moves → StateHas s → StateHas (after_turn s v moves)
  turned_has s v moves h k =
      let n = plan_has s v k.plans in
      record { book = k.book; notes = k.notes; plans = All-set PlanHas s.plans v _ (record { known = n.known; moves = h }) k.plans }

  act_has : (v : ℕ) (s : State) → StateHas s → StateHas (act c s v)
  act_has v s k =
      let n = notes_have s v k.notes in
      make_has s v (next_action c s v)
      (next_has c.deal v (c.wallet v) (signed_hashkey (state_notes s v).signed) (state_notes s v).known hashlocks (wallets v)
      (λ i. signed_has (state_notes s v).signed i n.signed) n.known) k

  follow_has : (v : ℕ) (s : State) → StateHas s → StateHas (follow c s v)
  follow_has v s k =
      let n = plan_has s v k.plans in
      let past : All MoveHas (past_waits (party_plan s v).known (party_plan s v).moves) = past_has (party_plan s v).known (party_plan s v).moves n.moves in
      take_has (after_turn s v (moves_left (party_plan s v).known (party_plan s v).moves)) v
      (next_call c.deal c.seeds (party_plan s v).known (party_plan s v).moves)
      (first_call_has (party_plan s v).known (past_waits (party_plan s v).known (party_plan s v).moves) n.known past)
      (turned_has s v (moves_left (party_plan s v).known (party_plan s v).moves) (without_has (past_waits (party_plan s v).known
      (party_plan s v).moves) past) k)

  answer_has : (v : ℕ) (o : Option (ℕ × Call)) → May AnswerHas o → May AnswerHas (answered_call c.deal v o)
  answer_has v None h = tt
  answer_has v (Some x) h = by (is_party_answer c.deal v x)
    where
      by : (t : Bool) → May AnswerHas (cond t (Some x) None)
      by true = h
      by false = tt

  asked_has : (s : State) (v : ℕ) (name : List ℕ) → StateHas s → StateHas (after_question s v name)
  asked_has s v name k =
      let t = turned_has s v (party_plan s v).moves (plan_has s v k.plans).moves k in
      record { book = t.book; notes = t.notes; plans = t.plans }

  ask_has : (v : ℕ) (name : List ℕ) (s : State) → May AnswerHas (c.answers (length s.asked)) → StateHas s → StateHas (ask c s v name)
  ask_has v name s answer k =
      take_has (after_question s v name) v (answered_call c.deal v (c.answers (length s.asked)))
      (answer_has v (c.answers (length s.asked)) answer) (asked_has s v name k)

  look_has : (v a : ℕ) (s : State) → StateHas s → StateHas (look s v a)
  look_has v a s k =
      let n = notes_have s v k.notes in
      record {
        book = k.book;
        notes = All-set NotesHave s.notes v _ (record {
          known = set_has (state_notes s v).known a (history s.book a) (history_has s.book a k.book) n.known;
          signed = n.signed;
        }) k.notes;
        plans = k.plans;
      }

  recorded_has : (signed : List (Option Hashkey)) (o : Option Action) (k image : ℕ) → May ActionHas o → All (May KeyHas) signed
      → All (May KeyHas) (recorded_hashkeys signed o k image)
  recorded_has signed None k image h all = all
  recorded_has signed (Some x) k image h all = by (is_recorded_after_crash k image)
    where
      by : (t : Bool) → All (May KeyHas) (cond t (signed_through_call signed x.call) signed)
      by true = after_has signed x.call h all
      by false = all

  near_has : (b : Histories) (a : ℕ) (t : Bool) → BookHas b → Has (cond t (history b a) [])
  near_has b a true k = history_has b a k
  near_has b a false k = All-nil EntryHas

  relearnt_has : (v : ℕ) (b : Histories) → BookHas b → BookHas (relearnt c.deal v b)
  relearnt_has v b k =
      All-map Has (λ a. cond (is_near c.deal v a) (history b a) []) (arcs c.deal.graph) (λ j d lt. near_has b _ (is_near c.deal v _) k)

  crash_has : (v k image : ℕ) (s : State) → StateHas s → StateHas (crash c s v k image)
  crash_has v k image s has =
      let n = notes_have s v has.notes in
      record {
        book = has.book;
        notes = All-set NotesHave s.notes v _ (record {
          known = relearnt_has v s.book has.book;
          signed = recorded_has (state_notes s v).signed (next_action c s v) k image
              (next_has c.deal v (c.wallet v) (signed_hashkey (state_notes s v).signed) (state_notes s v).known hashlocks (wallets v)
              (λ i. signed_has (state_notes s v).signed i n.signed) n.known) n.signed;
        }) has.notes;
        plans = has.plans;
      }

  watch_has : (v a : ℕ) (s : State) → StateHas s → StateHas (watch c s v a)
  watch_has v a s k =
      record { book = k.book; notes = k.notes; plans = seen_has s v a (history s.book a) (history_has s.book a k.book) k.plans }

  ticked_has : (a n : ℕ) (s : State) → StateHas s → StateHas (step c s (Tick a n))
  ticked_has a n s k = record {
    book = set_has s.book a (after_tick n (history s.book a)) (tick_has n (history s.book a) (history_has s.book a k.book)) k.book;
    notes = k.notes;
    plans = k.plans;
  }

  -- ---- the start

  none_yet : BookHas (no_histories c.deal)
  none_yet = All-replicate Has (length c.deal.graph.arcs) [] (All-nil EntryHas)

  role_plan_has : (role : Role) → RoleHas role → PlanHas (first_plan c.deal role)
  role_plan_has Conforming h = record { known = none_yet; moves = All-nil MoveHas }
  role_plan_has Manual h = record { known = none_yet; moves = All-nil MoveHas }
  role_plan_has (Script moves) h = record { known = none_yet; moves = h }
  role_plan_has (Strategy name) h = record { known = none_yet; moves = All-nil MoveHas }

  pub start_has : StateHas (start c)
  start_has = record {
    book = none_yet;
    notes = All-replicate NotesHave c.deal.graph.n (no_notes c.deal)
        (record { known = none_yet; signed = All-replicate (May KeyHas) (length c.deal.leaders) None tt });
    plans = All-map PlanHas (first_plan c.deal) c.roles (λ k d lt. role_plan_has _ (roles k d lt));
  }

  -- ---- walks: what leads from state to state, by answers that hold digests as long as their
  -- questions do

  module _ (total : List Question)
      (sure : (i : ℕ) (q : Question) → i < length total → q ≡ slice_index_or total i q → BookHas q.known → May AnswerHas (c.answers i)) where
    -- the questions so far are the first of all
    abbrev BeginsIn : State → Type 0
    BeginsIn s = (rest : List Question) × (total ≡ s.asked ++ rest)

    -- A walk: questions come behind those so far, and where they are the first of all, the new
    -- state holds digests as the old one does.
    record Walks (f : State → State) : Type 0 where
      grows : (s : State) → (more : List Question) × ((f s).asked ≡ s.asked ++ more)
      keeps : (s : State) → BeginsIn (f s) → StateHas s → StateHas (f s)

    begins_back : (s t : State) → (more : List Question) × (t.asked ≡ s.asked ++ more) → BeginsIn t → BeginsIn s
    begins_back s t g b = (
      g.0 ++ b.0,
      b.1 ∙ ap (λ (l : List Question). l ++ b.0) g.1 ∙ append_assoc s.asked g.0 b.0,
    )

    rests : Walks (λ s. s)
    rests = record { grows = λ s. ([], sym (append-nil s.asked)); keeps = λ s b k. k }

    -- where nobody is asked
    unasked : (f : State → State) → ((s : State) → (f s).asked ≡ s.asked) → ((s : State) → StateHas s → StateHas (f s)) → Walks f
    unasked f same keep = record { grows = λ s. ([], same s ∙ sym (append-nil s.asked)); keeps = λ s b k. keep s k }

    both : (f g : State → State) → Walks f → Walks g → Walks (λ s. g (f s))
    both f g x y = record {
      grows = λ s. (
        (x.grows s).0 ++ (y.grows (f s)).0,
        (y.grows (f s)).1 ∙ ap (λ (l : List Question). l ++ (y.grows (f s)).0) (x.grows s).1
            ∙ append_assoc s.asked (x.grows s).0 (y.grows (f s)).0,
      );
      keeps = λ s b k. y.keeps (f s) b (x.keeps s (begins_back (f s) (g (f s)) (y.grows (f s)) b) k);
    }

    either : (test : State → Bool) (f g : State → State) → Walks f → Walks g → Walks (λ s. cond (test s) (f s) (g s))
    either test f g x y = record { grows = λ s. more s (test s); keeps = λ s. keep s (test s) }
      where
        more : (s : State) (t : Bool) → (l : List Question) × ((cond t (f s) (g s)).asked ≡ s.asked ++ l)
        more s true = x.grows s
        more s false = y.grows s

        keep : (s : State) (t : Bool) → BeginsIn (cond t (f s) (g s)) → StateHas s → StateHas (cond t (f s) (g s))
        keep s true = x.keeps s
        keep s false = y.keeps s

    each : {A : Type 0} (f : State → A → State) (xs : List A) → ((x : A) → Walks (λ s. f s x)) → Walks (λ s. fold f s xs)
    each f [] h = rests
    each f (x ∷ xs) h = both (λ s. f s x) (λ s. fold f s xs) (h x) (each f xs h)

    again : (n : ℕ) (f : State → State) → Walks f → Walks (λ s. repeat n f s)
    again zero f w = rests
    again (suc n) f w = both (λ s. repeat n f s) f (again n f w) w

    -- ---- steps

    asked_more : (v : ℕ) (name : List ℕ) (s : State) → (ask c s v name).asked ≡ s.asked ++ question s v name ∷ []
    asked_more v name s = taken_asked c (after_question s v name) v (answered_call c.deal v (c.answers (length s.asked)))

    answered : (v : ℕ) (name : List ℕ) (s : State) → BeginsIn (ask c s v name) → StateHas s → May AnswerHas (c.answers (length s.asked))
    answered v name s b k =
        let whole : total ≡ s.asked ++ question s v name ∷ b.0 =
        b.1 ∙ ap (λ (l : List Question). l ++ b.0) (asked_more v name s) ∙ append_assoc s.asked (question s v name ∷ []) b.0 in
        let size : length total ≡ length s.asked + length (question s v name ∷ b.0) =
        ap (λ (l : List Question). length l) whole ∙ length-append s.asked (question s v name ∷ b.0) in
        let here : get_or total (length s.asked) (question s v name) ≡ question s v name =
        ap (λ (l : List Question). get_or l (length s.asked) (question s v name)) whole
        ∙ get_or-append_seam s.asked (question s v name) b.0 (question s v name) in
        sure (length s.asked) (question s v name) (omega (arith, size)) (sym here) (plan_has s v k.plans).known

    asks : (v : ℕ) (name : List ℕ) → Walks (λ s. ask c s v name)
    asks v name = record {
      grows = λ s. (question s v name ∷ [], asked_more v name s);
      keeps = λ s b k. ask_has v name s (answered v name s b k) k;
    }

    acts_as : (v : ℕ) (role : Role) → Walks (λ s. role_act c s v role)
    acts_as v Conforming = rests
    acts_as v Manual = rests
    acts_as v (Script moves) =
        unasked (λ s. follow c s v) (λ s.
        taken_asked c (after_turn s v (moves_left (party_plan s v).known (party_plan s v).moves)) v
        (next_call c.deal c.seeds (party_plan s v).known (party_plan s v).moves)) (follow_has v)
    acts_as v (Strategy name) = asks v name

    looking : (v a : ℕ) → Walks (λ s. step c s (Look v a))
    looking v a =
        either (λ s. conforms c v) (λ s. look s v a) (λ s. watch c s v a) (unasked (λ s. look s v a) (λ s. refl) (look_has v a))
        (unasked (λ s. watch c s v a) (λ s. refl) (watch_has v a))

    acting : (v : ℕ) → Walks (λ s. step c s (Act v))
    acting v =
        either (λ s. conforms c v) (λ s. act c s v) (λ s. role_act c s v (party_role c v))
        (unasked (λ s. act c s v) (λ s. made_asked c.deal s v (next_action c s v)) (act_has v)) (acts_as v (party_role c v))

    ticking : (a n : ℕ) → Walks (λ s. step c s (Tick a n))
    ticking a n = unasked (λ s. step c s (Tick a n)) (λ s. refl) (ticked_has a n)

    stepping : (e : Event) → EventHas e → Walks (λ s. step c s e)
    stepping (Tick a n) h = ticking a n
    stepping (Look v a) h = looking v a
    stepping (Act v) h = acting v
    stepping (Made v mv) h =
        unasked (λ s. step c s (Made v mv)) (λ s. taken_asked c s v (resolved c.deal c.seeds s.book mv))
        (λ s k. take_has s v (resolved c.deal c.seeds s.book mv) (resolved_has c.deal c.seeds s.book mv hashlocks k.book h) k)
    stepping (Crash v k image) h = unasked (λ s. crash c s v k image) (λ s. refl) (crash_has v k image)

    running : (events : List Event) → All EventHas events → Walks (λ s. continued_run c s events)
    running [] h = rests
    running (e ∷ events) h =
        both (λ s. step c s e) (λ s. continued_run c s events) (stepping e (All-head EventHas e events h)) (running events (All-tail EventHas e events h))

    -- ---- the fair finish

    looks_walk : (v : ℕ) → Walks (looks c v)
    unfolding looks
    looks_walk v = each (λ s a. step c s (Look v a)) (adjacent_arcs c.deal v) (looking v)

    turn_walks : (v : ℕ) → Walks (λ s. turn c s v)
    unfolding turn
    turn_walks v =
        either (λ s. conforms c v) (λ s. acts c v (most_acts c.deal) (looks c v s)) (λ s. step c (looks c v s) (Act v))
        (both (looks c v) (λ s. acts c v (most_acts c.deal) s) (looks_walk v) (again (most_acts c.deal) (λ s. step c s (Act v)) (acting v)))
        (both (looks c v) (λ s. step c s (Act v)) (looks_walk v) (acting v))

    low_walks : (a : ℕ) → Walks (λ s. tick_low c s a)
    low_walks a =
        either (λ s. nat_le (height (history s.book a)) (the_horizon c.deal)) (λ s. step c s (Tick a 1)) (λ s. s) (ticking a 1) rests

    round_walks : Walks (round c)
    unfolding round turns ticks
    round_walks =
        both (turns c) (ticks c) (each (turn c) (range_with_len 0 c.deal.graph.n) turn_walks) (each (tick_low c) (arcs c.deal.graph) low_walks)

    unless_walks : Walks (round_unless_ended c)
    unless_walks = either (λ s. is_above_horizon c.deal s.book) (λ s. s) (round c) rests round_walks

    finishing : Walks (finish c)
    unfolding finish
    finishing = again (the_horizon c.deal + 1) (round_unless_ended c) unless_walks

    finished_walks : (f : Finish) → Walks (finished_state f c)
    finished_walks Stop = rests
    finished_walks Fair = finishing

    -- all states of a run, up to the last question
    pub whole_has : (f : Finish) (events : List Event) → All EventHas events → total ≡ (finished_state f c (run c events)).asked
        → StateHas (finished_state f c (run c events))
    whole_has f events h e =
        let w = both (λ s. continued_run c s events) (finished_state f c) (running events h) (finished_walks f) in
        w.keeps (start c) ([], e ∙ sym (append-nil (finished_state f c (run c events)).asked)) start_has
