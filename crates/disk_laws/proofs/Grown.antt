-- Histories grow along a run, so that what a later book took whole an earlier one took whole.
use Rattle.std.proofs.Common.{◌≡◌, ◌≢◌, ◌⊎◌, inl, inr, ℕ, ◌+◌, ◌<◌, ◌≤◌, Bool, true, false, cond, List, [], ◌∷◌, ◌++◌, length, slice_set, Option, Some, None}
use Rattle.std.proofs.Common.{refl, sym, ap, ◌∙◌, subst, arith, append_assoc}
use Rattle.std.proofs.lemmas.Bool.{cases_lt}
use Rattle.std.proofs.lemmas.List.{length-set}
use Rattle.std.proofs.Math.ListN.{get_or-eq_default}
use Rattle.swap_base.specs.Lists.{IsMoment}
use Rattle.swap_digraph.specs.declared.deal.Deal.{Deal}
use Rattle.ledger_core.specs.declared.entry.Call.{Call}
use Rattle.ledger_core.specs.declared.entry.Entry.{Entry}
use Rattle.ledger_core.specs.History.{history_reply, reply_to_tick, height}
use Rattle.ledger_core.specs.Ledger.{after_call, is_sender_full, call_entry, tick_entry}
use Rattle.ledger_core.specs.Book.{Histories, history}
use Rattle.swap_job.specs.declared.event.Event.{Event}
use Rattle.swap_job.specs.declared.event.Event.TheVariants.{Tick, Look, Act, Call as Calls, Crash}
use Rattle.swap_job.specs.declared.job.Role.{Role}
use Rattle.swap_job.specs.declared.job.Role.TheVariants.{Conforming, Manual, Script, Strategy}
use Rattle.swap_job.specs.Resolved.{resolved}
use Rattle.swap_rules.specs.Due.{Action}
use Rattle.swap_rules.specs.Machine.{Begins}
use Rattle.swap_rules.proofs.Growth.{Grows}
use Rattle.swap_rules.proofs.Conducting.{history_same, history_other}
use Rattle.swap_rules.proofs.Prefixes.{begins_refl, begins_more, same_or_not}
use Rattle.swap_run.specs.Script.{next_call, moves_left}
use Rattle.swap_run.specs.Run.{Cast, State, conforms, party_role, party_plan, next_action, is_clock_full_reply, after_tick, look, make, watch, take_call}
use Rattle.swap_run.specs.Run.{after_turn, after_question, answered_call, role_act, act, step, continued_run}
use Rattle.disk_laws.specs.Laws.{TookWhole}

pub grows_refl : (b : Histories) → Grows b b
grows_refl b a = begins_refl (history b a)

pub grows_trans : (b c e : Histories) → Grows b c → Grows c e → Grows b e
grows_trans b c e f g a = begins_more (history b a) (history c a) (history e a) (f a) (g a)

one_more : (test : Bool) (h : List Entry) (e : Entry) → Begins h (cond test h (h ++ e ∷ []))
one_more true h e = begins_refl h
one_more false h e = (e ∷ [], refl)

call_begins : (d : Deal) (a p : ℕ) (c : Call) (h : List Entry) → Begins h (after_call d a p c h)
unfolding after_call
call_begins d a p c h = one_more (is_sender_full (history_reply d a h p c)) h (call_entry p (height h) c (history_reply d a h p c))

tick_begins : (k : ℕ) (h : List Entry) → Begins h (after_tick k h)
unfolding after_tick
tick_begins k h = one_more (is_clock_full_reply (reply_to_tick h k)) h (tick_entry k (height h + k) (reply_to_tick h k))

set_grows : (b : Histories) (a : ℕ) (h : List Entry) → Begins (history b a) h → Grows b (slice_set b a h)
set_grows b a h k z = go (same_or_not z a) (cases_lt a (length b))
  where
    go : (z ≡ a) ⊎ (z ≢ a) → (a < length b) ⊎ (length b ≤ a) → Begins (history b z) (history (slice_set b a h) z)
    go (inr apart) any = subst (Begins (history b z)) (sym (history_other b a z h apart)) (begins_refl (history b z))
    go (inl e) (inl lt) = subst (λ y. Begins (history b y) (history (slice_set b a h) y)) (sym e)
        (subst (Begins (history b a)) (sym (history_same b a h lt)) k)
    go (inl e) (inr le) =
        let none : history b z ≡ [] = get_or-eq_default b [] (omega (arith, e, le)) in
        let still : history (slice_set b a h) z ≡ [] = get_or-eq_default (slice_set b a h) [] (omega (arith, e, le, length-set b a h)) in
        subst (λ l. Begins l (history (slice_set b a h) z)) (sym none) (history (slice_set b a h) z, refl)

take_grows : (c : Cast) (s : State) (v : ℕ) (o : Option (ℕ × Call)) → Grows s.book (take_call c s v o).book
take_grows c s v None = grows_refl s.book
take_grows c s v (Some x) =
    set_grows s.book x.0 (after_call c.deal x.0 v x.1 (history s.book x.0)) (call_begins c.deal x.0 v x.1 (history s.book x.0))

pub make_grows : (c : Cast) (s : State) (v : ℕ) (o : Option Action) → Grows s.book (make c.deal s v o).book
make_grows c s v None = grows_refl s.book
make_grows c s v (Some x) =
    set_grows s.book x.arc (after_call c.deal x.arc v x.call (history s.book x.arc)) (call_begins c.deal x.arc v x.call (history s.book x.arc))

role_grows : (c : Cast) (s : State) (v : ℕ) (role : Role) → Grows s.book (role_act c s v role).book
role_grows c s v Conforming = grows_refl s.book
role_grows c s v Manual = grows_refl s.book
role_grows c s v (Script moves) =
    take_grows c (after_turn s v (moves_left (party_plan s v).known (party_plan s v).moves)) v
    (next_call c.deal c.seeds (party_plan s v).known (party_plan s v).moves)
role_grows c s v (Strategy name) = take_grows c (after_question s v name) v (answered_call c.deal v (c.answers (length s.asked)))

pub step_grows : (c : Cast) (s : State) (e : Event) → Grows s.book (step c s e).book
step_grows c s (Tick a k) = set_grows s.book a (after_tick k (history s.book a)) (tick_begins k (history s.book a))
step_grows c s (Look v a) = go (conforms c v)
  where
    go : (b : Bool) → Grows s.book (cond b (look s v a) (watch c s v a)).book
    go true = grows_refl s.book
    go false = grows_refl s.book
step_grows c s (Act v) = go (conforms c v)
  where
    go : (b : Bool) → Grows s.book (cond b (act c s v) (role_act c s v (party_role c v))).book
    go true = make_grows c s v (next_action c s v)
    go false = role_grows c s v (party_role c v)
step_grows c s (Calls v mv) = take_grows c s v (resolved c.deal c.seeds s.book mv)
step_grows c s (Crash v k image) = grows_refl s.book

pub run_grows : (c : Cast) (s : State) (events : List Event) → Grows s.book (continued_run c s events).book
run_grows c s [] = grows_refl s.book
run_grows c s (e ∷ events) =
    grows_trans s.book (step c s e).book (continued_run c (step c s e) events).book (step_grows c s e) (run_grows c (step c s e) events)

moment_grows : (f h past : List Entry) (e : Entry) → Begins f h → IsMoment f past e → IsMoment h past e
moment_grows f h past e k m = (m.0 ++ k.0, k.1 ∙ ap (λ (l : List Entry). l ++ k.0) m.1 ∙ append_assoc past (e ∷ m.0) k.0)

-- what a book took whole, each earlier one did
pub took_before : (b c : Histories) → Grows b c → TookWhole c → TookWhole b
took_before b c grows took a past e key m q = took a past e key (moment_grows (history b a) (history c a) past e (grows a) m) q
