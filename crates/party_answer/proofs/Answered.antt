-- What is promised of an answer.
use Rattle.std.proofs.Common.{◌≡◌, ◌≢◌, ◌⊎◌, ℕ, ◌<◌, ◌≤◌, ◌+◌, ◌&&◌, ◌||◌, not, length, Bool, true, false, List, [], ◌++◌, Option, Some, Result, Ok, refl, sym, ap, ◌∙◌}
use Rattle.std.proofs.Common.{subst, inl, inr, arith}
use Rattle.std.proofs.lemmas.Bool.{false≢true}
use Rattle.swap_base.specs.Lists.{IsElement}
use Rattle.swap_base.proofs.Lists.{and_both, and_parts, from_filter, in_filter, in_flat_map, in_map}
use Rattle.swap_digraph.specs.declared.deal.Deal.{Deal}
use Rattle.swap_digraph.specs.declared.deal.Mode.{Mode}
use Rattle.swap_digraph.specs.declared.deal.Mode.TheVariants.{Timelocks, Hashkeys}
use Rattle.swap_digraph.specs.Graph.{entering, leaving}
use Rattle.hashkey_path.specs.declared.hashkey.Hashkey.{Hashkey}
use Rattle.escrow_core.specs.declared.terms.Terms.{Terms}
use Rattle.escrow_core.specs.Terms.{stated_terms}
use Rattle.ledger_core.specs.declared.entry.Call.{Call}
use Rattle.ledger_core.specs.declared.entry.Call.TheVariants.{Publish, Unlock, Claim, Refund}
use Rattle.ledger_core.specs.declared.entry.Entry.{Entry}
use Rattle.ledger_core.specs.History.{height}
use Rattle.ledger_core.specs.Book.{Histories, history, IsLegalBook}
use Rattle.swap_rules.specs.Accepted.{IsAccepted}
use Rattle.swap_rules.specs.Conduct.{is_publish}
use Rattle.swap_rules.specs.Party.{is_ready, leads_one}
use Rattle.swap_rules.specs.Due.{Action, due, due_arc_unlock, has_called, is_due_publish, when_due}
use Rattle.swap_rules.specs.Machine.{IsWallet}
use Rattle.swap_rules.specs.Rest.{are_ticks, rest_deadline, StaysLow}
use Rattle.swap_rules.proofs.Cases.{Case, ToPublish, ToUnlock, ToClaim, ToRefund, case_of}
use Rattle.swap_rules.proofs.Prefixes.{from_flat_map}
use Rattle.swap_rules.proofs.Rest.{rests_below}
use Rattle.swap_rules.specs.Useful.{PublishesLate, RevealsLate, UnlocksLate}
use Rattle.swap_rules.proofs.Useful.{useful_is_due, only_harm_is_left_out, ticks_make_nothing_useful}
use Rattle.wallet_promise.specs.Life.{kept_note, make_if, is_kept}
use Rattle.wallet_promise.specs.Answers.{was_sent, MayGo, MayKeep}
use Rattle.wallet_promise.proofs.Keys.{kept_state}
use Rattle.wallet_promise.proofs.Enough.{same_useful}
use Rattle.wallet_promise.proofs.Landing.{answered_opens}
use Rattle.party_wallet.specs.Keys.{own_key, onto_key}
use Rattle.party_machine.specs.Wallet.{seed_wallet}
use Rattle.answer_rules.specs.Heights.{HasHeight, last_accepted}
use Rattle.answer_rules.specs.Finished.{are_finished, ContinuesWithoutParty}
use Rattle.answer_rules.specs.Stopped.{is_stopped_call}
use Rattle.answer_rules.specs.Laws.{AreGoodKeys, SignsItsLock}
use Rattle.answer_rules.proofs.OnTime.{useful_has_height}
use Rattle.answer_rules.proofs.Until.{unlocks_have_last}
use Rattle.answer_rules.proofs.Ending.{finished_stays}
use Rattle.answer_rules.proofs.Waiting.{ticks_leave_nothing}
use Rattle.answer_rules.proofs.UsefulKinds.{nothing_in}
use Rattle.party_answer.specs.declared.timed.Timed.{Timed}
use Rattle.party_answer.specs.declared.given.Answer.{Answer}
use Rattle.party_notes.specs.declared.reason.AnswerReason.{AnswerReason}
use Rattle.party_notes.specs.Asked.{PartyQuestion, known}
use Rattle.useful_calls.specs.Landing.{may_land}
use Rattle.useful_calls.specs.Actions.{is_lock_stopped}
use Rattle.party_answer.specs.Stale.{is_any, waits_for}
use Rattle.party_answer.specs.Lines.{last_helpful, untimed, Line, Present, KeepFirst}
use Rattle.party_answer.specs.Text.{answerable_landing, answered, answered_calls, due_text, kept_keys, answered_lines, landing_actions, landing_calls, lands_at, own_wallet}
use Rattle.party_answer.specs.Text.{question_answer, stale, stopped, unkept, unsent, useful_actions, useful_landing, was_published}
use Rattle.party_answer.specs.Promised.{MayBeMade, MayBeKept, CanOnlyHurt, IsLockStopped, IsLeftOutAction, IsNothingAnswered, IsStale, IsWithinRest, HasLastHeight, OpensInTime, Settles, StopsItsLock, TrustsNoStaleLedger, WaitsForLedger}
use Rattle.party_answer.specs.Promised.{own_timed, with_more, IsPromisedAnswer}
use Rattle.party_answer.proofs.Signing.{none_kept, signing_is_stopped, unlock_in}
use Rattle.party_answer.proofs.Stopping.{others, torn_is_stopped}
use Rattle.party_answer.proofs.Unwaiting.{goes_on, no_publish, none_waits, on_shown, says_wait, some_stale, stale_in}
use Rattle.party_answer.proofs.Members.{from_map, Parts, ToPresent, ToKeep, parts, from_lines, to_present, to_keep, never_empty}

-- A seed signs for the lock that it is asked for.

own_lock : (m : Mode) (d : Deal) (v : ℕ) (seed : List ℕ) (i : ℕ) → (own_key m d v seed i).lock ≡ i
own_lock Timelocks d v seed i = refl
own_lock Hashkeys d v seed i = refl

onto_lock : (m : Mode) (d : Deal) (v : ℕ) (seed : List ℕ) (inner : Hashkey) → (onto_key m d v seed inner).lock ≡ inner.lock
onto_lock Timelocks d v seed inner = refl
onto_lock Hashkeys d v seed inner = refl

longer : (m : Mode) (d : Deal) (v : ℕ) (seed : List ℕ) (inner : Hashkey) → length (onto_key m d v seed inner).path ≤ length inner.path + 1
longer Timelocks d v seed inner = omega arith
longer Hashkeys d v seed inner = omega arith

pub seed_signs : (d : Deal) (v : ℕ) (seed : List ℕ) → SignsItsLock (seed_wallet seed v d)
seed_signs d v seed = record { own = own_lock d.mode d v seed; onto = onto_lock d.mode d v seed; longer = longer d.mode d v seed }

-- What holds of a question that is answered.
pub record IsSound (q : PartyQuestion) : Type 0 where
  pub accepted : IsAccepted q.deal
  pub party : q.me < q.deal.graph.n
  pub wallet : IsWallet q.deal q.me (own_wallet q)
  pub legal : IsLegalBook q.deal (known q)
  pub good : AreGoodKeys q.deal q.me (kept_keys q)

stays_low : (d : Deal) (v : ℕ) (k : Histories) (a : ℕ) (more : List Entry) → IsWithinRest (rest_deadline d v k) (height (history k a ++ more))
    → StaysLow d v k a more
stays_low d v k a more low i waits =
    let b = rests_below d v k a i waits in
    let le : height (history k a ++ more) ≤ b.0 = subst (λ (o : Option ℕ). IsWithinRest o (height (history k a ++ more))) b.1 low in
    omega (arith, le, b.2)

not_true : (b : Bool) → not b ≡ true → b ≡ false
not_true true e = absurd (false≢true e)
not_true false e = refl

module _ (q : PartyQuestion) (sound : IsSound q) where
  signs : SignsItsLock (own_wallet q)
  signs = seed_signs q.deal q.me q.seed

  abbrev is_out : Action → Bool
  is_out x = is_stopped_call (is_lock_stopped (stopped q)) x.call

  abbrev is_sent_already : Action → Bool
  is_sent_already x = was_sent (was_published q) x

  -- a call of these is useful, and isn't stopped
  from_answerable : (at : ℕ → ℕ) (k : Histories) (x : Action) → IsElement x (answerable_landing q at k) → IsElement x (useful_landing q at k) × (is_out x ≡ false)
  from_answerable at k x i =
      let f = from_filter (λ y. not (is_out y)) x (useful_landing q at k) i in (f.0, not_true (is_out x) f.1)

  to_answerable : (at : ℕ → ℕ) (k : Histories) (x : Action) → IsElement x (useful_landing q at k) → is_out x ≡ false → IsElement x (answerable_landing q at k)
  to_answerable at k x i s = in_filter (λ y. not (is_out y)) x (useful_landing q at k) i (ap not s)

  -- a call of the answer is useful, isn't stopped, wasn't sent, and waits for no ledger
  pub record IsAnsweredCall (x : Action) : Type 0 where
    pub useful : IsElement x (useful_actions q (known q))
    pub goes : is_out x ≡ false
    pub unsent : is_sent_already x ≡ false
    pub shown : waits_for (stale q) x ≡ false

  from_answered : (x : Action) → IsElement x (answered q) → IsAnsweredCall x
  from_answered x i =
      let w = from_filter (λ y. not (waits_for (stale q) y)) x (unsent q (answerable_landing q (lands_at q) (known q))) i in
      let f = from_filter (λ y. not (is_sent_already y)) x (answerable_landing q (lands_at q) (known q)) w.0 in
      let g = from_answerable (lands_at q) (known q) x f.0 in
      record { useful = g.0; goes = g.1; unsent = not_true (is_sent_already x) f.1; shown = not_true (waits_for (stale q) x) w.1 }

  to_answered : (x : Action) → IsAnsweredCall x → IsElement x (answered q)
  to_answered x i =
      in_filter (λ y. not (waits_for (stale q) y)) x (unsent q (answerable_landing q (lands_at q) (known q)))
      (in_filter (λ y. not (is_sent_already y)) x (answerable_landing q (lands_at q) (known q)) (to_answerable (lands_at q) (known q) x i.useful i.goes)
      (ap not i.unsent)) (ap not i.shown)

  -- with its heights
  from_calls : (t : Timed) → IsElement t (answered_calls q) → (x : Action) × IsElement x (answered q) × (own_timed q x ≡ t)
  from_calls t i = from_map (own_timed q) (answered q) t i

  to_calls : (x : Action) → IsElement x (answered q) → IsElement (own_timed q x) (answered_calls q)
  to_calls x i = in_map (own_timed q) (answered q) x i

  call_is : (t : Timed) → IsElement t (answered_calls q) → IsAnsweredCall (untimed t)
  call_is t i = let f = from_calls t i in subst (λ (y : Timed). IsAnsweredCall (untimed y)) f.2 (from_answered f.0 f.1)

  due_call : (t : Timed) → IsElement t (answered_calls q) → IsElement (untimed t) (due q.deal q.me (own_wallet q) (kept_keys q) (known q))
  due_call t i = useful_is_due q.deal q.me (lands_at q) (own_wallet q) (kept_keys q) (known q) (untimed t) (call_is t i).useful

  -- ---- line by line

  -- a line with what it says of its call
  pub record Said (y : Line) : Type 0 where
    pub call : Timed
    pub within : IsElement call (answered_calls q)
    pub says : Parts (kept_keys q) call y

  said : (y : Line) → IsElement y (answered_lines q) → Said y
  said y i =
      let f = from_lines (kept_keys q) (answered_calls q) y i in
      record { call = f.0; within = f.1; says = subst (Parts (kept_keys q) f.0) f.2 (parts (kept_keys q) f.0) }

  -- the call that may be presented, of the answer, and its hashkey was kept
  presented_here : (t u : Timed) (y : Line) → IsElement u (answered_calls q) → Parts (kept_keys q) u y → y ≡ Present t
      → IsElement t (answered_calls q) × (is_kept (kept_keys q) t.call ≡ true)
  presented_here t u y i (ToPresent k) e =
      let same : u ≡ t = cc e in
      (subst (λ (z : Timed). IsElement z (answered_calls q)) same i, subst (λ (z : Timed). is_kept (kept_keys q) z.call ≡ true) same k)
  presented_here t u y i (ToKeep key k c) e = absurd (cc e)

  presents : (t : Timed) → IsElement (Present t) (answered_lines q) → IsElement t (answered_calls q) × (is_kept (kept_keys q) t.call ≡ true)
  presents t i = let s = said (Present t) i in presented_here t s.call (Present t) s.within s.says refl

  may_be_made : (t : Timed) → IsElement (Present t) (answered_lines q) → MayBeMade q (untimed t)
  may_be_made t i = let p = presents t i in record { is_due = due_call t p.0; was_kept = p.1 }

  may_be_kept : (t u : Timed) (key : Hashkey) (y : Line) → IsElement u (answered_calls q) → Parts (kept_keys q) u y → y ≡ KeepFirst t key → MayBeKept q key
  may_be_kept t u key y i (ToPresent k) e = absurd (cc e)
  may_be_kept t u key y i (ToKeep other k c) e =
      let same : other ≡ key = cc e in
      subst (MayBeKept q) same (record {
        unlock = untimed u;
        is_due = due_call u i;
        asks = ap (λ (b : Bool). make_if b (untimed u)) k ∙ ap kept_note c;
      })

  -- ---- publishes

  abbrev DueCase : ℕ → Call → Type 0
  DueCase a c = Case q.deal q.me (own_wallet q) (kept_keys q) (known q) a c

  case_here : (x : Action) → IsElement x (due q.deal q.me (own_wallet q) (kept_keys q) (known q)) → DueCase x.arc x.call
  case_here x i = case_of q.deal q.me (own_wallet q) (kept_keys q) (known q) x i

  opens : (t : Timed) (terms : Terms) → IsElement (Present t) (answered_lines q) → t.call ≡ Publish terms → OpensInTime q t terms
  opens t terms i e =
      answered_opens q.deal q.me (lands_at q) (own_wallet q) (kept_keys q) (known q) (untimed t) terms (call_is t (presents t i).0).useful e

  -- a due publish that was sent may land
  due_lands : (c : Call) (a : ℕ) → DueCase a c → (is_publish (Some c) && was_published q a) ≡ true
      → IsElement a (leaving q.deal.graph q.me) × (may_land q.kept.sent q.me (known q) a ≡ true)
  unfolding is_due_publish
  due_lands c a (ToPublish i d e) s =
      let p = and_parts (is_publish (Some c)) (was_published q a) s in (
        i,
        and_both (was_published q a) (not (has_called q.me is_publish (history (known q) a))) p.1
            (and_parts (leads_one q.deal q.me || is_ready q.deal (known q) q.me) (not (has_called q.me is_publish (history (known q) a))) d).1,
      )
  due_lands c a (ToClaim i d e) s = absurd (false≢true (sym (ap (λ (z : Call). is_publish (Some z) && was_published q a) e) ∙ s))
  due_lands c a (ToRefund i d e) s = absurd (false≢true (sym (ap (λ (z : Call). is_publish (Some z) && was_published q a) e) ∙ s))
  due_lands c a (ToUnlock i key b j m d e) s = absurd (false≢true (sym (ap (λ (z : Call). is_publish (Some z) && was_published q a) e) ∙ s))

  abbrev landing_on : ℕ → List Action
  landing_on a = when_due (may_land q.kept.sent q.me (known q) a) a (Publish (stated_terms q.deal a))

  when_in : (b : Bool) (a : ℕ) (c : Call) → b ≡ true → IsElement (record { arc = a; call = c }) (when_due b a c)
  when_in true a c e = inl refl
  when_in false a c e = absurd (cc e)

  when_from : (b : Bool) (a : ℕ) (c : Call) (x : Action) → IsElement x (when_due b a c) → (b ≡ true) × (x.arc ≡ a)
  when_from true a c x (inl e) = (refl, ap (λ (y : Action). y.arc) e)
  when_from true a c x (inr i) = absurd i
  when_from false a c x i = absurd i

  lands : (a : ℕ) → IsElement a (leaving q.deal.graph q.me) → may_land q.kept.sent q.me (known q) a ≡ true
      → (t : Timed) × IsElement t (landing_calls q) × (t.arc ≡ a)
  lands a i e =
      let x : Action = record { arc = a; call = Publish (stated_terms q.deal a) } in (
        own_timed q x,
        in_map (own_timed q) (landing_actions q) x
            (in_flat_map landing_on (leaving q.deal.graph q.me) a x i (when_in (may_land q.kept.sent q.me (known q) a) a (Publish (stated_terms q.deal a)) e)),
        refl,
      )

  landed : (t : Timed) → IsElement t (landing_calls q) → may_land q.kept.sent q.me (known q) t.arc ≡ true
  landed t i =
      let f = from_map (own_timed q) (landing_actions q) t i in
      let g = from_flat_map landing_on (leaving q.deal.graph q.me) f.0 f.1 in
      let w = when_from (may_land q.kept.sent q.me (known q) g.0) g.0 (Publish (stated_terms q.deal g.0)) f.0 g.2 in
      ap (may_land q.kept.sent q.me (known q)) (ap (λ (z : Timed). z.arc) (sym f.2) ∙ w.1) ∙ w.0

  none_there : {A : Type 0} (xs : List A) (x : A) → xs ≡ [] → IsElement x xs → ⊥
  none_there xs x e i = subst (λ (ys : List _). IsElement x ys) e i

  -- where nothing is answered, and nothing may land, nothing is useful but for stopped locks
  nothing_left : IsNothingAnswered q → answerable_landing q (lands_at q) (known q) ≡ []
  nothing_left none = nothing_in (answerable_landing q (lands_at q) (known q)) (λ x i. by x (from_answerable (lands_at q) (known q) x i) (is_sent_already x) refl)
    where
      by : (x : Action) → IsElement x (useful_actions q (known q)) × (is_out x ≡ false) → (b : Bool) → is_sent_already x ≡ b → ⊥
      by x f false e = none_there (answered q) x (IsNothingAnswered.calls none) (to_answered x (record {
        useful = f.0;
        goes = f.1;
        unsent = e;
        shown = ap (λ (s : List ℕ). waits_for s x) (IsNothingAnswered.shown none) ∙ none_waits x;
      }))
      by x f true e =
          let d = useful_is_due q.deal q.me (lands_at q) (own_wallet q) (kept_keys q) (known q) x f.0 in
          let l = due_lands x.call x.arc (case_here x d) e in
          let t = lands x.arc l.0 l.1 in none_there (landing_calls q) t.0 (IsNothingAnswered.landing none) t.1

  -- ---- nothing is left out

  waiting_or : (x : Action) → IsElement x (useful_actions q (known q)) → is_sent_already x ≡ false → is_out x ≡ false → (b : Bool) → waits_for (stale q) x ≡ b
      → IsElement x (answered q) ⊎ WaitsForLedger q x
  waiting_or x i s o true e = inr e
  waiting_or x i s o false e = inl (to_answered x (record { useful = i; goes = o; unsent = s; shown = e }))

  stopped_or : (x : Action) → IsElement x (useful_actions q (known q)) → is_sent_already x ≡ false → (b : Bool) → is_out x ≡ b
      → IsElement x (answered q) ⊎ (IsLockStopped q x ⊎ WaitsForLedger q x)
  stopped_or x i s true e = inr (inl e)
  stopped_or x i s false e = go (waiting_or x i s e (waits_for (stale q) x) refl)
    where
      go : IsElement x (answered q) ⊎ WaitsForLedger q x → IsElement x (answered q) ⊎ (IsLockStopped q x ⊎ WaitsForLedger q x)
      go (inl j) = inl j
      go (inr w) = inr (inr w)

  answered_or : (x : Action) → IsElement x (due q.deal q.me (own_wallet q) (kept_keys q) (known q)) → is_sent_already x ≡ false
      → IsElement x (answered q) ⊎ IsLeftOutAction q x
  answered_or x i s = go (only_harm_is_left_out q.deal q.me (lands_at q) (own_wallet q) (kept_keys q) (known q) x i)
    where
      by_stop : IsElement x (answered q) ⊎ (IsLockStopped q x ⊎ WaitsForLedger q x) → IsElement x (answered q) ⊎ IsLeftOutAction q x
      by_stop (inl j) = inl j
      by_stop (inr t) = inr (inr t)

      go : IsElement x (useful_actions q (known q)) ⊎ CanOnlyHurt q x → IsElement x (answered q) ⊎ IsLeftOutAction q x
      go (inl j) = by_stop (stopped_or x j s (is_out x) refl)
      go (inr harm) = inr (inl harm)

  all_made : (x : Action) → MayBeMade q x → is_sent_already x ≡ false → IsElement (Present (own_timed q x)) (answered_lines q) ⊎ IsLeftOutAction q x
  all_made x may s = go (answered_or x (MayGo.is_due may) s)
    where
      go : IsElement x (answered q) ⊎ IsLeftOutAction q x → IsElement (Present (own_timed q x)) (answered_lines q) ⊎ IsLeftOutAction q x
      go (inr out) = inr out
      go (inl i) =
          inl (to_present (kept_keys q) (answered_calls q) (own_timed q x) (to_calls x i) (MayGo.was_kept may))

  each_kept : (key : Hashkey) (may : MayBeKept q key)
      → ((t : Timed) × (other : Hashkey) × IsElement (KeepFirst t other) (answered_lines q) × (other.lock ≡ key.lock)) ⊎ IsLeftOutAction q (MayKeep.unlock may)
  each_kept key may =
      let unlock = kept_state (kept_keys q) (MayKeep.unlock may) key (MayKeep.asks may) in
      let s : is_sent_already (MayKeep.unlock may) ≡ false =
      ap (λ (c : Call). is_publish (Some c) && was_published q (Action.arc (MayKeep.unlock may))) unlock.0 in
      go (answered_or (MayKeep.unlock may) (MayKeep.is_due may) s)
    where
      go : IsElement (MayKeep.unlock may) (answered q) ⊎ IsLeftOutAction q (MayKeep.unlock may)
          → ((t : Timed) × (other : Hashkey) × IsElement (KeepFirst t other) (answered_lines q) × (other.lock ≡ key.lock)) ⊎ IsLeftOutAction q (MayKeep.unlock may)
      go (inr out) = inr out
      go (inl i) =
          let unlock = kept_state (kept_keys q) (MayKeep.unlock may) key (MayKeep.asks may) in
          inl (to_keep (kept_keys q) (answered_calls q) (own_timed q (MayKeep.unlock may)) key (to_calls (MayKeep.unlock may) i)
          (ap (is_kept (kept_keys q)) unlock.0 ∙ unlock.1) unlock.0)

  -- ---- stale ledgers

  -- a hashkey that has to be kept first is that of an answered unlock, and none was kept
  keeps_new : (t u : Timed) (key : Hashkey) (y : Line) → IsElement u (answered_calls q) → Parts (kept_keys q) u y → y ≡ KeepFirst t key
      → (is_kept (kept_keys q) u.call ≡ false) × (u.call ≡ Unlock key)
  keeps_new t u key y i (ToPresent k) e = absurd (cc e)
  keeps_new t u key y i (ToKeep other k c) e = let same : other ≡ key = cc e in (k, subst (λ (z : Hashkey). u.call ≡ Unlock z) same c)

  no_signing : (a : ℕ) (t : Timed) (key : Hashkey) → IsStale q a → IsElement (KeepFirst t key) (answered_lines q) → ⊥
  no_signing a t key st i =
      let s = said (KeepFirst t key) i in
      let n = keeps_new t s.call key (KeepFirst t key) s.within s.says refl in
      let c = call_is s.call s.within in
      let k =
      none_kept q.deal q.me (own_wallet q) (kept_keys q) (known q) sound.legal signs sound.good (untimed s.call) key (due_call s.call s.within) n.1
      (sym (ap (is_kept (kept_keys q)) n.1) ∙ n.0) in
      false≢true
      (sym (sym (ap (is_stopped_call (is_lock_stopped (stopped q))) n.1) ∙ c.goes)
      ∙ signing_is_stopped q.deal (kept_keys q) q.kept.stopped (unkept q) (stale q) a key.lock st k.0 k.1)

  -- a claim or a refund can't hurt
  harmless : (x : Action) → ((key : Hashkey) → x.call ≢ Unlock key) → ((terms : Terms) → x.call ≢ Publish terms) → CanOnlyHurt q x → ⊥
  harmless x unlocks publishes (PublishesLate e late) = publishes (stated_terms q.deal x.arc) e
  harmless x unlocks publishes (UnlocksLate i a j late) = let u = unlock_in q.deal q.me (own_wallet q) (kept_keys q i) (known q) i a x j in unlocks u.0 u.1
  harmless x unlocks publishes (RevealsLate i j late) =
      let f = from_flat_map (due_arc_unlock q.deal q.me (own_wallet q) (kept_keys q i) (known q) i) (entering q.deal.graph q.me) x j in
      let u = unlock_in q.deal q.me (own_wallet q) (kept_keys q i) (known q) i f.0 x f.2 in unlocks u.0 u.1

  settled : (x : Action) (c : Call) → MayBeMade q x → x.call ≡ c → is_publish (Some c) ≡ false → is_stopped_call (is_lock_stopped (stopped q)) c ≡ false
      → (CanOnlyHurt q x → ⊥) → (IsStale q x.arc → ⊥) → IsElement (Present (own_timed q x)) (answered_lines q)
  settled x c may e p s harm shown = go (all_made x may (ap (λ (b : Bool). b && was_published q x.arc) (ap (λ (z : Call). is_publish (Some z)) e ∙ p)))
    where
      go : IsElement (Present (own_timed q x)) (answered_lines q) ⊎ IsLeftOutAction q x → IsElement (Present (own_timed q x)) (answered_lines q)
      go (inl i) = i
      go (inr (inl h)) = absurd (harm h)
      go (inr (inr (inl out))) = absurd (false≢true (sym (ap (is_stopped_call (is_lock_stopped (stopped q))) e ∙ s) ∙ out))
      go (inr (inr (inr w))) = absurd (false≢true (sym (goes_on (stale q) x (ap (λ (z : Call). is_publish (Some z)) e ∙ p) shown) ∙ w))

  settles : (x : Action) → MayBeMade q x → Settles x → (IsStale q x.arc → ⊥) → IsElement (Present (own_timed q x)) (answered_lines q)
  settles x may (inl e) shown = settled x Claim may e refl refl (harmless x (λ key u. cc (sym e ∙ u)) (λ terms u. cc (sym e ∙ u))) shown
  settles x may (inr e) shown = settled x Refund may e refl refl (harmless x (λ key u. cc (sym e ∙ u)) (λ terms u. cc (sym e ∙ u))) shown

  cautious : TrustsNoStaleLedger q
  cautious = record {
    told = stale_in q.deal q.me (known q) q.kept.seen;
    publishes = λ a t terms st i e. no_publish (stale q) (untimed t) a (call_is t (presents t i).0).shown st (ap (λ (c : Call). is_publish (Some c)) e);
    signs = no_signing;
    calls = λ t i st. on_shown (stale q) (untimed t) (call_is t (presents t i).0).shown st;
    settles = settles;
    rests = λ a st e f. says_wait q.deal (known q) q.me (is_any (stale q)) (answered_calls q) (landing_calls q) (some_stale (stale q) a st) e f;
  }

  -- ---- torn notes

  alone : StopsItsLock q
  alone = record {
    torn = torn_is_stopped q;
    silent = λ t key i e. sym (ap (is_stopped_call (is_lock_stopped (stopped q))) e) ∙ (call_is t i).goes;
    others = others q;
  }

  -- ---- heights

  has_height : (t : Timed) → IsElement t (answered_calls q) → HasHeight q.deal (known q) q.me (kept_keys q) (untimed t) t.last
  has_height t i =
      let f = from_calls t i in
      subst (λ (z : Timed). HasHeight q.deal (known q) q.me (kept_keys q) (untimed z) z.last) f.2
      (useful_has_height q.deal q.me (lands_at q) (own_wallet q) (kept_keys q) (known q) f.0 sound.legal signs sound.good (from_answered f.0 f.1).useful)

  is_until : (t : Timed) (key : Hashkey) → IsElement t (answered_calls q) → t.call ≡ Unlock key → HasLastHeight q t key
  is_until t key i c =
      let f = from_calls t i in
      let e : Action.call f.0 ≡ Unlock key = ap (λ (z : Timed). z.call) f.2 ∙ c in
      let l =
      unlocks_have_last q.deal q.me (lands_at q) (own_wallet q) (kept_keys q) (known q) f.0 key sound.legal sound.wallet signs sound.good
      (from_answered f.0 f.1).useful e in
      subst (λ (z : Timed). HasLastHeight q z key) f.2
      (l.0, ap (last_helpful q.deal (Action.arc f.0)) e ∙ (ap (last_accepted q.deal (Action.arc f.0)) (sym e) ∙ l.1), l.2)

  -- ---- rest

  stays_waiting : (later : ℕ → ℕ) (a : ℕ) (more : List Entry) → IsNothingAnswered q → are_ticks more ≡ true → ((c : ℕ) → lands_at q c ≤ later c)
      → IsWithinRest (rest_deadline q.deal q.me (known q)) (height (history (known q) a ++ more)) → answerable_landing q later (with_more q a more) ≡ []
  stays_waiting later a more none ticks higher low =
      ticks_leave_nothing q.deal q.me (lands_at q) later (own_wallet q) (kept_keys q) (is_lock_stopped (stopped q)) (known q) a more ticks higher
      (nothing_left none) (stays_low q.deal q.me (known q) a more low)

  stays_done : (later : ℕ → ℕ) (h : Histories) → IsNothingAnswered q → are_finished q.deal (known q) q.me ≡ true → IsLegalBook q.deal h
      → ContinuesWithoutParty q.me (known q) h → ((c : ℕ) → lands_at q c ≤ later c) → answerable_landing q later h ≡ []
  stays_done later h none fin legal on higher = nothing_in (answerable_landing q later h) (λ x i.
      let f = from_answerable later h x i in
      let before =
      finished_stays q.deal q.me (lands_at q) later (own_wallet q) (kept_keys q) (known q) h x sound.accepted sound.legal legal fin on higher f.0 in
      none_there (answerable_landing q (lands_at q) (known q)) x (nothing_left none) (to_answerable (lands_at q) (known q) x before f.1))

  pub holds : (asks : Result PartyQuestion AnswerReason) (a : Answer) → asks ≡ Ok q → a ≡ question_answer q → IsPromisedAnswer asks a
  unfolding due_text
  holds asks a e is = record {
    question = q;
    asked = e;
    is = is;
    accepted = sound.accepted;
    party = sound.party;
    wallet = sound.wallet;
    legal = sound.legal;
    go = may_be_made;
    once = λ t i. (call_is t (presents t i).0).unsent;
    helps = λ t i. (call_is t (presents t i).0).useful;
    opens = opens;
    keep = λ t key i. let s = said (KeepFirst t key) i in may_be_kept t s.call key (KeepFirst t key) s.within s.says refl;
    landing = landed;
    lands = lands;
    all = all_made;
    each = each_kept;
    alone = alone;
    cautious = cautious;
    heard = λ at h says. sym (same_useful q.deal q.me (known q) h says at (own_wallet q) (kept_keys q));
    rest = λ later c more none ticks higher low. ticks_make_nothing_useful q.deal q.me (lands_at q) later (own_wallet q) (kept_keys q) (known q) c more ticks
        higher none (stays_low q.deal q.me (known q) c more low);
    wait = stays_waiting;
    done = stays_done;
    never_empty = never_empty (is_any (stale q)) q.deal (known q) q.me (kept_keys q) (answered_calls q) (landing_calls q);
    by = has_height;
    until = is_until;
  }
