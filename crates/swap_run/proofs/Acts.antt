-- What a conforming party makes can be made. It acts until nothing is due; one act for each call
-- that it may make is enough.
use Rattle.std.proofs.Common.{◌≡◌, ◌⊎◌, ℕ, suc, zero, ◌+◌, ◌<◌, ◌≤◌, true, false, cond, List, [], ◌∷◌, ◌++◌, length, Option, Some, None, refl, sym, ap}
use Rattle.std.proofs.Common.{◌∙◌, subst, inl, inr, arith, eq-eqb, set}
use Rattle.swap_base.specs.Lists.{IsElement}
use Rattle.ledger_core.specs.History.{is_full}
use Rattle.ledger_core.specs.Book.{Histories, history}
use Rattle.std.proofs.lemmas.Bool.{false≢true}
use Rattle.swap_job.specs.declared.event.Event.TheVariants.{Act}
use Rattle.swap_rules.specs.Due.{Action, due, first}
use Rattle.swap_rules.specs.Machine.{appended_entry, rule_test}
use Rattle.swap_rules.proofs.Machines.{rules_transfer}
use Rattle.swap_rules.proofs.Room.{rules_leave_room}
use Rattle.swap_rules.proofs.Conducting.{history_same}
use Rattle.ledger_core.specs.Ledger.{is_sender_full, after_call}
use Rattle.party_wallet.specs.Value.{signed_hashkey}
use Rattle.swap_run.specs.Run.{Cast, State, conforms, party_role, state_notes, signed_through_call, make, next_action, act, role_act, step}
use Rattle.swap_run.specs.Laws.{IsReadyCast, IsGood, CanBeMade, DueCallsCanBeMade}
use Rattle.swap_run.specs.Fair.{acts, most_acts}
use Rattle.swap_run.specs.FairLaws.{ActsComeToRest, ActsAreEnough}
use Rattle.swap_run.proofs.Entries.{call_pushes, has_room}
use Rattle.swap_run.proofs.Noted.{due_now}
use Rattle.swap_run.proofs.Good.{holds, note_same, steps_are_good}
use Rattle.swap_run.proofs.Repeats.{rest_same}
use Rattle.swap_run.proofs.Slots.{left, left_most, left_less}
use Rattle.swap_rules.proofs.Cases.{first_in}

pub first_none : {A : Type 0} (xs : List A) → first xs ≡ None → xs ≡ []
first_none [] e = refl
first_none (x ∷ xs) e = absurd (cc e)

module _ (c : Cast) (ready : IsReadyCast c) (v : ℕ) (lv : v < c.deal.graph.n) (cv : conforms c v ≡ true) where
  abbrev known : State → Histories
  known s = (state_notes s v).known

  abbrev pub all_due : State → List Action
  all_due s = due c.deal v (c.wallet v) (signed_hashkey (state_notes s v).signed) (state_notes s v).known

  pub act_is : (s : State) → step c s (Act v) ≡ act c s v
  act_is s = ap (λ z. cond z (act c s v) (role_act c s v (party_role c v))) cv

  -- where nothing is due, an act changes nothing
  pub act_rests : (s : State) → next_action c s v ≡ None → step c s (Act v) ≡ s
  act_rests s e = act_is s ∙ ap (make c.deal s v) e

  pub acts_good : (n : ℕ) (s : State) → IsGood c s → IsGood c (acts c v n s)
  acts_good zero s g = g
  acts_good (suc n) s g = steps_are_good c (acts c v n s) (Act v) ready lv (acts_good n s g)

  -- the entries of v never fill a ledger
  has_space : (s : State) (a : ℕ) → IsGood c s → is_full (history s.book a) v ≡ false
  has_space s a g =
      let hv = holds c s v (g.notes v lv cv) in
      rules_leave_room c.deal s.book (signed_hashkey (state_notes s v).signed) v a ready.accepted g.legal
      (rules_transfer c.deal (known s) s.book (signed_hashkey (state_notes s v).signed) v hv.knows hv.sound.rules)

  made : (s : State) (x : Action) → IsGood c s → next_action c s v ≡ Some x → CanBeMade c s v x
  made s x g e =
      let is =
      due_now c.deal s.book (state_notes s v) v (c.wallet v) x (ready.wallets v lv cv) ready.accepted (first_in (all_due s) x e)
      (holds c s v (g.notes v lv cv)) in
      record {
        arc = is.below;
        adjacent = is.of_the_two;
        fits = is.fits;
        room = λ q. false≢true (sym (has_room c.deal x.arc (history s.book x.arc) v x.call (has_space s x.arc g)) ∙ ap is_sender_full q);
      }

  -- a due call leaves one slot less
  made_less : (s : State) (x : Action) → IsGood c s → IsElement x (all_due s) → left c.deal v (known (make c.deal s v (Some x))) + 1 ≤ left c.deal v (known s)
  made_less s x g i =
      let hv = holds c s v (g.notes v lv cv) in
      let is = due_now c.deal s.book (state_notes s v) v (c.wallet v) x (ready.wallets v lv cv) ready.accepted i hv in
      let below : x.arc < length (known s) = subst (λ m. x.arc < m) (sym hv.one_each) is.below in
      let kn = hv.knows x.arc in
      let room = has_space s x.arc g in
      let new : after_call c.deal x.arc v x.call (history s.book x.arc) ≡ history s.book x.arc ++ appended_entry c.deal x.arc (history s.book x.arc) v x.call ∷ [] =
      call_pushes c.deal x.arc (history s.book x.arc) v x.call room in
      let there : history (set (known s) x.arc (after_call c.deal x.arc v x.call (history s.book x.arc))) x.arc ≡ history s.book x.arc
      ++ appended_entry c.deal x.arc (history s.book x.arc) v x.call ∷ [] =
      history_same (known s) x.arc (after_call c.deal x.arc v x.call (history s.book x.arc)) below ∙ new in
      subst (λ n. left c.deal v n.known + 1 ≤ left c.deal v (known s))
      (sym (note_same s (set s.book x.arc (after_call c.deal x.arc v x.call (history s.book x.arc))) v (record {
        known =
            set (known s) x.arc (after_call c.deal x.arc v x.call (history s.book x.arc));
        signed =
            signed_through_call (state_notes s v).signed x.call;
      }) (subst (λ m. v < m) (sym g.one_each) lv)))
      (left_less c.deal v (known s) (after_call c.deal x.arc v x.call (history s.book x.arc)) (history s.book x.arc) x.arc
      (appended_entry c.deal x.arc (history s.book x.arc) v x.call) is.slot there (kn.rest, kn.whole) is.slot_in is.below is.fresh
      (ap (rule_test is.slot) (ap (λ z. cond z (Some x.call) None) (eq-eqb v v refl)) ∙ is.passes))

  -- an act makes a call, or nothing is due
  act_case : (s : State) → IsGood c s → (next_action c s v ≡ None) ⊎ (left c.deal v (known (step c s (Act v))) + 1 ≤ left c.deal v (known s))
  act_case s g = go (next_action c s v) refl
    where
      go : (o : Option Action) → next_action c s v ≡ o → (next_action c s v ≡ None) ⊎ (left c.deal v (known (step c s (Act v))) + 1 ≤ left c.deal v (known s))
      go None e = inl e
      go (Some x) e =
          inr (subst (λ t. left c.deal v (known t) + 1 ≤ left c.deal v (known s)) (sym (act_is s
          ∙ ap (make c.deal s v) e)) (made_less s x g (first_in (all_due s) x e)))

  rest_or_less : (n : ℕ) (s : State) → IsGood c s
      → (next_action c (acts c v n s) v ≡ None) ⊎ (left c.deal v (known (acts c v n s)) + n ≤ left c.deal v (known s))
  rest_or_less zero s g = inr (omega arith)
  rest_or_less (suc n) s g = go (rest_or_less n s g) (act_case (acts c v n s) (acts_good n s g))
    where
      go : (next_action c (acts c v n s) v ≡ None) ⊎ (left c.deal v (known (acts c v n s)) + n ≤ left c.deal v (known s))
          → (next_action c (acts c v n s) v ≡ None) ⊎ (left c.deal v (known (step c (acts c v n s) (Act v))) + 1 ≤ left c.deal v (known (acts c v n s)))
          → (next_action c (step c (acts c v n s) (Act v)) v ≡ None) ⊎ (left c.deal v (known (step c (acts c v n s) (Act v))) + suc n ≤ left c.deal v (known s))
      go (inl e) k = inl (ap (λ t. next_action c t v) (act_rests (acts c v n s) e) ∙ e)
      go (inr l) (inl e) = inl (ap (λ t. next_action c t v) (act_rests (acts c v n s) e) ∙ e)
      go (inr l) (inr m) = inr (omega arith)

  pub at_rest : (s : State) → IsGood c s → next_action c (acts c v (most_acts c.deal) s) v ≡ None
  at_rest s g = go (rest_or_less (most_acts c.deal) s g) (act_case (acts c v (most_acts c.deal) s) (acts_good (most_acts c.deal) s g))
    where
      go : (next_action c (acts c v (most_acts c.deal) s) v ≡ None)
          ⊎ (left c.deal v (known (acts c v (most_acts c.deal) s)) + most_acts c.deal ≤ left c.deal v (known s))
          → (next_action c (acts c v (most_acts c.deal) s) v ≡ None)
          ⊎ (left c.deal v (known (step c (acts c v (most_acts c.deal) s) (Act v))) + 1 ≤ left c.deal v (known (acts c v (most_acts c.deal) s)))
          → next_action c (acts c v (most_acts c.deal) s) v ≡ None
      go (inl e) k = e
      go (inr l) (inl e) = e
      go (inr l) (inr m) =
          absurd (over (most_acts c.deal) (left c.deal v (known s)) (left c.deal v (known (acts c v (most_acts c.deal) s)))
          (left c.deal v (known (step c (acts c v (most_acts c.deal) s) (Act v)))) (left_most c.deal v (known s)) l m)
        where
          over : (most all some less : ℕ) → all ≤ most → some + most ≤ all → less + 1 ≤ some → ⊥
          over most all some less a b d = omega arith

pub due_calls_can_be_made : DueCallsCanBeMade
due_calls_can_be_made c s v x ready g lv cv e = made c ready v lv cv s x g e

pub acts_come_to_rest : ActsComeToRest
acts_come_to_rest c s v ready g lv cv = at_rest c ready v lv cv s g

pub acts_are_enough : ActsAreEnough
acts_are_enough c s v n ready g lv cv e =
    rest_same n (most_acts c.deal) (λ s. step c s (Act v)) s (act_rests c ready v lv cv (acts c v n s) e)
    (act_rests c ready v lv cv (acts c v (most_acts c.deal) s) (at_rest c ready v lv cv s g))
