-- Rounds in which nobody makes a call: a round after as many ticks leads to where all of them lead.
use Rattle.std.proofs.Common.{◌≡◌, ◌≢◌, ◌⊎◌, inl, inr, ℕ, zero, suc, ◌+◌, ◌<◌, ◌≤◌, arith, nat_le, nat_lt, ltb-true, ◌&&◌, ◌++◌, append-nil, append_assoc, Bool}
use Rattle.std.proofs.Common.{true, false, cond, List, [], ◌∷◌, length, set, get_or, fold}
use Rattle.std.proofs.Common.{Option, Some, None, refl, sym, ap, ap₂, ◌∙◌, subst}
use Rattle.std.specs.List.{range_with_len}
use Rattle.std.proofs.lemmas.List.Folds.{list_all-append}
use Rattle.ledger_core.proofs.History.{not-true}
use Rattle.std.proofs.lemmas.List.{set-set, set_comm, set-get_or, length-set, get_or-set_same, get_or-set_other}
use Rattle.swap_base.specs.Lists.{IsElement}
use Rattle.swap_base.proofs.Lists.{from_range, in_range, list_all-in}
use Rattle.swap_digraph.specs.Graph.{arcs}
use Rattle.hashkey_path.specs.declared.hashkey.Hashkey.{Hashkey}
use Rattle.ledger_core.specs.declared.entry.Entry.{Entry}
use Rattle.escrow_core.specs.declared.reply.Reply.TheVariants.{Accepted}
use Rattle.ledger_core.specs.Ledger.{after_call, tick_entry}
use Rattle.ledger_core.specs.History.{height, is_clock_full}
use Rattle.ledger_core.proofs.Bounds.{height-push}
use Rattle.ledger_core.specs.Book.{Histories, history}
use Rattle.swap_job.specs.declared.event.Event.TheVariants.{Look, Act, Tick}
use Rattle.party_wallet.specs.Value.{signed_hashkey}
use Rattle.swap_rules.specs.Due.{Action, due, first}
use Rattle.swap_rules.specs.Rest.{are_ticks, is_ticking}
use Rattle.swap_rules.proofs.Prefixes.{same_or_not}
use Rattle.swap_rules.proofs.Conducting.{history_same, history_other}
use Rattle.swap_run.specs.Run.{Cast, Notes, State, conforms, party_role, is_planned, state_notes, notes_with_ledger, signed_through_call, after_tick, look}
use Rattle.swap_run.specs.Run.{watch, make, act, role_act, next_action, step}
use Rattle.swap_run.specs.Fair.{repeat, adjacent_arcs, looks, acts, most_acts, turn, turns, the_horizon, tick_low, ticks, round, is_above_horizon, round_unless_ended}
use Rattle.swap_run.specs.Quiet.{overlaid_histories, looked, IsIdle}
use Rattle.swap_run.proofs.Entries.{tick_full, tick_room}
use Rattle.swap_run.proofs.Repeats.{repeat_fixed}
use Rattle.swap_run.proofs.Turns.{others_rest}
use Rattle.swap_run.proofs.Finish.{round_goes_on}

-- What stands at the arcs of a list is replaced.

replaced : (b : Histories) (a c : ℕ) (x : List Entry) (js : List ℕ) (k : Histories) → (c ≡ a) ⊎ (c ≢ a) → (a ≡ c) ⊎ IsElement a js
    → (IsElement a js → overlaid_histories b js (set (set k c (history b c)) a x) ≡ overlaid_histories b js (set k c (history b c)))
    → overlaid_histories b js (set (set k a x) c (history b c)) ≡ overlaid_histories b js (set k c (history b c))
replaced b a c x js k (inl e) i rest = ap (overlaid_histories b js) (subst (λ z. set (set k z x) c (history b c) ≡ set k c (history b c)) e (set-set k c x (history b c)))
replaced b a c x js k (inr n) (inl e) rest = absurd (n (sym e))
replaced b a c x js k (inr n) (inr i) rest = ap (overlaid_histories b js) (set_comm k a c x (history b c) (λ e. n (sym e))) ∙ rest i

-- what is set at an arc of the list
absorbed : (b : Histories) (a : ℕ) (x : List Entry) (js : List ℕ) (k : Histories) → IsElement a js → overlaid_histories b js (set k a x) ≡ overlaid_histories b js k
absorbed b a x [] k i = absurd i
absorbed b a x (c ∷ js) k i = replaced b a c x js k (same_or_not c a) i (absorbed b a x js (set k c (history b c)))

-- what was set at its arcs before
again : (b before : Histories) (js more : List ℕ) (k : Histories) → ((a : ℕ) → IsElement a more → IsElement a js) → overlaid_histories b js (overlaid_histories before more k) ≡ overlaid_histories b js k
again b before js [] k h = refl
again b before js (a ∷ more) k h =
    again b before js more (set k a (history before a)) (λ x i. h x (inr i)) ∙ absorbed b a (history before a) js k (h a (inl refl))

-- Ticks.

-- a history is longer by ticks alone, which raise it by at most n heights
pub record Risen (n : ℕ) (h after : List Entry) : Type 0 where
  pub more : List Entry
  pub ticks : are_ticks more ≡ true
  pub is : after ≡ h ++ more
  pub high : height after ≤ height h + n

not_risen : (n : ℕ) (h : List Entry) → Risen n h h
not_risen n h = record { more = []; ticks = refl; is = sym (append-nil h); high = omega arith }

risen_more : (m n : ℕ) (h k l : List Entry) → Risen m h k → Risen n k l → Risen (m + n) h l
risen_more m n h k l a b =
    let x = a.high in
    let y = b.high in
    record {
      more = a.more ++ b.more;
      ticks = list_all-append (λ e. is_ticking e.what) a.more b.more ∙ ap₂ (λ u v. u && v) a.ticks b.ticks;
      is = b.is ∙ ap (λ (z : List Entry). z ++ b.more) a.is ∙ append_assoc h a.more b.more;
      high = omega (arith, x, y);
    }

tick_rises : (h : List Entry) → Risen 1 h (after_tick 1 h)
tick_rises h = go (is_clock_full h 1) refl
  where
    go : (b : Bool) → is_clock_full h 1 ≡ b → Risen 1 h (after_tick 1 h)
    go true e = subst (Risen 1 h) (sym (tick_full 1 h e)) (not_risen 1 h)
    go false e =
        let t = tick_entry 1 (height h + 1) Accepted in
        let p : height (h ++ t ∷ []) ≡ height h + 1 = height-push h t in
        subst (Risen 1 h) (sym (tick_room 1 h e)) (record { more = t ∷ []; ticks = refl; is = refl; high = omega (arith, p) })

-- A state with other notes of one party.

abbrev pub with_note : State → ℕ → Notes → State
with_note s v n = record s { notes = set s.notes v n }

its_note : (s : State) (v : ℕ) (n : Notes) → v < length s.notes → state_notes (with_note s v n) v ≡ n
its_note s v n l = get_or-set_same s.notes v n (record { known = []; signed = [] }) l

other_note : (s : State) (u v : ℕ) (n : Notes) → v ≢ u → state_notes (with_note s u n) v ≡ state_notes s v
other_note s u v n apart = get_or-set_other s.notes u v n (record { known = []; signed = [] }) apart

own_note : (s : State) (v : ℕ) → with_note s v (state_notes s v) ≡ s
own_note s v = ap (λ (ns : List Notes). record s { notes = ns }) (set-get_or s.notes v (record { known = []; signed = [] }))

-- the later notes of a party count
note_twice : (s : State) (v : ℕ) (m n : Notes) → with_note (with_note s v m) v n ≡ with_note s v n
note_twice s v m n = ap (λ (ns : List Notes). record s { notes = ns }) (set-set s.notes v m n)

-- notes of two parties in either order
note_both : (s : State) (u v : ℕ) (m n : Notes) → u ≢ v → with_note (with_note s u m) v n ≡ with_note (with_note s v n) u m
note_both s u v m n apart = ap (λ (ns : List Notes). record s { notes = ns }) (set_comm s.notes u v m n apart)

module _ (c : Cast) where
  -- Looks.

  looks_at : (v : ℕ) (js : List ℕ) (s : State) → conforms c v ≡ true → v < length s.notes
      → fold (λ s a. step c s (Look v a)) s js ≡ with_note s v (record (state_notes s v) { known = overlaid_histories s.book js (state_notes s v).known })
  looks_at v [] s cv l = sym (own_note s v)
  looks_at v (a ∷ js) s cv l =
      let n = notes_with_ledger (state_notes s v) a (history s.book a) in
      let e : step c s (Look v a) ≡ with_note s v n = ap (λ (b : Bool). cond b (look s v a) (watch c s v a)) cv in
      let lower : v < length (set s.notes v n) = rw (length-set s.notes v n) l in
      ap (λ (t : State). fold (λ s a. step c s (Look v a)) t js) e ∙ looks_at v js (with_note s v n) cv lower
      ∙ ap (λ (m : Notes). with_note (with_note s v n) v (record m { known = overlaid_histories s.book js m.known })) (its_note s v n l)
      ∙ note_twice s v n (record n { known = overlaid_histories s.book js n.known })

  looks_note : (v : ℕ) (s : State) → conforms c v ≡ true → v < length s.notes → looks c v s ≡ with_note s v (looked c.deal s.book v (state_notes s v))
  unfolding looks
  looks_note v s cv l = looks_at v (adjacent_arcs c.deal v) s cv l

  -- Another party's turn leaves a party's notes.

  acts_now : (s : State) (v : ℕ) → conforms c v ≡ true → step c s (Act v) ≡ act c s v
  acts_now s v cv = ap (λ (b : Bool). cond b (act c s v) (role_act c s v (party_role c v))) cv

  abbrev known_after : Notes → ℕ → List Entry → List (Option Hashkey) → Notes
  known_after m a h signed = record { known = set m.known a h; signed = signed }

  make_other : (s : State) (u v : ℕ) (n : Notes) (o : Option Action) → u ≢ v → make c.deal (with_note s u n) v o ≡ with_note (make c.deal s v o) u n
  make_other s u v n None apart = refl
  make_other s u v n (Some x) apart =
      let h = after_call c.deal x.arc v x.call (history s.book x.arc) in
      let after = λ (m : Notes). known_after m x.arc h (signed_through_call m.signed x.call) in
      ap (λ (m : Notes). record s { book = set s.book x.arc h; notes = set (set s.notes u n) v (after m) }) (other_note s u v n (λ e. apart (sym e)))
      ∙ ap (λ (ns : List Notes). record s { book = set s.book x.arc h; notes = ns }) (set_comm s.notes u v n (after (state_notes s v)) apart)

  act_other : (s : State) (u v : ℕ) (n : Notes) → u ≢ v → conforms c v ≡ true → step c (with_note s u n) (Act v) ≡ with_note (step c s (Act v)) u n
  act_other s u v n apart cv =
      let same : state_notes (with_note s u n) v ≡ state_notes s v = other_note s u v n (λ e. apart (sym e)) in
      let call : next_action c (with_note s u n) v ≡ next_action c s v
      = ap (λ (m : Notes). first (due c.deal v (c.wallet v) (signed_hashkey m.signed) m.known)) same in
      acts_now (with_note s u n) v cv ∙ ap (make c.deal (with_note s u n) v) call ∙ make_other s u v n (next_action c s v) apart
      ∙ ap (λ (t : State). with_note t u n) (sym (acts_now s v cv))

  pub acts_other : (k : ℕ) (s : State) (u v : ℕ) (n : Notes) → u ≢ v → conforms c v ≡ true → acts c v k (with_note s u n) ≡ with_note (acts c v k s) u n
  acts_other zero s u v n apart cv = refl
  acts_other (suc k) s u v n apart cv =
      ap (λ (t : State). step c t (Act v)) (acts_other k s u v n apart cv) ∙ act_other (acts c v k s) u v n apart cv

  pub looks_other : (s : State) (u v : ℕ) (n : Notes) → u ≢ v → conforms c v ≡ true → v < length s.notes
      → looks c v (with_note s u n) ≡ with_note (looks c v s) u n
  looks_other s u v n apart cv l =
      let lower : v < length (set s.notes u n) = rw (length-set s.notes u n) l in
      looks_note v (with_note s u n) cv lower
      ∙ ap (λ (m : Notes). with_note (with_note s u n) v (looked c.deal s.book v m)) (other_note s u v n (λ e. apart (sym e)))
      ∙ note_both s u v n (looked c.deal s.book v (state_notes s v)) apart
      ∙ ap (λ (t : State). with_note t u n) (sym (looks_note v s cv l))

  turn_of : (s : State) (v : ℕ) → conforms c v ≡ true → turn c s v ≡ acts c v (most_acts c.deal) (looks c v s)
  unfolding turn
  turn_of s v cv = ap (λ (b : Bool). cond b (acts c v (most_acts c.deal) (looks c v s)) (step c (looks c v s) (Act v))) cv

  turn_other_by : (b : Bool) (s : State) (u v : ℕ) (n : Notes) → conforms c v ≡ b → (conforms c v ≡ false → is_planned (party_role c v) ≡ false) → u ≢ v
      → v < length s.notes → turn c (with_note s u n) v ≡ with_note (turn c s v) u n
  turn_other_by true s u v n cv plain apart l =
      turn_of (with_note s u n) v cv ∙ ap (acts c v (most_acts c.deal)) (looks_other s u v n apart cv l)
      ∙ acts_other (most_acts c.deal) (looks c v s) u v n apart cv ∙ ap (λ (t : State). with_note t u n) (sym (turn_of s v cv))
  turn_other_by false s u v n cv plain apart l =
      others_rest c (with_note s u n) v cv (plain cv) ∙ ap (λ (t : State). with_note t u n) (sym (others_rest c s v cv (plain cv)))

  -- How many notes there are.

  make_many : (s : State) (v : ℕ) (o : Option Action) → length (make c.deal s v o).notes ≡ length s.notes
  make_many s v None = refl
  make_many s v (Some x) = length-set s.notes v _

  acts_many : (k : ℕ) (s : State) (v : ℕ) → conforms c v ≡ true → length (acts c v k s).notes ≡ length s.notes
  acts_many zero s v cv = refl
  acts_many (suc k) s v cv =
      ap (λ (t : State). length t.notes) (acts_now (acts c v k s) v cv) ∙ make_many (acts c v k s) v (next_action c (acts c v k s) v) ∙ acts_many k s v cv

  turn_many_by : (b : Bool) (s : State) (v : ℕ) → conforms c v ≡ b → (conforms c v ≡ false → is_planned (party_role c v) ≡ false) → v < length s.notes
      → length (turn c s v).notes ≡ length s.notes
  turn_many_by true s v cv plain l =
      ap (λ (t : State). length t.notes) (turn_of s v cv) ∙ acts_many (most_acts c.deal) (looks c v s) v cv
      ∙ ap (λ (t : State). length t.notes) (looks_note v s cv l) ∙ length-set s.notes v (looked c.deal s.book v (state_notes s v))
  turn_many_by false s v cv plain l = ap (λ (t : State). length t.notes) (others_rest c s v cv (plain cv))

  -- A turn forgets what its party knew of the arcs at which it looks.

  -- n is what party u notes in s, but for what stands at those arcs
  pub record IsStale (s : State) (u : ℕ) (n : Notes) : Type 0 where
    pub signed : n.signed ≡ (state_notes s u).signed
    pub known : (b : Histories) → overlaid_histories b (adjacent_arcs c.deal u) n.known ≡ overlaid_histories b (adjacent_arcs c.deal u) (state_notes s u).known

  pub looks_forget : (s : State) (u : ℕ) (n : Notes) → conforms c u ≡ true → u < length s.notes → IsStale s u n
      → looks c u (with_note s u n) ≡ looks c u s
  looks_forget s u n cu l stale =
      let lower : u < length (set s.notes u n) = rw (length-set s.notes u n) l in
      looks_note u (with_note s u n) cu lower
      ∙ ap (λ (m : Notes). with_note (with_note s u n) u (looked c.deal s.book u m)) (its_note s u n l)
      ∙ note_twice s u n (looked c.deal s.book u n)
      ∙ ap₂ (λ (k : Histories) (g : List (Option Hashkey)). with_note s u (record { known = k; signed = g })) (stale.known s.book) stale.signed
      ∙ sym (looks_note u s cu l)

  pub turn_forgets : (s : State) (u : ℕ) (n : Notes) → conforms c u ≡ true → u < length s.notes → IsStale s u n → turn c (with_note s u n) u ≡ turn c s u
  turn_forgets s u n cu l stale =
      turn_of (with_note s u n) u cu ∙ ap (acts c u (most_acts c.deal)) (looks_forget s u n cu l stale) ∙ sym (turn_of s u cu)

  -- what a tick makes of the histories
  abbrev ticked : Histories → ℕ → Histories
  ticked b a = cond (nat_le (height (history b a)) (the_horizon c.deal)) (set b a (after_tick 1 (history b a))) b

  tick_book : (s : State) (a : ℕ) → (tick_low c s a).book ≡ ticked s.book a
  tick_book s a = go (nat_le (height (history s.book a)) (the_horizon c.deal))
    where
      go : (b : Bool) → (cond b (step c s (Tick a 1)) s).book ≡ cond b (set s.book a (after_tick 1 (history s.book a))) s.book
      go true = refl
      go false = refl

  books_at : (js : List ℕ) (s : State) → (fold (tick_low c) s js).book ≡ fold ticked s.book js
  books_at [] s = refl
  books_at (a ∷ js) s = books_at js (tick_low c s a) ∙ ap (λ (b : Histories). fold ticked b js) (tick_book s a)

  ticks_book : (s : State) → (ticks c s).book ≡ fold ticked s.book (arcs c.deal.graph)
  unfolding ticks
  ticks_book s = books_at (arcs c.deal.graph) s

  -- one ledger's tick

  ticked_here : (b : Histories) (a : ℕ) → a < length b → Risen 1 (history b a) (history (ticked b a) a)
  ticked_here b a l = go (nat_le (height (history b a)) (the_horizon c.deal))
    where
      go : (y : Bool) → Risen 1 (history b a) (history (cond y (set b a (after_tick 1 (history b a))) b) a)
      go true = subst (Risen 1 (history b a)) (sym (history_same b a (after_tick 1 (history b a)) l)) (tick_rises (history b a))
      go false = not_risen 1 (history b a)

  ticked_there : (b : Histories) (a z : ℕ) → z ≢ a → history (ticked b a) z ≡ history b z
  ticked_there b a z apart = go (nat_le (height (history b a)) (the_horizon c.deal))
    where
      go : (y : Bool) → history (cond y (set b a (after_tick 1 (history b a))) b) z ≡ history b z
      go true = history_other b a z (after_tick 1 (history b a)) apart
      go false = refl

  ticked_many : (b : Histories) (a : ℕ) → length (ticked b a) ≡ length b
  ticked_many b a = go (nat_le (height (history b a)) (the_horizon c.deal))
    where
      go : (y : Bool) → length (cond y (set b a (after_tick 1 (history b a))) b) ≡ length b
      go true = length-set b a (after_tick 1 (history b a))
      go false = refl

  -- those of all ledgers

  below_stay : (m k : ℕ) (b : Histories) (z : ℕ) → z < k → history (fold ticked b (range_with_len k m)) z ≡ history b z
  below_stay zero k b z l = refl
  below_stay (suc m) k b z l =
      below_stay m (k + 1) (ticked b k) z (omega arith) ∙ ticked_there b k z (λ e. let q : ◌≡◌ {A = ℕ} z k = e in omega arith)

  rise_by : (m k : ℕ) (b : Histories) (z : ℕ) → (z ≡ k) ⊎ (z ≢ k) → z < length b
      → Risen 1 (history (ticked b k) z) (history (fold ticked (ticked b k) (range_with_len (k + 1) m)) z)
      → Risen 1 (history b z) (history (fold ticked (ticked b k) (range_with_len (k + 1) m)) z)
  rise_by m k b z (inl e) l rest =
      let here : Risen 1 (history b z) (history (ticked b k) z) = subst (λ j. Risen 1 (history b z) (history (ticked b j) z)) e (ticked_here b z l) in
      let q : ◌≡◌ {A = ℕ} z k = e in
      subst (Risen 1 (history b z)) (sym (below_stay m (k + 1) (ticked b k) z (omega arith))) here
  rise_by m k b z (inr apart) l rest =
      subst (λ (h : List Entry). Risen 1 h (history (fold ticked (ticked b k) (range_with_len (k + 1) m)) z)) (ticked_there b k z apart) rest

  all_rise : (m k : ℕ) (b : Histories) (z : ℕ) → z < length b → Risen 1 (history b z) (history (fold ticked b (range_with_len k m)) z)
  all_rise zero k b z l = not_risen 1 (history b z)
  all_rise (suc m) k b z l = rise_by m k b z (same_or_not z k) l (all_rise m (k + 1) (ticked b k) z (rw (ticked_many b k) l))

  ticks_rise : (s : State) (z : ℕ) → z < length s.book → Risen 1 (history s.book z) (history (ticks c s).book z)
  ticks_rise s z l =
      subst (λ (b : Histories). Risen 1 (history s.book z) (history b z)) (sym (ticks_book s)) (all_rise (length c.deal.graph.arcs) 0 s.book z l)

  folded_many : (js : List ℕ) (b : Histories) → length (fold ticked b js) ≡ length b
  folded_many [] b = refl
  folded_many (a ∷ js) b = folded_many js (ticked b a) ∙ ticked_many b a

  ticks_many : (s : State) → length (ticks c s).book ≡ length s.book
  ticks_many s = ap length (ticks_book s) ∙ folded_many (arcs c.deal.graph) s.book

  book_many : (n : ℕ) (s : State) → length (repeat n (ticks c) s).book ≡ length s.book
  book_many zero s = refl
  book_many (suc n) s = ticks_many (repeat n (ticks c) s) ∙ book_many n s

  -- n ticks of each ledger that isn't above the horizon
  pub rises : (n : ℕ) (s : State) (z : ℕ) → z < length s.book → Risen n (history s.book z) (history (repeat n (ticks c) s).book z)
  rises zero s z l = not_risen 0 (history s.book z)
  rises (suc n) s z l =
      let t = repeat n (ticks c) s in
      let one : n + 1 ≡ suc n = omega arith in
      subst (λ j. Risen j (history s.book z) (history (ticks c t).book z)) one
      (risen_more n 1 (history s.book z) (history t.book z) (history (ticks c t).book z) (rises n s z l) (ticks_rise t z (rw (book_many n s) l)))

  -- a ledger that isn't above the horizon after them
  pub stays_low : (n : ℕ) (s : State) (z : ℕ) → z < length c.deal.graph.arcs → z < length s.book → height (history s.book z) + n ≤ the_horizon c.deal
      → (i : ℕ) → i ≤ n → is_above_horizon c.deal (repeat i (ticks c) s).book ≡ false
  stays_low n s z lz l low i few = not-true _ (λ e.
      let r = (rises i s z l).high in
      let p = list_all-in (λ a. nat_lt (the_horizon c.deal) (height (history (repeat i (ticks c) s).book a))) (arcs c.deal.graph) z e
      (in_range z (length c.deal.graph.arcs) lz) in
      let above : the_horizon c.deal < height (history (repeat i (ticks c) s).book z) = ltb-true (the_horizon c.deal) _ p in
      absurd (omega (arith, r, above, low, few)))

  -- Ticks leave all notes.

  tick_other : (s : State) (u a : ℕ) (n : Notes) → tick_low c (with_note s u n) a ≡ with_note (tick_low c s a) u n
  tick_other s u a n = go (nat_le (height (history s.book a)) (the_horizon c.deal))
    where
      go : (b : Bool) → cond b (step c (with_note s u n) (Tick a 1)) (with_note s u n) ≡ with_note (cond b (step c s (Tick a 1)) s) u n
      go true = refl
      go false = refl

  ticks_at : (js : List ℕ) (s : State) (u : ℕ) (n : Notes) → fold (tick_low c) (with_note s u n) js ≡ with_note (fold (tick_low c) s js) u n
  ticks_at [] s u n = refl
  ticks_at (a ∷ js) s u n = ap (λ (t : State). fold (tick_low c) t js) (tick_other s u a n) ∙ ticks_at js (tick_low c s a) u n

  ticks_other : (s : State) (u : ℕ) (n : Notes) → ticks c (with_note s u n) ≡ with_note (ticks c s) u n
  unfolding ticks
  ticks_other s u n = ticks_at (arcs c.deal.graph) s u n

  tick_notes : (s : State) (a : ℕ) → (tick_low c s a).notes ≡ s.notes
  tick_notes s a = go (nat_le (height (history s.book a)) (the_horizon c.deal))
    where
      go : (b : Bool) → (cond b (step c s (Tick a 1)) s).notes ≡ s.notes
      go true = refl
      go false = refl

  notes_at : (js : List ℕ) (s : State) → (fold (tick_low c) s js).notes ≡ s.notes
  notes_at [] s = refl
  notes_at (a ∷ js) s = notes_at js (tick_low c s a) ∙ tick_notes s a

  pub ticks_notes : (s : State) → (ticks c s).notes ≡ s.notes
  unfolding ticks
  ticks_notes s = notes_at (arcs c.deal.graph) s

  pub notes_kept : (n : ℕ) (s : State) → (repeat n (ticks c) s).notes ≡ s.notes
  notes_kept zero s = refl
  notes_kept (suc n) s = ticks_notes (repeat n (ticks c) s) ∙ notes_kept n s

  module _ (plain : (v : ℕ) → v < c.deal.graph.n → conforms c v ≡ false → is_planned (party_role c v) ≡ false) where
    pub turn_other : (s : State) (u v : ℕ) (n : Notes) → v < c.deal.graph.n → u ≢ v → v < length s.notes
        → turn c (with_note s u n) v ≡ with_note (turn c s v) u n
    turn_other s u v n lv apart l = turn_other_by (conforms c v) s u v n refl (plain v lv) apart l

    pub turn_many : (s : State) (v : ℕ) → v < c.deal.graph.n → v < length s.notes → length (turn c s v).notes ≡ length s.notes
    turn_many s v lv l = turn_many_by (conforms c v) s v refl (plain v lv) l

    -- the turn of v leaves the notes of u
    pub turn_keeps : (s : State) (u v : ℕ) → v < c.deal.graph.n → u ≢ v → u < length s.notes → v < length s.notes → state_notes (turn c s v) u ≡ state_notes s u
    turn_keeps s u v lv apart lu l =
        let n = state_notes s u in
        let lower : u < length (turn c s v).notes = rw (turn_many s v lv l) lu in
        ap (λ (t : State). state_notes (turn c t v) u) (sym (own_note s u)) ∙ ap (λ (t : State). state_notes t u) (turn_other s u v n lv apart l)
        ∙ its_note (turn c s v) u n lower

    forgets_first : (x u : ℕ) (xs : List ℕ) (s : State) (n : Notes) → (x ≡ u) ⊎ (x ≢ u) → (u ≡ x) ⊎ IsElement u xs → conforms c u ≡ true
        → x < c.deal.graph.n → x < length s.notes → u < length s.notes → IsStale s u n
        → (IsElement u xs → IsStale (turn c s x) u n → fold (turn c) (with_note (turn c s x) u n) xs ≡ fold (turn c) (turn c s x) xs)
        → fold (turn c) (turn c (with_note s u n) x) xs ≡ fold (turn c) (turn c s x) xs
    forgets_first x u xs s n (inl e) i cu lx l lu stale rest =
        ap (λ (t : State). fold (turn c) t xs) (subst (λ z. turn c (with_note s u n) z ≡ turn c s z) (sym e) (turn_forgets s u n cu lu stale))
    forgets_first x u xs s n (inr apart) (inl e) cu lx l lu stale rest = absurd (apart (sym e))
    forgets_first x u xs s n (inr apart) (inr i) cu lx l lu stale rest =
        let same : state_notes (turn c s x) u ≡ state_notes s u = turn_keeps s u x lx (λ e. apart (sym e)) lu l in
        ap (λ (t : State). fold (turn c) t xs) (turn_other s u x n lx (λ e. apart (sym e)) l)
        ∙ rest i (record {
          signed = stale.signed ∙ ap (λ (m : Notes). m.signed) (sym same);
          known = λ b. stale.known b ∙ ap (λ (m : Notes). overlaid_histories b (adjacent_arcs c.deal u) m.known) (sym same);
        })

    -- once u has its turn
    forgets : (u : ℕ) (xs : List ℕ) (s : State) (n : Notes) → IsElement u xs → conforms c u ≡ true → u < c.deal.graph.n → length s.notes ≡ c.deal.graph.n
        → ((x : ℕ) → IsElement x xs → x < c.deal.graph.n) → IsStale s u n → fold (turn c) (with_note s u n) xs ≡ fold (turn c) s xs
    forgets u [] s n i cu lu many low stale = absurd i
    forgets u (x ∷ xs) s n i cu lu many low stale =
        let lx : x < c.deal.graph.n = low x (inl refl) in
        let l : x < length s.notes = rw many lx in
        forgets_first x u xs s n (same_or_not x u) i cu lx l (rw many lu) stale
        (λ j old. forgets u xs (turn c s x) n j cu lu (turn_many s x lx l ∙ many) (λ y k. low y (inr k)) old)

    turns_forget : (u : ℕ) (s : State) (n : Notes) → conforms c u ≡ true → u < c.deal.graph.n → length s.notes ≡ c.deal.graph.n → IsStale s u n
        → turns c (with_note s u n) ≡ turns c s
    unfolding turns
    turns_forget u s n cu lu many stale =
        forgets u (range_with_len 0 c.deal.graph.n) s n (in_range u c.deal.graph.n lu) cu lu many (λ x i. from_range x c.deal.graph.n i) stale

    -- A quiet round.

    quiet_turn : (s : State) (v : ℕ) → conforms c v ≡ true → v < length s.notes → IsIdle c s.book v (state_notes s v)
        → turn c s v ≡ with_note s v (looked c.deal s.book v (state_notes s v))
    quiet_turn s v cv l idle =
        let n = looked c.deal s.book v (state_notes s v) in
        let t = with_note s v n in
        let none : next_action c t v ≡ None = ap (λ (m : Notes). first (due c.deal v (c.wallet v) (signed_hashkey m.signed) m.known)) (its_note s v n l) ∙ idle in
        turn_of s v cv ∙ ap (acts c v (most_acts c.deal)) (looks_note v s cv l)
        ∙ repeat_fixed (most_acts c.deal) (λ t. step c t (Act v)) t (acts_now t v cv ∙ ap (make c.deal t v) none)

    -- nothing is due for any conforming party once it has looked
    abbrev pub AllIdle : State → Type 0
    AllIdle s = (v : ℕ) → v < c.deal.graph.n → conforms c v ≡ true → IsIdle c s.book v (state_notes s v)

    idle_still_by : (s : State) (u v : ℕ) → (v ≡ u) ⊎ (v ≢ u) → v < length s.notes → IsIdle c s.book v (state_notes s v)
        → IsIdle c s.book v (state_notes (with_note s u (looked c.deal s.book u (state_notes s u))) v)
    idle_still_by s u v (inr apart) l idle =
        subst (IsIdle c s.book v) (sym (other_note s u v (looked c.deal s.book u (state_notes s u)) apart)) idle
    idle_still_by s u v (inl e) l idle =
        let n = looked c.deal s.book v (state_notes s v) in
        let near = adjacent_arcs c.deal v in
        let k = (state_notes s v).known in
        let twice : overlaid_histories s.book near (overlaid_histories s.book near k) ≡ overlaid_histories s.book near k = again s.book s.book near near k (λ a i. i) in
        let now : IsIdle c s.book v n
        = ap (λ (h : Histories). first (due c.deal v (c.wallet v) (signed_hashkey (state_notes s v).signed) h)) twice ∙ idle in
        subst (λ z. IsIdle c s.book v (state_notes (with_note s z (looked c.deal s.book z (state_notes s z))) v)) e
        (subst (IsIdle c s.book v) (sym (its_note s v n l)) now)

    -- what stays where a party's notes are stale
    abbrev pub Forgets : (State → Type 0) → Type 0
    Forgets P =
        (u : ℕ) (s : State) (n : Notes) → conforms c u ≡ true → u < c.deal.graph.n → length s.notes ≡ c.deal.graph.n → IsStale s u n → P s
        → P (with_note s u n)

    module _ (P : State → Type 0) (forgets_here : Forgets P) where
      skips_by : (b : Bool) (x : ℕ) (xs : List ℕ) (s : State) → conforms c x ≡ b → x < c.deal.graph.n → length s.notes ≡ c.deal.graph.n → AllIdle s
          → ((t : State) → length t.notes ≡ c.deal.graph.n → AllIdle t → P (ticks c t) → P (ticks c (fold (turn c) t xs)))
          → P (ticks c s) → P (ticks c (fold (turn c) (turn c s x) xs))
      skips_by false x xs s cx lx many idle rest h =
          subst (λ (t : State). P (ticks c (fold (turn c) t xs))) (sym (others_rest c s x cx (plain x lx cx))) (rest s many idle h)
      skips_by true x xs s cx lx many idle rest h =
          let l : x < length s.notes = rw many lx in
          let n = looked c.deal s.book x (state_notes s x) in
          let t = with_note s x n in
          let far : length t.notes ≡ c.deal.graph.n = length-set s.notes x n ∙ many in
          let same : state_notes (ticks c s) x ≡ state_notes s x = ap (λ (ns : List Notes). get_or ns x (record { known = []; signed = [] })) (ticks_notes s) in
          subst (λ (u : State). P (ticks c (fold (turn c) u xs))) (sym (quiet_turn s x cx l (idle x lx cx)))
          (rest t far (λ v lv cv. idle_still_by s x v (same_or_not v x) (rw many lv) (idle v lv cv))
          (subst P (sym (ticks_other s x n)) (forgets_here x (ticks c s) n cx lx (ap length (ticks_notes s) ∙ many) (record {
            signed = ap (λ (m : Notes). m.signed) (sym same);
            known = λ b. again b s.book (adjacent_arcs c.deal x) (adjacent_arcs c.deal x) (state_notes s x).known (λ a i. i)
                ∙ ap (λ (m : Notes). overlaid_histories b (adjacent_arcs c.deal x) m.known) (sym same);
          }) h)))

      pub skips_for : (xs : List ℕ) (s : State) → ((x : ℕ) → IsElement x xs → x < c.deal.graph.n) → length s.notes ≡ c.deal.graph.n → AllIdle s
          → P (ticks c s) → P (ticks c (fold (turn c) s xs))
      skips_for [] s low many idle h = h
      skips_for (x ∷ xs) s low many idle h =
          skips_by (conforms c x) x xs s refl (low x (inl refl)) many idle (λ t far still k. skips_for xs t (λ y i. low y (inr i)) far still k) h

    -- turns after a quiet round are turns after ticks
    pub turns_skip : (s : State) → length s.notes ≡ c.deal.graph.n → AllIdle s → turns c (round c s) ≡ turns c (ticks c s)
    unfolding round turns
    turns_skip s many idle =
        skips_for (λ t. turns c t ≡ turns c (ticks c s)) (λ u t n cu lu m stale h. turns_forget u t n cu lu m stale ∙ h) (range_with_len 0 c.deal.graph.n) s
        (λ x i. from_range x c.deal.graph.n i) many idle refl

    -- a round after a quiet one is a round after ticks
    pub round_skips : (s : State) → length s.notes ≡ c.deal.graph.n → AllIdle s → round c (round c s) ≡ round c (ticks c s)
    unfolding round
    round_skips s many idle = ap (ticks c) (turns_skip s many idle)

    -- A quiet round leaves what ticks leave of the histories.

    calm_by : (b : Bool) (x : ℕ) (xs : List ℕ) (s : State) → conforms c x ≡ b → x < c.deal.graph.n → length s.notes ≡ c.deal.graph.n → AllIdle s
        → ((t : State) → length t.notes ≡ c.deal.graph.n → AllIdle t → (fold (turn c) t xs).book ≡ t.book)
        → (fold (turn c) (turn c s x) xs).book ≡ s.book
    calm_by false x xs s cx lx many idle rest =
        ap (λ (t : State). (fold (turn c) t xs).book) (others_rest c s x cx (plain x lx cx)) ∙ rest s many idle
    calm_by true x xs s cx lx many idle rest =
        let n = looked c.deal s.book x (state_notes s x) in
        ap (λ (u : State). (fold (turn c) u xs).book) (quiet_turn s x cx (rw many lx) (idle x lx cx))
        ∙ rest (with_note s x n) (length-set s.notes x n ∙ many) (λ v lv cv. idle_still_by s x v (same_or_not v x) (rw many lv) (idle v lv cv))

    calm : (xs : List ℕ) (s : State) → ((x : ℕ) → IsElement x xs → x < c.deal.graph.n) → length s.notes ≡ c.deal.graph.n → AllIdle s
        → (fold (turn c) s xs).book ≡ s.book
    calm [] s low many idle = refl
    calm (x ∷ xs) s low many idle =
        calm_by (conforms c x) x xs s refl (low x (inl refl)) many idle (λ t far still. calm xs t (λ y i. low y (inr i)) far still)

    pub calm_turns : (s : State) → length s.notes ≡ c.deal.graph.n → AllIdle s → (turns c s).book ≡ s.book
    unfolding turns
    calm_turns s many idle = calm (range_with_len 0 c.deal.graph.n) s (λ x i. from_range x c.deal.graph.n i) many idle

    pub calm_round : (s : State) → length s.notes ≡ c.deal.graph.n → AllIdle s → (round c s).book ≡ (ticks c s).book
    unfolding round
    calm_round s many idle =
        ticks_book (turns c s) ∙ ap (λ (b : Histories). fold ticked b (arcs c.deal.graph)) (calm_turns s many idle) ∙ sym (ticks_book s)

    -- some quiet rounds and one more lead to the same state as their ticks and one round
    pub finish_skips : (n : ℕ) (s : State) → length s.notes ≡ c.deal.graph.n
        → ((i : ℕ) → i ≤ n → is_above_horizon c.deal (repeat i (ticks c) s).book ≡ false)
        → ((i : ℕ) → i < n → (v : ℕ) → v < c.deal.graph.n → conforms c v ≡ true
        → IsIdle c (repeat i (ticks c) s).book v (state_notes (repeat i (ticks c) s) v))
        → repeat (suc n) (round_unless_ended c) s ≡ round c (repeat n (ticks c) s)
    finish_skips zero s many on idle = round_goes_on c s (on 0 (omega arith))
    finish_skips (suc n) s many on idle =
        let t = repeat n (ticks c) s in
        let far : length t.notes ≡ c.deal.graph.n = ap length (notes_kept n s) ∙ many in
        let still = idle n (omega arith) in
        let low : is_above_horizon c.deal (round c t).book ≡ false = ap (is_above_horizon c.deal) (calm_round t far still) ∙ on (suc n) (omega arith) in
        ap (round_unless_ended c) (finish_skips n s many (λ i l. on i (omega (arith, l))) (λ i l. idle i (omega (arith, l))))
        ∙ round_goes_on c (round c t) low ∙ round_skips t far still
