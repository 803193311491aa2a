-- A swap's turns in which nobody makes a call: where turns come again after ticks, they may be left
-- out.
use Rattle.std.proofs.Common.{◌≡◌, ◌≢◌, ◌⊎◌, inl, inr, ℕ, zero, suc, ◌<◌, Bool, true, false, cond, List, [], ◌∷◌, length, set, fold, Option, Some, None}
use Rattle.std.proofs.Common.{refl, sym, ap, ◌∙◌, subst}
use Rattle.std.specs.List.{range_with_len}
use Rattle.std.proofs.lemmas.List.{set-set, set_comm, set-get_or, length-set, get_or-set_same, get_or-set_other}
use Rattle.swap_base.specs.Lists.{IsElement}
use Rattle.swap_base.proofs.Lists.{from_range, in_range}
use Rattle.ledger_core.specs.declared.entry.Entry.{Entry}
use Rattle.ledger_core.specs.Book.{Histories, history}
use Rattle.swap_job.specs.declared.event.Event.TheVariants.{Look, Act}
use Rattle.swap_job.specs.declared.job.Role.{Role}
use Rattle.swap_job.specs.declared.job.Role.TheVariants.{Conforming, Manual, Script, Strategy}
use Rattle.party_wallet.specs.Value.{signed_hashkey}
use Rattle.swap_rules.specs.Due.{Action, due, first}
use Rattle.swap_rules.proofs.Prefixes.{same_or_not}
use Rattle.swap_run.specs.Run.{Cast, Notes, State, conforms, party_role, is_planned, party_plan, plan_with_ledger, state_notes, notes_with_ledger, signed_through_call}
use Rattle.swap_run.specs.Run.{look, watch, next_action, step}
use Rattle.swap_run.specs.Fair.{repeat, adjacent_arcs, looks, most_acts}
use Rattle.swap_run.specs.Called.{apply_step, swept_turn, swept_turns}
use Rattle.swap_run.specs.Quiet.{overlaid_histories, looked, IsIdle}
use Rattle.swap_run.proofs.Repeats.{fold_fixed, repeat_fixed}
use Rattle.swap_world.specs.Acting.{landed}
use Rattle.swap_world.proofs.On.{make_on, act_on, act_is}

-- What is set at arcs of a list, and then at all of them.

module _ (b : Histories) (a : ℕ) (x : List Entry) where
  absorbed_at : (j : ℕ) (js : List ℕ) (k : Histories) → (j ≡ a) ⊎ (j ≢ a) → (a ≡ j) ⊎ IsElement a js
      → (IsElement a js → overlaid_histories b js (set (set k j (history b j)) a x) ≡ overlaid_histories b js (set k j (history b j)))
      → overlaid_histories b js (set (set k a x) j (history b j)) ≡ overlaid_histories b js (set k j (history b j))
  absorbed_at j js k (inl e) i rest =
      ap (overlaid_histories b js) (subst (λ z. set (set k z x) j (history b j) ≡ set k j (history b j)) e (set-set k j x (history b j)))
  absorbed_at j js k (inr n) (inl e) rest = absurd (n (sym e))
  absorbed_at j js k (inr n) (inr i) rest = ap (overlaid_histories b js) (set_comm k a j x (history b j) (λ e. n (sym e))) ∙ rest i

  absorbed : (js : List ℕ) (k : Histories) → IsElement a js → overlaid_histories b js (set k a x) ≡ overlaid_histories b js k
  absorbed [] k i = absurd i
  absorbed (j ∷ js) k i = absorbed_at j js k (same_or_not j a) i (absorbed js (set k j (history b j)))

overwritten : (b before : Histories) (js some : List ℕ) (k : Histories) → ((a : ℕ) → IsElement a some → IsElement a js)
    → overlaid_histories b js (overlaid_histories before some k) ≡ overlaid_histories b js k
overwritten b before js [] k among = refl
overwritten b before js (a ∷ some) k among =
    overwritten b before js some (set k a (history before a)) (λ x i. among x (inr i)) ∙ absorbed b a (history before a) js k (among a (inl refl))

-- Other notes of one party.

same_when : (m n : Notes) → m.known ≡ n.known → m.signed ≡ n.signed → m ≡ n
same_when m n k g = λ j. record { known = k j; signed = g j }

abbrev noting : State → ℕ → Notes → State
noting s v n = record s { notes = set s.notes v n }

abbrev nothing_noted : Notes
nothing_noted = record { known = []; signed = [] }

own_notes : (s : State) (v : ℕ) (n : Notes) → v < length s.notes → state_notes (noting s v n) v ≡ n
own_notes s v n l = get_or-set_same s.notes v n nothing_noted l

others_notes : (s : State) (u v : ℕ) (n : Notes) → v ≢ u → state_notes (noting s u n) v ≡ state_notes s v
others_notes s u v n apart = get_or-set_other s.notes u v n nothing_noted apart

same_notes : (s : State) (v : ℕ) → noting s v (state_notes s v) ≡ s
same_notes s v = ap (λ (ns : List Notes). let t : State = record s { notes = ns } in t) (set-get_or s.notes v nothing_noted)

last_notes : (s : State) (v : ℕ) (m n : Notes) → noting (noting s v m) v n ≡ noting s v n
last_notes s v m n = ap (λ (ns : List Notes). let t : State = record s { notes = ns } in t) (set-set s.notes v m n)

notes_of_two : (s : State) (u v : ℕ) (m n : Notes) → u ≢ v → noting (noting s u m) v n ≡ noting (noting s v n) u m
notes_of_two s u v m n apart = ap (λ (ns : List Notes). let t : State = record s { notes = ns } in t) (set_comm s.notes u v m n apart)

module _ (sw : ℕ → Bool) (c : Cast) where
  -- Who makes its own calls alone.

  no_act : (s : State) (v : ℕ) (role : Role) → is_planned role ≡ false → act_on sw c s v role ≡ s
  no_act s v Conforming e = refl
  no_act s v Manual e = refl
  no_act s v (Script moves) e = absurd (cc e)
  no_act s v (Strategy name) e = absurd (cc e)

  no_look : (s : State) (v : ℕ) → conforms c v ≡ false → is_planned (party_role c v) ≡ false → looks c v s ≡ s
  unfolding looks
  no_look s v out none = fold_fixed (λ s a. step c s (Look v a)) s (adjacent_arcs c.deal v) (λ a.
      ap (λ b. cond b (look s v a) (watch c s v a)) out
      ∙ ap (λ b. let t : State = record s { plans = cond b (set s.plans v (plan_with_ledger (party_plan s v) a (history s.book a))) s.plans } in t) none)

  no_turn : (s : State) (v : ℕ) → conforms c v ≡ false → is_planned (party_role c v) ≡ false → swept_turn sw c s v ≡ s
  no_turn s v out none =
      ap (λ b. cond b (repeat (most_acts c.deal) (λ s. apply_step sw c s (Act v)) (looks c v s)) (apply_step sw c (looks c v s) (Act v))) out
      ∙ (ap (λ t. apply_step sw c t (Act v)) (no_look s v out none)
      ∙ (act_is sw c s v ∙ (ap (λ b. cond b (make_on sw c.deal s v (next_action c s v)) (act_on sw c s v (party_role c v))) out
      ∙ no_act s v (party_role c v) none)))

  -- A party that conforms.
  module _ (v : ℕ) (cv : conforms c v ≡ true) where
    abbrev acted : State → State
    acted s = apply_step sw c s (Act v)

    -- what it notes once it has looked around
    abbrev seen : State → Notes
    seen s = looked c.deal s.book v (state_notes s v)

    seen_count : (js : List ℕ) (s : State) → v < length s.notes
        → fold (λ s a. step c s (Look v a)) s js ≡ noting s v (record (state_notes s v) { known = overlaid_histories s.book js (state_notes s v).known })
    seen_count [] s l = sym (same_notes s v)
    seen_count (a ∷ js) s l =
        let n = notes_with_ledger (state_notes s v) a (history s.book a) in
        let lower : v < length (set s.notes v n) = rw (length-set s.notes v n) l in
        ap (λ (t : State). fold (λ s a. step c s (Look v a)) t js) (ap (λ (b : Bool). cond b (look s v a) (watch c s v a)) cv)
        ∙ (seen_count js (noting s v n) lower
        ∙ (ap (λ (m : Notes). noting (noting s v n) v (record m { known = overlaid_histories s.book js m.known })) (own_notes s v n l)
        ∙ last_notes s v n (record n { known = overlaid_histories s.book js n.known })))

    looks_are : (s : State) → v < length s.notes → looks c v s ≡ noting s v (seen s)
    unfolding looks
    looks_are s l = seen_count (adjacent_arcs c.deal v) s l

    acts_are : (s : State) → acted s ≡ make_on sw c.deal s v (next_action c s v)
    acts_are s = act_is sw c s v ∙ ap (λ b. cond b (make_on sw c.deal s v (next_action c s v)) (act_on sw c s v (party_role c v))) cv

    turn_is : (s : State) → swept_turn sw c s v ≡ repeat (most_acts c.deal) acted (looks c v s)
    turn_is s = ap (λ (b : Bool). cond b (repeat (most_acts c.deal) acted (looks c v s)) (acted (looks c v s))) cv

    -- Its turn leaves the notes of another party.
    module _ (u : ℕ) (n : Notes) (apart : u ≢ v) where
      make_beside : (s : State) (o : Option Action) → make_on sw c.deal (noting s u n) v o ≡ noting (make_on sw c.deal s v o) u n
      make_beside s None = refl
      make_beside s (Some x) =
          let h = landed (sw x.arc) c.deal x.arc v x.call (history s.book x.arc) in
          let after = λ (m : Notes). (let r : Notes = record { known = set m.known x.arc h; signed = signed_through_call m.signed x.call } in r) in
          ap (λ (m : Notes). let t : State = record s { book = set s.book x.arc h; notes = set (set s.notes u n) v (after m) } in t)
          (others_notes s u v n (λ e. apart (sym e)))
          ∙ ap (λ (ns : List Notes). let t : State = record s { book = set s.book x.arc h; notes = ns } in t)
          (set_comm s.notes u v n (after (state_notes s v)) apart)

      act_beside : (s : State) → acted (noting s u n) ≡ noting (acted s) u n
      act_beside s =
          let call : next_action c (noting s u n) v ≡ next_action c s v
          = ap (λ (m : Notes). first (due c.deal v (c.wallet v) (signed_hashkey m.signed) m.known)) (others_notes s u v n (λ e. apart (sym e))) in
          acts_are (noting s u n)
          ∙ (ap (make_on sw c.deal (noting s u n) v) call ∙ (make_beside s (next_action c s v) ∙ ap (λ (t : State). noting t u n) (sym (acts_are s))))

      acts_beside : (k : ℕ) (s : State) → repeat k acted (noting s u n) ≡ noting (repeat k acted s) u n
      acts_beside zero s = refl
      acts_beside (suc k) s = ap acted (acts_beside k s) ∙ act_beside (repeat k acted s)

      looks_beside : (s : State) → v < length s.notes → looks c v (noting s u n) ≡ noting (looks c v s) u n
      looks_beside s l =
          let lower : v < length (set s.notes u n) = rw (length-set s.notes u n) l in
          looks_are (noting s u n) lower
          ∙ (ap (λ (m : Notes). noting (noting s u n) v (looked c.deal s.book v m)) (others_notes s u v n (λ e. apart (sym e)))
          ∙ (notes_of_two s u v n (seen s) apart ∙ ap (λ (t : State). noting t u n) (sym (looks_are s l))))

      turn_beside : (s : State) → v < length s.notes → swept_turn sw c (noting s u n) v ≡ noting (swept_turn sw c s v) u n
      turn_beside s l =
          turn_is (noting s u n)
          ∙ (ap (repeat (most_acts c.deal) acted) (looks_beside s l)
          ∙ (acts_beside (most_acts c.deal) (looks c v s) ∙ ap (λ (t : State). noting t u n) (sym (turn_is s))))

    -- How many notes there are.

    make_many : (s : State) (o : Option Action) → length (make_on sw c.deal s v o).notes ≡ length s.notes
    make_many s None = refl
    make_many s (Some x) = length-set s.notes v _

    acts_many : (k : ℕ) (s : State) → length (repeat k acted s).notes ≡ length s.notes
    acts_many zero s = refl
    acts_many (suc k) s =
        ap (λ (t : State). length t.notes) (acts_are (repeat k acted s)) ∙ (make_many (repeat k acted s) (next_action c (repeat k acted s) v) ∙ acts_many k s)

    turn_many : (s : State) → v < length s.notes → length (swept_turn sw c s v).notes ≡ length s.notes
    turn_many s l =
        ap (λ (t : State). length t.notes) (turn_is s)
        ∙ (acts_many (most_acts c.deal) (looks c v s) ∙ (ap (λ (t : State). length t.notes) (looks_are s l) ∙ length-set s.notes v (seen s)))

  -- n is what party u notes in s, but for what stands at the arcs at which it looks
  record IsStale (s : State) (u : ℕ) (n : Notes) : Type 0 where
    pub signed : n.signed ≡ (state_notes s u).signed
    pub known : (b : Histories) → overlaid_histories b (adjacent_arcs c.deal u) n.known ≡ overlaid_histories b (adjacent_arcs c.deal u) (state_notes s u).known

  -- its turn forgets that
  turn_forgets : (s : State) (u : ℕ) (n : Notes) → conforms c u ≡ true → u < length s.notes → IsStale s u n → swept_turn sw c (noting s u n) u ≡ swept_turn sw c s u
  turn_forgets s u n cu l stale =
      let lower : u < length (set s.notes u n) = rw (length-set s.notes u n) l in
      let same : looks c u (noting s u n) ≡ looks c u s
      = looks_are u cu (noting s u n) lower
      ∙ (ap (λ (m : Notes). noting (noting s u n) u (looked c.deal s.book u m)) (own_notes s u n l)
      ∙ (last_notes s u n (looked c.deal s.book u n)
      ∙ (ap (λ (m : Notes). noting s u m) (same_when (looked c.deal s.book u n) (looked c.deal s.book u (state_notes s u)) (stale.known s.book) stale.signed)
      ∙ sym (looks_are u cu s l)))) in
      turn_is u cu (noting s u n) ∙ (ap (repeat (most_acts c.deal) (λ s. apply_step sw c s (Act u))) same ∙ sym (turn_is u cu s))

  module _ (plain : (v : ℕ) → v < c.deal.graph.n → conforms c v ≡ false → is_planned (party_role c v) ≡ false) where
    beside_by : (b : Bool) (s : State) (u v : ℕ) (n : Notes) → conforms c v ≡ b → v < c.deal.graph.n → u ≢ v → v < length s.notes
        → swept_turn sw c (noting s u n) v ≡ noting (swept_turn sw c s v) u n
    beside_by true s u v n cv lv apart l = turn_beside v cv u n apart s l
    beside_by false s u v n cv lv apart l =
        no_turn (noting s u n) v cv (plain v lv cv) ∙ ap (λ (t : State). noting t u n) (sym (no_turn s v cv (plain v lv cv)))

    many_by : (b : Bool) (s : State) (v : ℕ) → conforms c v ≡ b → v < c.deal.graph.n → v < length s.notes
        → length (swept_turn sw c s v).notes ≡ length s.notes
    many_by true s v cv lv l = turn_many v cv s l
    many_by false s v cv lv l = ap (λ (t : State). length t.notes) (no_turn s v cv (plain v lv cv))

    -- the turn of v leaves the notes of u
    left : (s : State) (u v : ℕ) → v < c.deal.graph.n → u ≢ v → u < length s.notes → v < length s.notes → state_notes (swept_turn sw c s v) u ≡ state_notes s u
    left s u v lv apart lu l =
        let n = state_notes s u in
        let lower : u < length (swept_turn sw c s v).notes = rw (many_by (conforms c v) s v refl lv l) lu in
        ap (λ (t : State). state_notes (swept_turn sw c t v) u) (sym (same_notes s u))
        ∙ (ap (λ (t : State). state_notes t u) (beside_by (conforms c v) s u v n refl lv apart l) ∙ own_notes (swept_turn sw c s v) u n lower)

    forgets_at : (x u : ℕ) (xs : List ℕ) (s : State) (n : Notes) → (x ≡ u) ⊎ (x ≢ u) → (u ≡ x) ⊎ IsElement u xs → conforms c u ≡ true
        → x < c.deal.graph.n → x < length s.notes → u < length s.notes → IsStale s u n
        → (IsElement u xs → IsStale (swept_turn sw c s x) u n → fold (swept_turn sw c) (noting (swept_turn sw c s x) u n) xs ≡ fold (swept_turn sw c) (swept_turn sw c s x) xs)
        → fold (swept_turn sw c) (swept_turn sw c (noting s u n) x) xs ≡ fold (swept_turn sw c) (swept_turn sw c s x) xs
    forgets_at x u xs s n (inl e) i cu lx l lu stale rest =
        ap (λ (t : State). fold (swept_turn sw c) t xs)
        (subst (λ z. swept_turn sw c (noting s u n) z ≡ swept_turn sw c s z) (sym e) (turn_forgets s u n cu lu stale))
    forgets_at x u xs s n (inr apart) (inl e) cu lx l lu stale rest = absurd (apart (sym e))
    forgets_at x u xs s n (inr apart) (inr i) cu lx l lu stale rest =
        let other : u ≢ x = λ e. apart (sym e) in
        let same : state_notes (swept_turn sw c s x) u ≡ state_notes s u = left s u x lx other lu l in
        ap (λ (t : State). fold (swept_turn sw c) t xs) (beside_by (conforms c x) s u x n refl lx other l)
        ∙ rest i (record {
          signed = stale.signed ∙ ap (λ (m : Notes). m.signed) (sym same);
          known = λ b. stale.known b ∙ ap (λ (m : Notes). overlaid_histories b (adjacent_arcs c.deal u) m.known) (sym same);
        })

    -- once u has had its turn
    forgets : (u : ℕ) (xs : List ℕ) (s : State) (n : Notes) → IsElement u xs → conforms c u ≡ true → u < c.deal.graph.n → length s.notes ≡ c.deal.graph.n
        → ((x : ℕ) → IsElement x xs → x < c.deal.graph.n) → IsStale s u n → fold (swept_turn sw c) (noting s u n) xs ≡ fold (swept_turn sw c) s xs
    forgets u [] s n i cu lu many low stale = absurd i
    forgets u (x ∷ xs) s n i cu lu many low stale =
        let lx : x < c.deal.graph.n = low x (inl refl) in
        let l : x < length s.notes = rw many lx in
        forgets_at x u xs s n (same_or_not x u) i cu lx l (rw many lu) stale
        (λ j old. forgets u xs (swept_turn sw c s x) n j cu lu (many_by (conforms c x) s x refl lx l ∙ many) (λ y k. low y (inr k)) old)

    -- nothing is due for any conforming party once it has looked
    abbrev AllIdle : State → Type 0
    AllIdle s = (v : ℕ) → v < c.deal.graph.n → conforms c v ≡ true → IsIdle c s.book v (state_notes s v)

    quiet_turn : (s : State) (v : ℕ) (cv : conforms c v ≡ true) → v < length s.notes → IsIdle c s.book v (state_notes s v)
        → swept_turn sw c s v ≡ noting s v (looked c.deal s.book v (state_notes s v))
    quiet_turn s v cv l idle =
        let n = looked c.deal s.book v (state_notes s v) in
        let t = noting s v n in
        let none : next_action c t v ≡ None = ap (λ (m : Notes). first (due c.deal v (c.wallet v) (signed_hashkey m.signed) m.known)) (own_notes s v n l) ∙ idle in
        turn_is v cv s
        ∙ (ap (repeat (most_acts c.deal) (λ s. apply_step sw c s (Act v))) (looks_are v cv s l)
        ∙ repeat_fixed (most_acts c.deal) (λ s. apply_step sw c s (Act v)) t (acts_are v cv t ∙ ap (make_on sw c.deal t v) none))

    still_idle : (s : State) (u v : ℕ) → (v ≡ u) ⊎ (v ≢ u) → v < length s.notes → IsIdle c s.book v (state_notes s v)
        → IsIdle c s.book v (state_notes (noting s u (looked c.deal s.book u (state_notes s u))) v)
    still_idle s u v (inr apart) l idle = subst (IsIdle c s.book v) (sym (others_notes s u v (looked c.deal s.book u (state_notes s u)) apart)) idle
    still_idle s u v (inl e) l idle =
        let n = looked c.deal s.book v (state_notes s v) in
        let near = adjacent_arcs c.deal v in
        let k = (state_notes s v).known in
        let now : IsIdle c s.book v n
        = ap (λ (h : Histories). first (due c.deal v (c.wallet v) (signed_hashkey (state_notes s v).signed) h)) (overwritten s.book s.book near near k (λ a i. i))
        ∙ idle in
        subst (λ z. IsIdle c s.book v (state_notes (noting s z (looked c.deal s.book z (state_notes s z))) v)) e
        (subst (IsIdle c s.book v) (sym (own_notes s v n l)) now)

    -- The histories may be changed between such turns and further ones.
    module _ (f : Histories → Histories) where
      -- with other histories
      abbrev booked : State → State
      booked s = record s { book = f s.book }

      again_by : (b : Bool) (x : ℕ) (xs : List ℕ) (s : State) → conforms c x ≡ b → x < c.deal.graph.n → length s.notes ≡ c.deal.graph.n → AllIdle s
          → ((t : State) → length t.notes ≡ c.deal.graph.n → AllIdle t
          → swept_turns sw c (booked (fold (swept_turn sw c) t xs)) ≡ swept_turns sw c (booked t))
          → swept_turns sw c (booked (fold (swept_turn sw c) (swept_turn sw c s x) xs)) ≡ swept_turns sw c (booked s)
      again_by false x xs s cx lx many idle rest =
          ap (λ (t : State). swept_turns sw c (booked (fold (swept_turn sw c) t xs))) (no_turn s x cx (plain x lx cx)) ∙ rest s many idle
      again_by true x xs s cx lx many idle rest =
          let l : x < length s.notes = rw many lx in
          let n = looked c.deal s.book x (state_notes s x) in
          ap (λ (t : State). swept_turns sw c (booked (fold (swept_turn sw c) t xs))) (quiet_turn s x cx l (idle x lx cx))
          ∙ (rest (noting s x n) (length-set s.notes x n ∙ many) (λ v lv cv. still_idle s x v (same_or_not v x) (rw many lv) (idle v lv cv))
          ∙ forgets x (range_with_len 0 c.deal.graph.n) (booked s) n (in_range x c.deal.graph.n lx) cx lx many
          (λ y i. from_range y c.deal.graph.n i) (record {
            signed = refl;
            known = λ b. overwritten b s.book (adjacent_arcs c.deal x) (adjacent_arcs c.deal x) (state_notes s x).known (λ a i. i);
          }))

      again : (xs : List ℕ) (s : State) → ((x : ℕ) → IsElement x xs → x < c.deal.graph.n) → length s.notes ≡ c.deal.graph.n → AllIdle s
          → swept_turns sw c (booked (fold (swept_turn sw c) s xs)) ≡ swept_turns sw c (booked s)
      again [] s low many idle = refl
      again (x ∷ xs) s low many idle =
          again_by (conforms c x) x xs s refl (low x (inl refl)) many idle (λ t far still. again xs t (λ y i. low y (inr i)) far still)

      pub turns_again : (s : State) → length s.notes ≡ c.deal.graph.n → AllIdle s
          → swept_turns sw c (booked (swept_turns sw c s)) ≡ swept_turns sw c (booked s)
      turns_again s many idle = again (range_with_len 0 c.deal.graph.n) s (λ x i. from_range x c.deal.graph.n i) many idle
