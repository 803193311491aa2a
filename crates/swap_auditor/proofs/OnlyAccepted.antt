-- A history without its refused calls: it is legal, and what stands in it is what stood before.
use Rattle.std.proofs.Common.{◌≡◌, ◌≢◌, ℕ, ◌+◌, ◌<◌, ◌≤◌, ◌==◌, nat_lt, nat_le, Bool, true, false, not, cond, List, [], ◌∷◌, ◌++◌, length, count_by}
use Rattle.std.proofs.Common.{Option, Some, None, is_some, is_none, refl, sym, ap, ap₂, ◌∙◌, arith, ltb-true, ltb-false, le-ltb, ◌&&◌}
use Rattle.std.proofs.Math.ListN.{get_or-map as get_or-map_at}
use Rattle.std.proofs.lemmas.Bool.{lt-leb}
use Rattle.std.proofs.lemmas.List.{length-map, get_or_past}
use Rattle.std.proofs.lemmas.List.Elements.{filter-append}
use Rattle.swap_base.proofs.Lists.{grow, at_moment, all_moments_front, all_moments_push}
use Rattle.swap_digraph.specs.declared.deal.Deal.{Deal}
use Rattle.swap_digraph.specs.Deal.{party}
use Rattle.escrow_core.specs.declared.reply.Reply.{Reply}
use Rattle.escrow_core.specs.declared.reply.Reply.TheVariants.{Accepted, NotParty, NoContract, AlreadyPublished, NoFunds, SenderFull, ClockFull}
use Rattle.escrow_core.specs.Table.{first_row, are_open, unlock_rows, claim_rows, refund_rows}
use Rattle.ledger_core.specs.declared.accounts.Accounts.{Accounts}
use Rattle.ledger_core.specs.declared.facts.Settlement.{Settlement}
use Rattle.ledger_core.specs.declared.entry.Call.{Call}
use Rattle.ledger_core.specs.declared.entry.Call.TheVariants.{Publish, Unlock, Claim, Refund, Transfer}
use Rattle.ledger_core.specs.declared.entry.Sender.{Sender}
use Rattle.ledger_core.specs.declared.entry.Sender.TheVariants.{Party, Clock}
use Rattle.ledger_core.specs.declared.entry.What.{What}
use Rattle.ledger_core.specs.declared.entry.What.TheVariants.{Call as Made, Tick}
use Rattle.ledger_core.specs.declared.entry.Entry.{Entry}
use Rattle.ledger_core.specs.History.{entry_ticks, accepted, accepted_call, height, Publication, publication, published, opening, opened}
use Rattle.ledger_core.specs.History.{settling, settled, is_open, triggered, publication_terms, accounts, moved, balance, held, is_full, is_clock_full, rows}
use Rattle.ledger_core.specs.History.{history_reply, reply_to_tick, IsLegal, IsLegalEntry, IsLegalMoment}
use Rattle.ledger_core.specs.Book.{Histories, history, IsLegalBook}
use Rattle.ledger_core.proofs.Bounds.{total_calls, run_ticks, calls-push, ticks-push, height-push, room_of, tick_room}
use Rattle.ledger_core.proofs.Units.{accounts-push}
use Rattle.swap_base.proofs.Lists.{first_given_answer-append}
use Rattle.swap_base.specs.Lists.{or_else}
use Rattle.swap_digraph.specs.Graph.{entering, leaving}
use Rattle.swap_rules.specs.declared.outcome.Outcome.{Outcome}
use Rattle.swap_rules.specs.declared.outcome.Outcome.TheVariants.{NoDeal, FreeRide, Underwater, Deal as WholeDeal, Discount}
use Rattle.swap_rules.specs.Outcome.{outcome, is_got, is_claim, got, lost}
use Rattle.swap_rules.specs.Party.{is_arc_correct, is_triggered}
use Rattle.swap_auditor.specs.Accepted.{is_accepted, accepted_calls, accepted_only, HoldTheSame}

-- What stands in one list of entries stands in the other, which has no more of them.
record IsSame (d : Deal) (a : ℕ) (h k : List Entry) : Type 0 where
  height : height k ≡ height h
  accounts : accounts d a k ≡ accounts d a h
  published : published k ≡ published h
  opened : (i : ℕ) → opened k i ≡ opened h i
  settled : settled k ≡ settled h
  calls : (p : ℕ) → total_calls p k ≤ total_calls p h
  ticks : run_ticks k ≤ run_ticks h

-- The rows of the table, after that of a full sender, by what stands in the history.

abbrev balance_in : Deal → ℕ → Accounts → ℕ → ℕ
balance_in d a b p = cond (p == party d a) b.party b.counterparty

abbrev further_rows : Deal → ℕ → Accounts → Option Publication → (ℕ → Bool) → Option Settlement → (at p : ℕ) → Call → List (Bool × Reply)
further_rows d a b o is_open s at p (Publish terms) =
    (not (p == party d a), NotParty) ∷ (is_some o, AlreadyPublished) ∷ (nat_lt (balance_in d a b p) terms.amount, NoFunds (balance_in d a b p)) ∷ []
further_rows d a b o is_open s at p (Unlock key) = (is_none o, NoContract) ∷ unlock_rows d a (publication_terms o) is_open (is_some s) at p key
further_rows d a b o is_open s at p Claim = (is_none o, NoContract) ∷ claim_rows d a is_open (is_some s) p
further_rows d a b o is_open s at p Refund = (is_none o, NoContract) ∷ refund_rows d a (publication_terms o) is_open (is_some s) at p
further_rows d a b o is_open s at p (Transfer to units) = (nat_lt (balance_in d a b p) units, NoFunds (balance_in d a b p)) ∷ []

abbrev further : Deal → ℕ → List Entry → ℕ → Call → List (Bool × Reply)
further d a h p c = further_rows d a (accounts d a h) (published h) (is_open h) (settled h) (height h) p c

reply_is : (d : Deal) (a : ℕ) (h : List Entry) (p : ℕ) (c : Call) → history_reply d a h p c ≡ cond (is_full h p) SenderFull (first_row (further d a h p c))
unfolding rows
reply_is d a h p (Publish terms) = refl
reply_is d a h p (Unlock key) = refl
reply_is d a h p Claim = refl
reply_is d a h p Refund = refl
reply_is d a h p (Transfer to units) = refl

same_rows : (d : Deal) (a : ℕ) (h k : List Entry) (p : ℕ) (c : Call) → IsSame d a h k → further d a k p c ≡ further d a h p c
same_rows d a h k p c s =
    let same_open : is_open k ≡ is_open h = λ j i. ap (λ o. is_some o) (s.opened i) j in
    ap (λ (x : Accounts). further_rows d a x (published k) (is_open k) (settled k) (height k) p c) s.accounts
    ∙ ap (λ (x : Option Publication). further_rows d a (accounts d a h) x (is_open k) (settled k) (height k) p c) s.published
    ∙ ap (λ (x : ℕ → Bool). further_rows d a (accounts d a h) (published h) x (settled k) (height k) p c) same_open
    ∙ ap (λ (x : Option Settlement). further_rows d a (accounts d a h) (published h) (is_open h) x (height k) p c) s.settled
    ∙ ap (λ (x : ℕ). further_rows d a (accounts d a h) (published h) (is_open h) (settled h) x p c) s.height

-- an accepted call is accepted without the refused ones before it
still_accepted : (d : Deal) (a : ℕ) (h k : List Entry) (p : ℕ) (c : Call) → IsSame d a h k → Accepted ≡ history_reply d a h p c
    → Accepted ≡ history_reply d a k p c
still_accepted d a h k p c s e =
    let room : total_calls p h < 32 = room_of d a h p c Accepted e (λ x. cc x) in
    let few = s.calls p in
    let free : is_full h p ≡ false = lt-leb 32 (total_calls p h) room in
    let free_too : is_full k p ≡ false = lt-leb 32 (total_calls p k) (omega arith) in
    e ∙ reply_is d a h p c ∙ ap (λ b. cond b SenderFull (first_row (further d a h p c))) free ∙ ap first_row (sym (same_rows d a h k p c s))
    ∙ sym (reply_is d a k p c ∙ ap (λ b. cond b SenderFull (first_row (further d a k p c))) free_too)

still_ticks : (d : Deal) (a : ℕ) (h k : List Entry) (n : ℕ) → IsSame d a h k → Accepted ≡ reply_to_tick h n → Accepted ≡ reply_to_tick k n
still_ticks d a h k n s e =
    let room = tick_room h n Accepted e (λ x. cc x) in
    let few = s.ticks in
    let before = room.ticks in
    let below = room.height in
    let first : nat_le 20000 (run_ticks k) ≡ false = lt-leb 20000 (run_ticks k) (omega arith) in
    let second : nat_lt 1000000 (height k + n) ≡ false = le-ltb 1000000 (height k + n) (rw s.height below) in
    rw (first, second) refl

-- One more entry.

or_else-none : {B : Type 0} (o : Option B) → or_else o None ≡ o
or_else-none None = refl
or_else-none (Some x) = refl

same_more : (d : Deal) (a : ℕ) (h k : List Entry) (e : Entry) → IsSame d a h k → IsSame d a (h ++ e ∷ []) (k ++ e ∷ [])
same_more d a h k e s = record {
  height = height-push k e ∙ ap (λ n. n + entry_ticks e.what) s.height ∙ sym (height-push h e);
  accounts = accounts-push d a k e ∙ ap (λ b. moved d a b e.sender (accepted e)) s.accounts ∙ sym (accounts-push d a h e);
  published =
      first_given_answer-append (λ x. publication x.height (accepted x)) k (e ∷ [])
      ∙ ap (λ o. or_else o (or_else (publication e.height (accepted e)) None)) s.published
      ∙ sym (first_given_answer-append (λ x. publication x.height (accepted x)) h (e ∷ []));
  opened =
      λ i. first_given_answer-append (λ x. opening i x.height (accepted x)) k (e ∷ [])
      ∙ ap (λ o. or_else o (or_else (opening i e.height (accepted e)) None)) (s.opened i)
      ∙ sym (first_given_answer-append (λ x. opening i x.height (accepted x)) h (e ∷ []));
  settled =
      first_given_answer-append (λ x. settling (accepted x)) k (e ∷ []) ∙ ap (λ o. or_else o (or_else (settling (accepted e)) None)) s.settled
      ∙ sym (first_given_answer-append (λ x. settling (accepted x)) h (e ∷ []));
  calls = λ p. let few = s.calls p in omega (arith, calls-push k e p, calls-push h e p);
  ticks = let few = s.ticks in omega (arith, ticks-push k e, ticks-push h e);
}

same_without : (d : Deal) (a : ℕ) (h k : List Entry) (e : Entry) → accepted e ≡ None → entry_ticks e.what ≡ 0 → IsSame d a h k → IsSame d a (h ++ e ∷ []) k
same_without d a h k e none still s = record {
  height = s.height ∙ sym (height-push h e ∙ ap (λ n. height h + n) still ∙ (let z : ◌≡◌ {A = ℕ} (height h + 0) (height h) = omega arith in z));
  accounts = s.accounts ∙ sym (accounts-push d a h e ∙ ap (moved d a (accounts d a h) e.sender) none);
  published =
      s.published ∙ sym (first_given_answer-append (λ x. publication x.height (accepted x)) h (e ∷ [])
      ∙ ap (λ o. or_else (published h) (or_else (publication e.height o) None)) none ∙ or_else-none (published h));
  opened =
      λ i. s.opened i ∙ sym (first_given_answer-append (λ x. opening i x.height (accepted x)) h (e ∷ [])
      ∙ ap (λ o. or_else (opened h i) (or_else (opening i e.height o) None)) none ∙ or_else-none (opened h i));
  settled =
      s.settled ∙ sym (first_given_answer-append (λ x. settling (accepted x)) h (e ∷ []) ∙ ap (λ o. or_else (settled h) (or_else (settling o) None)) none
      ∙ or_else-none (settled h));
  calls = λ p. let few = s.calls p in omega (arith, calls-push h e p);
  ticks = let few = s.ticks in omega (arith, ticks-push h e);
}

refused_none : (w : What) (r : Reply) → is_accepted r ≡ false → accepted_call w r ≡ None
refused_none w Accepted e = absurd (cc e)
refused_none (Made c) _ e = refl
refused_none (Tick k) _ e = refl

accepted_is : (r : Reply) → is_accepted r ≡ true → r ≡ Accepted
accepted_is Accepted e = refl
accepted_is _ e = absurd (cc e)

tick_accepts : (b : Bool) (r : Reply) → r ≡ cond b ClockFull Accepted → r ≢ ClockFull → r ≡ Accepted
tick_accepts true r e n = absurd (n e)
tick_accepts false r e n = e

-- a refused entry of a legal history is no tick
refused_still : (d : Deal) (a : ℕ) (h : List Entry) (s : Sender) (w : What) (at : ℕ) (r : Reply) → IsLegalEntry d a h s w at r → is_accepted r ≡ false
    → entry_ticks w ≡ 0
refused_still d a h (Party p) (Made c) at r l e = refl
refused_still d a h Clock (Tick k) at r l e = absurd (cc (sym e ∙ ap is_accepted (tick_accepts (is_clock_full h k) r l.reply l.room)))
refused_still d a h (Party p) (Tick k) at r l e = absurd l
refused_still d a h Clock (Made c) at r l e = absurd l

still_legal : (d : Deal) (a : ℕ) (h k : List Entry) (s : Sender) (w : What) (at : ℕ) (r : Reply) → IsSame d a h k → r ≡ Accepted
    → IsLegalEntry d a h s w at r → IsLegalEntry d a k s w at r
still_legal d a h k (Party p) (Made c) at r same is l = record {
  of_the_two = l.of_the_two;
  fits = l.fits;
  height = l.height ∙ sym same.height;
  reply = is ∙ still_accepted d a h k p c same (sym is ∙ l.reply);
  room = l.room;
}
still_legal d a h k Clock (Tick n) at r same is l = record {
  some = l.some;
  below = l.below;
  height = l.height ∙ ap (λ x. x + n) (sym same.height);
  reply = is ∙ still_ticks d a h k n same (sym is ∙ l.reply);
  room = l.room;
}
still_legal d a h k (Party p) (Tick n) at r same is l = absurd l
still_legal d a h k Clock (Made c) at r same is l = absurd l

-- Whole histories.

abbrev Stays : Deal → ℕ → List Entry → Type 0
Stays d a h = IsLegal d a h → IsLegal d a (accepted_calls h) × IsSame d a h (accepted_calls h)

only_more : (h : List Entry) (e : Entry) → is_accepted e.reply ≡ true → accepted_calls (h ++ e ∷ []) ≡ accepted_calls h ++ e ∷ []
only_more h e k = filter-append (λ x. is_accepted x.reply) h (e ∷ []) ∙ ap (λ b. accepted_calls h ++ cond b (e ∷ []) []) k

append-nil : (xs : List Entry) → xs ++ [] ≡ xs
append-nil [] = refl
append-nil (x ∷ xs) = ap (λ (l : List Entry). x ∷ l) (append-nil xs)

only_without : (h : List Entry) (e : Entry) → is_accepted e.reply ≡ false → accepted_calls (h ++ e ∷ []) ≡ accepted_calls h
only_without h e k = filter-append (λ x. is_accepted x.reply) h (e ∷ []) ∙ ap (λ b. accepted_calls h ++ cond b (e ∷ []) []) k ∙ append-nil (accepted_calls h)

stays_after : (d : Deal) (a : ℕ) (h : List Entry) (e : Entry) (b : Bool) → is_accepted e.reply ≡ b → IsLegalEntry d a h e.sender e.what e.height e.reply
    → IsLegal d a (accepted_calls h) × IsSame d a h (accepted_calls h)
    → IsLegal d a (accepted_calls (h ++ e ∷ [])) × IsSame d a (h ++ e ∷ []) (accepted_calls (h ++ e ∷ []))
stays_after d a h e true k l s =
    rw (only_more h e k) (
      all_moments_push (IsLegalMoment d a) (accepted_calls h) e s.0
          (still_legal d a h (accepted_calls h) e.sender e.what e.height e.reply s.1 (accepted_is e.reply k) l),
      same_more d a h (accepted_calls h) e s.1,
    )
stays_after d a h e false k l s =
    rw (only_without h e k) (
      s.0,
      same_without d a h (accepted_calls h) e (refused_none e.what e.reply k)
          (refused_still d a h e.sender e.what e.height e.reply l k) s.1,
    )

stays : (d : Deal) (a : ℕ) (h : List Entry) → Stays d a h
stays d a h =
    grow (Stays d a) h (λ l. (
      tt,
      record {
        height = refl;
        accounts = refl;
        published = refl;
        opened = λ i. refl;
        settled = refl;
        calls =
            λ p. omega arith;
        ticks = omega arith;
      },
    ))
    (λ xs x rest l. stays_after d a xs x (is_accepted x.reply) refl (at_moment (IsLegalMoment d a) (xs ++ x ∷ []) xs x l ([], refl))
    (rest (all_moments_front (IsLegalMoment d a) xs (x ∷ []) l)))

-- Books.

history_is : (b : Histories) (a : ℕ) → history (accepted_only b) a ≡ accepted_calls (history b a)
history_is b a = get_or-map_at accepted_calls b a []

past_end : (b : Histories) (a : ℕ) → length b ≤ a → history b a ≡ []
past_end b a le = get_or_past b a [] le

legal_at : (d : Deal) (b : Histories) (a : ℕ) → IsLegalBook d b → IsLegal d a (history b a)
legal_at d b a l = by (nat_lt a (length b)) refl
  where
    by : (t : Bool) → nat_lt a (length b) ≡ t → IsLegal d a (history b a)
    by true e = l.legal a (ltb-true a (length b) e)
    by false e = rw (past_end b a (ltb-false a (length b) e)) tt

pub is_legal_still : (d : Deal) (b : Histories) → IsLegalBook d b → IsLegalBook d (accepted_only b)
is_legal_still d b l = record {
  one_each = length-map b accepted_calls ∙ l.one_each;
  legal = λ a lt. rw (history_is b a) (stays d a (history b a) (legal_at d b a l)).0;
}

-- the outcome by how much was lost and got
abbrev outcome_by : Deal → ℕ → (lost got : ℕ) → Outcome
outcome_by d v n m =
    cond (n == 0) (cond (m == 0) NoDeal FreeRide) (cond (nat_lt m (length (entering d.graph v))) Underwater
    (cond (n == length (leaving d.graph v)) WholeDeal Discount))

outcome_is : (d : Deal) (b : Histories) (v : ℕ) → outcome d b v ≡ outcome_by d v (lost d b v) (got d b v)
unfolding outcome
outcome_is d b v = refl

same_outcome : (d : Deal) (b c : Histories) (v : ℕ) → ((a : ℕ) → is_triggered d c a ≡ is_triggered d b a) → ((a : ℕ) → is_got d c a ≡ is_got d b a)
    → outcome d c v ≡ outcome d b v
same_outcome d b c v lost_same got_same =
    let l : is_triggered d c ≡ is_triggered d b = λ j a. lost_same a j in
    let g : is_got d c ≡ is_got d b = λ j a. got_same a j in
    outcome_is d c v
    ∙ ap₂ (outcome_by d v) (ap (λ (f : ℕ → Bool). count_by f (leaving d.graph v)) l) (ap (λ (f : ℕ → Bool). count_by f (entering d.graph v)) g)
    ∙ sym (outcome_is d b v)

module _ (d : Deal) (b : Histories) (l : IsLegalBook d b) where
  find_same_key : (a : ℕ) → IsSame d a (history b a) (accepted_calls (history b a))
  find_same_key a = (stays d a (history b a) (legal_at d b a l)).1

  same_trigger : (a : ℕ) → is_triggered d (accepted_only b) a ≡ is_triggered d b a
  same_trigger a =
      let same_open : is_open (accepted_calls (history b a)) ≡ is_open (history b a) = λ j i. ap (λ o. is_some o) ((find_same_key a).opened i) j in
      ap (triggered d) (history_is b a) ∙ ap (are_open d) same_open

  same_got : (a : ℕ) → is_got d (accepted_only b) a ≡ is_got d b a
  same_got a =
      ap (λ h. is_arc_correct d a (published h) && is_claim (settled h)) (history_is b a)
      ∙ ap₂ (λ o s. is_arc_correct d a o && is_claim s) (find_same_key a).published (find_same_key a).settled

  pub holds_the_same : HoldTheSame d b (accepted_only b)
  holds_the_same = record {
    heights = λ a. ap height (history_is b a) ∙ (find_same_key a).height;
    balances = λ a p. ap (λ h. balance d a h p) (history_is b a) ∙ ap (λ (x : Accounts). balance_in d a x p) (find_same_key a).accounts;
    held = λ a. ap held (history_is b a) ∙ ap₂ (λ s o. cond (is_some s) 0 (publication_terms o).amount) (find_same_key a).settled (find_same_key a).published;
    outcomes = λ v. same_outcome d b (accepted_only b) v same_trigger same_got;
  }
