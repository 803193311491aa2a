-- What a pass has seen, and what it learns.
use Rattle.std.proofs.Common.{◌≡◌, ◌≢◌, ℕ, ◌+◌, ◌≤◌, ◌==◌, ◌||◌, Bool, true, false, true≢false, IsTrue, List, [], ◌∷◌, ◌++◌, length, take}
use Rattle.std.proofs.Common.{drop, filter, refl, sym, ap, ◌∙◌, subst, arith, append-nil, append_assoc, if◌then◌else◌, eqb-true, eq-eqb, ne_eqb}
use Rattle.std.proofs.lemmas.List.{take_all}
use Rattle.std.proofs.lemmas.List.{take-append-drop, take-append-le, length-append}
use Rattle.std.proofs.lemmas.List.Elements.{filter-append}
use Rattle.std.specs.List.{AllByRecursion}
use mathlib.Core.List.{IsPrefix}
use Rattle.atomic_table.specs.Seated.{TableId}
use Rattle.turn_lock.proofs.Histories.{prefix_trans}
use Rattle.swap_digraph.specs.declared.deal.Deal.{Deal}
use Rattle.swap_digraph.specs.Deal.{party, counterparty}
use Rattle.ledger_core.specs.declared.entry.Entry.{Entry}
use Rattle.ledger_core.specs.declared.entry.Sender.{Sender}
use Rattle.ledger_core.specs.declared.entry.Sender.TheVariants.{Party, Clock}
use Rattle.escrow_core.specs.declared.reply.Reply.{Reply}
use Rattle.escrow_core.specs.declared.reply.Reply.TheVariants.{SenderFull, ClockFull}
use Rattle.ledger_core.specs.declared.entry.Call.{Call}
use Rattle.ledger_core.specs.History.{height, is_sender, is_tick, history_reply, reply_to_tick}
use Rattle.ledger_core.specs.Ledger.{call_entry, tick_entry}
use Rattle.ledger_core.specs.Value.{LedgerState}
use Rattle.ledger_shared.specs.Lines.{sender_side, side_entries}
use Rattle.ledger_shared.specs.Seat.{SeatState, knowing, new_seat, ContinuesSeat, IsContinued}
use Rattle.ledger_shared.specs.Pass.{inside_pass, inside_clock_pass, Rests, IsOfParty, IsOfClock}
use Rattle.ledger_shared.specs.Value.{party_made, ticks_in_order, with_seen, clock_with_seen, added_by_call, added_by_tick, HasCalled, HasTicked, Closes}
use Rattle.ledger_shared.specs.Value.{ClosesClock}
use Rattle.ledger_shared.specs.declared.pass.Pass.TheInside as pass
use Rattle.ledger_shared.specs.declared.pass.ClockPass.TheInside as clock

append_self : {A : Type 0} (xs ys : List A) → xs ++ ys ≡ xs → ys ≡ []
append_self [] ys e = e
append_self (x ∷ xs) ys e = append_self xs ys (cc)

-- what was seen begins a longer history too
pub seen_in : (n : ℕ) (known h : List Entry) → n ≤ length known → IsPrefix known h → take n known ≡ take n h
seen_in n known h within pre = sym (take-append-le n known pre.0 within) ∙ ap (take n) pre.1

-- Of the entries that a test picks.

module _ (f : Entry → Bool) where
  -- none stands past what was seen, where none did in what was known and the history has no more of
  -- them
  pub none_fresh : (n : ℕ) (known h : List Entry) → n ≤ length known → IsPrefix known h → filter f known ≡ filter f (take n known)
      → filter f h ≡ filter f known → filter f (drop n h) ≡ []
  none_fresh n known h within pre own same =
      let whole : take n known ++ drop n h ≡ h = ap (λ w. w ++ drop n h) (seen_in n known h within pre) ∙ take-append-drop n h in
      append_self (filter f (take n known)) (filter f (drop n h)) (sym (filter-append f (take n known) (drop n h)) ∙ (ap (filter f) whole ∙ (same ∙ own)))

  pub own_kept : (n : ℕ) (known h : List Entry) → n ≤ length known → IsPrefix known h → filter f known ≡ filter f (take n known)
      → filter f h ≡ filter f known → filter f h ≡ filter f (take n h)
  own_kept n known h within pre own same = same ∙ (own ∙ ap (filter f) (seen_in n known h within pre))

pub own_all : (f : Entry → Bool) (n : ℕ) (h : List Entry) → n ≡ length h → filter f h ≡ filter f (take n h)
own_all f n h is = ap (filter f) (sym (take_all n h (omega arith)))

-- Which entries are a side's.

pub sides_are : (d : Deal) (a k p : ℕ) (h : List Entry) → ((s : Sender) → (sender_side d a s == k) ≡ is_sender p s) → side_entries d a k h ≡ party_made p h
sides_are d a k p h side = ap (λ (f : Entry → Bool). filter f h) (λ i e. side e.sender i)

one_more : {A : Type 0} (p : A → Bool) (x : A) (b c : Bool) (qs ps : List A) → filter p qs ≡ ps → p x ≡ b → (b ≡ true → c ≡ true)
    → filter p (if c then x ∷ qs else qs) ≡ (if b then x ∷ ps else ps)
one_more p x b true qs ps same is f = λ i. if is i then x ∷ same i else same i
one_more p x true false qs ps same is f = absurd (true≢false (sym (f refl)))
one_more p x false false qs ps same is f = same

filter_twice : {A : Type 0} (p q : A → Bool) (xs : List A) → ((x : A) → p x ≡ true → q x ≡ true) → filter p (filter q xs) ≡ filter p xs
filter_twice p q [] inside = refl
filter_twice p q (x ∷ xs) inside = one_more p x (p x) (q x) (filter q xs) (filter p xs) (filter_twice p q xs inside) refl (inside x)

tick_side : (d : Deal) (a : ℕ) (s : Sender) → is_tick s ≡ true → (sender_side d a s == 2) ≡ true
tick_side d a (Party p) e = absurd (true≢false (sym e))
tick_side d a Clock e = refl

-- a history with the entries of the third side as before has the ticks as before
pub ticks_stay : (d : Deal) (a : ℕ) (h k : List Entry) → side_entries d a 2 h ≡ side_entries d a 2 k → ticks_in_order h ≡ ticks_in_order k
ticks_stay d a h k same =
    sym (filter_twice (λ (e : Entry). is_tick e.sender) (λ e. sender_side d a e.sender == 2) h (λ e. tick_side d a e.sender))
    ∙ (ap ticks_in_order same ∙ filter_twice (λ (e : Entry). is_tick e.sender) (λ e. sender_side d a e.sender == 2) k (λ e. tick_side d a e.sender))

-- What a turn does to a seat that rests.

pub turned : (s mid new : SeatState) (h k : List Entry) → mid ≡ knowing s true h → new ≡ knowing mid false k → new ≡ knowing s false k
turned s mid new h k is then_is = then_is ∙ ap (λ (x : SeatState). knowing x false k) is

pub longer : (known h more new : List Entry) → IsPrefix known h → new ≡ h ++ more → IsPrefix known new
longer known h more new pre is = (pre.0 ++ more, sym (append_assoc known pre.0 more) ∙ (ap (λ w. w ++ more) pre.1 ∙ sym is))

within_too : (n : ℕ) (known h : List Entry) → n ≤ length known → IsPrefix known h → n ≤ length h
within_too n known h within pre = let size : length h ≡ length known + length pre.0 = ap length (sym pre.1) ∙ length-append known pre.0 in omega arith

pub rests_all : (s : SeatState) (n m : ℕ) (h : List Entry) → Rests s n → IsPrefix s.known h → m ≡ length h → Rests (knowing s false h) m
rests_all s n m h r pre is = record { idle = refl; began = prefix_trans s.shared s.known h r.began pre; within = omega arith }

pub rests_kept : (s : SeatState) (n : ℕ) (h : List Entry) → Rests s n → IsPrefix s.known h → Rests (knowing s false h) n
rests_kept s n h r pre = record { idle = refl; began = prefix_trans s.shared s.known h r.began pre; within = within_too n s.known h r.within pre }

-- A ledger that is lent from its box is the one in it.

pub goes_as : (s : SeatState) (l lent : LedgerState) → lent ≡ l → ContinuesSeat s l → ContinuesSeat s lent
goes_as s l lent e g = subst (ContinuesSeat s) (sym e) g

pub turned_as : (s mid : SeatState) (l lent : LedgerState) → lent ≡ l → mid ≡ knowing s true l.history → mid ≡ knowing s true lent.history
turned_as s mid l lent e turn = turn ∙ ap (λ (x : LedgerState). knowing s true x.history) (sym e)

pub counted_as : (n : ℕ) (l lent : LedgerState) → lent ≡ l → n ≡ length lent.history → n ≡ length l.history
counted_as n l lent e is = is ∙ ap (λ (x : LedgerState). length x.history) e

-- nothing was added
pub unchanged : (s mid : SeatState) (l : LedgerState) (h : List Entry) → mid ≡ knowing s true l.history → h ≡ l.history → IsContinued mid h
unchanged s mid l h turn is = subst (λ x. IsContinued x h) (sym turn) ([], is ∙ sym (append-nil l.history), tt)

-- what was seen, with what is fresh, is the whole
pub seen_grows : (n : ℕ) (known h more new fresh : List Entry) → n ≤ length known → IsPrefix known h → new ≡ h ++ more → fresh ≡ drop n h ++ more
    → new ≡ take n known ++ fresh
seen_grows n known h more new fresh within pre is fresh_is =
    is ∙ (ap (λ w. w ++ more) (sym (take-append-drop n h))
    ∙ (append_assoc (take n h) (drop n h) more
    ∙ (ap (λ w. w ++ (drop n h ++ more)) (sym (seen_in n known h within pre)) ∙ ap (λ w. take n known ++ w) (sym fresh_is))))

pub seen_whole : (n : ℕ) (known h : List Entry) → n ≤ length known → IsPrefix known h → take n known ++ drop n h ≡ h
seen_whole n known h within pre = ap (λ w. w ++ drop n h) (seen_in n known h within pre) ∙ take-append-drop n h

pub seen_is : (s : SeatState) (n : ℕ) (t : SeatState) (h : List Entry) → s ≡ knowing t false h → n ≡ length h → take n s.known ≡ h
seen_is s n t h is len = ap (λ (x : SeatState). take n x.known) is ∙ take_all n h (omega arith)

of_added : (P : Entry → Type 0) (r : Reply) (e : Entry) → P e → AllByRecursion P (added_by_call r e)
of_added P SenderFull e h = tt
of_added P _ e h = (h, tt)

of_ticked : (P : Entry → Type 0) (r : Reply) (e : Entry) → P e → AllByRecursion P (added_by_tick r e)
of_ticked P ClockFull e h = tt
of_ticked P _ e h = (h, tt)

-- The passes of parties.

module _ (p : pass.Inside) (k : IsOfParty p) where
  abbrev then_at : SeatState → ℕ → pass.Inside
  then_at s n = record { seat = s; party = p.party; seen = n }

  same_mine : (l : LedgerState) → ContinuesSeat p.seat l → party_made p.party l.history ≡ party_made p.party p.seat.known
  same_mine l g = sym (sides_are p.seat.deal p.seat.arc p.seat.number p.party l.history k.side)
      ∙ (g.own ∙ sides_are p.seat.deal p.seat.arc p.seat.number p.party p.seat.known k.side)

  pub party_all : (s : SeatState) (n : ℕ) (h : List Entry) → s ≡ knowing p.seat false h → IsPrefix p.seat.known h → n ≡ length h → IsOfParty (then_at s n)
  party_all s n h is pre len = subst (λ x. IsOfParty (then_at x n)) (sym is) (record {
    rests = rests_all p.seat p.seen n h k.rests pre len;
    of_the_two =
        k.of_the_two;
    apart = k.apart;
    side = k.side;
    mine = own_all (λ e. is_sender p.party e.sender) n h len;
  })

  pub party_kept : (s : SeatState) (l : LedgerState) → ContinuesSeat p.seat l → s ≡ knowing p.seat false l.history → IsOfParty (then_at s p.seen)
  party_kept s l g is = subst (λ x. IsOfParty (then_at x p.seen)) (sym is)
      (record {
        rests = rests_kept p.seat p.seen l.history k.rests g.longer;
        of_the_two = k.of_the_two;
        apart = k.apart;
        side = k.side;
        mine = own_kept (λ e. is_sender p.party e.sender) p.seen p.seat.known l.history k.rests.within g.longer k.mine (same_mine l g);
      })

  pub party_sees : (s : SeatState) (n : ℕ) (h fresh : List Entry) → s ≡ knowing p.seat false h → n ≡ length h → h ≡ take p.seen p.seat.known ++ fresh
      → inside_pass (then_at s n) ≡ with_seen (inside_pass p) fresh
  party_sees s n h fresh is len grows = ap (λ x. inside_pass (then_at x n)) is ∙ (λ i. record {
    lock = p.seat.lock;
    deal = p.seat.deal;
    arc = p.seat.arc;
    party = p.party;
    shared = p.seat.shared;
    seen = (take_all n h (omega arith) ∙ grows) i;
  })

  pub party_same : (s : SeatState) (l : LedgerState) → ContinuesSeat p.seat l → s ≡ knowing p.seat false l.history → inside_pass (then_at s p.seen) ≡ inside_pass p
  party_same s l g is = ap (λ x. inside_pass (then_at x p.seen)) is ∙ (λ i. record {
    lock = p.seat.lock;
    deal = p.seat.deal;
    arc = p.seat.arc;
    party = p.party;
    shared = p.seat.shared;
    seen = sym (seen_in p.seen p.seat.known l.history k.rests.within g.longer) i;
  })

  pub party_whole : (s : SeatState) (n : ℕ) (h : List Entry) → s ≡ knowing p.seat false h → n ≡ length h → IsPrefix p.seat.known h
      → IsPrefix p.seat.shared (take n s.known)
  party_whole s n h is len pre =
      subst (λ w. IsPrefix p.seat.shared w) (sym (seen_is s n p.seat h is len)) (prefix_trans p.seat.shared p.seat.known h k.rests.began pre)

  pub party_foreign : (l : LedgerState) → ContinuesSeat p.seat l → party_made p.party (drop p.seen l.history) ≡ []
  party_foreign l g = none_fresh (λ e. is_sender p.party e.sender) p.seen p.seat.known l.history k.rests.within g.longer k.mine (same_mine l g)

  pub party_called : (l : LedgerState) (call : Call) (answer : Reply) (fresh : List Entry) → ContinuesSeat p.seat l
      → answer ≡ history_reply l.deal l.arc l.history p.party call
      → fresh ≡ drop p.seen l.history ++ added_by_call answer (call_entry p.party (height l.history) call answer) → HasCalled (inside_pass p) call answer fresh
  party_called l call answer fresh g is fresh_is =
      let whole = sym (seen_whole p.seen p.seat.known l.history k.rests.within g.longer) in record {
        others = drop p.seen l.history;
        foreign = party_foreign l g;
        reply = is ∙ (λ i. history_reply (g.deal i) (g.arc i) (whole i) p.party call);
        entries = fresh_is ∙ ap (λ (w : List Entry). drop p.seen l.history ++ added_by_call answer (call_entry p.party (height w) call answer)) whole;
      }

  -- the own entry is of the seat's side
  pub own_side : (e : Entry) → e.sender ≡ Party p.party → sender_side p.seat.deal p.seat.arc e.sender ≡ p.seat.number
  own_side e is = eqb-true (sender_side p.seat.deal p.seat.arc e.sender) p.seat.number (k.side e.sender ∙ (ap (is_sender p.party) is
      ∙ eq-eqb p.party p.party refl))

  pub party_continued : (l : LedgerState) (h : List Entry) (call : Call) (answer : Reply) → ContinuesSeat p.seat l
      → h ≡ l.history ++ added_by_call answer (call_entry p.party (height l.history) call answer)
      → IsContinued (knowing p.seat true l.history) h
  party_continued l h call answer g is = (
    added_by_call answer (call_entry p.party (height l.history) call answer),
    is,
    of_added (λ e. sender_side p.seat.deal p.seat.arc e.sender ≡ p.seat.number) answer (call_entry p.party (height l.history) call answer)
        (own_side (call_entry p.party (height l.history) call answer) refl),
  )

  pub party_closes : (l : LedgerState) → ContinuesSeat p.seat l → Closes l (inside_pass p)
  party_closes l g = record {
    deal = g.deal;
    arc = g.arc;
    seen = prefix_trans (take p.seen p.seat.known) p.seat.known l.history (
      drop p.seen p.seat.known,
      take-append-drop p.seen p.seat.known,
    ) g.longer;
    mine = same_mine l g ∙ k.mine;
  }

-- The pass of the clock.

module _ (p : clock.Inside) (k : IsOfClock p) where
  abbrev clock_then : SeatState → ℕ → clock.Inside
  clock_then s n = record { seat = s; seen = n }

  same_ticks : (l : LedgerState) → ContinuesSeat p.seat l → ticks_in_order l.history ≡ ticks_in_order p.seat.known
  same_ticks l g = ticks_stay p.seat.deal p.seat.arc l.history p.seat.known (subst (λ n. side_entries p.seat.deal p.seat.arc n l.history
      ≡ side_entries p.seat.deal p.seat.arc n p.seat.known) k.side g.own)

  pub clock_all : (s : SeatState) (n : ℕ) (h : List Entry) → s ≡ knowing p.seat false h → IsPrefix p.seat.known h → n ≡ length h → IsOfClock (clock_then s n)
  clock_all s n h is pre len = subst (λ x. IsOfClock (clock_then x n)) (sym is) (record {
    rests = rests_all p.seat p.seen n h k.rests pre len;
    side =
        k.side;
    mine = own_all (λ e. is_tick e.sender) n h len;
  })

  pub clock_kept : (s : SeatState) (l : LedgerState) → ContinuesSeat p.seat l → s ≡ knowing p.seat false l.history → IsOfClock (clock_then s p.seen)
  clock_kept s l g is = subst (λ x. IsOfClock (clock_then x p.seen)) (sym is)
      (record {
        rests = rests_kept p.seat p.seen l.history k.rests g.longer;
        side = k.side;
        mine =
            own_kept (λ e. is_tick e.sender) p.seen p.seat.known l.history k.rests.within g.longer k.mine (same_ticks l g);
      })

  pub clock_sees : (s : SeatState) (n : ℕ) (h fresh : List Entry) → s ≡ knowing p.seat false h → n ≡ length h → h ≡ take p.seen p.seat.known ++ fresh
      → inside_clock_pass (clock_then s n) ≡ clock_with_seen (inside_clock_pass p) fresh
  clock_sees s n h fresh is len grows = ap (λ x. inside_clock_pass (clock_then x n)) is ∙ (λ i. record {
    lock = p.seat.lock;
    deal = p.seat.deal;
    arc =
        p.seat.arc;
    shared = p.seat.shared;
    seen = (take_all n h (omega arith) ∙ grows) i;
  })

  pub clock_same : (s : SeatState) (l : LedgerState) → ContinuesSeat p.seat l → s ≡ knowing p.seat false l.history
      → inside_clock_pass (clock_then s p.seen) ≡ inside_clock_pass p
  clock_same s l g is = ap (λ x. inside_clock_pass (clock_then x p.seen)) is ∙ (λ i. record {
    lock = p.seat.lock;
    deal = p.seat.deal;
    arc = p.seat.arc;
    shared =
        p.seat.shared;
    seen = sym (seen_in p.seen p.seat.known l.history k.rests.within g.longer) i;
  })

  pub clock_whole : (s : SeatState) (n : ℕ) (h : List Entry) → s ≡ knowing p.seat false h → n ≡ length h → IsPrefix p.seat.known h
      → IsPrefix p.seat.shared (take n s.known)
  clock_whole s n h is len pre =
      subst (λ w. IsPrefix p.seat.shared w) (sym (seen_is s n p.seat h is len)) (prefix_trans p.seat.shared p.seat.known h k.rests.began pre)

  pub clock_ticked : (l : LedgerState) (t : ℕ) (answer : Reply) (h : List Entry) (s : SeatState) (n : ℕ) → ContinuesSeat p.seat l
      → answer ≡ reply_to_tick l.history t → h ≡ l.history ++ added_by_tick answer (tick_entry t (height l.history + t) answer)
      → s ≡ knowing p.seat false h → n ≡ length h → HasTicked (inside_clock_pass p) t answer (inside_clock_pass (clock_then s n))
  clock_ticked l t answer h s n g is h_is s_is len =
      let whole = sym (seen_whole p.seen p.seat.known l.history k.rests.within g.longer) in
      let fresh : List Entry = drop p.seen l.history ++ added_by_tick answer (tick_entry t (height l.history + t) answer) in record {
        others = drop p.seen l.history;
        foreign = none_fresh (λ e. is_tick e.sender) p.seen p.seat.known l.history k.rests.within g.longer k.mine (same_ticks l g);
        reply = is ∙ ap (λ w. reply_to_tick w t) whole;
        entries = clock_sees s n h fresh s_is len (seen_grows p.seen p.seat.known l.history
            (added_by_tick answer (tick_entry t (height l.history + t) answer)) h fresh k.rests.within g.longer h_is refl)
            ∙ ap (λ (w : List Entry). clock_with_seen (inside_clock_pass p) (drop p.seen l.history ++ added_by_tick answer
            (tick_entry t (height w + t) answer))) whole;
      }

  pub clock_continued : (l : LedgerState) (h : List Entry) (t : ℕ) (answer : Reply)
      → h ≡ l.history ++ added_by_tick answer (tick_entry t (height l.history + t) answer)
      → IsContinued (knowing p.seat true l.history) h
  clock_continued l h t answer is = (
    added_by_tick answer (tick_entry t (height l.history + t) answer),
    is,
    of_ticked (λ e. sender_side p.seat.deal p.seat.arc e.sender ≡ p.seat.number) answer (tick_entry t (height l.history + t) answer) (sym k.side),
  )

  pub clock_closes : (l : LedgerState) → ContinuesSeat p.seat l → ClosesClock l (inside_clock_pass p)
  clock_closes l g = record {
    deal = g.deal;
    arc = g.arc;
    seen = prefix_trans (take p.seen p.seat.known) p.seat.known l.history (
      drop p.seen p.seat.known,
      take-append-drop p.seen p.seat.known,
    ) g.longer;
    mine = same_ticks l g ∙ k.mine;
  }

-- New passes.

first_test : (b c : Bool) → ((if b then 0 else (if c then 1 else 2)) == 0) ≡ b
first_test true c = refl
first_test false true = refl
first_test false false = refl

second_test : (b c : Bool) → (b ≡ true → c ≡ true → ⊥) → ((if b then 0 else (if c then 1 else 2)) == 1) ≡ c
second_test true true n = absurd (n refl refl)
second_test true false n = refl
second_test false true n = refl
second_test false false n = refl

first_side : (d : Deal) (a : ℕ) (s : Sender) → (sender_side d a s == 0) ≡ is_sender (party d a) s
first_side d a (Party q) = first_test (q == party d a) (q == counterparty d a)
first_side d a Clock = refl

second_side : (d : Deal) (a : ℕ) → party d a ≢ counterparty d a → (s : Sender) → (sender_side d a s == 1) ≡ is_sender (counterparty d a) s
second_side d a apart (Party q) = second_test (q == party d a) (q == counterparty d a) (λ b c. apart (sym (eqb-true q (party d a) b)
    ∙ eqb-true q (counterparty d a) c))
second_side d a apart Clock = refl

or_true : (b : Bool) → (b || true) ≡ true
or_true true = refl
or_true false = refl

none_past : (f : Entry → Bool) (n : ℕ) (h : List Entry) → filter f (drop n h) ≡ [] → filter f h ≡ filter f (take n h)
none_past f n h none = ap (filter f) (sym (take-append-drop n h)) ∙ (filter-append f (take n h) (drop n h) ∙ (ap (λ w. filter f (take n h) ++ w) none
    ∙ append-nil (filter f (take n h))))

new_party : (l : LedgerState) (lock : TableId) (s : SeatState) (k p n : ℕ) → s ≡ new_seat lock l k → party l.deal l.arc ≢ counterparty l.deal l.arc
    → IsTrue ((p == party l.deal l.arc) || (p == counterparty l.deal l.arc))
    → ((s : Sender) → (sender_side l.deal l.arc s == k) ≡ is_sender p s) → n ≤ length l.history → party_made p (drop n l.history) ≡ []
    → IsOfParty (record { seat = s; party = p; seen = n })
new_party l lock s k p n is apart two side within none = subst (λ x. IsOfParty (record { seat = x; party = p; seen = n })) (sym is)
    (record {
      rests = record { idle = refl; began = ([], append-nil l.history); within = within };
      of_the_two = two;
      apart = apart;
      side = side;
      mine =
          none_past (λ e. is_sender p e.sender) n l.history none;
    })

pub new_first : (l : LedgerState) (lock : TableId) (s : SeatState) (p n : ℕ) → s ≡ new_seat lock l 0 → p ≡ party l.deal l.arc
    → party l.deal l.arc ≢ counterparty l.deal l.arc → n ≤ length l.history → party_made (party l.deal l.arc) (drop n l.history) ≡ []
    → IsOfParty (record { seat = s; party = p; seen = n })
new_first l lock s p n is whose apart within none = subst (λ q. IsOfParty (record { seat = s; party = q; seen = n })) (sym whose)
    (new_party l lock s 0 (party l.deal l.arc) n is apart (ap (λ b. b || (party l.deal l.arc == counterparty l.deal l.arc))
    (eq-eqb (party l.deal l.arc) (party l.deal l.arc) refl)) (first_side l.deal l.arc) within none)

pub new_second : (l : LedgerState) (lock : TableId) (s : SeatState) (p n : ℕ) → s ≡ new_seat lock l 1 → p ≡ counterparty l.deal l.arc
    → party l.deal l.arc ≢ counterparty l.deal l.arc → n ≤ length l.history → party_made (counterparty l.deal l.arc) (drop n l.history) ≡ []
    → IsOfParty (record { seat = s; party = p; seen = n })
new_second l lock s p n is whose apart within none = subst (λ q. IsOfParty (record { seat = s; party = q; seen = n })) (sym whose)
    (new_party l lock s 1 (counterparty l.deal l.arc) n is apart
    (ap (λ b. (counterparty l.deal l.arc == party l.deal l.arc) || b) (eq-eqb (counterparty l.deal l.arc) (counterparty l.deal l.arc) refl)
    ∙ or_true (counterparty l.deal l.arc == party l.deal l.arc))
    (second_side l.deal l.arc apart) within none)

-- whose number a pass has
number_of_party : (p : pass.Inside) → IsOfParty p → sender_side p.seat.deal p.seat.arc (Party p.party) ≡ p.seat.number
number_of_party p k = eqb-true (sender_side p.seat.deal p.seat.arc (Party p.party)) p.seat.number (k.side (Party p.party) ∙ eq-eqb p.party p.party refl)

pub first_number : (p : pass.Inside) → IsOfParty p → p.party ≡ party p.seat.deal p.seat.arc → p.seat.number ≡ 0
first_number p k whose = sym (number_of_party p k) ∙ ap (λ b. if b then 0 else (if p.party == counterparty p.seat.deal p.seat.arc then 1 else 2))
    (eq-eqb p.party (party p.seat.deal p.seat.arc) whose)

pub second_number : (p : pass.Inside) → IsOfParty p → p.party ≡ counterparty p.seat.deal p.seat.arc → p.seat.number ≡ 1
second_number p k whose = sym (number_of_party p k)
    ∙ (ap (λ b. if b then 0 else (if p.party == counterparty p.seat.deal p.seat.arc then 1 else 2)) (ne_eqb p.party (party p.seat.deal p.seat.arc)
    (λ e. k.apart (sym e ∙ whose)))
    ∙ ap (λ b. if b then 1 else 2) (eq-eqb p.party (counterparty p.seat.deal p.seat.arc) whose))
