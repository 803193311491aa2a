-- Seats whose histories are lines.
use Rattle.std.proofs.Common.{◌≡◌, ℕ, zero, suc, ◌<◌, Bool, true, false, IsTrue, List, [], ◌∷◌, ◌++◌, refl, sym, ap, ◌∙◌, subst, arith}
use Rattle.std.specs.List.{AllByRecursion}
use Rattle.atomic_table.specs.Seated.{TableId}
use Rattle.turn_lock.specs.SeatHistory.{IsContinuedByAuthor, has_number, Covers, Part}
use Rattle.atomic_table.specs.declared.shared.Seat.{Seat}
use Rattle.turn_lock.specs.declared.view.View.{View}
use Rattle.std.specs.Prelude.{Option}
use Rattle.turn_lock.specs.Turns.{AreNumberedSeats, Sat, idle, busy, joined_view, key_opening, seat_number, known_key, IsIdle, IsBusy, IsResting}
use Rattle.swap_digraph.specs.declared.deal.Deal.{Deal}
use Rattle.ledger_core.specs.declared.entry.Entry.{Entry}
use Rattle.ledger_core.specs.Value.{LedgerState}
use Rattle.ledger_shared.specs.declared.shelf.Line.{Line}
use Rattle.ledger_shared.specs.declared.shelf.Line.TheVariants.{Head}
use Rattle.ledger_shared.specs.declared.shelf.Shelf.{Shelf}
use Rattle.ledger_shared.specs.Lines.{side_entries, made_lines, entry_lines, line_author}
use Rattle.ledger_shared.specs.Seat.{SeatState, table_seat_state, busy_or_idle, HasSeatLines, knowing, new_seat, ContinuesSeat, IsContinued}
use Rattle.ledger_shared.proofs.Lines.{unmade, made_append, all_made, same_deal, same_arc, goes_longer, goes_on}

abbrev Me : Type 0
Me = Sat Shelf Line

-- What a seat whose histories are those lines says of itself.

pub says : (lock : TableId) (d : Deal) (a k : ℕ) (shared h : List Entry) (b : Bool)
    → table_seat_state lock (busy_or_idle b (entry_lines d a shared) k (entry_lines d a h)) ≡ record { lock = lock; deal = d; arc = a; number = k; holds = b; shared = shared; known = h }
says lock d a k shared h true = λ i. record { lock = lock; deal = d; arc = a; number = k; holds = true; shared = unmade d a shared i; known = unmade d a h i }
says lock d a k shared h false = λ i. record { lock = lock; deal = d; arc = a; number = k; holds = false; shared = unmade d a shared i; known = unmade d a h i }

pub is_at : (lock : TableId) (d : Deal) (a k : ℕ) (shared h : List Entry) (b : Bool) (m : Me) → m ≡ busy_or_idle b (entry_lines d a shared) k (entry_lines d a h)
    → HasSeatLines (table_seat_state lock m) m
is_at lock d a k shared h b m is =
    subst (λ (x : Me). HasSeatLines (table_seat_state lock x) x) (sym is) (subst (λ s. HasSeatLines s (busy_or_idle b (entry_lines d a shared) k (entry_lines d a h)))
    (sym (says lock d a k shared h b)) refl)

pub says_of : (lock : TableId) (d : Deal) (a k : ℕ) (shared h : List Entry) (b : Bool) (m : Me) → m ≡ busy_or_idle b (entry_lines d a shared) k (entry_lines d a h)
    → table_seat_state lock m ≡ record { lock = lock; deal = d; arc = a; number = k; holds = b; shared = shared; known = h }
says_of lock d a k shared h b m is = ap (table_seat_state lock) is ∙ says lock d a k shared h b

-- it is the seat s, which knows the history h
now_knows : (s : SeatState) (lock : TableId) (b : Bool) (h : List Entry) (m : Me) → m ≡ busy_or_idle b (entry_lines s.deal s.arc s.shared) s.number (entry_lines s.deal s.arc h)
    → lock ≡ s.lock → table_seat_state lock m ≡ knowing s b h
now_knows s lock b h m is same = says_of lock s.deal s.arc s.number s.shared h b m is ∙ (λ i. record {
  lock = same i;
  deal = s.deal;
  arc = s.arc;
  number =
      s.number;
  holds = b;
  shared = s.shared;
  known = h;
})

-- with its turn or without
is_idle : (s : SeatState) (m : Me) → HasSeatLines s m → s.holds ≡ false → m ≡ idle (entry_lines s.deal s.arc s.shared) s.number (entry_lines s.deal s.arc s.known)
is_idle s m is free = is ∙ ap (λ b. busy_or_idle b (entry_lines s.deal s.arc s.shared) s.number (entry_lines s.deal s.arc s.known)) free

is_busy : (s : SeatState) (m : Me) → HasSeatLines s m → s.holds ≡ true → m ≡ busy (entry_lines s.deal s.arc s.shared) s.number (entry_lines s.deal s.arc s.known)
is_busy s m is held = is ∙ ap (λ b. busy_or_idle b (entry_lines s.deal s.arc s.shared) s.number (entry_lines s.deal s.arc s.known)) held

pub to_idle : (s : SeatState) (m : Me) → HasSeatLines s m → s.holds ≡ false → IsIdle m
to_idle s m is free = subst IsIdle (sym (is_idle s m is free)) refl

pub to_busy : (s : SeatState) (m : Me) → HasSeatLines s m → s.holds ≡ true → IsBusy m
to_busy s m is held = subst IsBusy (sym (is_busy s m is held)) refl

pub to_resting : (s : SeatState) (m : Me) → HasSeatLines s m → s.holds ≡ false → IsResting m
to_resting s m is free = subst IsResting (sym (is_idle s m is free)) (refl, refl)

-- Taking and giving.

-- a history that covers what the seat knows
pub covered_known : (s : SeatState) (l : LedgerState) → Covers line_author (entry_lines l.deal l.arc l.history) (s.number, entry_lines s.deal s.arc s.known) → ContinuesSeat s l
covered_known s l v =
    let deal = same_deal s.number l.deal s.deal l.arc s.arc l.history s.known v in
    let arc = same_arc s.number l.deal s.deal l.arc s.arc l.history s.known v in record {
      deal = deal;
      arc = arc;
      longer = goes_longer s.number l.deal s.deal l.arc s.arc l.history s.known v;
      own = subst (λ (x : Deal × ℕ). side_entries x.0 x.1 s.number l.history ≡ side_entries s.deal s.arc s.number s.known) (λ i. (deal i, arc i))
          (goes_on s.number l.deal s.deal l.arc s.arc l.history s.known v);
    }

pub covered : (s : SeatState) (m : Me) (l : LedgerState) → HasSeatLines s m → s.holds ≡ false → Covers line_author (entry_lines l.deal l.arc l.history) (
  seat_number m,
  known_key m,
) → ContinuesSeat s l
covered s m l is free c = covered_known s l (subst (λ (x : Me). Covers line_author (entry_lines l.deal l.arc l.history) (
  seat_number x,
  known_key x,
)) (is_idle s m is free) c)

collect_lines : (d c : Deal) (a b : ℕ) (h : List Entry) → d ≡ c → a ≡ b → entry_lines d a h ≡ entry_lines c b h
collect_lines d c a b h e f = λ i. entry_lines (e i) (f i) h

pub taken : (s : SeatState) (m m' : Me) (l : LedgerState) → HasSeatLines s m → s.holds ≡ false → ContinuesSeat s l
    → m' ≡ busy (key_opening m) (seat_number m) (entry_lines l.deal l.arc l.history)
    → m' ≡ busy_or_idle true (entry_lines s.deal s.arc s.shared) s.number (entry_lines s.deal s.arc l.history)
taken s m m' l is free g e = e
    ∙ (ap (λ (x : Me). busy (key_opening x) (seat_number x) (entry_lines l.deal l.arc l.history)) (is_idle s m is free)
    ∙ ap (λ (w : List Line). busy (entry_lines s.deal s.arc s.shared) s.number w) (collect_lines l.deal s.deal l.arc s.arc l.history g.deal g.arc))

pub given : (s : SeatState) (m m' : Me) (l : LedgerState) → HasSeatLines s m → s.holds ≡ true → l.deal ≡ s.deal → l.arc ≡ s.arc
    → m' ≡ idle (key_opening m) (seat_number m) (entry_lines l.deal l.arc l.history)
    → m' ≡ busy_or_idle false (entry_lines s.deal s.arc s.shared) s.number (entry_lines s.deal s.arc l.history)
given s m m' l is held deal arc e = e
    ∙ (ap (λ (x : Me). idle (key_opening x) (seat_number x) (entry_lines l.deal l.arc l.history)) (is_busy s m is held)
    ∙ ap (λ (w : List Line). idle (entry_lines s.deal s.arc s.shared) s.number w) (collect_lines l.deal s.deal l.arc s.arc l.history deal arc))

pub continued : (s : SeatState) (m : Me) (l : LedgerState) → HasSeatLines s m → s.holds ≡ true → l.deal ≡ s.deal → l.arc ≡ s.arc → IsContinued s l.history
    → IsContinuedByAuthor line_author (seat_number m) (known_key m) (entry_lines l.deal l.arc l.history)
continued s m l is held deal arc on = subst (λ (x : Me). IsContinuedByAuthor line_author (seat_number x) (known_key x) (entry_lines l.deal l.arc l.history))
    (sym (is_busy s m is held)) (
      made_lines s.deal s.arc on.0,
      ap (λ (w : List Line). Head s.deal s.arc ∷ w) (sym (made_append s.deal s.arc s.known on.0)) ∙ (ap (entry_lines s.deal s.arc) (sym on.1)
          ∙ sym (collect_lines l.deal s.deal l.arc s.arc l.history deal arc)),
      all_made s.deal s.arc s.number on.0 on.2,
    )

-- the seat with its turn: it knows the lines of the ledger, and they go on from what it knew
pub take_step : (s : SeatState) (lock : TableId) (m m' : Me) (l : LedgerState) → HasSeatLines s m → s.holds ≡ false → lock ≡ s.lock
    → Covers line_author (entry_lines l.deal l.arc l.history) (seat_number m, known_key m) → m' ≡ busy (key_opening m) (seat_number m) (entry_lines l.deal l.arc l.history)
    → HasSeatLines (table_seat_state lock m') m' × (table_seat_state lock m' ≡ knowing s true l.history) × ContinuesSeat s l
take_step s lock m m' l is free same c turn =
    let g = covered s m l is free c in
    let me = taken s m m' l is free g turn in
    (is_at lock s.deal s.arc s.number s.shared l.history true m' me, now_knows s lock true l.history m' me same, g)

pub give_step : (s : SeatState) (lock : TableId) (m m' : Me) (l : LedgerState) → HasSeatLines s m → s.holds ≡ true → lock ≡ s.lock → l.deal ≡ s.deal → l.arc ≡ s.arc
    → m' ≡ idle (key_opening m) (seat_number m) (entry_lines l.deal l.arc l.history)
    → HasSeatLines (table_seat_state lock m') m' × (table_seat_state lock m' ≡ knowing s false l.history)
give_step s lock m m' l is held same deal arc turn =
    let me = given s m m' l is held deal arc turn in
    (is_at lock s.deal s.arc s.number s.shared l.history false m' me, now_knows s lock false l.history m' me same)

-- Sharing.

abbrev LockSeat : Type 0
LockSeat = Seat (Option Shelf) (View Line)

-- each of three seats of a new lock
pub three_seats : (lock : TableId) (start : List Line) (items : List LockSeat) (a b c : LockSeat) → items ≡ a ∷ b ∷ c ∷ [] → AreNumberedSeats lock start 0 items
    → ((a.table_id ≡ lock) × (a.me ≡ idle start 0 start)) × ((b.table_id ≡ lock) × (b.me ≡ idle start 1 start))
    × ((c.table_id ≡ lock) × (c.me ≡ idle start 2 start))
three_seats lock start items a b c is seats = let all = subst (AreNumberedSeats lock start 0) is seats in (all.0, all.1.0, all.1.1.0)

pub new_step : (l : LedgerState) (lock mine : TableId) (k : ℕ) (m : Me) → (mine ≡ lock)
    × (m ≡ idle (entry_lines l.deal l.arc l.history) k (entry_lines l.deal l.arc l.history)) → HasSeatLines (table_seat_state mine m) m × (table_seat_state mine m ≡ new_seat lock l k)
new_step l lock mine k m e = (
  is_at mine l.deal l.arc k l.history l.history false m e.1,
  says_of mine l.deal l.arc k l.history l.history false m e.1 ∙ (λ i. record {
    lock = e.0 i;
    deal = l.deal;
    arc = l.arc;
    number = k;
    holds = false;
    shared =
        l.history;
    known = l.history;
  }),
)

-- Closing.

-- the parts of the three seats, joined
pub parts_of : (r s t : SeatState) (a b c two three : Me) → HasSeatLines r a → HasSeatLines s b → HasSeatLines t c → r.holds ≡ false → s.holds ≡ false → t.holds ≡ false
    → two ≡ (joined_view a.0 b.0, []) → three ≡ (joined_view two.0 c.0, [])
    → three.0.parts ≡ (r.number, entry_lines r.deal r.arc r.known) ∷ (s.number, entry_lines s.deal s.arc s.known) ∷ (t.number, entry_lines t.deal t.arc t.known) ∷ []
parts_of r s t a b c two three is_r is_s is_t free_r free_s free_t is_two is_three =
    ap (λ (x : Me). x.0.parts) is_three
    ∙ (ap (λ (x : Me). x.0.parts ++ c.0.parts) is_two
    ∙ ap (λ (x : Me × Me × Me). (x.0.0.parts ++ x.1.0.parts) ++ x.2.0.parts) (λ i. (
      is_idle r a is_r free_r i,
      is_idle s b is_s free_s i,
      is_idle t c is_t free_t i,
    )))

pub rests_too : (two : Me) (a b : Me) → two ≡ (joined_view a.0 b.0, []) → IsResting two
rests_too two a b is = subst IsResting (sym is) (refl, refl)

-- the three numbers
pub has_each : (r s t : SeatState) (ps : List (Part Line)) → r.number ≡ 0 → s.number ≡ 1 → t.number ≡ 2
    → ps ≡ (r.number, entry_lines r.deal r.arc r.known) ∷ (s.number, entry_lines s.deal s.arc s.known) ∷ (t.number, entry_lines t.deal t.arc t.known) ∷ []
    → (n k : ℕ) → n ≡ 3 → k < n → IsTrue (has_number k ps)
has_each r s t ps zero_r one_s two_t is n k three below =
    subst (λ w. IsTrue (has_number k w)) (sym is) (subst (λ (x : ℕ × ℕ × ℕ). IsTrue (has_number k ((x.0, entry_lines r.deal r.arc r.known) ∷ (
      x.1,
      entry_lines s.deal s.arc s.known,
    ) ∷ (x.2, entry_lines t.deal t.arc t.known) ∷ []))) (λ i. (sym zero_r i, sym one_s i, sym two_t i)) (which k (let b : k < 3 =
    subst (λ m. k < m) three below in b)))
  where
    which : (k : ℕ) → k < 3 → IsTrue (has_number k ((0, entry_lines r.deal r.arc r.known) ∷ (1, entry_lines s.deal s.arc s.known) ∷ (2, entry_lines t.deal t.arc t.known) ∷ []))
    which zero b = refl
    which (suc zero) b = refl
    which (suc (suc zero)) b = refl
    which (suc (suc (suc k))) b = absurd (omega arith)

-- the ledger that comes of the joined seats goes on from what each knew
pub close_step : (r s t : SeatState) (a b c two three : Me) (l : LedgerState) → HasSeatLines r a → HasSeatLines s b → HasSeatLines t c → r.holds ≡ false → s.holds ≡ false
    → t.holds ≡ false → two ≡ (joined_view a.0 b.0, []) → three ≡ (joined_view two.0 c.0, [])
    → AllByRecursion (Covers line_author (entry_lines l.deal l.arc l.history)) three.0.parts → ContinuesSeat r l × ContinuesSeat s l × ContinuesSeat t l
close_step r s t a b c two three l is_r is_s is_t free_r free_s free_t is_two is_three all =
    let each : AllByRecursion (Covers line_author (entry_lines l.deal l.arc l.history)) ((r.number, entry_lines r.deal r.arc r.known) ∷ (
      s.number,
      entry_lines s.deal s.arc s.known,
    ) ∷ (t.number, entry_lines t.deal t.arc t.known) ∷ []) =
    subst (AllByRecursion (Covers line_author (entry_lines l.deal l.arc l.history)))
    (parts_of r s t a b c two three is_r is_s is_t free_r free_s free_t is_two is_three) all in
    (covered_known r l each.0, covered_known s l each.1.0, covered_known t l each.1.1.0)
