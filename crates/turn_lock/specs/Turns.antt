-- The rule of the lock, and what each step tells.
use Rattle.std.specs.Prelude.{◌≡◌, ◌≢◌, ℕ, ◌+◌, ◌*◌, ◌%◌, ◌<◌, ◌≤◌, ◌^◌, Bool, true, false, if◌then◌else◌, List, [], ◌∷◌, ◌++◌, length}
use Rattle.std.specs.Prelude.{Option, Some, None}
use Rattle.std.specs.Int.{bit_at}
use Rattle.std.specs.List.{AllByRecursion}
use mathlib.Core.Option as core
use mathlib.Core.List.{IsPrefix}
use lib.ListN.{get_elem?}
use Rattle.atomic_table.specs.Table.{State, Me, Step}
use Rattle.atomic_table.specs.Seated.{TableId}
use Rattle.atomic_table.specs.declared.shared.Seat.{Seat}
use Rattle.turn_lock.specs.declared.view.View.{View}
use Rattle.turn_lock.specs.SeatHistory.{author_entries, first_part_number, first_part_history, Part, IsOnceEach, Covers}

-- where the value is: the lock is being made, or the value is at home, or out with the seat at that
-- place
pub data Phase (T : Type 0) : Type 0 where
  early : Phase T
  home : T → Phase T
  out : ℕ → Phase T

-- what the first word has beside four times the length of the history, where the turn is out: 3
-- where a seat said that it waits
abbrev pub mark : Bool → ℕ
mark waited = if waited then 3 else 1

abbrev pub turn_word : {T : Type 0} → Phase T → Bool → ℕ → ℕ
turn_word early waited c = 4 * c + mark waited
turn_word (home x) waited c = 4 * c
turn_word (out j) waited c = 4 * c + mark waited

abbrev pub phase_slot : {T : Type 0} → Phase T → core.Option (Option T)
phase_slot early = core.some None
phase_slot (home x) = core.some (Some x)
phase_slot (out j) = core.none

module _ {E : Type 0} where
  -- with no number yet
  abbrev pub fresh : List E → View E
  fresh h = record { holds = false; opening = h; parts = [] }

  abbrev pub spent : View E
  spent = record { holds = false; opening = []; parts = [] }

  abbrev pub resting : List E → ℕ → List E → View E
  resting o k h = record { holds = false; opening = o; parts = (k, h) ∷ [] }

  abbrev pub turning : List E → ℕ → List E → View E
  turning o k h = record { holds = true; opening = o; parts = (k, h) ∷ [] }

  -- the opening of the first of two views, where that has a number
  abbrev pub joined_opening : List (Part E) → List E → List E → List E
  joined_opening [] first second = second
  joined_opening (p ∷ ps) first second = first

  abbrev pub joined_view : View E → View E → View E
  joined_view v w = record { holds = false; opening = joined_opening v.parts v.opening w.opening; parts = v.parts ++ w.parts }

module _ {T E : Type 0} (history : T → List E) (author : E → ℕ) (start : List E) (seats : ℕ) where
  -- of one number in the view of the seat at the place id
  pub record IsOwn (owner : ℕ → ℕ) (current : List E) (claimed id : ℕ) (p : ℕ × List E) : Type 0 where
    pub place : owner p.0 ≡ id
    pub below : p.0 < seats
    pub claim : bit_at claimed p.0 ≡ 1
    pub began : IsPrefix start p.1
    pub covered : Covers author current p

  pub record Knows (owner : ℕ → ℕ) (phase : Phase T) (current : List E) (claimed id : ℕ) (v : View E) : Type 0 where
    pub turn : v.holds ≡ true → (phase ≡ out id) × ((k : ℕ) × (v.parts ≡ (k, current) ∷ []))
    pub own : AllByRecursion (IsOwn owner current claimed id) v.parts
    pub once : IsOnceEach v.parts
    -- each view with a number keeps one opening, the history that the lock was made with
    pub opened : v.parts ≢ [] → v.opening ≡ start

  abbrev pub Stands : List E → ℕ → List (View E) → Phase T → Type 0
  Stands current claimed views early = (current ≡ start) × (bit_at claimed 0 ≡ 0)
  Stands current claimed views (home x) = (history x ≡ current) × (bit_at claimed 0 ≡ 1)
  Stands current claimed views (out j) = ((v : View E) × (get_elem? views j ≡ core.some v) × (v.holds ≡ true)) × (bit_at claimed 0 ≡ 1)

  pub record IsKept (s : State (Option T) (View E)) : Type 0 where
    pub phase : Phase T
    pub current : List E
    pub claimed : ℕ
    pub owner : ℕ → ℕ
    -- whether a seat said that it waits, since the turn went out
    pub waited : Bool
    pub words : s.words ≡ turn_word phase waited (length current) ∷ claimed ∷ []
    pub homes : s.homes ≡ phase_slot phase ∷ []
    pub stands : Stands current claimed s.views phase
    pub started : IsPrefix start current
    pub unclaimed : (k : ℕ) → bit_at claimed k ≡ 0 → author_entries author k current ≡ author_entries author k start
    pub authors : (k : ℕ) → seats ≤ k → author_entries author k current ≡ []
    pub views : (id : ℕ) (v : View E) → get_elem? s.views id ≡ core.some v → Knows owner phase current claimed id v

abbrev pub Sat : Type 0 → Type 0 → Type 0
Sat T E = Me (Option T) (View E)

abbrev pub idle : {T E : Type 0} → List E → ℕ → List E → Sat T E
idle o k h = (resting o k h, [])

-- the value of the slot is out with the caller
abbrev pub busy : {T E : Type 0} → List E → ℕ → List E → Sat T E
busy o k h = (turning o k h, (0, None) ∷ [])

-- What a caller says of its seat.

module _ {T E : Type 0} where
  -- the history that the lock was made with
  abbrev pub key_opening : Sat T E → List E
  key_opening m = m.0.opening

  -- the seat's one number
  abbrev pub seat_number : Sat T E → ℕ
  seat_number m = first_part_number m.0.parts

  -- the history that the seat knows
  abbrev pub known_key : Sat T E → List E
  known_key m = first_part_history m.0.parts

  -- it has one number, and no turn
  abbrev pub IsIdle : Sat T E → Type 0
  IsIdle m = m ≡ idle (key_opening m) (seat_number m) (known_key m)

  -- it has one number, and the turn, whose value is out
  abbrev pub IsBusy : Sat T E → Type 0
  IsBusy m = m ≡ busy (key_opening m) (seat_number m) (known_key m)

  -- it has no turn
  abbrev pub IsResting : Sat T E → Type 0
  IsResting m = (m.0.holds ≡ false) × (m.1 ≡ [])

-- What each step tells.

module _ {T E : Type 0} where
  -- the number k, not the first, was free and is the seat's now, or nothing changed
  abbrev pub Claims : Step (Option T) → Sat T E → ℕ → Sat T E → Type 0
  Claims st m r m' = (k : ℕ) → k < 64 → st.first ≡ 1 * 2 ^ k % 2 ^ 64 → (bit_at r k ≡ 0 → m' ≡ idle m.0.opening k m.0.opening) × (bit_at r k ≢ 0 → m' ≡ m)

  -- the first number, which has the turn too
  abbrev pub ClaimsFirst : Step (Option T) → Sat T E → ℕ → Sat T E → Type 0
  ClaimsFirst st m r m' = (bit_at r 0 ≡ 0 → m' ≡ busy m.0.opening 0 m.0.opening) × (bit_at r 0 ≢ 0 → m' ≡ m)

  -- the turn was free, and the seat has it with the value that stood there; or nothing changed
  abbrev pub Takes : (T → List E) → (E → ℕ) → Step (Option T) → Sat T E → ℕ → Sat T E → Type 0
  Takes history author st m r m' =
      (r ≡ st.first → (x : T) × (m' ≡ (turning m.0.opening (first_part_number m.0.parts) (history x), (0, Some x) ∷ []))
      × Covers author (history x) (first_part_number m.0.parts, first_part_history m.0.parts))
      × (r ≢ st.first → m' ≡ m)

  -- a seat says that it waits, which changes nothing that it knows
  abbrev pub Asks : Step (Option T) → Sat T E → ℕ → Sat T E → Type 0
  Asks st m r m' = m' ≡ m

  abbrev pub Gives : (T → List E) → Step (Option T) → Sat T E → ℕ → Sat T E → Type 0
  Gives history st m r m' = (x : T) → m.1 ≡ (0, Some x) ∷ [] → m' ≡ idle m.0.opening (first_part_number m.0.parts) (history x)

-- the seats of a new lock, numbered from k on
abbrev pub AreNumberedSeats : {T E : Type 0} → TableId → List E → ℕ → List (Seat (Option T) (View E)) → Type 0
AreNumberedSeats lock start k [] = Unit {0}
AreNumberedSeats lock start k (s ∷ ss) = ((s.table_id ≡ lock) × (s.me ≡ idle start k start)) × AreNumberedSeats lock start (k + 1) ss
