-- The laws of the fair finish.
use Rattle.std.specs.Prelude.{◌≡◌, ℕ, ◌+◌, ◌<◌, true, false, List, length, All, None}
use Rattle.ledger_core.specs.History.{height}
use Rattle.ledger_core.specs.Book.{Histories, history}
use Rattle.swap_job.specs.declared.event.Event.{Event}
use Rattle.swap_job.specs.Step.{CanStep}
use Rattle.swap_rules.specs.Outcome.{IsEnded}
use Rattle.swap_rules.specs.Laws.{IsDealt}
use Rattle.swap_run.specs.Run.{Cast, State, conforms, party_role, is_planned, next_action, start, continued_run, run}
use Rattle.swap_run.specs.Laws.{IsReadyCast, IsGood, IsKept}
use Rattle.swap_run.specs.Fair.{acts, most_acts, turn, raised, end_height, round, is_above_horizon, rounds_left, finish}

-- The state t is reached from the state s by events of a run.
pub record IsReached (c : Cast) (s t : State) : Type 0 where
  pub events : List Event
  pub can : All (CanStep c.deal c.conforming c.seeds) events
  pub state : t ≡ continued_run c s events

-- a finish is made of events of a run
abbrev pub FinishesAreRuns : Type 0
FinishesAreRuns = (c : Cast) (s : State) → IsReached c s (finish c s)

-- What a finish promises of its book.
pub record IsFinished (c : Cast) (b : Histories) : Type 0 where
  pub ended : IsEnded c.deal b
  pub kept : IsKept c b

-- after every list of events and a fair finish each ledger is above the horizon, the book is legal
-- and every conforming party is conducted
abbrev pub FinishesEnd : Type 0
FinishesEnd = (c : Cast) (events : List Event) → IsReadyCast c → All (CanStep c.deal c.conforming c.seeds) events → IsFinished c (finish c (run c events)).book

-- a finish from a good state ends, in a good state
abbrev pub FinishesAreGood : Type 0
FinishesAreGood = (c : Cast) (s : State) → IsReadyCast c → IsGood c s → IsGood c (finish c s) × IsEnded c.deal (finish c s).book

-- a finish leaves each ledger at the first height above the horizon, or where it was
abbrev pub FinishHeights : Type 0
FinishHeights =
    (c : Cast) (s : State) (a : ℕ) → IsReadyCast c → IsGood c s → a < length c.deal.graph.arcs
    → height (history (finish c s).book a) ≡ end_height c.deal (height (history s.book a))

-- where every party conforms, a fair finish with no events before it finds nothing, and every
-- outcome is the whole deal
abbrev pub FairIsDealt : Type 0
FairIsDealt = (c : Cast) → IsReadyCast c → ((v : ℕ) → v < c.deal.graph.n → conforms c v ≡ true) → IsDealt c.deal (conforms c) (finish c (start c)).book

-- after the greatest number of acts nothing is due for a conforming party
abbrev pub ActsComeToRest : Type 0
ActsComeToRest =
    (c : Cast) (s : State) (v : ℕ) → IsReadyCast c → IsGood c s → v < c.deal.graph.n → conforms c v ≡ true
    → next_action c (acts c v (most_acts c.deal) s) v ≡ None

-- acts until nothing is due leave what the greatest number of acts leaves
abbrev pub ActsAreEnough : Type 0
ActsAreEnough =
    (c : Cast) (s : State) (v n : ℕ) → IsReadyCast c → IsGood c s → v < c.deal.graph.n → conforms c v ≡ true → next_action c (acts c v n s) v ≡ None
    → acts c v n s ≡ acts c v (most_acts c.deal) s

-- the turn of a party that neither conforms nor follows a script or a strategy changes nothing
abbrev pub OthersRest : Type 0
OthersRest = (c : Cast) (s : State) (v : ℕ) → conforms c v ≡ false → is_planned (party_role c v) ≡ false → turn c s v ≡ s

-- a turn leaves a good state good
abbrev pub TurnsAreGood : Type 0
TurnsAreGood = (c : Cast) (s : State) (v : ℕ) → IsReadyCast c → IsGood c s → v < c.deal.graph.n → IsGood c (turn c s v)

-- a round leaves a good state good
abbrev pub RoundsAreGood : Type 0
RoundsAreGood = (c : Cast) (s : State) → IsReadyCast c → IsGood c s → IsGood c (round c s)

-- a round raises each ledger that isn't above the horizon by one height, and no other
abbrev pub RoundsRaise : Type 0
RoundsRaise =
    (c : Cast) (s : State) (a : ℕ) → IsReadyCast c → IsGood c s → a < length c.deal.graph.arcs
    → height (history (round c s).book a) ≡ raised c.deal (height (history s.book a))

-- each round leaves one round less to do
abbrev pub RoundsCountDown : Type 0
RoundsCountDown =
    (c : Cast) (s : State) → IsReadyCast c → IsGood c s → is_above_horizon c.deal s.book ≡ false
    → rounds_left c.deal (round c s).book + 1 ≡ rounds_left c.deal s.book

-- a finish of an ended book is no round
abbrev pub FinishStops : Type 0
FinishStops = (c : Cast) (s : State) → is_above_horizon c.deal s.book ≡ true → finish c s ≡ s

-- a finish of a book that hasn't ended is a round and a finish
abbrev pub FinishContinues : Type 0
FinishContinues = (c : Cast) (s : State) → IsReadyCast c → IsGood c s → is_above_horizon c.deal s.book ≡ false → finish c (round c s) ≡ finish c s
