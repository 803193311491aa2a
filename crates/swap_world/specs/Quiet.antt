-- When ticks give nobody anything to do.
use Rattle.std.specs.Prelude.{◌≡◌, ◌<◌, ◌≤◌, ◌+◌, ◌++◌, ℕ, true, false, List, length, drop, Some}
use Rattle.std.specs.List.{All}
use Rattle.swap_digraph.specs.declared.deal.Deal.{Deal}
use Rattle.ledger_core.specs.declared.entry.Entry.{Entry}
use Rattle.ledger_core.specs.History.{height}
use Rattle.ledger_core.specs.Book.{Histories, history}
use Rattle.swap_rules.specs.Machine.{Begins}
use Rattle.swap_rules.specs.Rest.{are_ticks}
use Rattle.party_machine.specs.Machine.{MachineState}
use Rattle.party_machine.specs.Rest.{IsAtRest}
use Rattle.swap_run.specs.Run.{Cast, State, conforms, party_role, is_planned, state_notes}
use Rattle.swap_run.specs.Quiet.{IsIdle}
use Rattle.swap_world.specs.Players.{Actor}
use Rattle.swap_world.specs.declared.player.Player.TheVariants.{Conforming, Planned, Manual}

-- A history is longer by ticks alone, which raise it by at most n heights.
pub record IsRaised (n : ℕ) (h after : List Entry) : Type 0 where
  pub more : List Entry
  pub ticks : are_ticks more ≡ true
  pub is : after ≡ h ++ more
  pub high : height after ≤ height h + n

-- each history of a book is longer by such ticks
abbrev pub AreRaised : ℕ → (b after : Histories) → Type 0
AreRaised n b after = (a : ℕ) → a < length b → IsRaised n (history b a) (history after a)

-- Nobody makes a call in the next n rounds, where ticks alone come between them, which raise each
-- ledger by at most one height a round.
pub record IsQuietState (c : Cast) (n : ℕ) (s : State) : Type 0 where
  pub noted : length s.notes ≡ c.deal.graph.n
  pub plain : (v : ℕ) → v < c.deal.graph.n → conforms c v ≡ false → is_planned (party_role c v) ≡ false
  pub idle : (i : ℕ) (b : Histories) → i < n → AreRaised i s.book b → (v : ℕ) → v < c.deal.graph.n → conforms c v ≡ true
      → IsIdle c b v (state_notes s v)

-- all entries after the first `seen` ones are ticks, and n further ticks by 1 leave the ledger at
-- `until` or below
pub record IsLow (seen until n : ℕ) (h : List Entry) : Type 0 where
  pub ticks : are_ticks (drop seen h) ≡ true
  pub low : height h + n ≤ until

-- each of these arcs is low, where the length of its known history is what was seen of it
abbrev pub AreLow : (known : Histories) → (until n : ℕ) → Histories → List ℕ → Type 0
AreLow known until n b near = All (λ a. IsLow (length (history known a)) until n (history b a)) near

-- The machine rests, and no tick of the next n rounds ends its rest.
pub record IsCalm (n : ℕ) (b : Histories) (near : List ℕ) (m : MachineState) : Type 0 where
  pub until : ℕ
  pub rests : IsAtRest (Some until) m
  pub low : AreLow m.known until n b near

-- what acts for a party makes no call in the next n rounds
abbrev pub IsCalmActor : ℕ → Histories → List ℕ → Actor → Type 0
IsCalmActor n b near (Conforming m j) = IsCalm n b near m
IsCalmActor n b near (Planned x) = ⊥
IsCalmActor n b near Manual = Unit {0}

-- each of the arcs has its ledger and its index
pub record HaveArcs (ledgers : ℕ) (d : Deal) (near : List ℕ) : Type 0 where
  pub one_each : ledgers ≡ length d.graph.arcs
  pub each : All (λ a. a < length d.graph.arcs) near

-- what the machine knows of each arc is where its history begins
abbrev pub HasSeen : MachineState → Histories → Type 0
HasSeen m b = (a : ℕ) → Begins (history m.known a) (history b a)

-- what has to hold of a player before its quiet rounds are counted
abbrev pub IsReadyActor : ℕ → Histories → List ℕ → Actor → Type 0
IsReadyActor ledgers b near (Conforming m j) = HaveArcs ledgers m.deal near × HasSeen m b
IsReadyActor ledgers b near (Planned x) = Unit {0}
IsReadyActor ledgers b near Manual = Unit {0}
