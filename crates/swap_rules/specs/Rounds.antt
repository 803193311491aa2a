-- Rounds: books at their ends, and a party's knowledge at the end of its turns.
use Rattle.std.specs.Prelude.{◌≡◌, ◌⊎◌, ℕ, ◌+◌, ◌*◌, ◌<◌, ◌≤◌, true, List, [], length, get_or, Option}
use Rattle.swap_base.specs.Lists.{IsElement}
use Rattle.swap_digraph.specs.Graph.{arcs, leaving, entering}
use Rattle.swap_digraph.specs.declared.deal.Deal.{Deal}
use Rattle.hashkey_path.specs.declared.hashkey.Hashkey.{Hashkey}
use Rattle.ledger_core.specs.History.{height}
use Rattle.ledger_core.specs.Book.{Histories, history, IsLegalBook}
use Rattle.swap_rules.specs.declared.finding.Rule.{Rule}
use Rattle.swap_rules.specs.Party.{first_key}
use Rattle.swap_rules.specs.Conduct.{IsConducted}
use Rattle.swap_rules.specs.Late.{is_done}
use Rattle.swap_rules.specs.Due.{Wallet, due}
use Rattle.swap_rules.specs.Machine.{Begins, Knows}

-- the ledger of arc a is next to v
abbrev pub IsNear : Deal → ℕ → ℕ → Type 0
IsNear d v a = IsElement a (leaving d.graph v) ⊎ IsElement a (entering d.graph v)

-- A turn of v in a round from the book `old` to the book `new`. At its end v has a knowledge over
-- which nothing is due, with no entry above the height `most`.
pub record IsTurn (d : Deal) (v : ℕ) (w : Wallet) (old new : Histories) (most : ℕ) : Type 0 where
  pub known : Histories
  pub signed : ℕ → Option Hashkey
  pub seen : (a : ℕ) → IsNear d v a → Begins (history old a) (history known a)
  pub knows : (a : ℕ) → Knows v (history known a) (history new a)
  pub done : due d v w signed known ≡ []
  pub top : (a : ℕ) → height (history known a) ≤ most

-- Rounds of `ticks` ticks each. In each of them v acts at most `slack` above the height at which
-- the round began.
pub record IsRounds (d : Deal) (v : ℕ) (w : Wallet) (ticks slack rounds : ℕ) (books : ℕ → Histories) : Type 0 where
  pub legal : (r : ℕ) → r ≤ rounds → IsLegalBook d (books r)
  pub conducted : IsConducted d (books rounds) v
  pub grows : (r a : ℕ) → r < rounds → Begins (history (books r) a) (history (books (r + 1)) a)
  pub at : (r a : ℕ) → r ≤ rounds → IsElement a (arcs d.graph) → height (history (books r) a) ≡ r * ticks
  pub turn : (r : ℕ) → r < rounds → IsTurn d v w (books r) (books (r + 1)) (r * ticks + slack)

-- a call of v that counts stands on arc a at a height of at most due, or the ledger isn't past that
-- height
abbrev pub IsDoneInTime : Deal → Histories → ℕ → Rule → ℕ → ℕ → Type 0
IsDoneInTime d b v rule a due = (is_done d b v rule a due ≡ true) ⊎ (height (history b a) ≤ due)

-- A turn of v in a round of a race: it ends with a knowledge over which nothing is due, and which
-- holds what v saw as the round began.
pub record IsRaceTurn (d : Deal) (v : ℕ) (w : Wallet) (old new : Histories) : Type 0 where
  pub known : Histories
  pub seen : (a : ℕ) → IsNear d v a → Begins (history old a) (history known a)
  pub knows : (a : ℕ) → Knows v (history known a) (history new a)
  pub done : due d v w (first_key known v) known ≡ []

-- the book at the end of a number of rounds
abbrev pub round_book : List Histories → ℕ → Histories
round_book books r = get_or books r []

-- The books at the ends of a race's rounds, oldest first; the first one is empty.
pub record AreRaceBooks (d : Deal) (v : ℕ) (w : Wallet) (ticks rounds : ℕ) (books : List Histories) : Type 0 where
  pub number : length books ≡ rounds + 1
  pub legal : (r : ℕ) → r ≤ rounds → IsLegalBook d (round_book books r)
  pub conducted : IsConducted d (round_book books rounds) v
  pub empty : (a : ℕ) → history (round_book books 0) a ≡ []
  pub grows : (r a : ℕ) → r < rounds → Begins (history (round_book books r) a) (history (round_book books (r + 1)) a)
  pub at : (r a : ℕ) → r ≤ rounds → IsElement a (arcs d.graph) → height (history (round_book books r) a) ≡ r * ticks
  pub turn : (r : ℕ) → r < rounds → IsRaceTurn d v w (round_book books r) (round_book books (r + 1))
