-- Races: rounds in which every party and the clock have their turns at once.
use Rattle.std.specs.Prelude.{◌≡◌, ◌↔◌, ℕ, zero, suc, ◌+◌, ◌*◌, ◌/◌, ◌<◌, ◌≤◌, true, false, List, [], ◌∷◌, ◌++◌, map, Option, Some, None}
use Rattle.std.specs.List.{range_with_len}
use Rattle.swap_base.specs.Lists.{IsElement}
use Rattle.swap_digraph.specs.Graph.{arcs}
use Rattle.swap_digraph.specs.declared.deal.Deal.{Deal}
use Rattle.hashkey_path.specs.declared.hashkey.Hashkey.{Hashkey}
use Rattle.escrow_core.specs.declared.reply.Reply.TheVariants.{Accepted}
use Rattle.ledger_core.specs.declared.entry.Entry.{Entry}
use Rattle.ledger_core.specs.History.{height}
use Rattle.ledger_core.specs.Ledger.{tick_entry}
use Rattle.ledger_core.specs.Book.{Histories, history, IsLegalBook}
use Rattle.ledger_shared.specs.Value.{party_made, ticks_in_order}
use Rattle.swap_rules.specs.Accepted.{IsAccepted}
use Rattle.swap_rules.specs.Outcome.{IsEnded}
use Rattle.swap_rules.specs.Party.{first_key}
use Rattle.swap_rules.specs.Due.{Wallet, due}
use Rattle.swap_rules.specs.declared.finding.Rule.{Rule}
use Rattle.swap_rules.specs.Conduct.{IsConducted}
use Rattle.swap_rules.specs.Late.{reference_height}
use Rattle.swap_rules.specs.Findings.{deal_rules}
use Rattle.swap_rules.specs.Machine.{Begins, IsSound}
use Rattle.swap_rules.specs.Laws.{IsOnTime, IsDealt}
use Rattle.swap_rules.specs.Rounds.{IsNear, IsDoneInTime, AreRaceBooks}
use Rattle.swap_run.specs.Run.{Cast, State, conforms, party_role, is_planned, state_notes, next_action, start}
use Rattle.swap_run.specs.Laws.{IsReadyCast, IsGood}
use Rattle.swap_run.specs.Fair.{the_horizon}
use Rattle.typed_books.specs.Books.{IsTypedBook}
use Rattle.swap_world.specs.Gone.{MayGive}
use Rattle.party_threads.specs.Views.{HasPlayedInRound, PlaysByViews}

-- the fewest rounds that pass the horizon, given the ticks of a round
abbrev pub needed_rounds : Deal → ℕ → ℕ
needed_rounds d ticks = the_horizon d / ticks + 1

-- What a round makes of the book and of what each conforming party has noted, whatever the order of
-- the threads: every conforming party ends its turn with nothing due, past all that stood as the
-- round began; a party that follows a script or a strategy makes at most the one call that answers
-- its view; nobody else makes a call; and each ledger has one more tick.
pub record IsRound (gives : MayGive) (c : Cast) (ticks : ℕ) (s t : State) : Type 0 where
  pub good : IsGood c t
  pub grows : (a : ℕ) → Begins (history s.book a) (history t.book a)
  pub ticked : (a : ℕ) → IsElement a (arcs c.deal.graph)
      → ticks_in_order (history t.book a) ≡ ticks_in_order (history s.book a) ++ tick_entry ticks (height (history s.book a) + ticks) Accepted ∷ []
  pub seen : (v a : ℕ) → v < c.deal.graph.n → conforms c v ≡ true → IsNear c.deal v a → Begins (history s.book a) (history (state_notes t v).known a)
  pub rests : (v : ℕ) → v < c.deal.graph.n → conforms c v ≡ true → next_action c t v ≡ None
  pub others : (v a : ℕ) → v < c.deal.graph.n → conforms c v ≡ false → is_planned (party_role c v) ≡ false
      → party_made v (history t.book a) ≡ party_made v (history s.book a)
  pub played : (v : ℕ) → v < c.deal.graph.n → conforms c v ≡ false → is_planned (party_role c v) ≡ true → HasPlayedInRound gives c s t v

-- The state after `rounds` rounds from the start, with the states between.
pub record IsRaced (gives : MayGive) (c : Cast) (ticks rounds : ℕ) (t : State) : Type 0 where
  pub states : ℕ → State
  pub first : states 0 ≡ start c
  pub last : states rounds ≡ t
  pub each : (r : ℕ) → r < rounds → IsRound gives c ticks (states r) (states (r + 1))

-- the books at the ends of a number of rounds, oldest first, and before them the book of the start
abbrev pub round_books : (ℕ → State) → ℕ → List Histories
round_books states rounds = map (λ r. (states r).book) (range_with_len 0 (rounds + 1))

-- The book came of rounds from the start, the fewest that pass the horizon. For each conforming
-- party, the books at the rounds' ends are a list to which the law applies that races are in time.
pub record IsOfRounds (gives : MayGive) (c : Cast) (ticks : ℕ) (b : Histories) : Type 0 where
  pub end : State
  pub raced : IsRaced gives c ticks (needed_rounds c.deal ticks) end
  pub book : b ≡ end.book
  pub listed : (v : ℕ) → v < c.deal.graph.n → conforms c v ≡ true
      → AreRaceBooks c.deal v (c.wallet v) ticks (needed_rounds c.deal ticks) (round_books raced.states (needed_rounds c.deal ticks))

-- the ticks of a number of rounds
abbrev pub ticks_of_rounds : ℕ → ℕ → List Entry
ticks_of_rounds ticks zero = []
ticks_of_rounds ticks (suc r) = ticks_of_rounds ticks r ++ tick_entry ticks (suc r * ticks) Accepted ∷ []

-- What a race promises of its book, whatever the order of the threads.
pub record IsRaceBook (gives : MayGive) (c : Cast) (ticks : ℕ) (b : Histories) : Type 0 where
  -- it came by rounds: in each, every conforming party ends its turn with nothing due, past all
  -- that stood as the round began, and every view shows all that stood then
  pub came : IsOfRounds gives c ticks b
  pub legal : IsLegalBook c.deal b
  -- each call holds digests of 32 bytes and signatures of 67 digests, whoever made it
  pub typed : IsTypedBook b
  pub ticked : (a : ℕ) → IsElement a (arcs c.deal.graph) → ticks_in_order (history b a) ≡ ticks_of_rounds ticks (needed_rounds c.deal ticks)
  pub ended : IsEnded c.deal b
  pub conducted : (v : ℕ) → v < c.deal.graph.n → conforms c v ≡ true → IsConducted c.deal b v
  -- a party that follows a script or a strategy makes just the calls that answer its round views,
  -- and nobody else makes a call
  pub played : (v : ℕ) → v < c.deal.graph.n → conforms c v ≡ false → is_planned (party_role c v) ≡ true
      → PlaysByViews gives c ticks (needed_rounds c.deal ticks) b v
  pub others : (v a : ℕ) → v < c.deal.graph.n → conforms c v ≡ false → is_planned (party_role c v) ≡ false → party_made v (history b a) ≡ []
  -- what is enabled for a conforming party is done within two rounds' ticks, or its ledger isn't
  -- past that
  pub in_time : (v : ℕ) (rule : Rule) (a ref : ℕ) → v < c.deal.graph.n → conforms c v ≡ true → IsElement rule (deal_rules c.deal) → IsElement a (arcs c.deal.graph)
      → reference_height c.deal b v rule a ≡ Some ref → IsDoneInTime c.deal b v rule a (ref + 2 * ticks)
  -- nobody conforming is late where two rounds' ticks fit in delta
  pub on_time : 2 * ticks ≤ c.deal.delta → (v : ℕ) → v < c.deal.graph.n → conforms c v ≡ true → IsOnTime c.deal b v
  -- where two rounds' ticks fit in delta and all conform, nothing is found and everything moves
  pub dealt : 2 * ticks ≤ c.deal.delta → ((v : ℕ) → v < c.deal.graph.n → conforms c v ≡ true) → IsDealt c.deal (conforms c) b

-- rounds that pass the horizon keep all that a race promises of a book of the program's own types
abbrev pub RacesAreKept : Type 1
RacesAreKept =
    (gives : MayGive) (c : Cast) (ticks : ℕ) (t : State) → IsReadyCast c → 1 ≤ ticks → IsRaced gives c ticks (needed_rounds c.deal ticks) t
    → IsTypedBook t.book → IsRaceBook gives c ticks t.book

-- If the calls of v in what it knows keep its rules, nothing is due by the hashkeys that it signed
-- exactly where nothing is due by those of its unlock calls.
abbrev pub RestShowsInCalls : Type 0
RestShowsInCalls =
    (d : Deal) (v : ℕ) (w : Wallet) (known : Histories) (signed : ℕ → Option Hashkey) → IsAccepted d → IsSound d known signed v
    → (due d v w signed known ≡ []) ↔ (due d v w (first_key known v) known ≡ [])
