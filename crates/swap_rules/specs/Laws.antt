-- The laws of a book, as the contracts state them.
use Rattle.std.specs.Prelude.{◌≡◌, ◌≢◌, ℕ, ◌+◌, ◌*◌, ◌<◌, ◌≤◌, Bool, true, false, ◌&&◌, ◌||◌, ◌==◌, Option, Some, List, [], ◌++◌, length, set}
use Rattle.std.specs.List.{list_any}
use Rattle.swap_base.specs.Lists.{IsElement, IsMoment}
use Rattle.time_bounds.specs.Times as times
use Rattle.swap_digraph.specs.Graph.{arcs, leaving}
use Rattle.swap_digraph.specs.Deal.{amount, party, counterparty, IsWellSized}
use Rattle.swap_digraph.specs.declared.deal.Deal.{Deal}
use Rattle.hashkey_path.specs.declared.hashkey.Hashkey.{Hashkey}
use Rattle.ledger_core.specs.declared.entry.Entry.{Entry}
use Rattle.ledger_core.specs.declared.entry.Call.TheVariants.{Claim}
use Rattle.ledger_core.specs.History.{accepted, accounts, held, balance, is_sender, is_full, IsLegal}
use Rattle.ledger_core.specs.Book.{Histories, history, IsLegalBook}
use Rattle.swap_rules.specs.declared.finding.Rule.{Rule}
use Rattle.swap_rules.specs.declared.finding.Finding.{Finding}
use Rattle.swap_rules.specs.declared.finding.Finding.TheVariants.{Broke, Late, Forged, Unfinished}
use Rattle.swap_rules.specs.declared.outcome.Outcome.TheVariants.{Underwater, Deal as WholeDeal}
use Rattle.swap_rules.specs.Accepted.{IsAccepted}
use Rattle.swap_rules.specs.Party.{is_triggered}
use Rattle.swap_rules.specs.Conduct.{IsConducted}
use Rattle.swap_rules.specs.Late.{reference_height, is_late}
use Rattle.swap_rules.specs.Forged.{is_forged}
use Rattle.swap_rules.specs.Due.{Wallet, Action, due}
use Rattle.swap_rules.specs.Findings.{findings, deal_rules}
use Rattle.swap_rules.specs.Outcome.{outcome, IsEnded, EnteringHaveEnded, LeavingHaveEnded}
use Rattle.ledger_core.specs.Ledger.{after_call}
use Rattle.swap_rules.specs.Machine.{Knows, IsWallet, KeepsRules, IsSound, noted}
use Rattle.swap_rules.specs.Rounds.{IsRounds, IsDoneInTime, AreRaceBooks, round_book}

-- the balances and the held amount add up to the amount of arc a
abbrev pub AddsUp : Deal → ℕ → List Entry → Type 0
AddsUp d a h = (accounts d a h).party + (accounts d a h).counterparty + held h ≡ amount d a

-- at every prefix of every legal history all units are in one place
abbrev pub UnitsAreKept : Type 0
UnitsAreKept = (d : Deal) (a : ℕ) (h rest : List Entry) → IsLegal d a (h ++ rest) → AddsUp d a h

-- an accepted deal's lists are as long as its digraph and its leaders ask, and its numbers are in
-- their ranges
abbrev pub AcceptedIsWellSized : Type 0
AcceptedIsWellSized = (d : Deal) → IsAccepted d → IsWellSized d

-- v is late by no rule on no arc of the deal
abbrev pub IsOnTime : Deal → Histories → ℕ → Type 0
IsOnTime d b v = (rule : Rule) (a : ℕ) → IsElement rule (deal_rules d) → IsElement a (arcs d.graph) → is_late d b v rule a ≡ false

-- no entry of an arc that leaves v is forged in its name
abbrev pub IsUnforged : Deal → Histories → ℕ → Type 0
IsUnforged d b v = (a : ℕ) (past : List Entry) (e : Entry) → IsElement a (leaving d.graph v) → IsMoment (history b a) past e → is_forged d b v e ≡ false

-- every arc that leaves v and isn't triggered has its whole amount in v's balance
abbrev pub HasRefunds : Deal → Histories → ℕ → Type 0
HasRefunds d b v = (a : ℕ) → IsElement a (leaving d.graph v) → is_triggered d b a ≡ false → balance d a (history b a) v ≡ amount d a

-- What a book promises a party: it isn't underwater where nothing is forged in its name, and it has
-- its refunds.
pub record IsSafe (d : Deal) (b : Histories) (v : ℕ) : Type 0 where
  pub safe : IsUnforged d b v → outcome d b v ≢ Underwater
  pub refunds : HasRefunds d b v

-- in every legal book of an accepted deal a party that is conducted and nowhere late is safe, if
-- the ledgers next to it have ended; the others may stand still
abbrev pub EveryBookIsSafe : Type 0
EveryBookIsSafe =
    (d : Deal) (b : Histories) (v : ℕ) → IsAccepted d → IsLegalBook d b → EnteringHaveEnded d b v → LeavingHaveEnded d b v → IsConducted d b v
    → IsOnTime d b v → IsSafe d b v

-- What a conforming party keeps if nothing is found of it.
pub record Conforms (d : Deal) (b : Histories) (v : ℕ) : Type 0 where
  pub conducted : IsConducted d b v
  pub on_time : IsOnTime d b v
  pub unforged : IsUnforged d b v

-- every party conforms
abbrev pub AllConform : Deal → Histories → Type 0
AllConform d b = (v : ℕ) → v < d.graph.n → Conforms d b v

-- An accepted claim at a height of at most t.
pub record IsClaimedInTime (h : List Entry) (t : ℕ) : Type 0 where
  pub past : List Entry
  pub now : Entry
  pub stands : IsMoment h past now
  pub claims : accepted now ≡ Some Claim
  pub height : now.height ≤ t

-- Every arc is claimed in time, every counterparty is paid, and every outcome is the whole deal.
pub record IsTransferred (d : Deal) (b : Histories) (k : IsAccepted d) : Type 0 where
  pub claimed : (a : ℕ) → a < length d.graph.arcs → IsClaimedInTime (history b a) ((k.height + times.need d.graph.n (length d.leaders) k.height + 3) * d.delta)
  pub paid : (a : ℕ) → a < length d.graph.arcs → balance d a (history b a) (counterparty d a) ≡ amount d a
  pub whole : (v : ℕ) → v < d.graph.n → outcome d b v ≡ WholeDeal

-- in every legal and ended book of an accepted deal where all parties conform, all is transferred
abbrev pub AllIsTransferred : Type 0
AllIsTransferred = (d : Deal) (b : Histories) (k : IsAccepted d) → IsLegalBook d b → IsEnded d b → AllConform d b → IsTransferred d b k

-- What an empty list of findings says.
pub record FindsNothing (d : Deal) (conforming : ℕ → Bool) (b : Histories) : Type 0 where
  pub ended : IsEnded d b
  pub conforms : (v : ℕ) → v < d.graph.n → conforming v ≡ true → Conforms d b v

-- where nothing is found of a legal book, it has ended and every conforming party kept what the
-- laws ask for
abbrev pub NothingFound : Type 0
NothingFound = (d : Deal) (conforming : ℕ → Bool) (b : Histories) → IsLegalBook d b → findings d conforming b ≡ [] → FindsNothing d conforming b

-- where all parties conform and nothing is found of a legal book of an accepted deal, all is
-- transferred
abbrev pub WithoutFindingsAllIsTransferred : Type 0
WithoutFindingsAllIsTransferred =
    (d : Deal) (conforming : ℕ → Bool) (b : Histories) (k : IsAccepted d) → IsLegalBook d b → ((v : ℕ) → v < d.graph.n → conforming v ≡ true)
    → findings d conforming b ≡ [] → IsTransferred d b k

-- the finding says that v broke a rule of conduct or was late, or that a ledger next to v is
-- unfinished
abbrev pub is_against_party : Deal → ℕ → Finding → Bool
is_against_party d v (Broke u a e) = u == v
is_against_party d v (Late u rule a due) = u == v
is_against_party d v (Forged u a e) = false
is_against_party d v (Unfinished a h) = (party d a == v) || (counterparty d a == v)

-- the finding says that an entry of an arc that leaves v is forged in v's name
abbrev pub names_party : Deal → ℕ → Finding → Bool
names_party d v (Forged u a e) = (u == v) && (party d a == v)
names_party d v (Broke u a e) = false
names_party d v (Late u rule a due) = false
names_party d v (Unfinished a h) = false

-- of a legal book of an accepted deal: a conforming party against which no finding stands has its
-- refunds, and where none stands in its name it isn't underwater
abbrev pub UnnamedIsSafe : Type 0
UnnamedIsSafe =
    (d : Deal) (conforming : ℕ → Bool) (b : Histories) (v : ℕ) → IsAccepted d → IsLegalBook d b → v < d.graph.n → conforming v ≡ true
    → list_any (is_against_party d v) (findings d conforming b) ≡ false
    → (list_any (names_party d v) (findings d conforming b) ≡ false → outcome d b v ≢ Underwater) × HasRefunds d b v

-- in a legal book of an accepted deal in which every party is conducted, no entry is forged in
-- anybody's name
abbrev pub NothingIsForged : Type 0
NothingIsForged = (d : Deal) (b : Histories) → IsAccepted d → IsLegalBook d b → ((v : ℕ) → v < d.graph.n → IsConducted d b v)
    → (v a : ℕ) (past : List Entry) (e : Entry) → a < length d.graph.arcs → IsMoment (history b a) past e → is_forged d b v e ≡ false

-- conduct in a legal book from a party's knowledge alone, where the book holds it and no further
-- call of the party
abbrev pub KnowledgeConducts : Type 0
KnowledgeConducts =
    (d : Deal) (known b : Histories) (signed : ℕ → Option Hashkey) (v : ℕ) → IsLegalBook d b → ((a : ℕ) → Knows v (history known a) (history b a))
    → KeepsRules d known signed v → IsConducted d b v

-- a machine that learns entries of others stays sound
abbrev pub LearningIsSound : Type 0
LearningIsSound =
    (d : Deal) (known : Histories) (signed : ℕ → Option Hashkey) (v a : ℕ) (more : List Entry) → a < length known
    → ((e : Entry) → IsElement e more → is_sender v e.sender ≡ false) → IsLegal d a (history known a ++ more)
    → IsSound d known signed v → IsSound d (set known a (history known a ++ more)) signed v

-- a machine that makes a due call stays sound, where entries of others may come before the call's
-- entry
abbrev pub DueIsSound : Type 0
DueIsSound =
    (d : Deal) (v : ℕ) (w : Wallet) (known : Histories) (signed : ℕ → Option Hashkey) (x : Action) (fresh : List Entry) → IsWallet d v w → IsAccepted d
    → IsElement x (due d v w signed known)
    → x.arc < length known → ((e : Entry) → IsElement e fresh → is_sender v e.sender ≡ false) → IsLegal d x.arc (history known x.arc ++ fresh)
    → IsSound d known signed v
    → IsSound d (set (set known x.arc (history known x.arc ++ fresh)) x.arc (after_call d x.arc v x.call (history known x.arc ++ fresh)))
    (noted signed x.call) v

-- a party that keeps its rules never fills a ledger
abbrev pub RulesLeaveRoom : Type 0
RulesLeaveRoom =
    (d : Deal) (b : Histories) (signed : ℕ → Option Hashkey) (v a : ℕ) → IsAccepted d → IsLegalBook d b → KeepsRules d b signed v
    → is_full (history b a) v ≡ false

-- in rounds, each action of v that is enabled in the last book is done within a round's ticks and
-- the slack, or its ledger hasn't passed that height
abbrev pub RoundsAreInTime : Type 0
RoundsAreInTime =
    (d : Deal) (v : ℕ) (w : Wallet) (ticks slack rounds : ℕ) (books : ℕ → Histories) → IsAccepted d → 1 ≤ ticks
    → IsRounds d v w ticks slack rounds books
    → (rule : Rule) (a ref : ℕ) → IsElement rule (deal_rules d) → IsElement a (arcs d.graph) → reference_height d (books rounds) v rule a ≡ Some ref
    → IsDoneInTime d (books rounds) v rule a (ref + ticks + slack)

-- where that is within delta, v is nowhere late
abbrev pub RoundsAreOnTime : Type 0
RoundsAreOnTime =
    (d : Deal) (v : ℕ) (w : Wallet) (ticks slack rounds : ℕ) (books : ℕ → Histories) → IsAccepted d → 1 ≤ ticks → ticks + slack ≤ d.delta
    → IsRounds d v w ticks slack rounds books
    → IsOnTime d (books rounds) v

-- in a race an enabled action is done within two rounds' ticks, so that with two ticks within delta
-- nobody conforming is late
abbrev pub RacesAreInTime : Type 0
RacesAreInTime = (d : Deal) (v : ℕ) (w : Wallet) (ticks rounds : ℕ) (books : List Histories) → IsAccepted d → 1 ≤ ticks → AreRaceBooks d v w ticks rounds books
    → ((rule : Rule) (a ref : ℕ) → IsElement rule (deal_rules d) → IsElement a (arcs d.graph) → reference_height d (round_book books rounds) v rule a ≡ Some ref
    → IsDoneInTime d (round_book books rounds) v rule a (ref + 2 * ticks))
    × (2 * ticks ≤ d.delta → IsOnTime d (round_book books rounds) v)

-- Nothing is found, and every outcome is the whole deal.
pub record IsDealt (d : Deal) (conforming : ℕ → Bool) (b : Histories) : Type 0 where
  pub nothing : findings d conforming b ≡ []
  pub whole : (v : ℕ) → v < d.graph.n → outcome d b v ≡ WholeDeal

-- a legal and ended book of an accepted deal, whose parties are all conducted and nowhere late, is
-- dealt
abbrev pub AllIsDealt : Type 0
AllIsDealt =
    (d : Deal) (conforming : ℕ → Bool) (b : Histories) → IsAccepted d → IsLegalBook d b → IsEnded d b → ((v : ℕ) → v < d.graph.n → IsConducted d b v)
    → ((v : ℕ) → v < d.graph.n → IsOnTime d b v) → IsDealt d conforming b

-- a race of parties that all conform is dealt, where two rounds' ticks are within delta and its
-- rounds pass the horizon
abbrev pub RacesAreDealt : Type 0
RacesAreDealt =
    (d : Deal) (conforming : ℕ → Bool) (ticks rounds : ℕ) (books : List Histories) → IsAccepted d → 1 ≤ ticks → 2 * ticks ≤ d.delta
    → times.horizon d.start d.delta d.bound < rounds * ticks
    → ((v : ℕ) → v < d.graph.n → (w : Wallet) × AreRaceBooks d v w ticks rounds books) → IsDealt d conforming (round_book books rounds)
