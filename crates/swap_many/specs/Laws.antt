-- The laws of many swaps.
use Rattle.std.specs.Prelude.{◌≡◌, ◌≢◌, ℕ, ◌+◌, ◌<◌, ◌≤◌, Bool, true, false, List, [], length, slice_index_or, All}
use Rattle.escrow_core.specs.declared.reply.Reply.TheVariants.{Accepted}
use Rattle.ledger_core.specs.declared.entry.Call.{Call}
use Rattle.std.specs.List.{list_any}
use Rattle.ledger_core.specs.History.{height, accounts, is_clock_full}
use Rattle.swap_job.specs.declared.event.Event.{Event}
use Rattle.swap_job.specs.Step.{CanStep}
use Rattle.swap_rules.specs.declared.outcome.Outcome.TheVariants.{Underwater}
use Rattle.swap_rules.specs.Findings.{findings}
use Rattle.swap_rules.specs.Outcome.{outcome, IsEnded}
use Rattle.swap_rules.specs.Laws.{is_against_party, names_party, HasRefunds, IsDealt, IsTransferred}
use Rattle.swap_run.specs.Run.{conforms}
use Rattle.swap_run.specs.Laws.{IsReadyCast, IsGood, IsKept}
use Rattle.swap_many.specs.declared.many_event.ManyEvent.{ManyEvent}
use Rattle.swap_many.specs.declared.many_event.ManyEvent.TheVariants.{Tick, In, Pay, Sweep}
use Rattle.swap_many.specs.declared.many_reply.ManyReply.TheVariants.{Plain}
use Rattle.swap_run.specs.Called.{swept_turns}
use Rattle.swap_run.specs.CalledLaws.{is_no_tick}
use Rattle.swap_many.specs.Chains.{Setup, place, arc_chain, put, ChainEntry, projection, has_no_tick, chain_height, chain_ticks, book, free, opening_units}
use Rattle.swap_many.specs.Chains.{set_aside, is_swept, reply_to_call}
use Rattle.swap_many.specs.Chains.{in_accounts, placed_units}
use Rattle.swap_many.specs.Many.{Run, swap_state, done, many_reply, many_start, many_run, many_finish, swap_turns}
use Rattle.swap_many.specs.Kept.{Kept, kept_done, kept_reply, kept_start, kept_run, kept_finish}

-- What runs is ready: who takes part, the places of the arcs, and what is set aside.
pub record IsReadySetup (m : Setup) : Type 0 where
  pub casts : (s : ℕ) → s < m.swaps → IsReadyCast (m.cast s)
  pub chain : (s a : ℕ) → s < m.swaps → a < length (m.cast s).deal.graph.arcs → arc_chain m s a < length m.chains
  pub from : (s a : ℕ) → s < m.swaps → a < length (m.cast s).deal.graph.arcs → (place m s a).from < length (slice_index_or m.chains (arc_chain m s a) [])
  pub to : (s a : ℕ) → s < m.swaps → a < length (m.cast s).deal.graph.arcs → (place m s a).to < length (slice_index_or m.chains (arc_chain m s a) [])
  pub covered : (i x : ℕ) → set_aside m i x ≤ opening_units m i x

-- A chain may tick by k.
pub record CanTickChain (m : Setup) (i k : ℕ) : Type 0 where
  pub chain : i < length m.chains
  pub some : 1 ≤ k
  pub few : k ≤ 1000000

-- An event of a swap may come.
pub record CanHappen (m : Setup) (s : ℕ) (e : Event) : Type 0 where
  pub swap : s < m.swaps
  pub no_tick : is_no_tick e ≡ true
  pub can : CanStep (m.cast s).deal (m.cast s).conforming (m.cast s).seeds e

-- A payment may come.
pub record CanPay (m : Setup) (i from to : ℕ) : Type 0 where
  pub chain : i < length m.chains
  pub from_known : from < length (slice_index_or m.chains i [])
  pub to_known : to < length (slice_index_or m.chains i [])

-- A sweep may come.
pub record CanSweep (m : Setup) (s a : ℕ) : Type 0 where
  pub swap : s < m.swaps
  pub arc : a < length (m.cast s).deal.graph.arcs

-- the event may come, whatever came before
abbrev pub CanCome : Setup → ManyEvent → Type 0
CanCome m (Tick i k) = CanTickChain m i k
CanCome m (In s e) = CanHappen m s e
CanCome m (Pay i from to units) = CanPay m i from to
CanCome m (Sweep s a) = CanSweep m s a

-- What is kept is what the chains' histories give.
pub record Follows (m : Setup) (r : Run) (z : Kept) : Type 0 where
  pub swaps : (s : ℕ) → s < m.swaps → z.swaps s ≡ swap_state m r s
  pub heights : (i : ℕ) → (z.clocks i).height ≡ chain_height (r.chains i)
  pub ticks : (i : ℕ) → (z.clocks i).ticks ≡ chain_ticks (r.chains i)
  pub free : (i : ℕ) → z.free i ≡ free m i (r.chains i)
  pub swept : (s a : ℕ) → z.swept s a ≡ is_swept s a (r.chains (arc_chain m s a))

-- every swap's state is good
abbrev pub AreGood : Setup → Kept → Type 0
AreGood m z = (s : ℕ) → s < m.swaps → IsGood (m.cast s) (z.swaps s)

abbrev pub StartFollows : Type 0
StartFollows = (m : Setup) → IsReadySetup m → Follows m (many_start m) (kept_start m) × AreGood m (kept_start m)

abbrev pub StepsFollow : Type 0
StepsFollow =
    (fair : Bool) (m : Setup) (r : Run) (z : Kept) (e : ManyEvent) → IsReadySetup m → CanCome m e → Follows m r z → AreGood m z
    → Follows m (done fair m r e) (kept_done fair m z e) × AreGood m (kept_done fair m z e)

-- the reply is that of the chains' histories
abbrev pub RepliesFollow : Type 0
RepliesFollow =
    (m : Setup) (r : Run) (z : Kept) (e : ManyEvent) → IsReadySetup m → CanCome m e → Follows m r z → AreGood m z
    → kept_reply false m z e ≡ many_reply m r e

-- after every list of events: what is kept is what the chains' histories give
abbrev pub RunsFollow : Type 0
RunsFollow =
    (m : Setup) (events : List ManyEvent) → IsReadySetup m → All (CanCome m) events
    → Follows m (many_run m events) (kept_run m events) × AreGood m (kept_run m events)

-- after every list of events each swap's book by the chains' histories is legal, and its conforming
-- parties are conducted
abbrev pub BooksAreKept : Type 0
BooksAreKept =
    (m : Setup) (events : List ManyEvent) (s : ℕ) → IsReadySetup m → All (CanCome m) events → s < m.swaps
    → IsKept (m.cast s) (book m (many_run m events).chains s)

-- Chains and slots.

-- a slot's history has its chain's height, and its clock is full exactly where the chain's is
abbrev pub SlotsShowTheClock : Type 0
SlotsShowTheClock =
    (s a k : ℕ) (h : List ChainEntry)
    → (height (projection s a h) ≡ chain_height h) × (is_clock_full (projection s a h) k ≡ has_no_tick (chain_ticks h) (chain_height h) k)

-- Units.

-- on every chain, after every list of events, all units are in one place
abbrev pub UnitsArePlaced : Type 0
UnitsArePlaced =
    (m : Setup) (events : List ManyEvent) (i : ℕ) → IsReadySetup m → All (CanCome m) events → i < length m.chains
    → placed_units m i ((many_run m events).chains i) ≡ in_accounts m i (opening_units m i)

-- on a swept slot a call that its ledger answers is refused
abbrev pub SweptAcceptNothing : Type 0
SweptAcceptNothing =
    (m : Setup) (events : List ManyEvent) (s a p : ℕ) (c : Call) → IsReadySetup m → All (CanCome m) events → s < m.swaps
    → a < length (m.cast s).deal.graph.arcs → is_swept s a ((many_run m events).chains (arc_chain m s a)) ≡ true
    → reply_to_call m ((many_run m events).chains (arc_chain m s a)) s a p c ≢ Plain Accepted

-- The fair finish.

-- What a fair finish from the run r promises: what is kept follows, every swap's book has ended and
-- is kept, and every chain's units are in one place.
pub record IsManyFinished (m : Setup) (r : Run) (z : Kept) : Type 0 where
  pub follows : Follows m r z
  pub ended : (s : ℕ) → s < m.swaps → IsEnded (m.cast s).deal (book m r.chains s)
  pub kept : (s : ℕ) → s < m.swaps → IsKept (m.cast s) (book m r.chains s)
  pub units : (i : ℕ) → i < length m.chains → placed_units m i (r.chains i) ≡ in_accounts m i (opening_units m i)

abbrev pub ManyFinishesEnd : Type 0
ManyFinishesEnd =
    (m : Setup) (events : List ManyEvent) → IsReadySetup m → All (CanCome m) events
    → IsManyFinished m (many_finish m (many_run m events)) (kept_finish m (kept_run m events))

-- What a program over the worlds of the swaps stands on.

-- the turns of a swap's parties in a round are its own
abbrev pub TurnsStayInSwap : Type 0
TurnsStayInSwap =
    (m : Setup) (s : ℕ) (z : Kept)
    → swap_turns m (kept_done false m) (kept_done true m) (λ z i. (z.clocks i).height) z s
    ≡ record z { swaps = put z.swaps s (swept_turns (z.swept s) (m.cast s) (z.swaps s)) }

-- what a sweep gives back fits: with the free accounts it is no more than the chain's opening units
abbrev pub SweepsFit : Type 0
SweepsFit =
    (m : Setup) (events : List ManyEvent) (s a : ℕ) → IsReadySetup m → All (CanCome m) events → CanSweep m s a
    → is_swept s a ((many_run m events).chains (arc_chain m s a)) ≡ false
    → in_accounts m (arc_chain m s a) (free m (arc_chain m s a) ((many_run m events).chains (arc_chain m s a)))
    + (accounts (m.cast s).deal a (projection s a ((many_run m events).chains (arc_chain m s a)))).party
    + (accounts (m.cast s).deal a (projection s a ((many_run m events).chains (arc_chain m s a)))).counterparty
    ≤ in_accounts m (arc_chain m s a) (opening_units m (arc_chain m s a))

-- Each swap by the laws over books.

-- after every list of events and a fair finish: a conforming party against which no finding stands
-- has its refunds, and where none stands in its name it isn't underwater
abbrev pub EverySwapIsSafe : Type 0
EverySwapIsSafe =
    (m : Setup) (events : List ManyEvent) (s v : ℕ) → IsReadySetup m → All (CanCome m) events → s < m.swaps → v < (m.cast s).deal.graph.n
    → conforms (m.cast s) v ≡ true
    → list_any (is_against_party (m.cast s).deal v) (findings (m.cast s).deal (conforms (m.cast s)) (book m (many_finish m (many_run m events)).chains s)) ≡ false
    → (list_any (names_party (m.cast s).deal v)
    (findings (m.cast s).deal (conforms (m.cast s)) (book m (many_finish m (many_run m events)).chains s)) ≡ false
    → outcome (m.cast s).deal (book m (many_finish m (many_run m events)).chains s) v ≢ Underwater)
    × HasRefunds (m.cast s).deal (book m (many_finish m (many_run m events)).chains s) v

-- after every list of events and a fair finish: where all of a swap's parties conform and nothing
-- is found of it, every arc is claimed in time and every outcome is the whole deal
abbrev pub EverySwapIsTransferred : Type 0
EverySwapIsTransferred =
    (m : Setup) (events : List ManyEvent) (s : ℕ) (ready : IsReadySetup m) → All (CanCome m) events → (low : s < m.swaps)
    → ((v : ℕ) → v < (m.cast s).deal.graph.n → conforms (m.cast s) v ≡ true)
    → findings (m.cast s).deal (conforms (m.cast s)) (book m (many_finish m (many_run m events)).chains s) ≡ []
    → IsTransferred (m.cast s).deal (book m (many_finish m (many_run m events)).chains s) (ready.casts s low).accepted

-- where all of a swap's parties conform, a fair finish with no event before it finds nothing of the
-- swap, and every outcome is the whole deal
abbrev pub EveryFairSwapIsDealt : Type 0
EveryFairSwapIsDealt =
    (m : Setup) (s : ℕ) → IsReadySetup m → s < m.swaps → ((v : ℕ) → v < (m.cast s).deal.graph.n → conforms (m.cast s) v ≡ true)
    → IsDealt (m.cast s).deal (conforms (m.cast s)) (book m (many_finish m (many_start m)).chains s)
