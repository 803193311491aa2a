-- The laws of runs.
use Rattle.std.specs.Prelude.{◌≡◌, ◌≢◌, ◌==◌, ◌||◌, ℕ, ◌<◌, true, false, IsTrue, List, [], length, All, Some}
use Rattle.swap_base.specs.Lists.{IsMoment}
use Rattle.swap_digraph.specs.Deal.{party, counterparty}
use Rattle.hashkey_path.specs.declared.hashkey.Hashkey.{Hashkey}
use Rattle.escrow_core.specs.declared.reply.Reply.TheVariants.{SenderFull}
use Rattle.ledger_core.specs.declared.entry.Call.TheVariants.{Unlock}
use Rattle.ledger_core.specs.declared.entry.Entry.{Entry}
use Rattle.ledger_core.specs.History.{fit, history_reply}
use Rattle.swap_rules.specs.Due.{Action}
use Rattle.swap_rules.specs.Party.{pick_call}
use Rattle.ledger_core.specs.Book.{Histories, history, IsLegalBook}
use Rattle.swap_job.specs.declared.event.Event.{Event}
use Rattle.swap_job.specs.Step.{CanStep}
use Rattle.swap_job.specs.Crafted.{Seeds}
use Rattle.swap_job.specs.Fitting.{IsPartyMove, is_near}
use Rattle.swap_job.specs.Roles.{role_script}
use Rattle.swap_digraph.specs.declared.deal.Deal.{Deal}
use Rattle.swap_rules.specs.Accepted.{IsAccepted}
use Rattle.swap_rules.specs.Conduct.{IsConducted}
use Rattle.swap_rules.specs.Machine.{Begins, IsWallet, IsSound, Knows}
use Rattle.party_wallet.specs.Value.{signed_hashkey}
use Rattle.swap_run.specs.Run.{Cast, Plan, State, conforms, party_role, state_notes, party_plan, next_action, step, start, run}

-- What a run asks of its cast: the deal is accepted, each conforming party has a wallet of its own,
-- and each script's moves are its party's.
pub record IsReadyCast (c : Cast) : Type 0 where
  pub accepted : IsAccepted c.deal
  pub one_each : length c.conforming ≡ c.deal.graph.n
  pub roles : length c.roles ≡ c.deal.graph.n
  pub wallets : (v : ℕ) → v < c.deal.graph.n → conforms c v ≡ true → IsWallet c.deal v (c.wallet v)
  pub scripts : (v : ℕ) → v < c.deal.graph.n → All (IsPartyMove c.deal c.seeds v) (role_script (party_role c v))

-- What a conforming party's notes keep. Of each ledger that touches it they have a beginning with
-- all its own calls, and nothing of other ledgers. Its calls keep its rules.
pub record AreGoodNotes (c : Cast) (s : State) (v : ℕ) : Type 0 where
  pub one_each : length (state_notes s v).known ≡ length c.deal.graph.arcs
  pub places : length (state_notes s v).signed ≡ length c.deal.leaders
  pub knows : (a : ℕ) → Knows v (history (state_notes s v).known a) (history s.book a)
  pub far : (a : ℕ) → a < length c.deal.graph.arcs → is_near c.deal v a ≡ false → history (state_notes s v).known a ≡ []
  pub sound : IsSound c.deal (state_notes s v).known (signed_hashkey (state_notes s v).signed) v

-- What the plan of party v keeps over a book: what it knows is of this book, up to some entry of
-- each ledger, and nothing of those that don't touch v; its moves are its party's.
pub record IsGoodPlan (d : Deal) (seeds : Seeds) (v : ℕ) (b : Histories) (n : Plan) : Type 0 where
  pub one_each : length n.known ≡ length d.graph.arcs
  pub begins : (a : ℕ) → Begins (history n.known a) (history b a)
  pub far : (a : ℕ) → a < length d.graph.arcs → is_near d v a ≡ false → history n.known a ≡ []
  pub moves : All (IsPartyMove d seeds v) n.moves

-- What every state of a run keeps.
pub record IsGood (c : Cast) (s : State) : Type 0 where
  pub legal : IsLegalBook c.deal s.book
  pub one_each : length s.notes ≡ c.deal.graph.n
  pub notes : (v : ℕ) → v < c.deal.graph.n → conforms c v ≡ true → AreGoodNotes c s v
  pub plan_each : length s.plans ≡ c.deal.graph.n
  pub plans : (v : ℕ) → v < c.deal.graph.n → IsGoodPlan c.deal c.seeds v s.book (party_plan s v)

-- a run begins well
abbrev pub StartIsGood : Type 0
StartIsGood = (c : Cast) → IsReadyCast c → IsGood c (start c)

-- each event leaves a good state good
abbrev pub StepsAreGood : Type 0
StepsAreGood = (c : Cast) (s : State) (e : Event) → IsReadyCast c → CanStep c.deal c.conforming c.seeds e → IsGood c s → IsGood c (step c s e)

-- A call of v that the ledger of its arc takes.
pub record CanBeMade (c : Cast) (s : State) (v : ℕ) (x : Action) : Type 0 where
  pub arc : x.arc < length c.deal.graph.arcs
  pub adjacent : IsTrue ((v == party c.deal x.arc) || (v == counterparty c.deal x.arc))
  pub fits : IsTrue (fit c.deal x.arc x.call)
  pub room : history_reply c.deal x.arc (history s.book x.arc) v x.call ≢ SenderFull

-- what a conforming party makes in a good state can be made
abbrev pub DueCallsCanBeMade : Type 0
DueCallsCanBeMade =
    (c : Cast) (s : State) (v : ℕ) (x : Action) → IsReadyCast c → IsGood c s → v < c.deal.graph.n → conforms c v ≡ true → next_action c s v ≡ Some x
    → CanBeMade c s v x

-- What a run promises of its book, whatever the other parties do.
pub record IsKept (c : Cast) (b : Histories) : Type 0 where
  pub legal : IsLegalBook c.deal b
  pub conducted : (v : ℕ) → v < c.deal.graph.n → conforms c v ≡ true → IsConducted c.deal b v

-- in a good state the book is legal and every conforming party is conducted
abbrev pub GoodIsKept : Type 0
GoodIsKept = (c : Cast) (s : State) → IsReadyCast c → IsGood c s → IsKept c s.book

-- after every list of events the book is legal and every conforming party is conducted
abbrev pub RunsAreKept : Type 0
RunsAreKept = (c : Cast) (events : List Event) → IsReadyCast c → All (CanStep c.deal c.conforming c.seeds) events → IsKept c (run c events).book

-- in a good state each unlock call of a conforming party, on whatever arc, carries the hashkey that
-- the party signed for its lock
abbrev pub UnlocksAreSigned : Type 0
UnlocksAreSigned =
    (c : Cast) (s : State) (v a : ℕ) (past : List Entry) (e : Entry) (key : Hashkey) → IsGood c s → v < c.deal.graph.n → conforms c v ≡ true
    → IsMoment (history s.book a) past e → pick_call v e ≡ Some (Unlock key) → signed_hashkey (state_notes s v).signed key.lock ≡ Some key
