-- What readers of ledgers keep.
use Rattle.std.specs.Prelude.{◌≡◌, ◌<◌, ◌≤◌, ◌+◌, ◌-◌, ℕ, List, length, decimal, slice_index_or}
use Rattle.swap_digraph.specs.declared.deal.Deal.{Deal}
use Rattle.swap_digraph.specs.Deal.{IsWellSized}
use Rattle.ledger_core.specs.History.{IsLegal, height}
use Rattle.told_ledgers.specs.declared.kind.Kind.{Kind}
use Rattle.told_ledgers.specs.declared.told_ledger.ToldLedger.{ToldLedger}
use Rattle.told_ledgers.specs.declared.one_ledger.Heard.{Heard}
use Rattle.told_ledgers.specs.declared.one_ledger.Heard.TheVariants.{More, Bad}
use Rattle.told_ledgers.specs.declared.stage.Stage.{Stage}
use Rattle.told_ledgers.specs.declared.stage.Stage.TheVariants.{Reading}
use Rattle.told_ledgers.specs.declared.one_ledger.OneLedger.TheInside as one_ledger
use Rattle.told_ledgers.specs.declared.reader.LedgersReader.TheInside as reader
use Rattle.told_ledgers.specs.SoFar.{LedgerSoFar}
use Rattle.told_ledgers.specs.Ledger.{line_heard, untold}
use Rattle.told_ledgers.specs.Telling.{Telling, one_less, with_heard}

-- ---- one ledger

abbrev pub ledger_so_far : one_ledger.Inside → LedgerSoFar
ledger_so_far l = record {
  deal = l.ledger.deal;
  me = l.me;
  arc = l.ledger.arc;
  past = l.past.list;
  waiting = l.waiting;
  unlocks = l.unlocks;
  is_closed = l.is_closed;
}

-- What was taken is what was replayed, and is legal; its height with that of the ticks isn't above
-- the most.
pub record IsReplayedLedger (l : one_ledger.Inside) : Type 0 where
  pub replayed : l.ledger.history ≡ l.past.list
  pub legal : IsLegal l.ledger.deal l.ledger.arc l.past.list
  pub low : height l.past.list + l.waiting ≤ 1000000

-- what is told of a ledger with a bad entry is legal
abbrev pub IsLegalHeard : Deal → ℕ → Heard → Type 0
IsLegalHeard d a (More l) = Unit {0}
IsLegalHeard d a (Bad t) = IsLegal d a t.history

-- ---- all ledgers

abbrev pub inside_telling : reader.Inside → Telling
inside_telling r = record {
  deal = r.deal;
  me = r.me;
  ledgers = r.ledgers.items;
  least = r.least;
  count = r.count;
  more = r.more;
  stage = r.stage;
}

-- the ledger at hand is one of the deal's, and is read for the party
pub record IsLedgerForParty (d : Deal) (v : ℕ) (l : LedgerSoFar) : Type 0 where
  pub deal : l.deal ≡ d
  pub me : l.me ≡ v
  pub arc : l.arc < length d.graph.arcs

-- behind a line of it the ledger at hand is one of the deal's, and is read for the party
abbrev pub IsHeardLedgerForParty : Deal → ℕ → Heard → Type 0
IsHeardLedgerForParty d v (More l) = IsLedgerForParty d v l
IsHeardLedgerForParty d v (Bad t) = Unit {0}

abbrev pub IsStageForParty : Deal → ℕ → Stage → Type 0
IsStageForParty d v (Reading l) = IsLedgerForParty d v l
IsStageForParty d v _ = Unit {0}

-- what is told of each arc is legal
abbrev pub AreLegal : Deal → List ToldLedger → Type 0
AreLegal d ts = (a : ℕ) → a < length ts → IsLegal d a (slice_index_or ts a untold).history

-- What is told of each arc is legal, and the ledger at hand is read for the party.
pub record IsTelling (r : reader.Inside) : Type 0 where
  pub sized : IsWellSized r.deal
  pub own : r.own ≡ decimal r.me
  pub found : r.found ≡ r.deal
  pub one_each : length r.ledgers.items ≡ length r.deal.graph.arcs
  pub legal : AreLegal r.deal r.ledgers.items
  pub stage : IsStageForParty r.deal r.me r.stage

-- ---- a line of the ledger at hand

-- what a line of that kind tells of the ledger
abbrev pub kind_told : LedgerSoFar → Telling → Kind → List ℕ → Telling
kind_told l s kind line = with_heard l.arc (line_heard (s.count - s.more) l kind line) (one_less s)

-- The ledger at hand took the line of that kind, and further lines of it are read.
pub record HasTakenLine (kind : Kind) (line : List ℕ) (l : LedgerSoFar) (old new : Telling) : Type 0 where
  pub next : LedgerSoFar
  pub heard : (n : ℕ) → line_heard n l kind line ≡ More next
  pub reads : new ≡ record old { stage = Reading next }
