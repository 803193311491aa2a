-- Who looks and calls through passes: what it knows of each ledger, and what its passes have seen.
use Rattle.std.specs.Prelude.{◌≡◌, ℕ, ◌<◌, ◌++◌, true, false, IsTrue, List, [], length, set, slice_index_or, Option, Some, None}
use mathlib.Core.List.{IsPrefix}
use Rattle.atomic_table.specs.Seated.{TableId}
use Rattle.swap_digraph.specs.declared.deal.Deal.{Deal}
use Rattle.swap_digraph.specs.Deal.{touches}
use Rattle.ledger_core.specs.declared.entry.Call.{Call}
use Rattle.ledger_core.specs.declared.entry.Entry.{Entry}
use Rattle.ledger_core.specs.History.{fit, IsLegal}
use Rattle.ledger_core.specs.CallSignatures.{is_known_call}
use Rattle.ledger_core.specs.Ledger.{after_call}
use Rattle.ledger_core.specs.Book.{Histories, history}
use Rattle.ledger_shared.specs.Value.{PassState, SharedState, party_made, with_seen}
use Rattle.party_threads.specs.Later.{IsLater, arc_pass, HaveAdvanced}

-- A party of a deal, with what it knows of each ledger.
pub record Watcher : Type 0 where
  pub deal : Deal
  pub me : ℕ
  pub known : Histories

-- the party after it came to know the history h of arc a
abbrev pub watcher_knowing : Watcher → ℕ → List Entry → Watcher
watcher_knowing w a h = record { deal = w.deal; me = w.me; known = set w.known a h }

-- the party after it learned entries of arc a
abbrev pub knowing_more : Watcher → ℕ → List Entry → Watcher
knowing_more w a entries = watcher_knowing w a (history w.known a ++ entries)

-- The arc is one of the deal's, and the party knows something of it.
pub record KnowsArc (w : Watcher) (a : ℕ) : Type 0 where
  pub deal : a < length w.deal.graph.arcs
  pub known : a < length w.known

-- The party can learn entries of the arc: what it then knows of the arc is legal.
pub record CanLearn (w : Watcher) (a : ℕ) (entries : List Entry) : Type 0 where
  pub arc : KnowsArc w a
  pub legal : IsLegal w.deal a (history w.known a ++ entries)

-- The pass is that of the party at the ledger of arc a, and has seen what the party knows.
pub record IsWatcherPass (w : Watcher) (table : TableId) (a : ℕ) (p : PassState) : Type 0 where
  pub lock : p.lock ≡ table
  pub deal : p.deal ≡ w.deal
  pub arc : p.arc ≡ a
  pub party : p.party ≡ w.me
  pub seen : p.seen ≡ history w.known a

-- The party knows what its passes have seen.
pub record Tracks (ledgers : List SharedState) (w : Watcher) (ps : List (Option PassState)) : Type 0 where
  pub places : length ps ≡ length w.deal.graph.arcs
  pub shared : length ledgers ≡ length w.deal.graph.arcs
  pub each : (a : ℕ) (s : SharedState) (p : PassState) → a < length ps → s ≡ slice_index_or ledgers a s → arc_pass ps a ≡ Some p → IsWatcherPass w s.lock a p

-- The party has a pass at each ledger that touches it, and at no other.
pub record HasItsPasses (d : Deal) (me : ℕ) (ps : List (Option PassState)) : Type 0 where
  pub near : (a : ℕ) → a < length ps → touches d me a ≡ true → (p : PassState) × (arc_pass ps a ≡ Some p)
  pub far : (a : ℕ) → a < length ps → touches d me a ≡ false → arc_pass ps a ≡ None

-- The party has its passes, knows of each arc of its deal, and knows what its passes have seen.
pub record IsWatching (ledgers : List SharedState) (w : Watcher) (ps : List (Option PassState)) : Type 0 where
  pub known : length w.known ≡ length w.deal.graph.arcs
  pub tracks : Tracks ledgers w ps
  pub passes : HasItsPasses w.deal w.me ps

-- the passes at the first k arcs have seen all that was shared
abbrev pub HaveSeenBelow : ℕ → List (Option PassState) → Type 0
HaveSeenBelow k ps = (a : ℕ) (p : PassState) → a < k → arc_pass ps a ≡ Some p → IsPrefix p.shared p.seen

-- each pass has seen all that was shared
abbrev pub HaveSeenAll : List (Option PassState) → Type 0
HaveSeenAll ps = HaveSeenBelow (length ps) ps

-- what is known of an arc without a pass stays
abbrev pub IsSameElsewhere : List (Option PassState) → Histories → Histories → Type 0
IsSameElsewhere ps old new = (a : ℕ) → arc_pass ps a ≡ None → history new a ≡ history old a

-- the history h is k with fresh entries of others than v
abbrev pub IsFresh : ℕ → List Entry → List Entry → Type 0
IsFresh v k h = (fresh : List Entry) × (h ≡ k ++ fresh) × (party_made v fresh ≡ [])

abbrev pub HaveFresh : ℕ → Histories → Histories → Type 0
HaveFresh v old new = (a : ℕ) → IsFresh v (history old a) (history new a)

-- A look.

-- A look showed entries of others, which the party then knows, and all that was shared.
pub record HasLooked (w : Watcher) (a : ℕ) (p : PassState) (x : Watcher) (q : PassState) : Type 0 where
  pub fresh : List Entry
  pub knows : x ≡ knowing_more w a fresh
  pub pass : q ≡ with_seen p fresh
  pub seen : q.seen ≡ history w.known a ++ fresh
  pub foreign : party_made w.me fresh ≡ []
  pub legal : IsLegal w.deal a (history w.known a ++ fresh)
  pub whole : IsPrefix q.shared q.seen

-- the pass is the party's at the ledger of arc a, where there may be none
abbrev pub IsWatcherPlace : List SharedState → Watcher → ℕ → Option PassState → Type 0
IsWatcherPlace ledgers w a None = Unit {0}
IsWatcherPlace ledgers w a (Some p) = (s : SharedState) → s ≡ slice_index_or ledgers a s → IsWatcherPass w s.lock a p

-- a look through the pass at a place, where nothing is looked at without a pass
abbrev pub LookedIf : Watcher → ℕ → Option PassState → Watcher → Option PassState → Type 0
LookedIf w a None x q = (x ≡ w) × (q ≡ None)
LookedIf w a (Some p) x q = (r : PassState) × (q ≡ Some r) × HasLooked w a p x r

-- The party looked at the ledgers of the first k arcs, and knows all that was shared there. What it
-- learnt are entries of others.
pub record HaveLooked (ledgers : List SharedState) (w : Watcher) (ps : List (Option PassState)) (k : ℕ) (x : Watcher) (qs : List (Option PassState))
    : Type 0 where
  pub deal : x.deal ≡ w.deal
  pub me : x.me ≡ w.me
  pub watching : IsWatching ledgers x qs
  pub gone_on : HaveAdvanced ps qs
  pub seen : HaveSeenBelow k qs
  pub fresh : HaveFresh w.me w.known x.known
  pub legal : (a : ℕ) → IsLegal w.deal a (history w.known a) → IsLegal w.deal a (history x.known a)
  pub elsewhere : IsSameElsewhere ps w.known x.known

-- A call.

-- The call stands on an arc that touches the party, and fits, and its last `known` signatures are
-- valid.
pub record CanWatcherCall (w : Watcher) (a : ℕ) (call : Call) (known : ℕ) : Type 0 where
  pub arc : a < length w.deal.graph.arcs
  pub near : touches w.deal w.me a ≡ true
  pub fits : IsTrue (fit w.deal a call)
  pub valid : IsTrue (is_known_call known w.deal call)

-- The call stands at the end of what the party then knows, after entries of others.
pub record HasLearntCall (w : Watcher) (a : ℕ) (call : Call) (x : Watcher) : Type 0 where
  pub others : List Entry
  pub foreign : party_made w.me others ≡ []
  pub legal : IsLegal w.deal a (history w.known a ++ others)
  pub knows : x ≡ watcher_knowing w a (after_call w.deal a w.me call (history w.known a ++ others))

-- The call was made through a pass, which has then seen it.
pub record HasMade (w : Watcher) (a : ℕ) (call : Call) (p : PassState) (x : Watcher) (q : PassState) : Type 0 where
  pub learnt : HasLearntCall w a call x
  pub seen : q.seen ≡ after_call w.deal a w.me call (history w.known a ++ learnt.others)
  pub pass : IsLater p q
  pub whole : IsPrefix q.shared q.seen

-- the call was made through the pass at a place that has one
abbrev pub MadeIf : Watcher → ℕ → Call → Option PassState → Watcher → Option PassState → Type 0
MadeIf w a call None x q = ⊥
MadeIf w a call (Some p) x q = (r : PassState) × (q ≡ Some r) × HasMade w a call p x r

-- The call was made through one of all passes of the party, which goes on watching.
pub record HasSubmitted (ledgers : List SharedState) (w : Watcher) (a : ℕ) (call : Call) (ps : List (Option PassState)) (x : Watcher)
    (qs : List (Option PassState)) : Type 0 where
  pub learnt : HasLearntCall w a call x
  pub watching : IsWatching ledgers x qs
  pub seen : HaveSeenAll ps → HaveSeenAll qs
