-- What the fields of a world mean, and what holds of them.
use Rattle.std.specs.Prelude.{◌≡◌, ◌<◌, ℕ, Bool, true, false, List, [], ◌∷◌, length, map, slice_index_or, Option, Some, None}
use Rattle.swap_digraph.specs.Graph.{arcs}
use Rattle.swap_digraph.specs.declared.deal.Deal.{Deal}
use Rattle.ledger_core.specs.Value.{LedgerState}
use Rattle.ledger_core.specs.History.{IsLegal}
use Rattle.swap_job.specs.declared.job.Role.{Role}
use Rattle.swap_job.specs.declared.job.Role.TheVariants as kinds
use Rattle.swap_run.specs.Run.{Cast, Notes, Plan, Question, State, no_notes, first_plan, is_planned}
use Rattle.swap_run.specs.Laws.{IsReadyCast, IsGood, IsKept}
use Rattle.swap_world.specs.Cast.{made_cast}
use Rattle.swap_world.specs.Acting.{answer_question}
use Rattle.swap_world.specs.Journals.{AreJournaled, HaveDisks}
use Rattle.swap_world.specs.Value.{WorldState}
use Rattle.swap_world.specs.declared.player.Player.{Player}
use Rattle.swap_world.specs.declared.player.Player.TheVariants.{Conforming, Planned, Manual}
use Rattle.swap_world.specs.declared.world.World.TheInside.{Inside}

-- what the party has noted, where it conforms
abbrev pub actor_notes : {J : Type 0} → Deal → Player J → Notes
actor_notes d (Conforming m j) = record { known = m.known; signed = m.signed }
actor_notes d _ = no_notes d

-- what the party plans, where it follows a script or a strategy
abbrev pub actor_plan : {J : Type 0} → Deal → Player J → Plan
actor_plan d (Planned n) = n
actor_plan d _ = first_plan d kinds.Manual

-- the name of the strategy that a role follows, empty for the others
abbrev pub strategy_name : Role → List ℕ
strategy_name (kinds.Strategy name) = name
strategy_name _ = []

-- what these parties asked, one after another, each with what it planned then
abbrev pub asked_questions : List Role → List ℕ → List Plan → List Question
asked_questions roles [] ns = []
asked_questions roles (p ∷ ps) [] = []
asked_questions roles (p ∷ ps) (n ∷ ns) = answer_question (strategy_name (slice_index_or roles p kinds.Manual)) p n ∷ asked_questions roles ps ns

abbrev pub inside_cast : Inside → Cast
inside_cast w = made_cast w.deal w.conforming w.seeds w.roles

abbrev pub inside_questions : Inside → List Question
inside_questions w = asked_questions w.roles w.askers.items w.told.items

abbrev pub inside_run_state : Inside → State
inside_run_state w = record {
  book = map (λ l. l.history) w.ledgers.items;
  notes = map (actor_notes w.deal) w.actors.items;
  plans = map (actor_plan w.deal) w.actors.items;
  asked = inside_questions w;
}

abbrev pub inside_world : Inside → WorldState
inside_world w = record {
  deal = w.deal;
  conforming = w.conforming;
  seeds = w.seeds;
  roles = w.roles;
  answers = w.answers.items;
  state = inside_run_state w;
  stopped = w.stopped;
}

-- the ledger of arc a before any entry
abbrev pub new_ledger : Deal → ℕ → LedgerState
new_ledger d a = record { deal = d; arc = a; history = []; spare = 0 }

abbrev pub new_ledgers : Deal → List LedgerState
new_ledgers d = map (new_ledger d) (arcs d.graph)

-- The ledger is that of arc a, and its history is legal.
pub record IsArcLedger (d : Deal) (a : ℕ) (l : LedgerState) : Type 0 where
  pub deal : l.deal ≡ d
  pub arc : l.arc ≡ a
  pub legal : IsLegal d a l.history

-- The ledger is that of arc a before any entry, with room for one.
pub record IsNewLedger (d : Deal) (a : ℕ) (l : LedgerState) : Type 0 where
  pub deal : l.deal ≡ d
  pub arc : l.arc ≡ a
  pub history : l.history ≡ []
  pub room : 0 < l.spare

-- There is a new ledger for each of the first n arcs, in order.
pub record AreNewLedgers (d : Deal) (n : ℕ) (ls : List LedgerState) : Type 0 where
  pub one_each : length ls ≡ n
  pub each : (a : ℕ) (l : LedgerState) → a < length ls → l ≡ slice_index_or ls a l → IsNewLedger d a l

-- each ledger has room for an entry
abbrev pub HaveRoom : List LedgerState → Type 0
HaveRoom ls = (a : ℕ) (l : LedgerState) → a < length ls → l ≡ slice_index_or ls a l → 0 < l.spare

-- There is one ledger per arc, in order.
pub record AreArcLedgers (d : Deal) (ls : List LedgerState) : Type 0 where
  pub one_each : length ls ≡ length d.graph.arcs
  pub each : (a : ℕ) (l : LedgerState) → a < length ls → l ≡ slice_index_or ls a l → IsArcLedger d a l

-- The player is the one of party v of the deal. The party conforms or not, as `conforms` tells, and
-- has this seed and this role.
abbrev pub IsPartyActor : {J : Type 0} → Deal → Bool → Option (List ℕ) → Role → ℕ → Player J → Type 0
IsPartyActor d conforms seed role v (Conforming m j) = (conforms ≡ true) × (m.deal ≡ d) × (m.me ≡ v) × (seed ≡ Some m.seed)
IsPartyActor d conforms seed role v (Planned n) = (conforms ≡ false) × (is_planned role ≡ true)
IsPartyActor d conforms seed role v Manual = (conforms ≡ false) × (is_planned role ≡ false)

-- There is one player per party, in order.
pub record ArePartyActors {J : Type 0} (d : Deal) (conforming : List Bool) (seeds : List (Option (List ℕ))) (roles : List Role) (xs : List (Player J)) : Type 0 where
  pub one_each : length xs ≡ d.graph.n
  pub each : (v : ℕ) (x : Player J) → v < length xs → x ≡ slice_index_or xs v x
      → IsPartyActor d (slice_index_or conforming v false) (slice_index_or seeds v None) (slice_index_or roles v kinds.Manual) v x

pub record WorldHolds (w : Inside) : Type 0 where
  pub ready : IsReadyCast (inside_cast w)
  pub ledgers : AreArcLedgers w.deal w.ledgers.items
  pub actors : ArePartyActors w.deal w.conforming w.seeds w.roles w.actors.items
  pub askers : length w.askers.items ≡ length w.answers.items
  pub told : length w.told.items ≡ length w.answers.items
  pub good : w.stopped ≡ false → IsGood (inside_cast w) (inside_run_state w)
  pub room : w.stopped ≡ false → HaveRoom w.ledgers.items
  pub journals : w.stopped ≡ false → AreJournaled w.deal w.actors.items
  pub disks : w.stopped ≡ true → HaveDisks w.deal (inside_run_state w).book w.actors.items
  -- also where memory ran out
  pub kept : IsKept (inside_cast w) (inside_run_state w).book
