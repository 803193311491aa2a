-- What a party that follows a script or a strategy does in a turn: it is shown a view, and makes
-- the call that answers the view, if any.
use Rattle.std.specs.Prelude.{◌≡◌, ℕ, ◌+◌, ◌<◌, ◌==◌, List, [], ◌∷◌, ◌++◌, length, take, Option, Some, None, if◌then◌else◌}
use mathlib.Core.List.{IsPrefix}
use Rattle.swap_digraph.specs.declared.deal.Deal.{Deal}
use Rattle.ledger_core.specs.declared.entry.Call.{Call}
use Rattle.ledger_core.specs.declared.entry.Entry.{Entry}
use Rattle.ledger_core.specs.Book.{Histories, history}
use Rattle.ledger_shared.specs.Value.{PassState}
use Rattle.swap_job.specs.declared.job.Role.{Role}
use Rattle.swap_job.specs.declared.job.Role.TheVariants.{Conforming, Manual, Script, Strategy}
use Rattle.swap_job.specs.Crafted.{Seeds}
use Rattle.swap_run.specs.Script.{next_call, moves_left}
use Rattle.swap_run.specs.View.{IsView, MayAnswer}
use Rattle.swap_rules.specs.Party.{pick_call}
use Rattle.swap_rules.specs.Machine.{Begins}
use Rattle.swap_run.specs.Run.{Plan}
use Rattle.swap_world.specs.Gone.{MayGive}
use Rattle.party_threads.specs.Later.{arc_pass}
use Rattle.party_threads.specs.Tracks.{Watcher}

-- party v of the deal, with what it knows by its plan
abbrev pub party_planner : Deal → ℕ → Plan → Watcher
party_planner d v n = record { deal = d; me = v; known = n.known }

-- all of the plan but what its party knows
abbrev pub plan_rest : Plan → Plan
plan_rest n = record n { known = [] }

-- What a party has learned.

-- each history begins with what was known of it
abbrev pub HaveGrown : Histories → Histories → Type 0
HaveGrown old new = (a : ℕ) → Begins (history old a) (history new a)

-- The calls of a party.

abbrev pub with_optional_call : Option Call → List Call → List Call
with_optional_call None cs = cs
with_optional_call (Some c) cs = c ∷ cs

-- the calls of v, oldest first
abbrev pub sender_calls : ℕ → List Entry → List Call
sender_calls v [] = []
sender_calls v (e ∷ es) = with_optional_call (pick_call v e) (sender_calls v es)

-- the call of an answer, where it stands on arc a
abbrev pub arc_answer : ℕ → Option (ℕ × Call) → List Call
arc_answer a None = []
arc_answer a (Some x) = if x.0 == a then x.1 ∷ [] else []

-- the answer to a view, by the plan before it, and the plan after it
abbrev pub IsPlanAnswer : MayGive → Deal → Seeds → ℕ → Histories → Option (ℕ × Call) → Plan → Plan → Role → Type 0
IsPlanAnswer gives d seeds v view answer n m (Script moves) = (answer ≡ next_call d seeds view n.moves) × (m.moves ≡ moves_left view n.moves)
IsPlanAnswer gives d seeds v view answer n m (Strategy name) = gives name d v n.turns view answer
IsPlanAnswer gives d seeds v view answer n m Conforming = Unit {0}
IsPlanAnswer gives d seeds v view answer n m Manual = Unit {0}

-- of the answer the call is made, unless the ledger had 32 of the party
abbrev pub HasMadeCall : Deal → ℕ → Option (ℕ × Call) → Histories → Histories → Type 0
HasMadeCall d v answer old new = (a : ℕ) → a < length d.graph.arcs → sender_calls v (history new a) ≡ take 32 (sender_calls v (history old a) ++ arc_answer a answer)

-- What a call of an answer, if any, leaves of what its party knows.
pub record HasDone (d : Deal) (v : ℕ) (answer : Option (ℕ × Call)) (old new : Histories) : Type 0 where
  pub view : IsView d v new
  pub grown : HaveGrown old new
  pub called : HasMadeCall d v answer old new

-- The party with the plan n was shown a view. The view has all that was shared, and no call of the
-- party that it didn't know. The party made the call of the answer, if any, unless the ledger had
-- 32 entries of it. The call fits and stands on an arc that touches the party. Then the party has
-- the plan m.
pub record HasPlayed (gives : MayGive) (d : Deal) (seeds : Seeds) (role : Role) (v : ℕ) (ps : List (Option PassState)) (n m : Plan) : Type 0 where
  pub view : Histories
  pub answer : Option (ℕ × Call)
  pub shown : IsView d v view
  pub whole : (a : ℕ) (p : PassState) → a < length ps → arc_pass ps a ≡ Some p → IsPrefix p.shared (history view a)
  pub grows : HaveGrown n.known view
  pub begins : HaveGrown view m.known
  pub own : (a : ℕ) → sender_calls v (history view a) ≡ sender_calls v (history n.known a)
  pub called : HasMadeCall d v answer n.known m.known
  pub answered : IsPlanAnswer gives d seeds v view answer n m role
  pub may : MayAnswer d v answer
  pub turns : m.turns ≡ n.turns + 1
