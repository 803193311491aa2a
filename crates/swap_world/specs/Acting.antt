-- What an act of a machine, or a call of another party, makes of the histories and of what the
-- party knows, where slots may be swept.
use Rattle.std.specs.Prelude.{◌≡◌, ◌==◌, ◌||◌, ◌<◌, ℕ, ◌+◌, Bool, true, IsTrue, List, length, map, slice_set, Option, Some, None, if◌then◌else◌}
use Rattle.swap_digraph.specs.declared.deal.Deal.{Deal}
use Rattle.swap_digraph.specs.Deal.{party, counterparty}
use Rattle.ledger_core.specs.declared.entry.Call.{Call}
use Rattle.ledger_core.specs.declared.entry.Entry.{Entry}
use Rattle.ledger_core.specs.Value.{LedgerState}
use Rattle.ledger_core.specs.History.{fit}
use Rattle.ledger_core.specs.CallSignatures.{presents_valid}
use Rattle.ledger_core.specs.Book.{Histories, history}
use Rattle.swap_run.specs.Script.{moves_left}
use Rattle.swap_rules.specs.Due.{Action}
use Rattle.ledger_core.specs.Ledger.{after_call}
use Rattle.swap_run.specs.Run.{Plan, Question, plan_with_ledger, signed_through_call, after_tick}
use Rattle.swap_run.specs.Called.{is_barred}
use Rattle.party_machine.specs.Machine.{MachineState}
use Rattle.swap_world.specs.On.{call_told}
use Rattle.swap_world.specs.declared.call_outcome.Told.{Told}
use Rattle.swap_world.specs.declared.call_outcome.Told.TheVariants.{Nothing}

-- The call fits, stands on an arc that touches party v, and presents no hashkey that isn't valid.
pub record IsMakable (d : Deal) (v : ℕ) (x : Action) : Type 0 where
  pub arc : x.arc < length d.graph.arcs
  pub of_the_two : IsTrue ((v == party d x.arc) || (v == counterparty d x.arc))
  pub fits : IsTrue (fit d x.arc x.call)
  pub valid : presents_valid d x.arc x.call ≡ true

-- Both machines have the same party, deal and seed.
pub record IsSameOwner (old new : MachineState) : Type 0 where
  pub deal : new.deal ≡ old.deal
  pub me : new.me ≡ old.me
  pub seed : new.seed ≡ old.seed

-- the histories of ledgers
abbrev pub histories : List LedgerState → Histories
histories ls = map (λ l. l.history) ls

-- the history of arc a after a call of p, which leaves no entry where it is barred
abbrev pub landed : (swept : Bool) → Deal → (a p : ℕ) → Call → List Entry → List Entry
landed swept d a p c h = if is_barred swept h c then h else after_call d a p c h

-- the histories after a call of the machine, if any
abbrev pub next_book : (ℕ → Bool) → MachineState → Option Action → Histories → Histories
next_book swept m None b = b
next_book swept m (Some x) b = slice_set b x.arc (landed (swept x.arc) m.deal x.arc m.me x.call (history b x.arc))

-- the machine after its call, if any: it notes what it signed, and knows the ledger up to its end
abbrev pub next_machine : (ℕ → Bool) → MachineState → Option Action → Histories → MachineState
next_machine swept m None b = m
next_machine swept m (Some x) b = record {
  deal = m.deal;
  me = m.me;
  seed = m.seed;
  known = slice_set m.known x.arc (landed (swept x.arc) m.deal x.arc m.me x.call (history b x.arc));
  signed = signed_through_call m.signed x.call;
}

-- what the machine's party is told
abbrev pub build_told : (ℕ → Bool) → MachineState → Option Action → Histories → Told
build_told swept m None b = Nothing
build_told swept m (Some x) b = call_told (swept x.arc) m.deal x.arc m.me x.call (history b x.arc)

-- the histories after a call of party v that doesn't conform, if any
abbrev pub taken : (ℕ → Bool) → Deal → ℕ → Option (ℕ × Call) → Histories → Histories
taken swept d v None b = b
taken swept d v (Some x) b = slice_set b x.0 (landed (swept x.0) d x.0 v x.1 (history b x.0))

-- the plan of party v after its call, if any: it knows the ledger up to its end
abbrev pub seen : (ℕ → Bool) → Deal → ℕ → Option (ℕ × Call) → Histories → Plan → Plan
seen swept d v None b n = n
seen swept d v (Some x) b n = plan_with_ledger n x.0 (landed (swept x.0) d x.0 v x.1 (history b x.0))

-- what party v is told
abbrev pub party_told : (ℕ → Bool) → Deal → ℕ → Option (ℕ × Call) → Histories → Told
party_told swept d v None b = Nothing
party_told swept d v (Some x) b = call_told (swept x.0) d x.0 v x.1 (history b x.0)

-- the plan of a party after it asked its strategy
abbrev pub asked_once : Plan → Plan
asked_once n = record n { turns = n.turns + 1 }

-- what party v asks the strategy of that name, with that plan
abbrev pub answer_question : List ℕ → ℕ → Plan → Question
answer_question name v n = record { strategy = name; party = v; turn = n.turns; known = n.known }

-- the plan of a party after it took the next call of its script
abbrev pub turned : Plan → Plan
turned n = record n { moves = moves_left n.known n.moves; turns = n.turns + 1 }

-- the histories after a tick of the ledger of arc a by k
abbrev pub tick_book : ℕ → Histories → ℕ → Histories
tick_book k b a = slice_set b a (after_tick k (history b a))
