-- The laws of a step taken apart, and of steps where slots are swept.
use Rattle.std.specs.Prelude.{◌≡◌, ℕ, ◌<◌, Bool, true, false, length, Some, None}
use Rattle.ledger_core.specs.Ledger.{after_call}
use Rattle.ledger_core.specs.Book.{history}
use Rattle.swap_job.specs.declared.event.Event.{Event}
use Rattle.swap_job.specs.declared.event.Event.TheVariants as events
use Rattle.swap_job.specs.Step.{CanStep}
use Rattle.swap_run.specs.Run.{Cast, State, step}
use Rattle.swap_run.specs.Fair.{turns}
use Rattle.swap_run.specs.Laws.{IsReadyCast, IsGood}
use Rattle.swap_run.specs.Called.{Called, called, before_call, called_state, is_barred, apply_step, swept_turns}

-- the event is no tick
abbrev pub is_no_tick : Event → Bool
is_no_tick (events.Tick a k) = false
is_no_tick _ = true

-- What an event of a run does, taken apart.
pub record IsSplit (c : Cast) (s : State) (e : Event) : Type 0 where
  -- without a call it is what it does before
  pub alone : called c s e ≡ None → step c s e ≡ before_call c s e
  -- with one its ledger has come to what the call leaves
  pub calls : (x : Called) → called c s e ≡ Some x → step c s e ≡ called_state c s e x (after_call c.deal x.arc x.sender x.call (history s.book x.arc))
  pub calm : (before_call c s e).book ≡ s.book

abbrev pub CallsSplit : Type 0
CallsSplit = (c : Cast) (s : State) (e : Event) → is_no_tick e ≡ true → IsSplit c s e

-- what is called in a good state stands on an arc of the deal
abbrev pub CallsArePlaced : Type 0
CallsArePlaced =
    (c : Cast) (s : State) (e : Event) (x : Called) → IsReadyCast c → CanStep c.deal c.conforming c.seeds e → IsGood c s → called c s e ≡ Some x
    → x.arc < length c.deal.graph.arcs

-- a call that leaves no entry on a swept slot leaves the state good
abbrev pub PassedIsGood : Type 0
PassedIsGood =
    (c : Cast) (s : State) (e : Event) (x : Called) → IsReadyCast c → CanStep c.deal c.conforming c.seeds e → IsGood c s → called c s e ≡ Some x
    → is_barred true (history s.book x.arc) x.call ≡ true → IsGood c (called_state c s e x (history s.book x.arc))

-- Where slots are swept.

-- where no slot is swept, steps and turns are those of a run
abbrev pub NoneSwept : Type 0
NoneSwept = (c : Cast) (s : State) → ((e : Event) → apply_step (λ a. false) c s e ≡ step c s e) × (swept_turns (λ a. false) c s ≡ turns c s)

-- a step leaves a good state good, whatever is swept
abbrev pub StepsOnAreGood : Type 0
StepsOnAreGood =
    (swept : ℕ → Bool) (c : Cast) (s : State) (e : Event) → IsReadyCast c → CanStep c.deal c.conforming c.seeds e → IsGood c s
    → IsGood c (apply_step swept c s e)
