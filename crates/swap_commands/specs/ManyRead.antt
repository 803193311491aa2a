-- How an input of several swaps is read, line by line, and which state their worlds reach.
use Rattle.std.specs.Prelude.{◌≡◌, ℕ, Bool, List, ◌++◌, map, fold, Result, Ok}
use Rattle.std.specs.List.{All}
use Rattle.swap_base.specs.Fault.{◌>>=◌}
use Rattle.swap_base.specs.declared.fault.Fault.{Fault}
use Rattle.swap_base.specs.declared.fault.Fault.TheVariants.{Refused, NoMemory}
use Rattle.swap_job.specs.declared.job.Finish.{Finish}
use Rattle.command_input.specs.declared.refusal.Refusal.{Refusal}
use Rattle.command_input.specs.Lines.{collect_lines, filled_lines}
use Rattle.swap_run.specs.Asked.{Answers}
use Rattle.swap_world.specs.Gone.{MayGive}
use Rattle.swap_world.specs.Value.{new_world}
use Rattle.swap_many.specs.Kept.{kept_step}
use Rattle.swap_many.specs.Laws.{IsReadySetup}
use Rattle.swap_many.specs.Opening.{AreOpenable, new_many}
use Rattle.swap_many.specs.Value.{AreAllHeld, HasManyGone, ManyState, made_setup}
use Rattle.swap_many.specs.declared.many_event.ManyEvent.{ManyEvent}
use Rattle.swap_many.specs.declared.overdrawn.Overdrawn.{Overdrawn}
use Rattle.swap_many.specs.declared.place.Place.{Place}
use Rattle.many_lines.specs.Heading.{HeadingState}
use Rattle.many_lines.specs.Setup.{MayCome, setup_with_answers}
use Rattle.many_lines.specs.Whole.{AreBoundedChains, AreSwaps}
use Rattle.many_lines.specs.declared.many_job.ManyJob.{ManyJob}
use Rattle.many_lines.specs.declared.stage.Stage.TheVariants.{Over}
use Rattle.command_input.specs.Input.{CanBeLeft, Desk, Ends, Stands, ahead}
use Rattle.swap_commands.specs.Many.{events_told, headed, opened_places, overdrawn_refusal}

-- The lines up to that of the finish were read: whatever comes after them are the lines of the
-- events.
pub record IsHeading (has : List ℕ → Bool) (h : HeadingState) (old new : Desk) : Type 0 where
  pub bytes : List ℕ
  pub stands : Stands old new bytes
  pub finish : Finish
  pub stage : h.stage ≡ Over finish
  pub first : (rest : List ℕ) → CanBeLeft new.at rest
      → headed has (ahead old.at (bytes ++ rest)) ≡ Ok (record { many = h.many; finish = finish; lines = ahead new.at rest })

-- what is said of the account that lacks units, unless memory runs out
abbrev pub IsLack : ManyJob → Fault Overdrawn → Fault Refusal → Type 0
IsLack many lack NoMemory = Unit {0}
IsLack many (Refused l) (Refused refusal) = refusal ≡ overdrawn_refusal many l
IsLack many NoMemory (Refused refusal) = ⊥

-- the worlds of the swaps before any event
abbrev pub new_worlds : ManyJob → List (List Place) → ManyState
new_worlds many places = new_many many.units (map new_world many.jobs) places

-- The worlds are those of the swaps before any event, and each account has what is set aside from
-- it.
pub record AreOpenedWorlds (many : ManyJob) (w : ManyState) : Type 0 where
  pub places : List (List Place)
  pub are_placed : opened_places many ≡ Ok places
  pub openable : AreOpenable many.units (map new_world many.jobs) places
  pub new : w ≡ new_worlds many places
  pub ready : (g : ℕ → Answers) → IsReadySetup (setup_with_answers g many places)

-- the worlds are those of the swaps
abbrev pub AreSwapWorlds : ManyJob → ManyState → Type 0
AreSwapWorlds many w = (g : ℕ → Answers) → made_setup w g ≡ setup_with_answers g many w.places

-- The worlds are those of the swaps, and can take their next event, where these strategies exist.
pub record CanReplayMany (holds : List ℕ → Bool) (many : ManyJob) (w : ManyState) : Type 0 where
  pub chains : AreBoundedChains many
  pub swaps : AreSwaps many
  pub are_worlds : AreSwapWorlds many w
  pub held : AreAllHeld holds w

-- The worlds have stepped by an event that may come.
pub record HasStepped (gives : MayGive) (many : ManyJob) (old : ManyState) (event : ManyEvent) (new : ManyState) : Type 0 where
  pub gone : HasManyGone gives (λ m z. kept_step m z event) old new
  pub can : MayCome many event

-- what events make of the worlds
abbrev pub HasReplayed : MayGive → List ManyEvent → (old new : ManyState) → Type 0
HasReplayed gives events old new = HasManyGone gives (λ m z. fold (kept_step m) z events) old new

-- The lines ahead told events, to which the worlds have come.
pub record HaveReplayed (gives : MayGive) (many : ManyJob) (old new : ManyState) (first now : Desk) : Type 0 where
  pub events : List ManyEvent
  pub told : Ends (λ bytes. events_told many 0 (ahead first.at bytes) ≡ Ok events) first now
  pub gone : HasReplayed gives events old new
  pub can : All (MayCome many) events

-- the places of the arcs, once every line told an event
abbrev pub places_after_events : ManyJob → List (ℕ × List ℕ) → Result (List (List Place)) Refusal
places_after_events many ls = events_told many 0 ls >>= λ events. opened_places many

-- The worlds were opened, and have come to where the lines ahead lead.
pub record AreRun (gives : MayGive) (many : ManyJob) (w : ManyState) (first now : Desk) : Type 0 where
  pub new : ManyState
  pub begun : AreOpenedWorlds many new
  pub replayed : HaveReplayed gives many new w first now

-- The bytes are several swaps, and the worlds have come to where their events lead.
pub record IsManyPlayed (has : List ℕ → Bool) (gives : MayGive) (bytes : List ℕ) (many : ManyJob) (finish : Finish) (w : ManyState) : Type 0 where
  pub lines : List (ℕ × List ℕ)
  pub events : List ManyEvent
  pub new : ManyState
  pub is_headed : headed has (filled_lines 1 (collect_lines bytes)) ≡ Ok (record { many = many; finish = finish; lines = lines })
  pub are_told : events_told many 0 lines ≡ Ok events
  pub begun : AreOpenedWorlds many new
  pub gone : HasReplayed gives events new w
  pub can : All (MayCome many) events
