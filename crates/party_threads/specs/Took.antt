-- What a turn asks for, and what it does.
use Rattle.std.specs.Prelude.{◌≡◌, ℕ, ◌<◌, Bool, false, List, length, Option, Some, None}
use Rattle.ledger_core.specs.Book.{history}
use Rattle.swap_job.specs.Roles.{IsHeld, job_role}
use Rattle.swap_job.specs.declared.job.Job.{Job}
use Rattle.ledger_shared.specs.Value.{PassState, ClockState, SharedState}
use Rattle.party_machine.specs.Machine.{MachineState, next_due}
use Rattle.swap_run.specs.Shown.{IsShown}
use Rattle.swap_run.specs.Run.{Plan}
use Rattle.swap_world.specs.Gone.{MayGive}
use Rattle.swap_world.specs.Acting.{IsSameOwner}
use Rattle.swap_world.specs.declared.player.Player.TheVariants.{Conforming, Planned, Manual}
use Rattle.party_threads.specs.declared.turn.Actor.{Actor}
use Rattle.party_threads.specs.declared.turn.Actor.TheVariants.{Party, Clock}
use Rattle.party_threads.specs.declared.turn.Turn.{Turn}
use Rattle.party_threads.specs.Later.{arc_pass, HaveAdvanced}
use Rattle.party_threads.specs.Tracks.{IsWatching, HaveSeenAll, IsSameElsewhere}
use Rattle.party_threads.specs.Able.{watcher, IsAble}
use Rattle.party_threads.specs.Ticks.{AreLedgerClocks, HaveClocksAdvanced, HaveTicked}
use Rattle.party_threads.specs.Played.{party_planner, HasPlayed}

-- A machine can act, and knows what its passes have seen.
pub record IsMachineSeated (ledgers : List SharedState) (m : MachineState) (ps : List (Option PassState)) : Type 0 where
  pub able : IsAble m
  pub watching : IsWatching ledgers (watcher m) ps

-- A party that follows a script or a strategy can act, and knows what its passes have seen.
pub record IsPlannerSeated (holds : List ℕ → Bool) (job : Job) (ledgers : List SharedState) (v : ℕ) (n : Plan) (ps : List (Option PassState)) : Type 0 where
  pub place : v < length job.roles
  pub shown : IsShown job.deal job.seeds v n
  pub held : IsHeld holds (job_role job v)
  pub watching : IsWatching ledgers (party_planner job.deal v n) ps

-- the actor has its passes
abbrev pub IsActorSeated : (List ℕ → Bool) → Job → List SharedState → ℕ → ℕ → List (Option PassState) → List (Option ClockState) → Actor → Type 0
IsActorSeated holds job ledgers ticks v ps cs (Party (Conforming m u)) = IsMachineSeated ledgers m ps
IsActorSeated holds job ledgers ticks v ps cs (Party (Planned n)) = IsPlannerSeated holds job ledgers v n ps
IsActorSeated holds job ledgers ticks v ps cs (Party Manual) = Unit {0}
IsActorSeated holds job ledgers ticks v ps cs Clock = AreLedgerClocks ticks ledgers cs

-- the actor with the number v has its passes
abbrev pub IsSeated : (List ℕ → Bool) → Job → List SharedState → ℕ → ℕ → Turn → Type 0
IsSeated holds job ledgers ticks v t = IsActorSeated holds job ledgers ticks v t.passes.items t.clocks.items t.actor

-- the actor is the same one at a later moment
abbrev pub IsSameActor : Actor → Actor → Type 0
IsSameActor (Party (Conforming m u)) (Party (Conforming n w)) = IsSameOwner m n
IsSameActor (Party (Planned n)) (Party (Planned m)) = Unit {0}
IsSameActor (Party Manual) y = y ≡ Party Manual
IsSameActor Clock y = y ≡ Clock
IsSameActor _ _ = ⊥

-- A conforming party knows all that was shared with it, and its own calls, and has nothing due.
pub record HasActed (m : MachineState) (old : List (Option PassState)) (n : MachineState) (new : List (Option PassState)) : Type 0 where
  pub able : IsAble n
  pub seen : (a : ℕ) (p : PassState) → a < length new → arc_pass new a ≡ Some p → p.seen ≡ history n.known a
  pub whole : HaveSeenAll new
  pub rests : next_due n ≡ None
  pub elsewhere : IsSameElsewhere old m.known n.known

-- A party that follows a script or a strategy was shown its view, made the call that answers it,
-- and knows what its passes have seen.
pub record HasPlanned (gives : MayGive) (job : Job) (v : ℕ) (n : Plan) (old : List (Option PassState)) (m : Plan) (new : List (Option PassState)) : Type 0 where
  pub shown : IsShown job.deal job.seeds v m
  pub seen : (a : ℕ) (p : PassState) → a < length new → arc_pass new a ≡ Some p → p.seen ≡ history m.known a
  pub played : HasPlayed gives job.deal job.seeds (job_role job v) v old n m

-- what an actor did in its turn, by its passes before and after it
abbrev pub Did : MayGive → Job → ℕ → ℕ → (ps qs : List (Option PassState)) → (cs ds : List (Option ClockState)) → Actor → Actor → Type 0
Did gives job ticks v ps qs cs ds (Party (Conforming m u)) (Party (Conforming n w)) = HasActed m ps n qs
Did gives job ticks v ps qs cs ds (Party (Planned n)) (Party (Planned m)) = HasPlanned gives job v n ps m qs
Did gives job ticks v ps qs cs ds (Party Manual) y = qs ≡ ps
Did gives job ticks v ps qs cs ds Clock y = HaveTicked ticks cs ds
Did gives job ticks v ps qs cs ds _ _ = ⊥

abbrev pub DidInTurn : MayGive → Job → ℕ → ℕ → Turn → Turn → Type 0
DidInTurn gives job ticks v old new = Did gives job ticks v old.passes.items new.passes.items old.clocks.items new.clocks.items old.actor new.actor

-- A turn leaves its actor and its passes, which have gone on; where memory was enough, it did what
-- it had to.
pub record Took (gives : MayGive) (job : Job) (ticks v : ℕ) (old new : Turn) : Type 0 where
  pub actor : IsSameActor old.actor new.actor
  pub passes : HaveAdvanced old.passes.items new.passes.items
  pub places : length new.passes.items ≡ length old.passes.items
  pub clocks : HaveClocksAdvanced old.clocks.items new.clocks.items
  pub clock_places : length new.clocks.items ≡ length old.clocks.items
  pub did : new.failed ≡ false → DidInTurn gives job ticks v old new
