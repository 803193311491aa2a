-- What the turn of a party leaves, where its call went well.
use Rattle.std.proofs.Common.{◌≡◌, ℕ, List, Option, sym, subst}
use Rattle.ledger_shared.specs.Value.{PassState, ClockState}
use Rattle.party_machine.specs.Machine.{MachineState}
use Rattle.swap_run.specs.Run.{Plan}
use Rattle.swap_job.specs.declared.job.Job.{Job}
use Rattle.swap_world.specs.Gone.{MayGive}
use Rattle.swap_world.specs.declared.player.Player.TheVariants.{Conforming, Planned}
use Rattle.party_threads.specs.declared.turn.Actor.{Actor}
use Rattle.party_threads.specs.declared.turn.Actor.TheVariants.{Party}
use Rattle.party_threads.specs.Took.{Did, HasActed, HasPlanned}

module _ (gives : MayGive) (job : Job) (ticks : ℕ) (v : ℕ) (ps qs qs' : List (Option PassState)) (cs ds : List (Option ClockState)) (x : Actor)
    (same : qs' ≡ qs) where
  pub conforming_did : (m n : MachineState) → x ≡ Party (Conforming m tt) → HasActed m ps n qs → Did gives job ticks v ps qs' cs ds x (Party (Conforming n tt))
  conforming_did m n is acted =
      subst (λ (w : Actor × List (Option PassState)). Did gives job ticks v ps w.1 cs ds w.0 (Party (Conforming n tt))) (λ i. (sym is i, sym same i)) acted

  pub planned_did : (n m : Plan) → x ≡ Party (Planned n) → HasPlanned gives job v n ps m qs → Did gives job ticks v ps qs' cs ds x (Party (Planned m))
  planned_did n m is planned =
      subst (λ (w : Actor × List (Option PassState)). Did gives job ticks v ps w.1 cs ds w.0 (Party (Planned m))) (λ i. (sym is i, sym same i)) planned
