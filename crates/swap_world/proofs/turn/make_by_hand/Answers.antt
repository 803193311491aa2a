use Rattle.std.proofs.Common.{◌≡◌, ℕ, Option, inr, sym, ap, ◌∙◌}
use Rattle.ledger_core.specs.declared.entry.Call.{Call}
use Rattle.swap_job.specs.Resolved.{resolved}
use Rattle.swap_run.proofs.Scripts.{may_resolve}
use Rattle.swap_world.specs.Acting.{histories, taken}
use Rattle.swap_world.specs.On.{is_slot_swept}
use Rattle.swap_world.proofs.Ways.{if_ok, if_err}
use Rattle.swap_world.proofs.Ledgers.{legal_book}
use Rattle.swap_world.proofs.turn.make_by_hand.Goals as goal
use Rattle.swap_world.proofs.turn.make_by_hand.Goals.{After-take}

pub take-requires-clause-may : goal.take-requires-clause-may
take-requires-clause-may c =
    let d = c.args.deal.now in
    let ls = c.args.ledgers.now.items in
    λ x q. may_resolve d c.args.seeds.now c.args.made.now.sender (histories ls) c.args.made.now.mv.now (legal_book d ls c.requires.ledgers)
    (record { fits = c.requires.fits; adjacent = c.requires.near }) x
    (ap (λ xs. resolved d c.args.seeds.now (histories xs) c.args.made.now.mv.now) (sym c.deref.ensures.value) ∙ (sym c.in_ok-due.ensures.exact ∙ q))

-- The histories behind the call.
module _ (c : goal.After-take) where
  gone : histories c.take.new.ledgers.items
      ≡ taken (is_slot_swept c.args.swept.now) c.args.deal.now c.args.made.now.sender
      (resolved c.args.deal.now c.args.seeds.now (histories c.args.ledgers.now.items) c.args.made.now.mv.now) (histories c.args.ledgers.now.items)
  gone =
      let d = c.args.deal.now in
      let ls = c.args.ledgers.now.items in
      c.take.ensures.leaves
      ∙ ap (λ (o : Option (ℕ × Call)). taken (is_slot_swept c.args.swept.now) d c.args.made.now.sender o (histories ls))
      (c.in_ok-due.ensures.exact ∙ ap (λ xs. resolved d c.args.seeds.now (histories xs) c.args.made.now.mv.now) c.deref.ensures.value)

pub returns-clause-ok : goal.returns-clause-ok
returns-clause-ok c = if_ok c.take.result (gone (goal.at.returns-clause-ok c).After-take)

pub returns-clause-err : goal.returns-clause-err
returns-clause-err c = if_err c.take.result (inr (gone (goal.at.returns-clause-err c).After-take))
