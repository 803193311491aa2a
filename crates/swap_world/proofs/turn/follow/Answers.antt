use Rattle.std.proofs.Common.{◌≡◌, ℕ, Option, inr, sym, ap, ◌∙◌, subst}
use Rattle.ledger_core.specs.declared.entry.Call.{Call}
use Rattle.ledger_core.specs.Book.{history}
use Rattle.swap_rules.specs.Machine.{Begins}
use Rattle.swap_run.specs.Script.{next_call}
use Rattle.swap_run.specs.Run.{Plan}
use Rattle.swap_world.specs.Acting.{histories, taken}
use Rattle.swap_world.specs.On.{is_slot_swept}
use Rattle.swap_world.proofs.Ways.{if_ok, if_err}
use Rattle.swap_world.proofs.turn.follow.Goals as goal
use Rattle.swap_world.proofs.turn.follow.Goals.{After-take}

pub take-requires-clause-begins : goal.take-requires-clause-begins
take-requires-clause-begins c = λ a.
    subst (λ (n : Plan). Begins (history n.known a) (history (histories c.args.ledgers.now.items) a)) (sym c.in_ok-made.ensures.turned) (c.requires.begins a)

-- The histories behind the call.
module _ (c : goal.After-take) where
  gone : histories c.take.new.ledgers.items
      ≡ taken (is_slot_swept c.args.swept.now) c.args.deal.now c.args.me
      (next_call c.args.deal.now c.args.seeds.now c.args.planner.now.known c.args.planner.now.moves) (histories c.args.ledgers.now.items)
  gone =
      c.take.ensures.leaves
      ∙ ap (λ (o : Option (ℕ × Call)). taken (is_slot_swept c.args.swept.now) c.args.deal.now c.args.me o (histories c.args.ledgers.now.items))
      c.in_ok-made.ensures.exact

pub returns-clause-ok : goal.returns-clause-ok
returns-clause-ok c = if_ok c.take.result (gone (goal.at.returns-clause-ok c).After-take)

pub returns-clause-err : goal.returns-clause-err
returns-clause-err c = if_err c.take.result (inr (gone (goal.at.returns-clause-err c).After-take))
