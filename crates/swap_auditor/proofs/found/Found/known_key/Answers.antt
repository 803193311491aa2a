use Rattle.swap_auditor.proofs.Signed.{shared_is_known, found_is_signed}
use Rattle.swap_auditor.proofs.found.Found.known_key.Goals as goal
use Rattle.swap_auditor.proofs.found.Found.known_key.Goals.{then-most-shared+then-shares_last, else-most-shared}

pub loop-found-preserved : goal.loop-found-preserved
loop-found-preserved c =
    elim c.if-most-shared.branch [
      | then-most-shared+then-shares_last w ↦
          rw (w.most-is, ← c.self.view_is)
          (shared_is_known _ c.self.inside.deal c.args.key.now w.deref-then-most-shared.result.now (w.shares_last.ensures w.if-shares_last.true)
          (found_is_signed c.self.inside.deal c.self.inside.keys.items c.deref-found-items.result.now c.loop-found.found-index c.found-item.result _
          c.deref-found-items.ensures.value c.self.invariant c.loop-found-test.true c.found-item.is w.deref-then-most-shared.ensures))
      | else-most-shared w ↦ rw w.most-is c.loop-found.invariant
    ]
