use Rattle.std.proofs.Common.{◌∷◌, [], ◌++◌, sym, ◌∙◌}
use Rattle.wallet_journal.proofs.Tells.{sigs_more}
use Rattle.wallet_journal.proofs.bodies.parse_sigs.Goals as goal

pub each-preserved : goal.each-preserved
each-preserved c =
    c.in_ok-push.ensures.items ∙ (λ i. c.each.invariant i ++ c.read_sig.ensures i ∷ []) ∙ sym (sigs_more c.each.j c.args.bytes.now)
