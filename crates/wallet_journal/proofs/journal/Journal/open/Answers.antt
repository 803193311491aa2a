use Rattle.wallet_journal.proofs.Moments.{weaker}
use Rattle.wallet_journal.proofs.journal.Journal.open.Goals as goal

pub returns-in-Ok-clause-any_moment : goal.returns-in-Ok-clause-any_moment
returns-in-Ok-clause-any_moment g c =
    weaker g.D.Disk.moment g.D.Disk.left_since c.args.disk c.opened.new.disk _ _ c.opened.ensures.any_moment (λ e there. there.keeps)

pub returns-in-Err-clause-any_moment : goal.returns-in-Err-clause-any_moment
returns-in-Err-clause-any_moment g c =
    weaker g.D.Disk.moment g.D.Disk.left_since c.args.disk c.opened.new.disk _ _ c.opened.ensures.any_moment (λ e there. there.keeps)
