use Rattle.std.proofs.Common.{◌≡◌, false, sym, ◌∙◌, ap}
use Rattle.wallet_journal.specs.Layout.{is_made}
use Rattle.wallet_journal.proofs.Moments.{weaker, both}
use Rattle.wallet_journal.proofs.Finds.{head_made, there, unused_there}
use Rattle.wallet_journal.proofs.opening.opened.Goals as goal

pub returns-else-is_made-clause-any_moment : goal.returns-else-is_made-clause-any_moment
returns-else-is_made-clause-any_moment g c =
    let old = g.D.Disk.seen c.args.disk.now in
    let before = g.D.Disk.may_leave c.args.disk.now in
    let unmade : is_made (g.D.Disk.seen c.args.disk.now) ≡ false =
    sym (ap is_made c.in_ok-head.ensures.same) ∙ sym (head_made (g.D.Disk.seen c.read_head.new.disk) c.in_ok-head.head c.in_ok-head.ensures.bytes)
    ∙ sym c.is_made.ensures ∙ c.if-is_made.false in
    both g.D.Disk.moment g.D.Disk.left_since c.args.disk.now c.read_head.new.disk c.begun.new.disk _
    (weaker g.D.Disk.moment g.D.Disk.left_since c.args.disk.now c.read_head.new.disk _ _ c.read_head.ensures.left
    (λ e here. there c.args.deal.now c.args.me before e here))
    (weaker g.D.Disk.moment g.D.Disk.left_since c.read_head.new.disk c.begun.new.disk _ _ c.begun.ensures.any_moment
    (λ e unused. unused_there c.args.deal.now c.args.me before old e c.read_head.ensures.among unmade unused))
