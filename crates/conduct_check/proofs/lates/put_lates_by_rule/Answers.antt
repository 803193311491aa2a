use Rattle.conduct_check.specs.Judged.{judged_book}
use Rattle.conduct_check.proofs.Lateness.{lates_added}
use Rattle.conduct_check.proofs.lates.put_lates_by_rule.Goals as goal

pub returns : goal.returns
returns c =
    let j = c.args.judged.now in
    lates_added j.deal.now (judged_book j) j.party c.args.out.now.items c.put_late_publishes.new.out.items
    c.put_late_unlocks.new.out.items c.put_late_claims.new.out.items c.put_late_refunds.new.out.items
    c.in_ok-put_late_publishes.ensures c.in_ok-put_late_unlocks.ensures c.in_ok-put_late_claims.ensures c.in_ok-put_late_refunds.ensures
