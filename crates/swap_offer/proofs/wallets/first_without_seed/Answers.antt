use Rattle.std.proofs.Common.{◌<◌, ◌∙◌, sym, ap, is_some}
use Rattle.leader_check.proofs.Loops.{first_goes_on, first_is_found}
use Rattle.swap_offer.specs.Wallets.{no_seed}
use Rattle.swap_offer.proofs.wallets.first_without_seed.Goals as goal

pub returns-then-is_some : goal.returns-then-is_some
returns-then-is_some c =
    let job = c.args.job.now in
    let lt : c.loop-p.p < job.deal.graph.n = rw c.n-p-end.ensures at c.loop-p-test.true in
    c.no_seed-reason.ensures ∙ first_is_found (no_seed job) c.loop-p.p job.deal.graph.n _ lt
    (ap is_some (sym c.no_seed-reason.ensures) ∙ sym c.is_some.ensures ∙ c.if-is_some.true) c.loop-p.invariant

pub loop-p-preserved : goal.loop-p-preserved
loop-p-preserved c =
    let job = c.args.job.now in
    let lt : c.loop-p.p < job.deal.graph.n = rw c.n-p-end.ensures at c.loop-p-test.true in
    first_goes_on (no_seed job) c.loop-p.p job.deal.graph.n _ lt
    (ap is_some (sym c.no_seed-reason.ensures) ∙ sym c.is_some.ensures ∙ c.if-is_some.false) c.loop-p.invariant
