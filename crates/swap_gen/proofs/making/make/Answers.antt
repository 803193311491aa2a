use Rattle.swap_gen.proofs.Accepting.{made_accepted}
use Rattle.swap_gen.proofs.Owning.{owned_by}
use Rattle.swap_gen.proofs.making.make.Goals as goal

pub returns-clause-accepted : goal.returns-clause-accepted
returns-clause-accepted c = made_accepted c.args.job.now.seeds c.args.job.now.deal _ c.requires.proposed c.in_ok-made_deal.ensures

pub returns-clause-owned : goal.returns-clause-owned
returns-clause-owned c = owned_by c.args.job.now _ c.requires.seeds c.in_ok-copy-3.ensures c.in_ok-made_deal.ensures
