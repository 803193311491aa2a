use Rattle.swap_gen.specs.Drawn.{generated}
use Rattle.made_jobs.proofs.Playing.{goes_on_new, is_of_new, job_conforming, job_roles, job_seeds, job_wallets, starts}
use Rattle.made_jobs.proofs.played.first_world.Goals as goal

pub new_world-requires-clause-conforming : goal.new_world-requires-clause-conforming
new_world-requires-clause-conforming c = job_conforming c.job.result.now c.args.generator.now.seed c.args.generator.now.parties c.job.ensures.exact

pub new_world-requires-clause-seeds : goal.new_world-requires-clause-seeds
new_world-requires-clause-seeds c = job_seeds c.job.result.now c.args.generator.now.seed c.args.generator.now.parties c.job.ensures.exact

pub new_world-requires-clause-roles : goal.new_world-requires-clause-roles
new_world-requires-clause-roles c = job_roles c.job.result.now c.args.generator.now.seed c.args.generator.now.parties c.job.ensures.exact

pub new_world-requires-clause-wallets : goal.new_world-requires-clause-wallets
new_world-requires-clause-wallets c =
    job_wallets c.job.result.now (generated c.args.generator.now.seed c.args.generator.now.parties) c.args.wallets.items c.job.ensures.exact c.requires

pub returns-clause-of : goal.returns-clause-of
returns-clause-of c =
    is_of_new c.job.result.now (generated c.args.generator.now.seed c.args.generator.now.parties) c.in_ok-world.world c.job.ensures.exact c.in_ok-world.ensures

pub returns-clause-state : goal.returns-clause-state
returns-clause-state c =
    starts c.job.result.now (generated c.args.generator.now.seed c.args.generator.now.parties) c.in_ok-world.world c.job.ensures.exact c.in_ok-world.ensures

pub returns-clause-goes_on : goal.returns-clause-goes_on
returns-clause-goes_on c = goes_on_new c.job.result.now c.in_ok-world.world c.in_ok-world.ensures
