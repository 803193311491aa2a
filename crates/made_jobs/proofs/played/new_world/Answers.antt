use Rattle.made_jobs.proofs.Playing.{have_seeds, owners_fit}
use Rattle.made_jobs.proofs.played.new_world.Goals as goal

pub fitting-requires-clause-seeds : goal.fitting-requires-clause-seeds
fitting-requires-clause-seeds c = have_seeds c.args.job.now c.requires.owned c.requires.conforming c.requires.seeds

pub fitting-requires-clause-fit : goal.fitting-requires-clause-fit
fitting-requires-clause-fit c = owners_fit c.args.job.now c.requires.owned
