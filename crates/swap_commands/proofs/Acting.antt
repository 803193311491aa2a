-- What acts for the parties of a whole job, in the words of a world.
use Rattle.swap_job.specs.declared.job.Job.{Job}
use Rattle.swap_world.specs.Actors.{HaveRoles}
use Rattle.swap_offer.specs.Job.{IsWholeJob}
use Rattle.swap_offer.specs.Wallets.{HaveScripts}

pub have_roles : (job : Job) → IsWholeJob job → HaveScripts job → HaveRoles job
have_roles job whole scripts = record {
  conforming = whole.acting;
  scripts = scripts;
}
