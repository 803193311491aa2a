-- What acts for the parties of a whole job, in the words of a world.
use Rattle.std.proofs.Common.{ℕ, List, Bool}
use Rattle.swap_job.specs.declared.job.Job.{Job}
use Rattle.swap_job.specs.declared.job.Role.{Role}
use Rattle.swap_job.specs.declared.job.Role.TheVariants as kinds
use Rattle.swap_world.specs.Actors.{AreHeld, HaveRoles}
use Rattle.offer_header.specs.Limits.{HoldsEach}
use Rattle.swap_offer.specs.Job.{IsWholeJob}
use Rattle.swap_offer.specs.Wallets.{HaveScripts}

pub have_roles : (job : Job) → IsWholeJob job → HaveScripts job → HaveRoles job
have_roles job whole scripts = record {
  conforming = whole.acting;
  scripts = scripts;
}

pub are_held : (has : List ℕ → Bool) (roles : List Role) → HoldsEach has roles → AreHeld has roles
are_held has roles h p lt = h p kinds.Manual lt
