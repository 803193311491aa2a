use Rattle.std.proofs.Common.{◌≡◌, Ok, sym, subst}
use Rattle.swap_job.specs.declared.job.Job.{Job}
use Rattle.swap_offer.specs.Wallets.{seeded, AreSimpleRoles, HaveRequiredScripts, IsUntoldJob}
use Rattle.swap_offer.proofs.Scripted.{scripts_for}
use Rattle.swap_offer.proofs.Size.{are_simple, is_untold}
use Rattle.swap_offer.proofs.header.accept.Goals as goal

pub returns-in-Ok-provide-clause-scripts : goal.returns-in-Ok-provide-clause-scripts
returns-in-Ok-provide-clause-scripts c =
    let h = c.args.header in
    let g = c.in-Ok.admitted.0 in
    subst (λ (j : Job). HaveRequiredScripts h.purpose j) (sym c.assemble_job-job.ensures)
    (scripts_for h g c.args.line tt c.requires.within c.in-Ok.ensures.ends c.in-Ok.ensures.parts.0 c.in-Ok.ensures.parts.1 c.requires.made
    c.requires.placed (subst (λ (j : Job). seeded j ≡ Ok tt) c.assemble_job-job.ensures c.in-Ok-provide.ensures.seeded))

pub returns-in-Ok-provide-clause-untold : goal.returns-in-Ok-provide-clause-untold
returns-in-Ok-provide-clause-untold c =
    let h = c.args.header in
    subst (λ (j : Job). IsUntoldJob h.purpose j) (sym c.assemble_job-job.ensures) (is_untold h c.in-Ok.admitted.0 c.requires.untold)

pub returns-in-Ok-provide-clause-roles : goal.returns-in-Ok-provide-clause-roles
returns-in-Ok-provide-clause-roles c =
    let h = c.args.header in
    subst (λ (j : Job). AreSimpleRoles h.purpose j) (sym c.assemble_job-job.ensures) (are_simple h c.in-Ok.admitted.0 c.requires.simple)
