use Rattle.std.proofs.Common.{ℕ, List, Bool, sym, ap, subst}
use Rattle.swap_job.specs.declared.job.Role.{Role}
use Rattle.swap_world.specs.Actors.{AreHeld}
use Rattle.swap_world.specs.Value.{WorldState}
use Rattle.tests_books.proofs.Acting.{are_held, have_roles}
use Rattle.tests_books.proofs.tests.memory.played.Goals as goal

pub new-requires-clause-roles : goal.new-requires-clause-roles
new-requires-clause-roles g c = have_roles c.args.job.now c.requires.whole c.requires.scripts

pub run-requires-clause-held : goal.run-requires-clause-held
run-requires-clause-held g c =
    let has : List ℕ → Bool = g.A.Strategies.holds c.args.strategies.now in
    subst (λ (rs : List Role). AreHeld has rs) (sym (ap (λ (w : WorldState). w.roles) c.in_ok-world.ensures.new))
    (are_held has c.args.job.now.roles c.requires.strategies)
