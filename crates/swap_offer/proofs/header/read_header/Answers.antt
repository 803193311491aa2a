use Rattle.std.proofs.Common.{◌≡◌, List, ℕ, Bool, Result, Ok, Err, sym, subst}
use Rattle.std.specs.Prelude.{IfOk}
use Rattle.swap_base.specs.declared.fault.Fault.{Fault}
use Rattle.command_input.specs.declared.refusal.Refusal.{Refusal}
use Rattle.swap_job.specs.declared.job.Role.{Role}
use Rattle.offer_header.specs.Header.{parse_whole_header}
use Rattle.offer_header.specs.Limits.{HoldsEach}
use Rattle.offer_header.specs.Names.{has_strategy}
use Rattle.swap_offer.specs.declared.prepared.Prepared.{Prepared}
use Rattle.swap_offer.proofs.Certified.{along, certifies, no_header}
use Rattle.swap_offer.proofs.header.read_header.Goals as goal

pub returns-in-Err-clause-certified : goal.returns-in-Err-clause-certified
returns-in-Err-clause-certified c = λ h e.
    let read = parse_whole_header (has_strategy c.args.strategies.now) c.args.purpose c.args.line c.args.text.now in
    rw c.with_names.ensures (no_header Prepared c.empty.result c.in-Err.fault read h c.in-Err.ensures.exact e)

pub returns-clause-certified : goal.returns-clause-certified
returns-clause-certified c = λ h e.
    along _ c.in-Ok.header h c.accept.result c.in-Ok.ensures.exact e
    (certifies c.in-Ok.header c.in-Ok.ensures.within (λ p. p.job) c.in-Ok.header.names c.accept.result c.accept.ensures.exact)

carried : (has : List ℕ → Bool) (roles : List Role) (result : Result Prepared (Fault Refusal)) → IfOk result (λ p. p.job.roles ≡ roles) → HoldsEach has roles
    → IfOk result (λ p. HoldsEach has p.job.roles)
carried has roles (Ok p) e h = subst (HoldsEach has) (sym e) h
carried has roles (Err fault) e h = tt

pub returns-clause-strategies : goal.returns-clause-strategies
returns-clause-strategies c =
    carried _ c.in-Ok.header.roles c.accept.result c.accept.ensures.acting c.in-Ok.ensures.strategies
