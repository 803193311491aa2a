use Rattle.std.proofs.Common.{ℕ, sym, ◌∙◌, subst}
use Rattle.std.specs.Prelude.{IsTrue, option_copied}
use Rattle.std.proofs.lemmas.Option.{same_Some}
use Rattle.ledger_core.specs.declared.entry.Call.{Call}
use Rattle.ledger_core.specs.History.{fit}
use Rattle.swap_job.proofs.Usable.{call_fits}
use Rattle.swap_job.proofs.resolved.resolve_keyed_move.Goals as goal

pub returns-in-Some-clause-fits : goal.returns-in-Some-clause-fits
returns-in-Some-clause-fits c = λ x q.
    subst (λ (y : ℕ × Call). IsTrue (fit c.args.deal.now y.0 y.1)) (same_Some (c.arc_of_move.result, c.in-Some.call) x q)
    (subst (λ a. IsTrue (fit c.args.deal.now a c.in-Some.call)) (sym c.arc_of_move.ensures)
    (call_fits c.args.deal.now c.args.seeds.now (option_copied c.args.key) c.args.mv.now c.requires.fits c.requires.key c.in-Some.call
    (sym c.in_ok-call.ensures ∙ c.in-Some.is)))
