use Rattle.std.proofs.Common.{◌≡◌, ◌∙◌, false, ap, get_or, sym, subst, All}
use Rattle.std.proofs.lemmas.List.{get_or_default}
use Rattle.swap_job.specs.Fitting.{IsPartyMove}
use Rattle.swap_job.specs.Roles.{job_role}
use Rattle.swap_job.specs.declared.job.Role.{Role}
use Rattle.swap_job.specs.declared.job.Role.TheVariants.{Manual}
use Rattle.swap_run.proofs.Scripts.{left_fit}
use Rattle.swap_run.specs.Asked.{is_strategy}
use Rattle.swap_run.specs.Run.{Plan}
use Rattle.swap_world.proofs.Gone.{names_none}
use Rattle.swap_world.proofs.Ledgers.{on_ok}
use Rattle.party_threads.proofs.Planning.{has_followed}
use Rattle.party_threads.proofs.play.answer.Goals as goal

pub returns-in_default-clause-answered : goal.returns-in_default-clause-answered
returns-in_default-clause-answered g c =
    let job = c.args.job.now in
    let r : Role = c.index-as_slice-me.result in
    let is : get_or job.roles c.args.me Manual ≡ r =
    get_or_default job.roles c.args.me Manual r c.requires.role ∙ sym (subst (λ rs. r ≡ get_or rs c.args.me r) c.as_slice.ensures c.index-as_slice-me.is) in
    let none : is_strategy (job_role job c.args.me) ≡ false = ap is_strategy is ∙ names_none r c.in_default.not-Strategy in
    has_followed (g.A.Strategies.gives c.args.strategies.now) job.deal job.seeds c.args.me c.args.planner.now c.follow.new.self (job_role job c.args.me)
    c.follow.result none (rw c.as_slice-in_default.ensures at c.follow.ensures.exact) c.follow.ensures.turned

pub returns-in_default-clause-moves : goal.returns-in_default-clause-moves
returns-in_default-clause-moves g c =
    let job = c.args.job.now in
    let n = c.args.planner.now in
    let P = IsPartyMove job.deal job.seeds c.args.me in
    on_ok c.follow.result (λ e. subst (λ (p : Plan). All P p.moves) (sym e) (left_fit P n.known n.moves c.requires.shown.moves)) c.follow.ensures.turned
