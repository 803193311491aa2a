use Rattle.swap_world.proofs.Ledgers.{on_ok}
use Rattle.party_threads.proofs.Planning.{can_call, has_done, has_done_nothing}
use Rattle.party_threads.proofs.play.make.Goals as goal

pub submit-requires-clause-can : goal.submit-requires-clause-can
submit-requires-clause-can g c =
    can_call c.args.side.now.job.now.deal c.args.side.now.me c.args.planner.now c.args.answer c.in-Some.due c.requires.may c.in-Some.is

pub returns-in-None-clause-done : goal.returns-in-None-clause-done
returns-in-None-clause-done g c =
    has_done_nothing c.args.side.now.job.now.deal c.args.side.now.me c.args.answer c.args.planner.now.known c.requires.view c.in-None.is

pub returns-in-Some-clause-done : goal.returns-in-Some-clause-done
returns-in-Some-clause-done g c =
    on_ok c.submit.result (λ e.
    has_done c.args.side.now.job.now.deal c.args.side.now.me c.args.answer c.in-Some.due c.args.planner.now c.submit.new.learner c.requires.may
    c.requires.view c.in-Some.is e.learnt) c.submit.ensures.submitted
