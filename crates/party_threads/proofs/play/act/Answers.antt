use Rattle.party_threads.proofs.Acting.{can_call, able_acted, fewer}
use Rattle.party_threads.proofs.play.act.Goals as goal

pub submit-requires-clause-can : goal.submit-requires-clause-can
submit-requires-clause-can g c =
    let e = c.in_ok-next.ensures in
    can_call c.args.machine.now c.next.new.self c.in_ok-next.field-0 c.in-Some.due c.requires.seated.able c.in-Some.is
    e.due e.same _

pub returns-in_ok-submit-in-Some-clause-seated : goal.returns-in_ok-submit-in-Some-clause-seated
returns-in_ok-submit-in-Some-clause-seated g c =
    let e = c.in_ok-next.ensures in
    let t = c.in_ok-submit-in-Some.ensures in
    record {
      able =
          able_acted c.args.machine.now c.next.new.self c.in_ok-next.field-0 c.in-Some.due c.requires.seated.able c.in-Some.is
          e.due e.same c.submit.new.learner e.signed t.submitted.learnt t.rest;
      watching = t.submitted.watching;
    }

pub returns-in_ok-submit-in-Some-clause-fewer : goal.returns-in_ok-submit-in-Some-clause-fewer
returns-in_ok-submit-in-Some-clause-fewer g c = λ made.
    let e = c.in_ok-next.ensures in
    let t = c.in_ok-submit-in-Some.ensures in
    fewer c.args.machine.now c.next.new.self c.in_ok-next.field-0 c.in-Some.due c.requires.seated.able c.in-Some.is
    e.due e.same c.submit.new.learner e.signed t.submitted.learnt t.rest
