use Rattle.party_threads.proofs.Acting.{IsActing}
use Rattle.party_threads.proofs.play.act_to_rest.Given as goal

abbrev pub invariant-acts : goal.invariant-acts
invariant-acts g l = IsActing l.side.ledgers.now l.fn.machine l.fn.passes l.counter l.machine l.passes
