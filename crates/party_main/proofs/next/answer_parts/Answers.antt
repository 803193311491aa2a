use Rattle.party_main.proofs.Cutting.{seed_answer}
use Rattle.party_main.proofs.next.answer_parts.Goals as goal

pub returns-clause-promised : goal.returns-clause-promised
returns-clause-promised c =
    seed_answer c.args.name.now c.args.line.now c.args.rest.now c.in_ok-seed.seed c.answer.result c.in_ok-seed.ensures c.answer.ensures.promised
