use Rattle.party_answer.proofs.Asking.{promised}
use Rattle.party_answer.proofs.answering.answer_said.Goals as goal

pub returns-clause-promised : goal.returns-clause-promised
returns-clause-promised c =
    promised c.args.seed.now c.in_ok-asked.asked _ c.in_ok-answer_asked.field-0 c.in_ok-asked.ensures.asked c.in_ok-asked.ensures.exact
    c.in_ok-answer_asked.ensures
