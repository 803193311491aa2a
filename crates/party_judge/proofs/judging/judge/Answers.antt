use Rattle.party_judge.proofs.Promises.{text_promise}
use Rattle.party_judge.proofs.judging.judge.Goals as goal

pub returns-in-Ok-clause-promised : goal.returns-in-Ok-clause-promised
returns-in-Ok-clause-promised c =
    text_promise c.args.form c.args.text.now c.in-Ok.lines c.in-Ok.ensures c.lines_judgement.result c.lines_judgement.ensures.promised
