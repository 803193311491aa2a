use Rattle.std.proofs.Common.{Result, sym, subst}
use Rattle.std.specs.Prelude.{IfOk}
use Rattle.swap_base.specs.Fault.{Gives}
use Rattle.party_answer.specs.declared.given.Answer.{Answer}
use Rattle.party_notes.specs.declared.reason.AnswerReason.{AnswerReason}
use Rattle.party_notes.specs.Asked.{PartyQuestion, said_asked}
use Rattle.party_answer.specs.Text.{said_answer}
use Rattle.party_answer.specs.Promised.{IsPromisedAnswer}
use Rattle.party_answer.proofs.Asking.{lines_give, lines_refused}
use Rattle.party_answer.proofs.answering.answer_lines.Goals as goal

pub returns-in-Ok-clause-exact : goal.returns-in-Ok-clause-exact
returns-in-Ok-clause-exact c =
    subst (λ (r : Result Answer AnswerReason). Gives (λ a. a) c.answer_said.result r)
    (sym (lines_give c.args.first c.args.lines.now _ (said_answer c.args.first c.args.name.now c.args.seed.now) c.in-Ok.ensures.exact))
    c.answer_said.ensures.exact

pub returns-in-Ok-clause-promised : goal.returns-in-Ok-clause-promised
returns-in-Ok-clause-promised c =
    subst (λ (r : Result PartyQuestion AnswerReason). IfOk c.answer_said.result (IsPromisedAnswer r))
    (sym (lines_give c.args.first c.args.lines.now _ (said_asked c.args.first c.args.name.now c.args.seed.now) c.in-Ok.ensures.exact))
    c.answer_said.ensures.promised

pub returns-in-Err-clause-exact : goal.returns-in-Err-clause-exact
returns-in-Err-clause-exact c =
    lines_refused c.args.first c.args.lines.now c.in-Err.fault c.refusal_fault.result (said_answer c.args.first c.args.name.now c.args.seed.now)
    c.refusal_fault.ensures c.in-Err.ensures.exact
