use Rattle.std.proofs.Common.{Result, Err, sym, subst}
use Rattle.std.specs.Prelude.{IfOk}
use Rattle.swap_base.specs.Fault.{Gives}
use Rattle.party_answer.specs.declared.given.Answer.{Answer}
use Rattle.party_notes.specs.declared.reason.AnswerReason.{AnswerReason}
use Rattle.party_notes.specs.Asked.{PartyQuestion}
use Rattle.party_answer.specs.Promised.{IsPromisedAnswer}
use Rattle.party_answer.proofs.Asking.{asks_lines, by_lines, needs_agreement, no_lines}
use Rattle.party_answer.proofs.answering.answer.Goals as goal

pub returns-in-Ok-clause-exact : goal.returns-in-Ok-clause-exact
returns-in-Ok-clause-exact c =
    subst (λ (r : Result Answer AnswerReason). Gives (λ a. a) c.answer_lines.result r)
    (sym (by_lines c.args.first c.args.name.now c.args.seed.now c.args.text.now _ c.in-Ok.ensures)) c.answer_lines.ensures.exact

pub returns-in-Ok-clause-promised : goal.returns-in-Ok-clause-promised
returns-in-Ok-clause-promised c =
    subst (λ (r : Result PartyQuestion AnswerReason). IfOk c.answer_lines.result (IsPromisedAnswer r))
    (sym (asks_lines c.args.first c.args.name.now c.args.seed.now c.args.text.now _ c.in-Ok.ensures)) c.answer_lines.ensures.promised

pub returns-in-Ok-clause-agreed : goal.returns-in-Ok-clause-agreed
returns-in-Ok-clause-agreed c =
    needs_agreement c.args.first c.args.name.now c.args.seed.now c.args.text.now c.answer_lines.result
    (subst (λ (r : Result Answer AnswerReason). Gives (λ a. a) c.answer_lines.result r)
    (sym (by_lines c.args.first c.args.name.now c.args.seed.now c.args.text.now _ c.in-Ok.ensures)) c.answer_lines.ensures.exact)

pub returns-in-Err-clause-exact : goal.returns-in-Err-clause-exact
returns-in-Err-clause-exact c =
    no_lines c.args.first c.args.name.now c.args.seed.now c.args.text.now c.in-Err.fault c.refusal_fault.result c.refusal_fault.ensures c.in-Err.ensures

pub returns-in-Err-clause-agreed : goal.returns-in-Err-clause-agreed
returns-in-Err-clause-agreed c =
    needs_agreement c.args.first c.args.name.now c.args.seed.now c.args.text.now (Err c.refusal_fault.result)
    (no_lines c.args.first c.args.name.now c.args.seed.now c.args.text.now c.in-Err.fault c.refusal_fault.result c.refusal_fault.ensures
    c.in-Err.ensures)
