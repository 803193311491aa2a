use Rattle.std.proofs.Common.{◌∙◌, sym}
use Rattle.party_answer.proofs.Growing.{asked_before, asked_now}
use Rattle.party_answer.proofs.line.put_once.Goals as goal

pub returns-then-is_asked : goal.returns-then-is_asked
returns-then-is_asked c =
    asked_before c.args.part c.args.me c.args.asked c.args.timed.now c.args.key.now _ (sym c.is_asked.ensures ∙ c.if-is_asked.true)

pub returns : goal.returns
returns c =
    asked_now c.args.part c.args.me c.args.asked c.args.timed.now c.args.key.now c.put_keep_in.result _ _ (sym c.is_asked.ensures ∙ c.if-is_asked.false)
    c.put_keep_in.ensures
