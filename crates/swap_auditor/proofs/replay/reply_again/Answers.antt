use Rattle.std.proofs.lemmas.Result.{IfOk-weaker}
use Rattle.swap_auditor.proofs.Replays.{call_after}
use Rattle.swap_auditor.proofs.replay.reply_again.Goals as goal

pub returns-in-Party-Call-clause-history : goal.returns-in-Party-Call-clause-history
returns-in-Party-Call-clause-history c =
    let d = c.args.ledger.now.deal in
    let a = c.args.ledger.now.arc in
    let past = c.args.ledger.now.history in
    IfOk-weaker c.call_again.result _ _ (λ r kept.
    call_after d a past c.call_again.new.ledger.history c.args.entry.now c.in-Party-Call.sender c.in-Party-Call.call r c.requires.legal
    c.requires.formed c.in-Party-Call.is-0 c.in-Party-Call.is-1 kept) c.call_again.ensures.history
