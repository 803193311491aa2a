use Rattle.swap_auditor.proofs.Signed.{told}
use Rattle.swap_auditor.proofs.replay.call_again.Goals as goal

pub note-requires : goal.note-requires
note-requires c =
    let d = c.args.ledger.now.deal in
    let a = c.args.ledger.now.arc in
    let past = c.args.ledger.now.history in
    let reply =
    rw (c.in_ok-reserve.ensures.deal, c.in_ok-reserve.ensures.arc, c.in_ok-reserve.ensures.history, c.in_ok-copy.ensures)
    at c.apply-reply.ensures.reply in
    rw c.requires.found (told d a past c.args.sender c.args.call.now c.apply-reply.result reply)
