use Rattle.std.proofs.Common.{subst, sym}
use Rattle.swap_base.specs.Fault.{Gives}
use Rattle.transcript_book.proofs.Replies.{two_fields}
use Rattle.transcript_book.proofs.reply.make_reply.Goals as goal

pub returns-in_ok-nothing_more-in-Some : goal.returns-in_ok-nothing_more-in-Some
returns-in_ok-nothing_more-in-Some c =
    subst (Gives (λ r. r) c.numbered_reply.result)
    (sym (two_fields c.args.fields.now _ _ _ _ _ c.in_ok-first.ensures c.in-Some.ensures c.in_ok-nothing_more-in-Some.ensures)) c.numbered_reply.ensures
