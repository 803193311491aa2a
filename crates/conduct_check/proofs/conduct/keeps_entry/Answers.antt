use Rattle.std.proofs.Common.{sym, ap, take, option_copied, ◌∙◌}
use Rattle.ledger_core.specs.declared.entry.Call.TheVariants.{Publish, Unlock}
use Rattle.ledger_core.specs.Book.{history}
use Rattle.conduct_check.specs.Judged.{judged_book}
use Rattle.conduct_check.proofs.MadeConduct.{as_made}
use Rattle.conduct_check.proofs.conduct.keeps_entry.Goals as goal

pub returns-in-Publish : goal.returns-in-Publish
returns-in-Publish c =
    let j = c.args.judged.now in
    let b = judged_book j in
    as_made j.deal.now b j.party c.args.arc c.args.made.now _ _ c.keeps_publish.result
    (ap option_copied (sym c.in-Some.is) ∙ c.pick_call.ensures) (c.in-Publish.is ∙ ap Publish (sym c.deref.ensures))
    (c.keeps_publish.ensures (take c.args.made.now.number (history b c.args.arc)) c.args.made.now.entry.height)

pub returns-in-Unlock : goal.returns-in-Unlock
returns-in-Unlock c =
    let j = c.args.judged.now in
    as_made j.deal.now (judged_book j) j.party c.args.arc c.args.made.now _ _ c.keeps_unlock.result
    (ap option_copied (sym c.in-Some.is) ∙ c.pick_call.ensures) (c.in-Unlock.is ∙ ap Unlock (sym c.deref-in-Unlock.ensures))
    (c.keeps_unlock.ensures c.args.made.now.entry.height)
