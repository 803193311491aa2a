use Rattle.std.proofs.Common.{◌∙◌, ap, option_copied}
use Rattle.history_index.specs.Value.{IndexState}
use Rattle.due_calls.proofs.ArcMembers.{history_at}
use Rattle.conduct_check.specs.Overdue.{greatest_index_use}
use Rattle.conduct_check.proofs.bases.greatest_arc_use.Goals as goal

pub returns-in-Some : goal.returns-in-Some
returns-in-Some c =
    let l = c.in-Some.ensures.lookup in
    c.greatest_index_use.ensures ∙ ap (greatest_index_use c.args.party (option_copied c.args.first) (option_copied c.args.seen))
    (history_at (λ (x : IndexState). x.entries) c.args.known.now c.args.arc c.in-Some.index.now l.3.0 l.1)
