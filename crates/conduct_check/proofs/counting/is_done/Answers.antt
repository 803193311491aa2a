use Rattle.std.proofs.Common.{sym, ◌∙◌, ap}
use Rattle.std.specs.List.{list_any}
use Rattle.history_index.specs.Value.{IndexState}
use Rattle.history_index.specs.declared.made.Made.{Made}
use Rattle.due_calls.proofs.ArcMembers.{history_at}
use Rattle.conduct_check.specs.Overdue.{counts_entry, has_counted_call}
use Rattle.conduct_check.proofs.MadeLate.{done_made}
use Rattle.conduct_check.proofs.counting.is_done.Goals as goal

pub returns-in-Some : goal.returns-in-Some
returns-in-Some c =
    let l = c.in-Some.ensures.lookup in
    let counted = c.args.counted.now in
    c.any_counts.ensures ∙ ap (list_any (λ (m : Made). counts_entry counted c.args.party c.args.due m.entry)) c.made.ensures.value
    ∙ sym (done_made counted c.args.party c.args.due c.in-Some.index.now.entries)
    ∙ ap (has_counted_call counted c.args.party c.args.due) (history_at (λ (x : IndexState). x.entries) c.args.known.now c.args.arc c.in-Some.index.now l.3.0 l.1)
