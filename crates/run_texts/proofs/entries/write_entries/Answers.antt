use Rattle.std.proofs.Common.{◌∙◌, sym, ap, subst, List, ℕ}
use Rattle.swap_base.specs.Text.{lines}
use Rattle.swap_io.specs.Handed.{Hands}
use Rattle.run_texts.specs.Report.{report_entry_line}
use Rattle.run_texts.proofs.ItemLines.{of_items}
use Rattle.run_texts.proofs.entries.write_entries.Goals as goal

pub returns : goal.returns
returns g c =
    let names = c.args.names.now in
    let t = c.args.correct.now in
    let p = c.parts in
    subst (λ (text : List ℕ). Hands (g.K.Sink.taken c.args.sink.now) (g.K.Sink.taken c.write_items.new.sink) (g.K.Sink.faults c.args.sink.now)
    (g.K.Sink.faults c.write_items.new.sink) c.args.out.now.items c.write_items.new.out.items text c.write_items.result)
    (sym (ap (lines (report_entry_line names t) 0) p.ensures.list ∙ of_items names t 0 0 p.result.0.now p.result.1)) c.write_items.ensures
