use Rattle.std.proofs.Common.{◌≤◌}
use Rattle.swap_io.proofs.Handing.{SoFar}
use Rattle.swap_base.specs.Text.{lines}
use Rattle.run_texts.specs.Items.{item_line}
use Rattle.run_texts.proofs.entries.write_items.Given as goal

abbrev pub invariant-loop-item : goal.invariant-loop-item
invariant-loop-item g l = record {
  so_far : SoFar (item_line l.names l.correct) l.items (lines (item_line l.names l.correct) 0 l.items) (g.K.Sink.taken l.fn.sink) l.fn.out.items
      (g.K.Sink.taken l.sink) l.out.items l.item-index;
  later : g.K.Sink.faults l.fn.sink ≤ g.K.Sink.faults l.sink;
}
