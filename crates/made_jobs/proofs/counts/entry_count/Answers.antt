use Rattle.std.proofs.Common.{length, arith}
use Rattle.made_jobs.proofs.Sums.{sum_more, item_short}
use Rattle.made_jobs.proofs.counts.entry_count.Goals as goal

pub loop-entries-preserved : goal.loop-entries-preserved
loop-entries-preserved c =
    let so_far = c.loop-entries.invariant.few in
    let short = item_short c.args.histories.now c.loop-entries.entries-index c.entries-item.result c.loop-entries-test.true c.entries-item.is
    c.requires.short in
    let size = c.len.ensures in
    record {
      count = sum_more length c.args.histories.now c.loop-entries.entries-index c.loop-entries.sum c.len.result c.entries-item.result c.loop-entries-test.true
          c.entries-item.is c.len.ensures
          c.loop-entries.invariant.count;
      few = omega (arith, so_far, short, size);
    }
