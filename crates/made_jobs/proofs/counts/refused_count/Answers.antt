use Rattle.std.proofs.Common.{count_by, arith}
use Rattle.made_jobs.specs.Counts.{is_refused}
use Rattle.made_jobs.proofs.Sums.{sum_more, refused_short}
use Rattle.made_jobs.proofs.counts.refused_count.Goals as goal

pub overflow_add-sum : goal.overflow_add-sum
overflow_add-sum c =
    let so_far = c.loop-entries.invariant.few in
    let short = refused_short c.args.histories.now c.loop-entries.entries-index c.total_refused.result c.entries-item.result c.loop-entries-test.true
    c.entries-item.is c.total_refused.ensures c.requires.short in
    let few = c.requires.few in
    let lt = c.loop-entries-test.true in
    omega (arith, so_far, short, few, lt)

pub loop-entries-preserved : goal.loop-entries-preserved
loop-entries-preserved c =
    let so_far = c.loop-entries.invariant.few in
    let short = refused_short c.args.histories.now c.loop-entries.entries-index c.total_refused.result c.entries-item.result c.loop-entries-test.true
    c.entries-item.is c.total_refused.ensures c.requires.short in
    record {
      count = sum_more (count_by is_refused) c.args.histories.now c.loop-entries.entries-index c.loop-entries.sum c.total_refused.result c.entries-item.result
          c.loop-entries-test.true
          c.entries-item.is c.total_refused.ensures c.loop-entries.invariant.count;
      few = omega (arith, so_far, short);
    }
