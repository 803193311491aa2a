use Rattle.std.proofs.Common.{◌≡◌, ◌<◌, length, get_or}
use Rattle.many_lines.proofs.Swaps.{run_here, whole_here}
use Rattle.many_lines.proofs.event.told_in_swap.Goals as goal

pub read_raw_event-requires : goal.read_raw_event-requires
read_raw_event-requires c =
    let jobs = c.args.many.now.jobs in
    let lt : c.in_ok-swap.swap < length jobs = rw c.as_slice-jobs.ensures at c.in_ok-swap.ensures.below in
    let is : c.index-jobs-swap.result ≡ get_or jobs c.in_ok-swap.swap c.index-jobs-swap.result = rw c.as_slice-jobs.ensures at c.index-jobs-swap.is in
    record {
      whole = whole_here c.args.many.now c.requires.swaps c.in_ok-swap.swap lt c.index-jobs-swap.result is;
      purpose = run_here c.args.many.now c.requires.swaps c.in_ok-swap.swap lt c.index-jobs-swap.result is;
    }
