use Rattle.std.proofs.Common.{[]}
use Rattle.swap_base.proofs.Lines.{lines_on, lines_done}
use Rattle.run_texts.specs.Texts.{digest_after_space}
use Rattle.run_texts.proofs.words.put_locks.Goals as goal

pub loop-lock-preserved : goal.loop-lock-preserved
loop-lock-preserved c =
    lines_on digest_after_space c.loop-lock.out.items c.put_next_lock.new.out.items _ c.loop-lock.lock c.args.locks.now c.loop-lock.lock c.get.result []
    (rw c.len-lock-end.ensures.count at c.loop-lock-test.true) c.get.ensures c.in_ok-put_next_lock.ensures c.loop-lock.invariant

pub returns : goal.returns
returns c =
    lines_done digest_after_space c.loop-lock.out.items _ c.loop-lock.lock c.args.locks.now c.loop-lock.lock
    (rw c.len-lock-end.ensures.count at c.loop-lock-test.false) c.loop-lock.invariant
