use Rattle.std.proofs.Common.{refl}
use Rattle.swap_base.proofs.Lines.{lines_on, lines_done}
use Rattle.party_rows.specs.Inside.{comma_digest}
use Rattle.party_rows.proofs.row_line.put_further_digests.Goals as goal

pub loop-digest-preserved : goal.loop-digest-preserved
loop-digest-preserved c =
    lines_on comma_digest c.loop-digest.out.items c.put_next_digest.new.out.items _ c.loop-digest.digest-index c.args.digests.now c.loop-digest.digest-index
    _ _ c.loop-digest-test.true refl c.in_ok-put_next_digest.ensures c.loop-digest.invariant

pub returns : goal.returns
returns c =
    lines_done comma_digest c.loop-digest.out.items _ c.loop-digest.digest-index c.args.digests.now c.loop-digest.digest-index c.loop-digest-test.false
    c.loop-digest.invariant
