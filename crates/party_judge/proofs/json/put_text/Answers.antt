use Rattle.std.proofs.Common.{refl}
use Rattle.swap_base.proofs.Lines.{lines_on, lines_done}
use Rattle.party_judge.specs.Json.{json_byte}
use Rattle.party_judge.proofs.json.put_text.Goals as goal

pub loop-byte-preserved : goal.loop-byte-preserved
loop-byte-preserved c =
    lines_on json_byte c.loop-byte.out.items c.put_byte.new.out.items _ c.loop-byte.byte-index c.args.text.now c.loop-byte.byte-index _ _ c.loop-byte-test.true refl
    c.in_ok-put_byte.ensures c.loop-byte.invariant

pub returns : goal.returns
returns c =
    lines_done json_byte c.loop-byte.out.items _ c.loop-byte.byte-index c.args.text.now c.loop-byte.byte-index c.loop-byte-test.false c.loop-byte.invariant
