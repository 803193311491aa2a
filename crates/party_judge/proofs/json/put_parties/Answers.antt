use Rattle.std.proofs.Common.{refl}
use Rattle.swap_base.proofs.Lines.{lines_on, lines_done}
use Rattle.party_judge.specs.Json.{json_party}
use Rattle.party_judge.proofs.json.put_parties.Goals as goal

pub loop-number-preserved : goal.loop-number-preserved
loop-number-preserved c = lines_on (json_party c.args.names.now c.args.conforming.now c.args.ended)
    c.loop-number.out.items c.put_party.new.out.items _ c.loop-number.number c.args.outcomes.now c.loop-number.number _ _ c.loop-number-test.true refl
    c.in_ok-put_party.ensures c.loop-number.invariant

pub returns : goal.returns
returns c = lines_done (json_party c.args.names.now c.args.conforming.now c.args.ended)
    c.loop-number.out.items _ c.loop-number.number c.args.outcomes.now c.loop-number.number c.loop-number-test.false c.loop-number.invariant
