use Rattle.std.proofs.Common.{refl}
use Rattle.swap_base.proofs.Lines.{lines_on, lines_done}
use Rattle.run_texts.specs.Texts.{party_after_comma}
use Rattle.run_texts.proofs.words.put_further_parties.Goals as goal

pub loop-p-preserved : goal.loop-p-preserved
loop-p-preserved c =
    lines_on party_after_comma c.loop-p.out.items c.put_next_party.new.out.items _ c.loop-p.p-index c.args.path.now c.loop-p.p-index _ _ c.loop-p-test.true refl
    c.in_ok-put_next_party.ensures c.loop-p.invariant

pub returns : goal.returns
returns c =
    lines_done party_after_comma c.loop-p.out.items _ c.loop-p.p-index c.args.path.now c.loop-p.p-index c.loop-p-test.false c.loop-p.invariant
