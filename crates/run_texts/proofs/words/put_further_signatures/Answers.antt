use Rattle.swap_base.proofs.Lines.{lines_on, lines_done}
use Rattle.run_texts.specs.Texts.{signature_words}
use Rattle.run_texts.proofs.words.put_further_signatures.Goals as goal

pub loop-sig-preserved : goal.loop-sig-preserved
loop-sig-preserved c =
    lines_on signature_words c.loop-sig.out.items c.put_next_signature.new.out.items _ c.loop-sig.sig-index c.args.sigs.now c.loop-sig.sig-index
    c.sig-item.result
    c.sig-item.result c.loop-sig-test.true c.sig-item.is
    c.in_ok-put_next_signature.ensures c.loop-sig.invariant

pub returns : goal.returns
returns c =
    lines_done signature_words c.loop-sig.out.items _ c.loop-sig.sig-index c.args.sigs.now c.loop-sig.sig-index c.loop-sig-test.false c.loop-sig.invariant
