use Rattle.run_texts.proofs.Fields.{put_both, signatures_after}
use Rattle.run_texts.proofs.words.put_each_signature.Goals as goal

pub returns : goal.returns
returns c =
    put_both c.put_further_signatures.result _ _ _ _ _ _ c.in_ok-put_signature.ensures (signatures_after c.args.first.now c.args.further.now)
    c.put_further_signatures.ensures
