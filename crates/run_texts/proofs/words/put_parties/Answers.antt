use Rattle.run_texts.proofs.Fields.{path_after, put_both}
use Rattle.run_texts.proofs.words.put_parties.Goals as goal

pub returns : goal.returns
returns c =
    put_both c.put_further_parties.result _ _ _ _ _ _ c.in_ok-put_party.ensures (path_after c.args.first c.args.further.now) c.put_further_parties.ensures
