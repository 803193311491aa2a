use Rattle.swap_base.specs.Text.{lines}
use Rattle.run_texts.specs.Texts.{digest_after_space, numbers_text}
use Rattle.run_texts.proofs.Fields.{put_both, terms_text}
use Rattle.run_texts.proofs.entry.put_terms.Goals as goal

pub returns : goal.returns
returns c =
    let t = c.args.terms.now in
    put_both c.put_locks.result _ _ _ (numbers_text t) (lines digest_after_space 0 t.locks) _ c.in_ok-put_numbers.ensures (terms_text t) c.put_locks.ensures
