use Rattle.std.proofs.Common.{sym, ◌∙◌, rules}
use denote.Ref.{Bor}
use Rattle.std.specs.Str.{bytes_eq}
use Rattle.std.proofs.lemmas.Iterator.{YieldsList-from_slice}
use Rattle.std.proofs.lemmas.Iterator.Search.{any_from_yields_List}
use Rattle.hashkey_path.specs.declared.hashkey.Hashkey.{Hashkey}
use Rattle.conduct_check.specs.Judged.{judged_book}
use Rattle.conduct_check.proofs.Forgery.{sent_secret}
use Rattle.conduct_check.proofs.forged.has_sent.Goals as goal

pub returns : goal.returns
returns c =
    let j = c.args.judged.now in
    any_from_yields_List (λ (r : Bor Hashkey). bytes_eq r.now.secret c.args.secret.now) _ _ c.any.result c.any.ensures.ran
    (YieldsList-from_slice j.keys.now cc) (λ x b q k. search rules)
    ∙ sym (sent_secret (judged_book j) j.party c.args.secret.now j.keys.now c.requires.keys)
