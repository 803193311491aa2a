use Rattle.std.proofs.Common.{sym, ◌∙◌, rules}
use denote.Ref.{Bor}
use Rattle.std.proofs.lemmas.Iterator.{YieldsList-from_slice}
use Rattle.std.proofs.lemmas.Iterator.Search.{any_from_yields_List}
use Rattle.hashkey_path.specs.declared.hashkey.Hashkey.{Hashkey}
use Rattle.hashkey_path.specs.Hashkey.{same_key}
use Rattle.conduct_check.specs.Judged.{judged_book}
use Rattle.conduct_check.proofs.Forgery.{made_by_parts}
use Rattle.conduct_check.proofs.forged.has_made.Goals as goal

pub returns : goal.returns
returns c =
    let j = c.args.judged.now in
    any_from_yields_List (λ (r : Bor Hashkey). same_key r.now (record {
      lock = c.args.lock;
      secret = c.args.secret.now;
      path = c.args.path.now;
      sigs =
          c.args.sigs.now;
    })) _ _ c.any.result c.any.ensures.ran (YieldsList-from_slice j.keys.now cc) (λ x b q k. search rules)
    ∙ sym (made_by_parts (judged_book j) j.party c.args.lock c.args.secret.now c.args.path.now c.args.sigs.now j.keys.now
    c.requires.keys)
