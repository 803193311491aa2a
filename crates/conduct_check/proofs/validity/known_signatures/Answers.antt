use Rattle.std.proofs.Common.{◌≡◌, ◌-◌, ◌<◌, true, List, length, sym, subst, ◌∙◌}
use Rattle.hash_signature.specs.declared.sig.Sig.{Sig}
use Rattle.hashkey_path.specs.LastSignatures.{is_last_signed}
use Rattle.conduct_check.specs.Judged.{judged_book}
use Rattle.conduct_check.proofs.Valid.{known_opened, known_seen}
use Rattle.conduct_check.proofs.validity.known_signatures.Goals as goal

pub returns-then-was_accepted : goal.returns-then-was_accepted
returns-then-was_accepted c =
    let j = c.args.judged.now in
    known_opened (length c.as_slice.result.now) j.deal.now (judged_book j) j.party c.args.key.now c.requires.legal
    (sym c.was_accepted.ensures ∙ c.if-was_accepted.true)

pub overflow_sub-result : goal.overflow_sub-result
overflow_sub-result c =
    let j = c.args.judged.now in
    let k =
    known_seen j.deal.now (judged_book j) j.party c.args.key.now c.requires.legal (sym c.has_seen_inner.ensures
    ∙ c.if-has_seen_inner.true) in
    subst (λ (sigs : List Sig). 0 < length sigs) (sym c.as_slice-then-has_seen_inner.ensures) k.0

pub returns-then-has_seen_inner : goal.returns-then-has_seen_inner
returns-then-has_seen_inner c =
    let j = c.args.judged.now in
    let d = j.deal.now in
    let k =
    known_seen d (judged_book j) j.party c.args.key.now c.requires.legal (sym c.has_seen_inner.ensures
    ∙ c.if-has_seen_inner.true) in
    subst (λ (sigs : List Sig). is_last_signed (length sigs - 1) d c.args.key.now ≡ true) (sym c.as_slice-then-has_seen_inner.ensures) k.1
