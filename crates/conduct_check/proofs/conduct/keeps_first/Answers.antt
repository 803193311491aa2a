use Rattle.std.proofs.Common.{◌∙◌, ap, sym, true}
use Rattle.hashkey_path.specs.Hashkey.{is_valid}
use Rattle.conduct_check.specs.Judged.{judged_book}
use Rattle.swap_digraph.specs.Deal.{lock_hashlock}
use Rattle.swap_rules.specs.Party.{first_key}
use Rattle.swap_rules.specs.Conduct.{has_origin}
use Rattle.conduct_check.specs.Standing.{has_key_origin}
use Rattle.conduct_check.proofs.Chains.{in_turn, stops}
use Rattle.conduct_check.proofs.Valid.{first_is_key}
use Rattle.conduct_check.proofs.conduct.keeps_first.Goals as goal

pub returns-then-standing-key : goal.returns-then-standing-key
returns-then-standing-key c = λ first.
    let j = c.args.judged.now in
    let d = j.deal.now in
    let b = judged_book j in
    in_turn (has_origin d.mode d b j.party c.args.key.now)
    (is_valid d c.args.arc (lock_hashlock d c.args.key.now.lock) c.args.key.now) true c.is_valid_arc_key.result
    (sym c.if-standing-key.true ∙ c.requires.standing.origins c.args.key.now.lock c.requires.lock
    ∙ ap (has_key_origin d b j.party)
    (first_is_key (first_key b j.party c.args.key.now.lock) c.args.key.now first))
    (c.is_valid_arc_key.ensures first)

pub returns-else-standing-key : goal.returns-else-standing-key
returns-else-standing-key c = λ first.
    let j = c.args.judged.now in
    let d = j.deal.now in
    let b = judged_book j in
    stops (has_origin d.mode d b j.party c.args.key.now)
    (is_valid d c.args.arc (lock_hashlock d c.args.key.now.lock) c.args.key.now) _
    (c.requires.standing.origins c.args.key.now.lock c.requires.lock
    ∙ ap (has_key_origin d b j.party)
    (first_is_key (first_key b j.party c.args.key.now.lock) c.args.key.now first))
    c.if-standing-key.false
