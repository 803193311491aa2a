use Rattle.std.proofs.Common.{◌++◌, [], ◌∷◌, not, cond, sym, ap, ◌∙◌, arith}
use Rattle.ledger_core.specs.Book.{history}
use Rattle.conduct_check.specs.Judged.{judged_book}
use Rattle.swap_rules.specs.declared.finding.Finding.TheVariants.{Forged}
use Rattle.swap_rules.specs.Forged.{is_forged}
use Rattle.hashkey_path.proofs.Answered.{not-not}
use Rattle.conduct_check.proofs.Failing.{said_more, said_done}
use Rattle.conduct_check.proofs.Legal.{accepted_within, tick_is_made}
use Rattle.conduct_check.proofs.listing.put_forged_arc.Goals as goal

pub is_forged-forged-requires-clause-within : goal.is_forged-forged-requires-clause-within
is_forged-forged-requires-clause-within c =
    let j = c.args.judged.now in
    accepted_within j.deal.now (judged_book j) c.args.arc c.loop-made.made-index c.made_calls-calls.result.now c.made-item.result
    c.requires.legal c.requires.arc c.made_calls-calls.ensures c.loop-made-test.true c.made-item.is

pub loop-made-preserved : goal.loop-made-preserved
loop-made-preserved c =
    let j = c.args.judged.now in
    let d = j.deal.now in
    let b = judged_book j in
    said_more (Forged j.party c.args.arc) (λ m. not (is_forged d b j.party m.now))
    (history b c.args.arc) c.args.out.now.items c.loop-made.out.items c.put_if.new.out.items c.made_calls-calls.result.now
    c.loop-made.made-index c.made-item.result c.loop-made-test.true c.made-item.is c.loop-made.invariant
    (c.in_ok-put_if.ensures ∙ ap (λ t. c.loop-made.out.items ++ cond t (Forged j.party c.args.arc c.made-item.result.number ∷ []) [])
    (c.is_forged-forged.ensures ∙ sym (not-not (is_forged d b j.party c.made-item.result.entry))))

pub returns : goal.returns
returns c =
    let j = c.args.judged.now in
    let d = j.deal.now in
    let b = judged_book j in
    said_done (Forged j.party c.args.arc) (λ m. not (is_forged d b j.party m.now))
    (history b c.args.arc) c.args.out.now.items c.loop-made.out.items c.made_calls-calls.result.now c.loop-made.made-index
    (λ m k is. tick_is_made d b j.party m.now k is) (omega (arith, c.loop-made-test.false))
    c.made_calls-calls.ensures c.loop-made.invariant
