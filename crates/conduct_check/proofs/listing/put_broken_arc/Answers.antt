use Rattle.std.proofs.Common.{◌++◌, [], ◌∷◌, not, cond, sym, ap, ◌∙◌, arith, append-nil}
use Rattle.ledger_core.specs.Book.{history}
use Rattle.conduct_check.specs.Judged.{judged_book}
use Rattle.swap_rules.specs.declared.finding.Finding.TheVariants.{Broke}
use Rattle.swap_rules.specs.Conduct.{keeps_entry}
use Rattle.conduct_check.proofs.Failing.{said_more, said_done}
use Rattle.conduct_check.proofs.Legal.{call_within, tick_keeps, untouched}
use Rattle.conduct_check.proofs.listing.put_broken_arc.Goals as goal

pub keeps_entry-kept-requires-clause-within : goal.keeps_entry-kept-requires-clause-within
keeps_entry-kept-requires-clause-within c =
    let j = c.args.judged.now in
    call_within j.deal.now (judged_book j) c.args.arc c.loop-made.made-index j.party c.made_calls-calls.result.now
    c.made-item.result c.requires.legal c.requires.arc c.made_calls-calls.ensures c.loop-made-test.true c.made-item.is

pub loop-made-preserved : goal.loop-made-preserved
loop-made-preserved c =
    let j = c.args.judged.now in
    let b = judged_book j in
    said_more (Broke j.party c.args.arc) (keeps_entry j.deal.now b j.party c.args.arc)
    (history b c.args.arc) c.args.out.now.items c.loop-made.out.items c.put_if.new.out.items c.made_calls-calls.result.now
    c.loop-made.made-index c.made-item.result c.loop-made-test.true c.made-item.is c.loop-made.invariant
    (c.in_ok-put_if.ensures ∙ ap (λ t. c.loop-made.out.items ++ cond (not t) (Broke j.party c.args.arc c.made-item.result.number ∷ []) [])
    c.keeps_entry-kept.ensures)

pub returns : goal.returns
returns c =
    let j = c.args.judged.now in
    let d = j.deal.now in
    let b = judged_book j in
    said_done (Broke j.party c.args.arc) (keeps_entry d b j.party c.args.arc)
    (history b c.args.arc) c.args.out.now.items c.loop-made.out.items c.made_calls-calls.result.now c.loop-made.made-index
    (λ m k is. tick_keeps d b j.party c.args.arc m.past m.now k is)
    (omega (arith, c.loop-made-test.false)) c.made_calls-calls.ensures c.loop-made.invariant

pub returns-then-not-is_adjacent : goal.returns-then-not-is_adjacent
returns-then-not-is_adjacent c =
    let j = c.args.judged.now in
    sym (ap (λ l. c.args.out.now.items ++ l) (untouched j.deal.now (judged_book j) j.party c.args.arc c.requires.legal
    c.requires.arc (sym c.is_adjacent.ensures ∙ c.if-not-is_adjacent.true))
    ∙ append-nil c.args.out.now.items)
