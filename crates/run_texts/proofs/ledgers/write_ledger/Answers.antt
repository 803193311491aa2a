use Rattle.std.proofs.Common.{Err, [], ◌∙◌, ◌++◌, ap, arith, refl}
use Rattle.std.proofs.lemmas.Result.{err_from_is_err_and}
use Rattle.swap_io.proofs.Handing.{handed_none, handed_on, handed_put, handed_was, hands_after, hands_err, lost_then, lost_was, lost_with, rose_was}
use Rattle.swap_io.specs.declared.fault.TextFault.TheVariants.{NoMemory}
use Rattle.run_texts.proofs.LedgerLines.{all_three, ledger_parts, of_ledger, two}
use Rattle.run_texts.proofs.ledgers.write_ledger.Goals as goal

pub returns-in_err-put_head : goal.returns-in_err-put_head
returns-in_err-put_head g c =
    let p = err_from_is_err_and c.from_residual.result c.from_residual.ensures.1 in
    let t = g.K.Sink.taken c.args.sink.now in
    let w = c.args.out.now.items in
    hands_err NoMemory _ _ _ _ _ _ _ _ (p.1 ∙ ap Err p.2) (lost_then t t w w [] _ _ (handed_none t w) refl) (omega arith) (λ q. absurd (cc q))

pub returns-in_err-write_entries : goal.returns-in_err-write_entries
returns-in_err-write_entries g c =
    let p = err_from_is_err_and c.from_residual-in_err-write_entries.result c.from_residual-in_err-write_entries.ensures.1 in
    let e = c.in_err-write_entries.field-0.0 in
    let t = ledger_parts c.args.names.now c.args.deal.now c.args.number c.args.entries.now in
    let is = of_ledger c.args.names.now c.args.deal.now c.args.number c.args.entries.now in
    let wrote = rw c.stated_terms-correct.ensures at c.write_entries.ensures in
    hands_err e _ _ _ _ _ _ _ _ (p.1 ∙ ap Err p.2)
    (lost_with e _ _ _ _ _ t.head t.entries (t.last ++ []) _ (handed_put _ _ _ t.head c.in_ok-put_head.ensures)
    (lost_was e _ _ _ _ _ _ _ _ c.in_err-write_entries.was wrote) (two t.head t.entries (t.last ++ []) ∙ is))
    wrote.later (rose_was e _ _ _ _ _ _ _ _ c.in_err-write_entries.was wrote)

pub returns-in_err-put_last : goal.returns-in_err-put_last
returns-in_err-put_last g c =
    let p = err_from_is_err_and c.from_residual-in_err-put_last.result c.from_residual-in_err-put_last.ensures.1 in
    let t = ledger_parts c.args.names.now c.args.deal.now c.args.number c.args.entries.now in
    let is = of_ledger c.args.names.now c.args.deal.now c.args.number c.args.entries.now in
    let wrote = rw c.stated_terms-correct.ensures at c.write_entries.ensures in
    hands_err NoMemory _ _ _ _ _ _ _ _ (p.1 ∙ ap Err p.2)
    (lost_then _ _ _ _ (t.head ++ t.entries) (t.last ++ []) _
    (handed_on _ _ _ _ _ _ t.head t.entries (handed_put _ _ _ t.head c.in_ok-put_head.ensures)
    (handed_was _ _ _ _ _ _ _ _ _ c.in_ok-write_entries.was wrote))
    (two t.head t.entries (t.last ++ []) ∙ is))
    wrote.later (λ q. absurd (cc q))

pub returns : goal.returns
returns g c =
    let t = ledger_parts c.args.names.now c.args.deal.now c.args.number c.args.entries.now in
    let is = of_ledger c.args.names.now c.args.deal.now c.args.number c.args.entries.now in
    let wrote = rw c.stated_terms-correct.ensures at c.write_entries.ensures in
    hands_after _ _ _ _ _ _ _ _ _ ((t.head ++ t.entries) ++ t.last) _ c.flush_waiting.result
    (handed_on _ _ _ _ _ _ (t.head ++ t.entries) t.last
    (handed_on _ _ _ _ _ _ t.head t.entries (handed_put _ _ _ t.head c.in_ok-put_head.ensures)
    (handed_was _ _ _ _ _ _ _ _ _ c.in_ok-write_entries.was wrote))
    (handed_put _ _ _ t.last c.in_ok-put_last.ensures))
    (all_three t.head t.entries t.last ∙ is)
    wrote.later c.flush_waiting.ensures
