use Rattle.std.proofs.Common.{get_or, ◌≡◌, ◌∙◌, List, Some, ap, sym, subst}
use Rattle.std.specs.Prelude.{IfOk}
use Rattle.swap_rules.specs.Due.{extended}
use Rattle.ledger_core.specs.Facts.{opened_key}
use Rattle.ledger_core.specs.declared.entry.Entry.{Entry}
use Rattle.due_calls.specs.declared.unlock_due.Base.{Base}
use Rattle.due_calls.specs.Unlocks.{make_due_key}
use Rattle.useful_calls.specs.Asker.{asker_key, asker_wallet, known_entries}
use Rattle.useful_calls.proofs.Based.{is_signed, seen_below, seen_entries, seen_lock, seen_onto}
use Rattle.useful_calls.proofs.due_key.make_due_key.Goals as goal

pub copy_kept-requires-clause-kept : goal.copy_kept-requires-clause-kept
copy_kept-requires-clause-kept c =
    let p = c.args.asker.now in
    is_signed p.deal.now p.me (asker_key p c.args.lock) (known_entries p) c.args.lock (c.requires.base ∙ ap (λ (b : Base). Some b) c.in-Signed.is)

pub bounds-asker-arc : goal.bounds-asker-arc
bounds-asker-arc c =
    let p = c.args.asker.now in
    let r = c.requires.asker in
    seen_below p.deal.now p.me (asker_key p c.args.lock) p.known.now c.args.lock c.in-Onto.arc r.sized r.me r.known r.legal
    (c.requires.base ∙ ap (λ (b : Base). Some b) c.in-Onto.is)

pub extend_key-requires-clause-lock : goal.extend_key-requires-clause-lock
extend_key-requires-clause-lock c =
    let p = c.args.asker.now in
    let r = c.requires.asker in
    seen_lock p.deal.now p.me (asker_key p c.args.lock) p.known.now c.args.lock c.in-Onto.arc r.sized r.me r.known r.legal
    (c.requires.base ∙ ap (λ (b : Base). Some b) c.in-Onto.is) _ (ap (get_or p.known.now c.in-Onto.arc) c.index-asker-arc.is) c.requires.lock

pub extend_key-requires-clause-onto : goal.extend_key-requires-clause-onto
extend_key-requires-clause-onto c =
    let p = c.args.asker.now in
    let r = c.requires.asker in
    seen_onto p.deal.now p.me (asker_key p c.args.lock) p.known.now c.args.lock c.in-Onto.arc r.sized r.me r.known r.legal
    (c.requires.base ∙ ap (λ (b : Base). Some b) c.in-Onto.is) _ (ap (get_or p.known.now c.in-Onto.arc) c.index-asker-arc.is)

pub returns-in-Onto : goal.returns-in-Onto
returns-in-Onto c =
    let p = c.args.asker.now in
    let r = c.requires.asker in
    let same =
    seen_entries p.deal.now p.me (asker_key p c.args.lock) p.known.now c.args.lock c.in-Onto.arc r.sized r.me r.known r.legal
    (c.requires.base ∙ ap (λ (b : Base). Some b) c.in-Onto.is) _ (ap (get_or p.known.now c.in-Onto.arc) c.index-asker-arc.is) in
    subst (λ (b : Base). IfOk c.extend_key.result (λ k. make_due_key (asker_wallet p) (asker_key p) (known_entries p) c.args.lock b ≡ Some k)) (sym c.in-Onto.is)
    (subst (λ (h : List Entry). IfOk c.extend_key.result (λ k. extended (asker_wallet p) (opened_key h c.args.lock) ≡ Some k)) (sym same) c.extend_key.ensures)
