use Rattle.std.proofs.Common.{◌≡◌, ℕ, ◌<◌, List, [], ◌∷◌, ◌++◌, length, get_or, take, sym, ap, subst}
use Rattle.swap_digraph.specs.declared.deal.Deal.{Deal}
use Rattle.swap_digraph.specs.Deal.{IsWellSized, party, counterparty}
use Rattle.ledger_core.specs.declared.entry.Entry.{Entry}
use Rattle.ledger_core.specs.History.{IsLegal}
use Rattle.history_index.specs.Numbers.{IsIndexable}
use Rattle.history_index.proofs.Legal.{next_indexable}
use Rattle.tests_ledgers.proofs.tests.index.fill.Goals as goal

next : (d : Deal) (a from to : ℕ) (h es : List Entry) (i : ℕ) (x : Entry) → IsWellSized d → IsLegal d a h → i < length h → x ≡ get_or h i x
    → es ≡ take i h → from ≡ party d a → to ≡ counterparty d a → IsIndexable from to (es ++ x ∷ [])
next d a from to h es i x s l lt e ees ef et =
    let same : es ++ x ∷ [] ≡ take i h ++ x ∷ [] = ap (λ xs. xs ++ x ∷ []) ees in
    subst (λ p. IsIndexable p to (es ++ x ∷ [])) (sym ef)
    (subst (λ p. IsIndexable (party d a) p (es ++ x ∷ [])) (sym et)
    (subst (IsIndexable (party d a) (counterparty d a)) (sym same) (next_indexable d a h i x s l lt e)))

pub push_copy-requires-clause-indexable : goal.push_copy-requires-clause-indexable
push_copy-requires-clause-indexable g c =
    let i = c.loop-entry.invariant in
    next c.args.deal.now c.args.arc c.loop-entry.index.from c.loop-entry.index.to c.args.history.now c.loop-entry.index.entries c.loop-entry.entry-index
    c.entry-item.result c.requires.sized c.requires.legal c.loop-entry-test.true c.entry-item.is i.0 i.1 i.2
