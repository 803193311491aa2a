use Rattle.std.proofs.Common.{◌≡◌, ◌++◌, [], List, sym, ap, ◌∙◌, subst}
use Rattle.ledger_core.specs.declared.entry.Entry.{Entry}
use Rattle.ledger_core.specs.History.{IsLegal}
use Rattle.history_index.specs.Value.{IndexState}
use Rattle.history_index.proofs.Legal.{front_indexable}
use Rattle.outcome_rules.proofs.indexes.index_counted.Goals as goal

pub extend-requires : goal.extend-requires
extend-requires g c = λ front rest e.
    let d = c.args.deal.now in
    let none : c.in_ok-index.index.entries ≡ [] = ap (λ (i : IndexState). i.entries) c.in_ok-index.ensures in
    let parts : c.args.list.now ≡ front ++ rest = sym c.in_ok-copy.ensures ∙ ap (λ (z : List Entry). z ++ c.in_ok-copy.field-0) (sym none) ∙ e in
    rw (ap (λ (i : IndexState). i.from) c.in_ok-index.ensures, ap (λ (i : IndexState). i.to) c.in_ok-index.ensures)
    (front_indexable d c.args.arc front rest c.requires.sized (subst (IsLegal d c.args.arc) parts c.requires.legal))
