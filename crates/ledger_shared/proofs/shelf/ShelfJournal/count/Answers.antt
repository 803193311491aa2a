use Rattle.std.proofs.Common.{arith, ◌≡◌, ◌∙◌, suc, length, ap}
use Rattle.ledger_shared.specs.Lines.{entry_lines}
use Rattle.ledger_shared.proofs.Lines.{length_made}
use Rattle.ledger_shared.proofs.shelf.ShelfJournal.count.Goals as goal

pub returns-clause-length : goal.returns-clause-length
returns-clause-length c =
    let l = c.args.self.now.ledger.value in
    let long : length (entry_lines l.deal l.arc l.history) ≡ suc (length l.history) = ap (λ n. suc n) (length_made l.deal l.arc l.history) in
    let is : c.len.result ≡ length l.history = c.len.ensures ∙ ap (λ x. length x.history) c.deref.ensures in
    omega arith
