use Rattle.std.proofs.Common.{◌<◌, length, rules, ap, ◌∙◌}
use Rattle.std.proofs.lemmas.List.{length-set}
use Rattle.told_ledgers.specs.declared.told_ledger.ToldLedger.{ToldLedger}
use Rattle.told_ledgers.proofs.Ledgers.{item_is, legal_with}
use Rattle.told_ledgers.proofs.reader.LedgersReader.read_chain_line.Goals as goal

pub invariant_of-self : goal.invariant_of-self
invariant_of-self c =
    let k = c.self.invariant in
    let ledgers = c.self.inside.ledgers.items in
    let arc = c.in_ok-told.told.arc in
    let below : arc < length ledgers = search rules in record {
      sized = k.sized;
      own = k.own;
      found = k.found;
      one_each = length-set ledgers arc c.note_chain.new.ledger ∙ k.one_each;
      legal = legal_with c.self.inside.deal ledgers arc c.note_chain.new.ledger below
          (c.note_chain.ensures.history ∙ ap (λ (t : ToldLedger). t.history) (item_is ledgers arc c.index_mut.result.now below c.index_mut.ensures.value)) k.legal;
      stage = k.stage;
    }
