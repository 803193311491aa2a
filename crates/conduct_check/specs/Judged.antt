-- What is known of a party that is judged.
use Rattle.std.specs.Prelude.{◌≡◌, ◌<◌}
use Rattle.swap_digraph.specs.Deal.{IsWellSized}
use Rattle.ledger_core.specs.Book.{Histories}
use Rattle.history_index.specs.Indexes.{all_entries, AreIndexes}
use Rattle.conduct_check.specs.declared.judged.Judged.{Judged}
use Rattle.conduct_check.specs.Sent.{shown, party_unlocks}

-- the histories by which the party is judged
abbrev pub judged_book : Judged → Histories
judged_book j = all_entries j.known.now

-- The party is one of the deal's, there is one index per arc, and the hashkeys are those of all
-- unlock calls of the party.
pub record IsJudged (j : Judged) : Type 0 where
  pub sized : IsWellSized j.deal.now
  pub known : AreIndexes j.deal.now j.known.now
  pub party : j.party < j.deal.now.graph.n
  pub keys : shown j.keys.now ≡ party_unlocks (judged_book j) j.party
