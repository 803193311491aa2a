-- What the program keeps of an input.
use Rattle.std.specs.Prelude.{◌≡◌, ◌<◌, ℕ, List, None, length}
use Rattle.swap_digraph.specs.Deal.{IsWellSized}
use Rattle.swap_rules.specs.Counted.{all_counted}
use Rattle.swap_rules.specs.Accepted.{IsAccepted}
use Rattle.party_wallet.specs.Fits.{wrong_lock}
use Rattle.party_wallet.specs.Value.{signed_hashkey}
use Rattle.answer_rules.specs.Laws.{AreGoodKeys}
use Rattle.ledger_core.specs.Book.{IsLegalBook}
use Rattle.party_notes.specs.NoteStates.{kept_state, notes_state}
use Rattle.party_terms.specs.Inside.{inside_agreed}
use Rattle.told_ledgers.specs.Telling.{told_book}
use Rattle.party_notes.specs.declared.said.Said.{Said}
use Rattle.party_notes.specs.declared.asked.Asked.{Asked}
use Rattle.party_notes.specs.Asked.{SaidState, PartyQuestion}

abbrev pub said_state : Said → SaidState
said_state s = record { told = s.told; notes = notes_state s.notes; agreed = inside_agreed s.agreed }

-- what is asked, with that seed
abbrev pub asked_question : List ℕ → Asked → PartyQuestion
asked_question seed a = record { deal = a.deal; me = a.me; seed = seed; ledgers = a.ledgers; kept = kept_state a.kept }

-- What is asked fits: the deal is accepted, the seed is that of one of its parties, what counts of
-- the ledgers that are told is legal, and every hashkey that was kept opens its lock.
pub record IsWellAsked (seed : List ℕ) (a : Asked) : Type 0 where
  pub accepted : IsAccepted a.deal
  pub sized : IsWellSized a.deal
  pub me : a.me < a.deal.graph.n
  pub fits : wrong_lock a.deal a.me seed ≡ None
  pub legal : IsLegalBook a.deal (all_counted a.me (told_book a.ledgers))
  pub places : length a.kept.signed.keys ≡ length a.deal.leaders
  pub good : AreGoodKeys a.deal a.me (signed_hashkey a.kept.signed.keys)
