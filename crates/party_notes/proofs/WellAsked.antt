-- What is asked fits.
use Rattle.std.proofs.Common.{◌≡◌, ◌<◌, ℕ, List, length, None, sym, subst}
use Rattle.swap_digraph.specs.declared.deal.Deal.{Deal}
use Rattle.swap_digraph.specs.Deal.{IsWellSized}
use Rattle.swap_rules.specs.Accepted.{IsAccepted}
use Rattle.ledger_core.specs.Book.{IsLegalBook}
use Rattle.swap_rules.specs.Counted.{all_counted}
use Rattle.party_wallet.specs.Value.{signed_hashkey}
use Rattle.party_wallet.specs.Fits.{wrong_lock}
use Rattle.told_ledgers.specs.Telling.{told_book}
use Rattle.answer_rules.specs.Laws.{AreGoodKeys}
use Rattle.party_notes.specs.declared.asked.Asked.{Asked}
use Rattle.party_notes.specs.Inside.{IsWellAsked}

pub is_asked : (seed : List ℕ) (d : Deal) (a : Asked) → a.deal ≡ d → IsAccepted d → IsWellSized d → a.me < d.graph.n → wrong_lock d a.me seed ≡ None
    → IsLegalBook a.deal (all_counted a.me (told_book a.ledgers)) → length a.kept.signed.keys ≡ length d.leaders → AreGoodKeys d a.me (signed_hashkey a.kept.signed.keys)
    → IsWellAsked seed a
is_asked seed d a e accepted sized me fits legal places good = record {
  accepted = subst IsAccepted (sym e) accepted;
  sized = subst IsWellSized (sym e) sized;
  me = subst (λ (x : Deal). a.me < x.graph.n) (sym e) me;
  fits = subst (λ (x : Deal). wrong_lock x a.me seed ≡ None) (sym e) fits;
  legal = legal;
  places = subst (λ (x : Deal). length a.kept.signed.keys ≡ length x.leaders) (sym e) places;
  good = subst (λ (x : Deal). AreGoodKeys x a.me (signed_hashkey a.kept.signed.keys)) (sym e) good;
}
