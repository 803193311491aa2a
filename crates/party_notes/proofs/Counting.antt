-- What counts of a legal book is legal.
use Rattle.std.proofs.Common.{◌≡◌, ◌<◌, ℕ, length, sym, ◌∙◌, subst}
use Rattle.std.proofs.lemmas.List.{length-map}
use Rattle.swap_digraph.specs.declared.deal.Deal.{Deal}
use Rattle.ledger_core.specs.History.{IsLegal}
use Rattle.ledger_core.specs.Book.{Histories, IsLegalBook}
use Rattle.swap_rules.specs.Counted.{all_counted, counted}
use Rattle.swap_rules.proofs.Counted.{counted_is}
use Rattle.wallet_promise.proofs.LegalCounted.{counted_is_legal}

pub counted_book_is_legal : (d : Deal) (v : ℕ) (b : Histories) → IsLegalBook d b → IsLegalBook d (all_counted v b)
counted_book_is_legal d v b k =
    let long : length (all_counted v b) ≡ length b = length-map b (counted v) in record {
      one_each = long ∙ k.one_each;
      legal = λ a lt. subst (IsLegal d a) (sym (counted_is v b a)) (counted_is_legal d v a _ (k.legal a (subst (λ n. a < n) long lt)));
    }
