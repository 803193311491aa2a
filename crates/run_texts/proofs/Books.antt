-- The history of an arc among those of a book.
use Rattle.std.proofs.Common.{◌≡◌, ◌<◌, ◌^◌, ℕ, List, [], length, get_or, subst, sym, ◌∙◌}
use Rattle.std.proofs.lemmas.List.{get_or_default}
use Rattle.swap_digraph.specs.declared.deal.Deal.{Deal}
use Rattle.ledger_core.specs.declared.entry.Entry.{Entry}
use Rattle.ledger_core.specs.History.{IsLegal, height}
use Rattle.ledger_core.specs.Book.{Histories, IsLegalBook}
use Rattle.ledger_core.proofs.Bounds.{countable}

pub legal_at : (d : Deal) (b : Histories) (a : ℕ) (h : List Entry) → IsLegalBook d b → a < length b → h ≡ get_or b a h → IsLegal d a h
legal_at d b a h k lt is = subst (λ (x : List Entry). IsLegal d a x) (sym (is ∙ get_or_default b a h [] lt)) (k.legal a lt)

pub low_height : (d : Deal) (a : ℕ) (h : List Entry) → IsLegal d a h → height h < 2 ^ 32
low_height d a h k = (countable d a h k).height
