-- The opening of a lock among items of a history.
use Rattle.std.proofs.Common.{append_assoc, ◌≡◌, ℕ, zero, suc, ◌+◌, ◌*◌, List, [], ◌∷◌, ◌++◌, Option, Some, None, refl, ap, ◌∙◌, sym}
use Rattle.swap_base.specs.Lists.{or_else, first_given_answer}
use Rattle.swap_base.proofs.Lists.{first_given_answer-append}
use Rattle.escrow_core.specs.declared.reply.Reply.TheVariants.{Accepted}
use Rattle.ledger_core.specs.declared.entry.Entry.{Entry}
use Rattle.ledger_core.specs.declared.runs.Run.{Run}
use Rattle.ledger_core.specs.declared.runs.Item.{Item}
use Rattle.ledger_core.specs.declared.runs.Item.TheVariants.{One, Ticks}
use Rattle.ledger_core.specs.Runs.{ticks_above, run_ticks, ledger_entries, expand}
use Rattle.ledger_core.specs.Ledger.{tick_entry}
use Rattle.ledger_core.specs.History.{Opening, opening, opened, accepted}
use Rattle.swap_job.specs.MoveKeys.{item_opening}

or_none : {B : Type 0} (o : Option B) → or_else o None ≡ o
or_none None = refl
or_none (Some x) = refl

-- ticks open nothing
no_opening : (i at k n : ℕ) → first_given_answer (λ e. opening i e.height (accepted e)) (ticks_above at k n) ≡ None
no_opening i at k zero = refl
no_opening i at k (suc n) =
    first_given_answer-append (λ e. opening i e.height (accepted e)) (ticks_above at k n) (tick_entry k (at + k * suc n) Accepted ∷ [])
    ∙ ap (λ o. or_else o None) (no_opening i at k n)

by_item : (i : ℕ) (x : Item) (xs : List Entry)
    → first_given_answer (λ e. opening i e.height (accepted e)) (ledger_entries x ++ xs)
    ≡ or_else (item_opening i x) (first_given_answer (λ e. opening i e.height (accepted e)) xs)
by_item i (One e) xs = refl
by_item i (Ticks r) xs =
    first_given_answer-append (λ e. opening i e.height (accepted e)) (run_ticks r) xs
    ∙ ap (λ o. or_else o (first_given_answer (λ e. opening i e.height (accepted e)) xs)) (no_opening i r.above r.by r.count)

by_items : (i : ℕ) (items : List Item) (xs : List Entry)
    → first_given_answer (λ e. opening i e.height (accepted e)) (expand items ++ xs)
    ≡ or_else (first_given_answer (item_opening i) items) (first_given_answer (λ e. opening i e.height (accepted e)) xs)
by_items i [] xs = refl
by_items i (x ∷ items) xs =
    ap (first_given_answer (λ e. opening i e.height (accepted e))) (append_assoc (ledger_entries x) (expand items) xs)
    ∙ (by_item i x (expand items ++ xs)
    ∙ (ap (or_else (item_opening i x)) (by_items i items xs)
    ∙ sym (or_else_assoc (item_opening i x) (first_given_answer (item_opening i) items) (first_given_answer (λ e. opening i e.height (accepted e)) xs))))
  where
    or_else_assoc : (o r s : Option Opening) → or_else (or_else o r) s ≡ or_else o (or_else r s)
    or_else_assoc None r s = refl
    or_else_assoc (Some y) r s = refl

-- the opening among the items is that of the list
pub opened_among : (i : ℕ) (list : List Entry) (items : List Item) (r : Run) → list ≡ expand items ++ run_ticks r
    → first_given_answer (item_opening i) items ≡ opened list i
opened_among i list items r e =
    sym (ap (λ xs. opened xs i) e
    ∙ (by_items i items (run_ticks r) ∙ (ap (or_else (first_given_answer (item_opening i) items)) (no_opening i r.above r.by r.count)
    ∙ or_none (first_given_answer (item_opening i) items))))
