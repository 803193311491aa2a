-- Hashkeys that are known from accepted unlocks, item by item.
use Rattle.std.proofs.Common.{◌≡◌, ℕ, zero, suc, ◌+◌, ◌*◌, ◌<◌, List, [], ◌∷◌, ◌++◌, length, get_or, take, refl, sym, ap, ◌∙◌, append_assoc}
use Rattle.std.specs.List.{flat_map}
use Rattle.std.specs.Prelude.{Result, Ok, Err, OnOk}
use Rattle.std.proofs.lemmas.List.{take_more, append-nil}
use Rattle.std.proofs.lemmas.Grind.{flat_map-append}
use Rattle.escrow_core.specs.declared.reply.Reply.TheVariants.{Accepted}
use Rattle.ledger_core.specs.declared.entry.Entry.{Entry}
use Rattle.ledger_core.specs.declared.runs.Run.{Run}
use Rattle.ledger_core.specs.declared.runs.Item.{Item}
use Rattle.ledger_core.specs.declared.runs.Item.TheVariants.{One, Ticks}
use Rattle.ledger_core.specs.Runs.{ticks_above, run_ticks, ledger_entries, expand}
use Rattle.ledger_core.specs.Ledger.{tick_entry}
use Rattle.ledger_core.specs.History.{accepted}
use Rattle.swap_run.specs.Rules.{call_keys, item_keys}

-- what one member more adds
pub one_more : {A B : Type 0} (f : A → List B) (xs : List A) (i : ℕ) (x : A) (old so_far new : List B) → i < length xs → x ≡ get_or xs i x
    → so_far ≡ old ++ flat_map f (take i xs) → new ≡ so_far ++ f x
    → new ≡ old ++ flat_map f (take (i + 1) xs)
one_more f xs i x old so_far new l is e h =
    h ∙ (ap (λ ys. ys ++ f x) e ∙ (append_assoc old (flat_map f (take i xs)) (f x)
    ∙ ap (λ ys. old ++ ys) (ap (λ ys. flat_map f (take i xs) ++ ys) (sym (append-nil (f x)))
    ∙ sym (flat_map-append f (take i xs) (x ∷ [])) ∙ ap (flat_map f) (ap (λ y. take i xs ++ y ∷ []) is ∙ sym (take_more xs i x l)))))

no_keys : (at k n : ℕ) → flat_map (λ e. call_keys (accepted e)) (ticks_above at k n) ≡ []
no_keys at k zero = refl
no_keys at k (suc n) =
    flat_map-append (λ e. call_keys (accepted e)) (ticks_above at k n) (tick_entry k (at + k * suc n) Accepted ∷ []) ∙ ap (λ ys. ys ++ []) (no_keys at k n)

of_item : (x : Item) → flat_map (λ e. call_keys (accepted e)) (ledger_entries x) ≡ item_keys x
of_item (One e) = append-nil (call_keys (accepted e))
of_item (Ticks r) = no_keys r.above r.by r.count

of_items : (items : List Item) → flat_map (λ e. call_keys (accepted e)) (expand items) ≡ flat_map item_keys items
of_items [] = refl
of_items (x ∷ items) =
    flat_map-append (λ e. call_keys (accepted e)) (ledger_entries x) (expand items)
    ∙ (ap (λ ys. ys ++ flat_map (λ e. call_keys (accepted e)) (expand items)) (of_item x) ∙ ap (λ ys. item_keys x ++ ys) (of_items items))

-- the hashkeys of a list are those of its items
pub of_list : (list : List Entry) (items : List Item) (r : Run) → list ≡ expand items ++ run_ticks r
    → flat_map item_keys items ≡ flat_map (λ e. call_keys (accepted e)) list
of_list list items r e =
    sym (ap (flat_map (λ x. call_keys (accepted x))) e
    ∙ (flat_map-append (λ x. call_keys (accepted x)) (expand items) (run_ticks r)
    ∙ (ap (λ ys. flat_map (λ x. call_keys (accepted x)) (expand items) ++ ys) (no_keys r.above r.by r.count) ∙ (append-nil _ ∙ of_items items))))

pub on_ok : {A E : Type 0} {P Q : Type 0} (r : Result A E) → (P → Q) → OnOk r P → OnOk r Q
on_ok (Ok x) f h = f h
on_ok (Err e) f h = tt
