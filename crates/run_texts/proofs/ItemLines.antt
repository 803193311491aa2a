-- Ticks have no lines, so those of entries are those of their items.
use Rattle.std.proofs.Common.{◌≡◌, ℕ, zero, suc, ◌+◌, ◌++◌, List, [], ◌∷◌, length, refl, sym, ap, ap₂, ◌∙◌, ◌*◌, append_assoc, append-nil, arith}
use Rattle.swap_base.specs.Text.{lines}
use Rattle.escrow_core.specs.declared.terms.Terms.{Terms}
use Rattle.escrow_core.specs.declared.reply.Reply.TheVariants.{Accepted}
use Rattle.ledger_core.specs.declared.runs.Run.{Run}
use Rattle.ledger_core.specs.declared.runs.Item.{Item}
use Rattle.ledger_core.specs.declared.runs.Item.TheVariants.{One, Ticks}
use Rattle.ledger_core.specs.Ledger.{tick_entry}
use Rattle.ledger_core.specs.Runs.{ticks_above, run_ticks, ledger_entries, expand}
use Rattle.run_texts.specs.Report.{what_line, report_entry_line}
use Rattle.run_texts.specs.Items.{item_line}

lines_append : {A : Type 0} (f : ℕ → A → List ℕ) (n : ℕ) (xs ys : List A) → lines f n (xs ++ ys) ≡ lines f n xs ++ lines f (n + length xs) ys
unfolding lines
lines_append f n [] ys = let z : n ≡ n + 0 = omega arith in ap (λ m. lines f m ys) z
lines_append f n (x ∷ xs) ys =
    let z : (n + 1) + length xs ≡ n + length (x ∷ xs) = omega arith in
    ap (λ (t : List ℕ). f n x ++ t) (lines_append f (n + 1) xs ys ∙ ap (λ m. lines f (n + 1) xs ++ lines f m ys) z)
    ∙ sym (append_assoc (f n x) (lines f (n + 1) xs) (lines f (n + length (x ∷ xs)) ys))

module _ (names : List (List ℕ)) (t : Terms) where
  tick_line : (n k at : ℕ) → lines (report_entry_line names t) n (tick_entry k at Accepted ∷ []) ≡ []
  unfolding lines what_line
  tick_line n k at = refl

  tick_lines : (n at k c : ℕ) → lines (report_entry_line names t) n (ticks_above at k c) ≡ []
  unfolding lines
  tick_lines n at k zero = refl
  tick_lines n at k (suc c) =
      lines_append (report_entry_line names t) n (ticks_above at k c) (tick_entry k (at + k * suc c) Accepted ∷ [])
      ∙ ap₂ (λ (x y : List ℕ). x ++ y) (tick_lines n at k c) (tick_line (n + length (ticks_above at k c)) k (at + k * suc c))

  of_item : (n m : ℕ) (i : Item) → lines (report_entry_line names t) n (ledger_entries i) ≡ item_line names t m i
  unfolding lines
  of_item n m (One e) = append-nil (what_line names t e e.what)
  of_item n m (Ticks r) = tick_lines n r.above r.by r.count

  pub of_items : (n m : ℕ) (items : List Item) (r : Run) → lines (report_entry_line names t) n (expand items ++ run_ticks r) ≡ lines (item_line names t) m items
  unfolding lines
  of_items n m [] r = tick_lines n r.above r.by r.count
  of_items n m (i ∷ items) r =
      ap (lines (report_entry_line names t) n) (append_assoc (ledger_entries i) (expand items) (run_ticks r))
      ∙ lines_append (report_entry_line names t) n (ledger_entries i) (expand items ++ run_ticks r)
      ∙ ap₂ (λ (x y : List ℕ). x ++ y) (of_item n m i) (of_items (n + length (ledger_entries i)) (m + 1) items r)
