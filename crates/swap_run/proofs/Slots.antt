-- What a conforming party may still call: at most one call of each rule on each arc, and each due
-- call uses one.
use Rattle.std.proofs.Common.{append_assoc, length-append, count_by, ◌≡◌, ◌≢◌, ◌⊎◌, ℕ, suc, ◌+◌, ◌*◌, ◌<◌, ◌≤◌, Bool, true, false, not, List, [], ◌∷◌}
use Rattle.std.proofs.Common.{◌++◌, length, refl, sym, ap, ◌∙◌, inl, inr, arith, map, set, subst}
use Rattle.std.specs.List.{flat_map}
use Rattle.std.proofs.lemmas.List.FromFn.{length-map-range_with_len}
use Rattle.std.proofs.lemmas.List.Sums.{count_by-le-length}
use Rattle.swap_base.specs.Lists.{IsElement}
use Rattle.swap_base.proofs.Lists.{list_any-in, in_append, in_range}
use Rattle.swap_digraph.specs.declared.deal.Deal.{Deal}
use Rattle.swap_digraph.specs.Graph.{arcs}
use Rattle.ledger_core.specs.declared.entry.Entry.{Entry}
use Rattle.ledger_core.specs.Book.{Histories, history}
use Rattle.swap_rules.specs.declared.finding.Rule.{Rule}
use Rattle.swap_rules.specs.Party.{pick_call}
use Rattle.swap_rules.specs.Due.{has_called}
use Rattle.swap_rules.specs.Findings.{deal_rules}
use Rattle.swap_rules.specs.Machine.{Begins, rule_test}
use Rattle.swap_rules.proofs.Prefixes.{same_or_not, list_any-more}
use Rattle.swap_rules.proofs.Conducting.{history_other}
use Rattle.swap_run.specs.Fair.{most_acts}
use Rattle.swap_base.proofs.Lists.{count_less, not-mono, in_map, in_flat_map}
use Rattle.swap_rules.proofs.Room.{number_of_rules}

-- A rule on an arc.
pub record Slot : Type 0 where
  pub rule : Rule
  pub arc : ℕ

abbrev chain_slots : Deal → Rule → List Slot
chain_slots d r = map (λ a. record { rule = r; arc = a }) (arcs d.graph)

abbrev pub slots : Deal → List Slot
slots d = flat_map (chain_slots d) (deal_rules d)

-- How many there are.

one_more : (n m x y z : ℕ) → z ≡ x + y → x ≡ n → y ≡ m * n → z ≡ suc m * n
one_more n m x y z e f g = omega arith

slots_for : (d : Deal) (rs : List Rule) → length (flat_map (chain_slots d) rs) ≡ length rs * length d.graph.arcs
slots_for d [] = none (length d.graph.arcs)
  where
    none : (n : ℕ) → 0 ≡ 0 * n
    none n = omega arith
slots_for d (r ∷ rs) =
    one_more (length d.graph.arcs) (length rs) (length (chain_slots d r)) (length (flat_map (chain_slots d) rs)) (length (flat_map (chain_slots d) (r ∷ rs)))
    (length-append (chain_slots d r) (flat_map (chain_slots d) rs)) (length-map-range_with_len (λ a. record { rule = r; arc = a }) 0 (length d.graph.arcs))
    (slots_for d rs)

number_of_slots : (d : Deal) → length (slots d) ≡ most_acts d
number_of_slots d = slots_for d (deal_rules d) ∙ ap (λ m. m * length d.graph.arcs) (number_of_rules d)

-- Which are open.

abbrev open_slot : ℕ → Histories → Slot → Bool
open_slot v known z = not (has_called v (rule_test z.rule) (history known z.arc))

abbrev pub left : Deal → ℕ → Histories → ℕ
left d v known = count_by (open_slot v known) (slots d)

pub left_most : (d : Deal) (v : ℕ) (known : Histories) → left d v known ≤ most_acts d
left_most d v known = subst (λ n. left d v known ≤ n) (number_of_slots d) (count_by-le-length (open_slot v known) (slots d))

slot_in : (d : Deal) (r : Rule) (a : ℕ) → IsElement r (deal_rules d) → a < length d.graph.arcs → IsElement (record { rule = r; arc = a }) (slots d)
slot_in d r a i l =
    in_flat_map (chain_slots d) (deal_rules d) r (record { rule = r; arc = a }) i (in_map (λ (a : ℕ). let s : Slot = record { rule = r; arc = a } in
    s) (arcs d.graph) a (in_range a (length d.graph.arcs) l))

-- a call that is the first of its rule leaves one slot less
pub left_less : (d : Deal) (v : ℕ) (known : Histories) (h book : List Entry) (a : ℕ) (e : Entry) (r : Rule) → history (set known a h) a ≡ book ++ e ∷ []
    → Begins (history known a) book → IsElement r (deal_rules d) → a < length d.graph.arcs
    → has_called v (rule_test r) (history known a) ≡ false → rule_test r (pick_call v e) ≡ true → left d v (set known a h) + 1 ≤ left d v known
left_less d v known h book a e r there b i l f p = count_less (open_slot v known) (open_slot v (set known a h)) (slots d)
    (λ z q. not-mono (has_called v (rule_test z.rule) (history known z.arc)) (has_called v (rule_test z.rule) (history (set known a h) z.arc)) (λ y.
    more z y (same_or_not z.arc a)) q)
    (record { rule = r; arc = a }) (slot_in d r a i l) (ap not f)
    (ap not (ap (has_called v (rule_test r)) there
    ∙ list_any-in (λ y. rule_test r (pick_call v y)) (book ++ e ∷ []) e p (in_append book (e ∷ []) e (inr (inl refl)))))
  where
    more : (z : Slot) → has_called v (rule_test z.rule) (history known z.arc) ≡ true → (z.arc ≡ a) ⊎ (z.arc ≢ a)
        → has_called v (rule_test z.rule) (history (set known a h) z.arc) ≡ true
    more z y (inl q) =
        ap (λ c. has_called v (rule_test z.rule) (history (set known a h) c)) q
        ∙ (ap (has_called v (rule_test z.rule)) (there ∙ (ap (λ l. l ++ e ∷ []) b.1 ∙ append_assoc (history known a) b.0 (e ∷ [])))
        ∙ list_any-more (λ y. rule_test z.rule (pick_call v y)) (history known a) (b.0 ++ e ∷ [])
        (ap (λ c. has_called v (rule_test z.rule) (history known c)) (sym q) ∙ y))
    more z y (inr q) = ap (has_called v (rule_test z.rule)) (history_other known a z.arc h q) ∙ y
