-- Where a party is late, in the parts in which a program lists it.
use Rattle.std.proofs.Common.{◌≡◌, ℕ, ◌+◌, Bool, true, false, cond, not, ◌&&◌, nat_lt, nat_le, List, [], ◌∷◌, ◌++◌, Option, Some, None, refl, sym, ap}
use Rattle.std.proofs.Common.{◌∙◌, append-nil, append_assoc}
use Rattle.std.specs.Prelude.{map}
use Rattle.std.specs.List.{flat_map}
use Rattle.std.proofs.lemmas.List.Concat.{flat_map-append}
use Rattle.swap_digraph.specs.declared.deal.Deal.{Deal}
use Rattle.swap_digraph.specs.Deal.{locks}
use Rattle.ledger_core.specs.declared.entry.Call.{Call}
use Rattle.ledger_core.specs.declared.entry.Entry.{Entry}
use Rattle.ledger_core.specs.History.{height}
use Rattle.ledger_core.specs.Book.{Histories, history}
use Rattle.swap_rules.specs.declared.finding.Rule.{Rule}
use Rattle.swap_rules.specs.declared.finding.Rule.TheVariants.{Publish as ToPublish, Unlock as ToUnlock, Claim as ToClaim, Refund as ToRefund}
use Rattle.swap_rules.specs.declared.finding.Finding.{Finding}
use Rattle.swap_rules.specs.declared.finding.Finding.TheVariants.{Late}
use Rattle.swap_rules.specs.Late.{counts, is_done, is_past_due, reference_height}
use Rattle.swap_rules.specs.Party.{pick_call}
use Rattle.swap_rules.specs.Findings.{arc_late_findings, lates, or_zero}
use Rattle.conduct_check.specs.declared.counting.Counted.{Counted}
use Rattle.conduct_check.specs.Overdue.{is_counted_call, counts_entry, has_counted_call, is_overdue, rule_late_findings, overdue, IsAsked}
use Rattle.conduct_check.proofs.Base.{any_same}

abbrev pub listed : ℕ → Rule → ℕ → Option ℕ → List Finding
listed v rule a None = []
listed v rule a (Some due) = Late v rule a due ∷ []

by_test : (v : ℕ) (rule : Rule) (a from delta : ℕ) (late : Bool)
    → cond late (Late v rule a (from + delta) ∷ []) [] ≡ listed v rule a (cond late (Some (from + delta)) None)
by_test v rule a from delta true = refl
by_test v rule a from delta false = refl

counts_same : (d : Deal) (b : Histories) (v : ℕ) (rule : Rule) (a : ℕ) (c : Counted) (due : ℕ)
    → ((at : ℕ) (o : Option Call) → is_counted_call c at o ≡ counts d b v rule a at o) → (e : Entry)
    → (counts d b v rule a e.height (pick_call v e) && nat_le e.height due) ≡ counts_entry c v due e
unfolding counts_entry
counts_same d b v rule a c due same e = ap (λ x. x && nat_le e.height due) (sym (same e.height (pick_call v e)))

by_ref : (d : Deal) (b : Histories) (v : ℕ) (rule : Rule) (a : ℕ) (c : Counted)
    → ((at : ℕ) (o : Option Call) → is_counted_call c at o ≡ counts d b v rule a at o) → (ref : Option ℕ)
    → cond (is_past_due d b v rule a ref) (Late v rule a (or_zero ref + d.delta) ∷ []) [] ≡ listed v rule a (overdue d.delta c v ref (history b a))
by_ref d b v rule a c same None = refl
by_ref d b v rule a c same (Some from) =
    let due = from + d.delta in
    let done : is_done d b v rule a due ≡ has_counted_call c v due (history b a) =
    any_same (λ e. counts d b v rule a e.height (pick_call v e) && nat_le e.height due) (counts_entry c v due) (history b a)
    (counts_same d b v rule a c due same) in
    ap (λ x. cond (nat_lt due (height (history b a)) && not x) (Late v rule a due ∷ []) []) done
    ∙ by_test v rule a from d.delta (is_overdue d.delta c v (Some from) (history b a))

-- where v is late, by the height from which the rule asks and the calls that count
pub late_listed : (d : Deal) (b : Histories) (v : ℕ) (rule : Rule) (a : ℕ) (from : Option ℕ) (c : Counted) → IsAsked d b v rule a from c
    → arc_late_findings d b v rule a ≡ listed v rule a (overdue d.delta c v from (history b a))
late_listed d b v rule a from c k =
    by_ref d b v rule a c k.calls (reference_height d b v rule a) ∙ ap (λ r. listed v rule a (overdue d.delta c v r (history b a))) (sym k.height)

-- where the rule asks nothing, nothing is added
pub none_late : (d : Deal) (b : Histories) (v : ℕ) (rule : Rule) (a : ℕ) (out : List Finding) → reference_height d b v rule a ≡ None → out ≡ out ++ arc_late_findings d b v rule a
none_late d b v rule a out e =
    sym (append-nil out) ∙ ap (λ r. out ++ cond (is_past_due d b v rule a r) (Late v rule a (or_zero r + d.delta) ∷ []) []) (sym e)

flat_map-map : {A B C : Type 0} (f : B → List C) (g : A → B) (xs : List A) → flat_map f (map g xs) ≡ flat_map (λ x. f (g x)) xs
flat_map-map f g [] = refl
flat_map-map f g (x ∷ xs) = ap (λ l. f (g x) ++ l) (flat_map-map f g xs)

pub lates_in_parts : (d : Deal) (b : Histories) (v : ℕ)
    → lates d b v ≡ ((rule_late_findings d b v ToPublish ++ flat_map (λ i. rule_late_findings d b v (ToUnlock i)) (locks d)) ++ rule_late_findings d b v ToClaim)
    ++ rule_late_findings d b v ToRefund
lates_in_parts d b v =
    let f : Rule → List Finding = rule_late_findings d b v in
    let us = flat_map (λ i. f (ToUnlock i)) (locks d) in
    let middle : flat_map f (map ToUnlock (locks d) ++ ToClaim ∷ ToRefund ∷ []) ≡ us ++ (f ToClaim ++ f ToRefund) =
    flat_map-append f (map ToUnlock (locks d)) (ToClaim ∷ ToRefund ∷ [])
    ∙ ap (λ l. l ++ (f ToClaim ++ (f ToRefund ++ []))) (flat_map-map f ToUnlock (locks d))
    ∙ ap (λ l. us ++ (f ToClaim ++ l)) (append-nil (f ToRefund)) in
    ap (λ l. f ToPublish ++ l) middle
    ∙ sym (append_assoc (f ToPublish) us (f ToClaim ++ f ToRefund))
    ∙ sym (append_assoc (f ToPublish ++ us) (f ToClaim) (f ToRefund))

added : (o a b c e w x y z : List Finding) → w ≡ o ++ a → x ≡ w ++ b → y ≡ x ++ c → z ≡ y ++ e → z ≡ o ++ (((a ++ b) ++ c) ++ e)
added o a b c e w x y z p q r s =
    let two : x ≡ o ++ (a ++ b) = q ∙ ap (λ l. l ++ b) p ∙ append_assoc o a b in
    let three : y ≡ o ++ ((a ++ b) ++ c) = r ∙ ap (λ l. l ++ c) two ∙ append_assoc o (a ++ b) c in
    s ∙ ap (λ l. l ++ e) three ∙ append_assoc o ((a ++ b) ++ c) e

-- the four parts, added one after another
pub lates_added : (d : Deal) (b : Histories) (v : ℕ) (o w x y z : List Finding) → w ≡ o ++ rule_late_findings d b v ToPublish
    → x ≡ w ++ flat_map (λ i. rule_late_findings d b v (ToUnlock i)) (locks d) → y ≡ x ++ rule_late_findings d b v ToClaim → z ≡ y ++ rule_late_findings d b v ToRefund
    → z ≡ o ++ lates d b v
lates_added d b v o w x y z p q r s =
    added o (rule_late_findings d b v ToPublish) (flat_map (λ i. rule_late_findings d b v (ToUnlock i)) (locks d)) (rule_late_findings d b v ToClaim) (rule_late_findings d b v ToRefund) w x y
    z p q r s ∙ ap (λ l. o ++ l) (sym (lates_in_parts d b v))
