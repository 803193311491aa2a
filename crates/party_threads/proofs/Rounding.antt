-- What a round makes of the state, from what is said of its passes.
use Rattle.std.proofs.Common.{◌≡◌, ℕ, ◌+◌, ◌==◌, Bool, true, false, true≢false, List, [], ◌∷◌, ◌++◌, filter, refl, sym, ap, ◌∙◌, subst, inr, append_assoc}
use Rattle.std.proofs.Common.{eqb-true}
use Rattle.std.proofs.lemmas.List.Elements.{filter-append}
use mathlib.Core.List.{IsPrefix}
use Rattle.swap_base.specs.Lists.{IsElement}
use Rattle.swap_base.proofs.Lists.{moment_from_in, at_moment, in_append}
use Rattle.swap_digraph.specs.declared.deal.Deal.{Deal}
use Rattle.swap_digraph.specs.Deal.{touches}
use Rattle.escrow_core.specs.declared.reply.Reply.TheVariants.{Accepted}
use Rattle.ledger_core.specs.declared.entry.Entry.{Entry}
use Rattle.ledger_core.specs.declared.entry.Sender.{Sender}
use Rattle.ledger_core.specs.declared.entry.Sender.TheVariants.{Party, Clock}
use Rattle.ledger_core.specs.declared.entry.What.{What}
use Rattle.ledger_core.specs.declared.entry.What.TheVariants.{Call as Made, Tick}
use Rattle.ledger_core.specs.History.{height, is_sender, IsLegal, IsLegalEntry, IsLegalMoment}
use Rattle.ledger_core.specs.Ledger.{tick_entry}
use Rattle.ledger_core.specs.Value.{LedgerState}
use Rattle.ledger_shared.specs.Value.{PassState, ClockState, party_made, ticks_in_order, clock_mine, Closes, ClosesClock}
use Rattle.swap_rules.specs.Machine.{Begins, Knows}
use Rattle.party_threads.specs.Ticks.{HasTickedOnce}
use Rattle.party_threads.specs.Played.{sender_calls}
use Rattle.party_threads.proofs.Calls.{none_passes, others_add_none}
use Rattle.party_threads.proofs.Turning.{none_pass}
use Rattle.party_threads.proofs.Clocks.{height_of_ticks}

append_self : {A : Type 0} (xs ys : List A) → xs ++ ys ≡ xs → ys ≡ []
append_self [] ys e = e
append_self (x ∷ xs) ys e = append_self xs ys (cc)

-- a prefix that holds all calls of v
pub knows_of : (v : ℕ) (k h : List Entry) → IsPrefix k h → party_made v h ≡ party_made v k → Knows v k h
knows_of v k h pre own =
    let test = λ (e : Entry). is_sender v e.sender in
    let none : filter test pre.0 ≡ [] = append_self (filter test k) (filter test pre.0) (sym (filter-append test k pre.0) ∙ (ap (filter test) pre.1 ∙ own)) in
    record { rest = pre.0; whole = sym pre.1; others = none_passes test pre.0 none }

pub begins_of : (k h : List Entry) → IsPrefix k h → Begins k h
begins_of k h pre = (pre.0, sym pre.1)

-- what holds all calls of v holds the same calls
pub calls_known : (v : ℕ) (k h : List Entry) → Knows v k h → sender_calls v h ≡ sender_calls v k
calls_known v k h knows =
    ap (sender_calls v) knows.whole
    ∙ others_add_none v k knows.rest (none_pass (λ (e : Entry). is_sender v e.sender) knows.rest knows.others)

-- One side of a ledger: what its machine knows in the end.
pub side_knows : (v : ℕ) (q : PassState) (l : LedgerState) (known : List Entry) → q.party ≡ v → q.seen ≡ known → Closes l q → Knows v known l.history
side_knows v q l known is seen k =
    subst (λ h. Knows v h l.history) seen
    (knows_of v q.seen l.history k.seen (subst (λ w. party_made w l.history ≡ party_made w q.seen) is k.mine))

-- The clock's side.
pub clock_side : (d : Deal) (a ticks : ℕ) (p q : ClockState) (h : List Entry) (l : LedgerState) → IsLegal d a h → p.seen ≡ h → HasTickedOnce ticks p q
    → ClosesClock l q → (ticks_in_order l.history ≡ ticks_in_order h ++ tick_entry ticks (height h + ticks) Accepted ∷ []) × Begins h l.history
clock_side d a ticks p q h l legal start t k =
    let mine : clock_mine p ≡ ticks_in_order h = ap ticks_in_order start in
    let low : height (clock_mine p) ≡ height h = ap height mine ∙ sym (height_of_ticks d a h legal) in
    let more : q.seen ≡ h ++ t.later.0 = ap (λ (x : ClockState). x.seen) t.later.1 ∙ ap (λ x. x ++ t.later.0) start in (
      k.mine ∙ (t.mine ∙ (ap (λ n. clock_mine p ++ tick_entry ticks (n + ticks) Accepted ∷ []) low
          ∙ ap (λ x. x ++ tick_entry ticks (height h + ticks) Accepted ∷ []) mine)),
      (t.later.0 ++ k.seen.0, sym k.seen.1 ∙ (ap (λ x. x ++ k.seen.0) more ∙ append_assoc h t.later.0 k.seen.0)),
    )

-- Arcs of others.

not_sender : (d : Deal) (a v : ℕ) (past : List Entry) (s : Sender) (w : What) (at : ℕ) (r : _) → IsLegalEntry d a past s w at r → touches d v a ≡ false
    → is_sender v s ≡ false
not_sender d a v past (Party p) (Made c) at r l far = go (p == v) refl
  where
    go : (b : Bool) → (p == v) ≡ b → b ≡ false
    go true e = absurd (true≢false (sym (subst (λ x. touches d x a ≡ true) (eqb-true p v e) l.of_the_two) ∙ far))
    go false e = refl
not_sender d a v past (Party p) (Tick k) at r l far = absurd l
not_sender d a v past Clock w at r l far = refl

-- a party that an arc doesn't touch makes no call there
pub far_from : (d : Deal) (a v : ℕ) (h : List Entry) → IsLegal d a h → touches d v a ≡ false → (e : Entry) → IsElement e h → is_sender v e.sender ≡ false
far_from d a v h legal far e i =
    let m = moment_from_in h e i in
    not_sender d a v m.0 e.sender e.what e.height e.reply (at_moment (IsLegalMoment d a) h m.0 e legal m.1) far

-- what a party knows of an arc that it doesn't touch stays enough
pub far_knows : (d : Deal) (a v : ℕ) (known h l : List Entry) → IsLegal d a l → touches d v a ≡ false → Begins h l → Knows v known h → Knows v known l
far_knows d a v known h l legal far grows k = record {
  rest = k.rest ++ grows.0;
  whole = grows.1 ∙ (ap (λ x. x ++ grows.0) k.whole ∙ append_assoc known k.rest grows.0);
  others = λ e i. far_from d a v l legal far e
      (subst (IsElement e) (sym (grows.1 ∙ (ap (λ x. x ++ grows.0) k.whole ∙ append_assoc known k.rest grows.0))) (in_append known (k.rest ++ grows.0) e (inr i)));
}
