-- What a party has, in units.
use Rattle.std.proofs.Common.{count_by, ◌≡◌, ◌≢◌, ◌⊎◌, ℕ, ◌+◌, ◌<◌, ◌≤◌, ◌==◌, nat_lt, Bool, true, false, cond, List, [], ◌∷◌, length, Option, Some}
use Rattle.std.proofs.Common.{None, refl, sym, ap, ◌∙◌, subst, inl, inr, arith, eqb-true, ltb-false}
use Rattle.std.specs.List.{list_any}
use Rattle.std.proofs.lemmas.Bool.{false≢true}
use Rattle.std.proofs.lemmas.Bool.Decides.{nat_tests}
use Rattle.std.proofs.lemmas.List.Sums.{sum_by-cons}
use Rattle.swap_base.specs.Lists.{IsElement}
use Rattle.swap_base.proofs.Lists.{and_parts, any_at, bool_or, in_from_moment, list_any-in, moment_from_in, some_passes}
use Rattle.swap_digraph.specs.declared.deal.Deal.{Deal}
use Rattle.swap_digraph.specs.Graph.{leaving, entering}
use Rattle.swap_digraph.specs.Deal.{party, counterparty}
use Rattle.ledger_core.specs.declared.entry.Call.TheVariants.{Transfer}
use Rattle.ledger_core.specs.declared.facts.Settlement.{Settlement}
use Rattle.ledger_core.specs.declared.facts.Settlement.TheVariants.{Claimed, Refunded}
use Rattle.ledger_core.specs.History.{accounts, settled}
use Rattle.ledger_core.specs.Book.{Histories, history}
use Rattle.swap_rules.specs.declared.outcome.Outcome.{Outcome}
use Rattle.swap_rules.specs.declared.outcome.Outcome.TheVariants.{NoDeal, FreeRide, Underwater, Deal as WholeDeal, Discount}
use Rattle.swap_rules.specs.Party.{is_correct, is_triggered, pick_call}
use Rattle.swap_rules.specs.Conduct.{keeps, IsConducted}
use Rattle.swap_rules.specs.Outcome.{is_claim, is_got, got, lost, outcome}
use Rattle.swap_rules.specs.Laws.{HasRefunds, IsUnforged}
use Rattle.swap_rules.specs.Walking.{HasLost}
use Rattle.swap_rules.proofs.Calls.{kept, correct}
use Rattle.swap_rules.proofs.Refunds.{watchful_is_safe}
use Rattle.swap_rules.proofs.Walking.{unpublished_loses_nothing}
use Rattle.swap_rules.proofs.Words.{enters}
use Rattle.swap_units.specs.Units.{AboveWaterIsPaid, GivesNothingBack, GotIsPaid, IsPaid, KeepsAll, OutcomesAreUnits, SafeIsWhole}
use Rattle.swap_units.specs.Units.{UnpublishedIsWhole, WatchfulIsWhole}
use Rattle.swap_units.proofs.Spent.{NoTransferBack, whole_is_paid}

pub claimed_of : (s : Option Settlement) → is_claim s ≡ true → s ≡ Some Claimed
claimed_of None e = absurd (cc e)
claimed_of (Some Claimed) e = refl
claimed_of (Some Refunded) e = absurd (cc e)

pub got_is_paid : GotIsPaid
got_is_paid d b v a k legal gives w g =
    let in_arc = enters d v a w in
    let parts = and_parts (is_correct d b a) (is_claim (settled (history b a))) g in
    let c = correct d b a parts.0 in
    let back : NoTransferBack d a (history b a) =
    λ e to units i q. let m = moment_from_in (history b a) e i in gives a m.0 e to units w m.1 (ap (λ x. pick_call x e) (sym in_arc.1) ∙ q) in
    let p =
    whole_is_paid d a (history b a) (legal.legal a (rw legal.one_each in_arc.0)) back (c.contract, c.published, ap (λ t. t.amount) c.terms)
    (claimed_of (settled (history b a)) parts.1) in
    ap (λ x. cond x (accounts d a (history b a)).party (accounts d a (history b a)).counterparty) (apart in_arc.0 in_arc.1 (v == party d a) refl) ∙ p
  where
    apart : a < length d.graph.arcs → counterparty d a ≡ v → (x : Bool) → (v == party d a) ≡ x → (v == party d a) ≡ false
    apart l f true e = absurd (k.ends.apart a l (sym (eqb-true v (party d a) e) ∙ sym f))
    apart l f false e = e

-- a conducted party transfers nothing
pub conducted_gives_nothing_back : (d : Deal) (b : Histories) (v : ℕ) → IsConducted d b v → GivesNothingBack d b v
unfolding keeps
conducted_gives_nothing_back d b v conducted a past e to units w m q = false≢true (kept d b v conducted a past e (Transfer to units) m q)

-- What a count says.

count_most : {A : Type 0} (p : A → Bool) (xs : List A) → count_by p xs ≤ length xs
count_most p [] = omega arith
count_most p (x ∷ xs) =
    let e : count_by p (x ∷ xs) ≡ cond (p x) 1 0 + count_by p xs = sum_by-cons (λ z. cond (p z) 1 0) x xs in
    let r = count_most p xs in
    let s : cond {A = ℕ} (p x) 1 0 ≤ 1 = bit (p x) in
    omega arith
  where
    bit : (t : Bool) → cond {A = ℕ} t 1 0 ≤ 1
    bit true = omega arith
    bit false = omega arith

-- where as many pass as there are, each does
all_pass_head : {A : Type 0} (p : A → Bool) (y : A) (ys : List A) (x : A) (t : Bool) → p y ≡ t → length (y ∷ ys) ≤ count_by p (y ∷ ys)
    → (length ys ≤ count_by p ys → IsElement x ys → p x ≡ true) → IsElement x (y ∷ ys) → p x ≡ true
all_pass_head p y ys x false f l rest i =
    let e : count_by p (y ∷ ys) ≡ cond (p y) 1 0 + count_by p ys = sum_by-cons (λ z. cond (p z) 1 0) y ys in
    let z : ◌≡◌ {A = ℕ} (cond (p y) 1 0) 0 = ap (λ q. cond {A = ℕ} q 1 0) f in
    let m = count_most p ys in
    absurd (omega arith)
all_pass_head p y ys x true f l rest (inl q) = ap p q ∙ f
all_pass_head p y ys x true f l rest (inr j) =
    let e : count_by p (y ∷ ys) ≡ cond (p y) 1 0 + count_by p ys = sum_by-cons (λ z. cond (p z) 1 0) y ys in
    let z : ◌≡◌ {A = ℕ} (cond (p y) 1 0) 1 = ap (λ q. cond {A = ℕ} q 1 0) f in
    rest (omega arith) j

all_pass : {A : Type 0} (p : A → Bool) (xs : List A) (x : A) → length xs ≤ count_by p xs → IsElement x xs → p x ≡ true
all_pass p [] x l i = absurd i
all_pass p (y ∷ ys) x l i = all_pass_head p y ys x (p y) refl l (all_pass p ys x) i

count_some : {A : Type 0} (p : A → Bool) (xs : List A) (x : A) → IsElement x xs → p x ≡ true → 0 < count_by p xs
count_some p [] x i h = absurd i
count_some p (y ∷ ys) x (inl q) h =
    let e : count_by p (y ∷ ys) ≡ cond (p y) 1 0 + count_by p ys = sum_by-cons (λ z. cond (p z) 1 0) y ys in
    let z : ◌≡◌ {A = ℕ} (cond (p y) 1 0) 1 = ap (λ q. cond {A = ℕ} q 1 0) (ap p (sym q) ∙ h) in
    omega arith
count_some p (y ∷ ys) x (inr j) h =
    let e : count_by p (y ∷ ys) ≡ cond (p y) 1 0 + count_by p ys = sum_by-cons (λ z. cond (p z) 1 0) y ys in
    let r = count_some p ys x j h in
    omega arith

not_zero : (n : ℕ) → 0 < n → (n == 0) ≡ false
not_zero n l = grind (arith, nat_tests)

-- The outcome.

under : (x y z u : Bool) → x ≡ false → z ≡ true → cond x (cond y NoDeal FreeRide) (cond z Underwater (cond u WholeDeal Discount)) ≡ Underwater
under true y z u e f = absurd (cc e)
under false y true u e f = refl
under false y false u e f = absurd (cc f)

-- a party that lost and isn't underwater got all
pub got_all : (d : Deal) (b : Histories) (v : ℕ) → outcome d b v ≢ Underwater → HasLost d b v → (a : ℕ) → IsElement a (entering d.graph v) → is_got d b a ≡ true
unfolding outcome
got_all d b v above has a w = go (nat_lt (got d b v) (length (entering d.graph v))) refl
  where
    some : 0 < lost d b v
    some =
        let f = any_at (is_triggered d b) (leaving d.graph v) has in
        count_some (is_triggered d b) (leaving d.graph v) f.now (subst (IsElement f.now) (sym f.stands.1) (in_from_moment f.past f.now f.stands.0)) f.passes

    go : (x : Bool) → nat_lt (got d b v) (length (entering d.graph v)) ≡ x → is_got d b a ≡ true
    go true e = absurd (above (under (lost d b v == 0) (got d b v == 0) _ (lost d b v == length (leaving d.graph v)) (not_zero (lost d b v) some) e))
    go false e = all_pass (is_got d b) (entering d.graph v) a (ltb-false (got d b v) (length (entering d.graph v)) e) w

pub above_water_is_paid : AboveWaterIsPaid
above_water_is_paid d b v k legal conducted above has a w =
    got_is_paid d b v a k legal (conducted_gives_nothing_back d b v conducted) w (got_all d b v above has a w)

-- where no leaving arc is triggered, refunds are all
kept_all : (d : Deal) (b : Histories) (v : ℕ) → HasRefunds d b v → (HasLost d b v → ⊥) → KeepsAll d b v
kept_all d b v refunds none a w = elim (bool_or (is_triggered d b a)) [
  | inl e ↦ absurd (none (list_any-in (is_triggered d b) (leaving d.graph v) a e w))
  | inr e ↦ refunds a w e
]

-- it lost nothing, or is paid in full
pub whole_or_paid : (d : Deal) (b : Histories) (v : ℕ) → HasRefunds d b v → (HasLost d b v → IsPaid d b v) → KeepsAll d b v ⊎ IsPaid d b v
whole_or_paid d b v refunds paid = elim (bool_or (list_any (is_triggered d b) (leaving d.graph v))) [
  | inl e ↦ inr (paid e)
  | inr e ↦ inl (kept_all d b v refunds (λ has. false≢true (sym e ∙ has)))
]

pub safe_is_whole : SafeIsWhole
safe_is_whole d b v k legal conducted safe = record {
  refunds = safe.refunds;
  got = λ a w g. got_is_paid d b v a k legal (conducted_gives_nothing_back d b v conducted) w g;
  paid = paid;
  either = λ unforged. whole_or_paid d b v safe.refunds (paid unforged);
}
  where
    paid : IsUnforged d b v → HasLost d b v → IsPaid d b v
    paid unforged has = above_water_is_paid d b v k legal conducted (safe.safe unforged) has

pub watchful_is_whole : WatchfulIsWhole
watchful_is_whole d b v k legal conducted watchful = safe_is_whole d b v k legal conducted (watchful_is_safe d b v k legal conducted watchful)

pub unpublished_is_whole : UnpublishedIsWhole
unpublished_is_whole d b v k legal none gives back = (
  (unpublished_loses_nothing d b v k legal none gives).keeps,
  λ a w g. got_is_paid d b v a k legal back w g,
)

-- What an outcome says.

lost_some : (x y z u : Bool) (o : Outcome) → cond x (cond y NoDeal FreeRide) (cond z Underwater (cond u WholeDeal Discount)) ≡ o
    → (o ≡ NoDeal → ⊥) → (o ≡ FreeRide → ⊥) → x ≡ false
lost_some true true z u o e n f = absurd (n (sym e))
lost_some true false z u o e n f = absurd (f (sym e))
lost_some false y z u o e n f = refl

lost_none : (x y z u : Bool) (o : Outcome) → cond x (cond y NoDeal FreeRide) (cond z Underwater (cond u WholeDeal Discount)) ≡ o
    → (o ≡ Underwater → ⊥) → (o ≡ WholeDeal → ⊥) → (o ≡ Discount → ⊥) → x ≡ true
lost_none true y z u o e n f g = refl
lost_none false y true u o e n f g = absurd (n (sym e))
lost_none false y false true o e n f g = absurd (f (sym e))
lost_none false y false false o e n f g = absurd (g (sym e))

has_lost : (d : Deal) (b : Histories) (v : ℕ) (o : Outcome) → outcome d b v ≡ o → (o ≡ NoDeal → ⊥) → (o ≡ FreeRide → ⊥) → HasLost d b v
unfolding outcome
has_lost d b v o e n f =
    let z =
    lost_some (lost d b v == 0) (got d b v == 0) (nat_lt (got d b v) (length (entering d.graph v))) (lost d b v == length (leaving d.graph v)) o e n f
    in
    let y = some_passes (is_triggered d b) (leaving d.graph v) (grind (arith, nat_tests)) in
    list_any-in (is_triggered d b) (leaving d.graph v) y.0 y.2 y.1

has_not_lost : (d : Deal) (b : Histories) (v : ℕ) (o : Outcome) → outcome d b v ≡ o → (o ≡ Underwater → ⊥) → (o ≡ WholeDeal → ⊥) → (o ≡ Discount → ⊥)
    → HasLost d b v → ⊥
unfolding outcome
has_not_lost d b v o e n f g has =
    let z =
    lost_none (lost d b v == 0) (got d b v == 0) (nat_lt (got d b v) (length (entering d.graph v))) (lost d b v == length (leaving d.graph v)) o e n f
    g in
    let zero : lost d b v ≡ 0 = eqb-true (lost d b v) 0 z in
    let q = any_at (is_triggered d b) (leaving d.graph v) has in
    let some =
    count_some (is_triggered d b) (leaving d.graph v) q.now (subst (IsElement q.now) (sym q.stands.1) (in_from_moment q.past q.now q.stands.0)) q.passes
    in
    omega arith

pub outcomes_are_units : OutcomesAreUnits
outcomes_are_units d b v k legal conducted = record {
  whole = λ e. above_water_is_paid d b v k legal conducted (λ q. let z : WholeDeal ≡ Underwater = sym e ∙ q in cc z)
      (has_lost d b v WholeDeal e (λ q. cc q) (λ q. cc q));
  discount = λ e. above_water_is_paid d b v k legal conducted (λ q. let z : Discount ≡ Underwater = sym e ∙ q in cc z)
      (has_lost d b v Discount e (λ q. cc q) (λ q. cc q));
  free_ride = λ e refunds. kept_all d b v refunds (has_not_lost d b v FreeRide e (λ q. cc q) (λ q. cc q) (λ q. cc q));
  no_deal = λ e refunds. kept_all d b v refunds (has_not_lost d b v NoDeal e (λ q. cc q) (λ q. cc q) (λ q. cc q));
}
