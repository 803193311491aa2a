-- A party outside the coalition that has lost got all that enters it: so whoever stands before it
-- lost too, back along every path until one leads out of the coalition.
use Rattle.std.proofs.Common.{◌≡◌, ◌≢◌, ◌⊎◌, ℕ, suc, ◌<◌, ◌≤◌, ◌==◌, nat_lt, Bool, true, false, cond, not, ◌&&◌, ◌||◌, List, [], ◌∷◌}
use Rattle.std.proofs.Common.{length, count_by, Option, Some, None, refl, sym, ap, ◌∙◌, subst, inl, inr, arith, eqb-true, eq-eqb, lt-ltb, ltb-false}
use Rattle.std.specs.List.{list_any}
use Rattle.std.proofs.lemmas.Bool.{false≢true}
use Rattle.std.proofs.lemmas.Bool.Decides.{nat_tests}
use Rattle.swap_base.specs.Lists.{IsElement}
use Rattle.swap_base.proofs.Lists.{and_parts, and_both, any_at, list_any-in, in_filter, in_range, from_range, in_from_moment, count_less, some_passes, some_fails}
use Rattle.swap_digraph.specs.declared.arc_ends.ArcEnds.{ArcEnds}
use Rattle.swap_digraph.specs.declared.deal.Deal.{Deal}
use Rattle.swap_digraph.specs.Value.{Graph}
use Rattle.swap_digraph.specs.Graph.{ends, arcs, leaving, entering, has_arc, is_path, first_is, last_is, resolve_all_ends}
use Rattle.swap_digraph.specs.Deal.{party, counterparty}
use Rattle.swap_digraph.proofs.Paths.{path_step, path_below}
use Rattle.ledger_core.specs.declared.facts.Settlement.{Settlement}
use Rattle.ledger_core.specs.declared.facts.Settlement.TheVariants.{Claimed, Refunded}
use Rattle.ledger_core.specs.History.{settled}
use Rattle.ledger_core.specs.Book.{Histories, history, IsLegalBook}
use Rattle.ledger_core.proofs.History.{claimed_done, of_claim, triggered-past, not-true-of}
use Rattle.swap_rules.specs.declared.outcome.Outcome.TheVariants.{NoDeal, FreeRide, Underwater, Deal as WholeDeal, Discount}
use Rattle.swap_rules.specs.Accepted.{IsAccepted}
use Rattle.swap_rules.specs.Findings.{findings}
use Rattle.swap_rules.specs.Party.{is_correct, is_triggered}
use Rattle.swap_rules.specs.Outcome.{is_claim, is_got, got, lost, outcome}
use Rattle.swap_rules.specs.Walking.{HasLost}
use Rattle.swap_rules.proofs.Found.{late_publish_is_safe}
use Rattle.swap_rules.proofs.Room.{count_top}
use Rattle.swap_rules.proofs.Words.{enters, leaves}
use Rattle.coalition_laws.specs.Coalition.{Coalition, only, leads_in, leads_out, are_outside, NoOtherIsUnderwater, IsAllTriggered, HasPaid}
use Rattle.coalition_laws.specs.Coalition.{CoalitionsGainNothing, PayersArePaid, ReceiversPay, GotIsTriggered, LonersGainNothing, AllOrNothing}
use Rattle.coalition_laws.specs.Coalition.{OthersAreUnharmed, CheatersGainNothing, CheaterGainsNothing, UnharmedTradeAllOrNothing}

-- Counts.

passes_some : {A : Type 0} (p : A → Bool) (xs : List A) (x : A) → IsElement x xs → p x ≡ true → 0 < count_by p xs
passes_some p xs x i e = let k = count_less p (λ y. false) xs (λ y h. absurd (false≢true h)) x i e refl in omega arith

fails_some : {A : Type 0} (p : A → Bool) (xs : List A) (x : A) → IsElement x xs → p x ≡ false → count_by p xs < length xs
fails_some {A} p xs x i e =
    let k = count_less (λ (y : A). true) p xs (λ y h. refl) x i refl e in
    let t = count_top (λ (y : A). true) xs in omega arith

all_pass : {A : Type 0} (p : A → Bool) (xs : List A) → length xs ≤ count_by p xs → (x : A) → IsElement x xs → p x ≡ true
all_pass p xs l x i = go (p x) refl
  where
    go : (b : Bool) → p x ≡ b → p x ≡ true
    go true e = e
    go false e = let k = fails_some p xs x i e in absurd (omega arith)

count_none : {A : Type 0} (p : A → Bool) (xs : List A) → ((x : A) → IsElement x xs → p x ≡ true → ⊥) → count_by p xs ≡ 0
count_none p xs h = go (nat_lt 0 (count_by p xs)) refl
  where
    go : (b : Bool) → nat_lt 0 (count_by p xs) ≡ b → count_by p xs ≡ 0
    go true e = let y = some_passes p xs (grind (arith, nat_tests)) in absurd (h y.0 y.1 y.2)
    go false e = let k = ltb-false 0 (count_by p xs) e in omega arith

count_whole : {A : Type 0} (p : A → Bool) (xs : List A) → ((x : A) → IsElement x xs → p x ≡ true) → count_by p xs ≡ length xs
count_whole p xs h = go (nat_lt (count_by p xs) (length xs)) refl
  where
    go : (b : Bool) → nat_lt (count_by p xs) (length xs) ≡ b → count_by p xs ≡ length xs
    go true e = let y = some_fails p xs (grind (arith, nat_tests)) in absurd (false≢true (sym y.2 ∙ h y.0 y.1))
    go false e =
        let k = ltb-false (count_by p xs) (length xs) e in
        let t = count_top p xs in omega arith

-- Arcs.

-- an arc by its ends
record Between (list : List ArcEnds) (u v : ℕ) : Type 0 where
  pub arc : ℕ
  pub below : arc < length list
  pub from : (resolve_all_ends list arc).from ≡ u
  pub to : (resolve_all_ends list arc).to ≡ v

between_head : (x : ArcEnds) (list : List ArcEnds) (u v : ℕ) (t : Bool) → ((x.from == u) && (x.to == v)) ≡ t
    → (t || list_any (λ a. (a.from == u) && (a.to == v)) list) ≡ true → (list_any (λ a. (a.from == u) && (a.to == v)) list ≡ true → Between list u v)
    → Between (x ∷ list) u v
between_head x list u v true h e rest =
    let k = and_parts (x.from == u) (x.to == v) h in
    record { arc = 0; below = omega arith; from = eqb-true x.from u k.0; to = eqb-true x.to v k.1 }
between_head x list u v false h e rest =
    let r = rest e in
    let l : r.arc < length list = r.below in
    record { arc = suc r.arc; below = omega arith; from = r.from; to = r.to }

between : (list : List ArcEnds) (u v : ℕ) → list_any (λ a. (a.from == u) && (a.to == v)) list ≡ true → Between list u v
between [] u v e = absurd (cc e)
between (x ∷ list) u v e = between_head x list u v ((x.from == u) && (x.to == v)) refl e (between list u v)

enters_it : (g : Graph) (a v : ℕ) → a < length g.arcs → (ends g a).to ≡ v → IsElement a (entering g v)
enters_it g a v l e = in_filter (λ a. (ends g a).to == v) a (arcs g) (in_range a (length g.arcs) l) (eq-eqb (ends g a).to v e)

leaves_it : (g : Graph) (a v : ℕ) → a < length g.arcs → (ends g a).from ≡ v → IsElement a (leaving g v)
leaves_it g a v l e = in_filter (λ a. (ends g a).from == v) a (arcs g) (in_range a (length g.arcs) l) (eq-eqb (ends g a).from v e)

-- What is got was triggered.

pub got_is_triggered : GotIsTriggered
got_is_triggered d b a legal below g = go (settled (history b a)) refl (and_parts (is_correct d b a) (is_claim (settled (history b a))) g).1
  where
    go : (s : Option Settlement) → settled (history b a) ≡ s → is_claim (settled (history b a)) ≡ true → is_triggered d b a ≡ true
    go None e c = absurd (false≢true (sym (ap is_claim e) ∙ c))
    go (Some Refunded) e c = absurd (false≢true (sym (ap is_claim e) ∙ c))
    go (Some Claimed) e c =
        let done = (claimed_done d a (history b a) (legal.legal a (rw legal.one_each below)) e).1 in
        triggered-past d (history b a) done.past done.now done.stands (of_claim d a done.past done.act.by done.clear).triggered

-- Outcomes.

underwater_of : (d : Deal) (b : Histories) (v : ℕ) → 0 < lost d b v → got d b v < length (entering d.graph v) → outcome d b v ≡ Underwater
unfolding outcome
underwater_of d b v l g =
    let a1 : (lost d b v == 0) ≡ false = grind (arith, nat_tests) in
    let a2 : nat_lt (got d b v) (length (entering d.graph v)) ≡ true = lt-ltb (got d b v) (length (entering d.graph v)) g in
    rw (a1, a2) refl

no_deal_of : (d : Deal) (b : Histories) (v : ℕ) → lost d b v ≡ 0 → got d b v ≡ 0 → outcome d b v ≡ NoDeal
unfolding outcome
no_deal_of d b v l g =
    let a1 : (lost d b v == 0) ≡ true = eq-eqb (lost d b v) 0 l in
    let a2 : (got d b v == 0) ≡ true = eq-eqb (got d b v) 0 g in
    rw (a1, a2) refl

whole_of : (d : Deal) (b : Histories) (v : ℕ) → 0 < lost d b v → got d b v ≡ length (entering d.graph v) → lost d b v ≡ length (leaving d.graph v)
    → outcome d b v ≡ WholeDeal
unfolding outcome
whole_of d b v some g l =
    let a1 : (lost d b v == 0) ≡ false = grind (arith, nat_tests) in
    let a2 : nat_lt (got d b v) (length (entering d.graph v)) ≡ false = grind (arith, nat_tests) in
    let a3 : (lost d b v == length (leaving d.graph v)) ≡ true = eq-eqb (lost d b v) (length (leaving d.graph v)) l in
    rw (a1, a2, a3) refl

free_parts : (x y z u : Bool) → cond x (cond y NoDeal FreeRide) (cond z Underwater (cond u WholeDeal Discount)) ≡ FreeRide → (x ≡ true) × (y ≡ false)
free_parts true false z u e = (refl, refl)
free_parts true true z u e = absurd (cc e)
free_parts false y true u e = absurd (cc e)
free_parts false y false true e = absurd (cc e)
free_parts false y false false e = absurd (cc e)

free_ride : (d : Deal) (b : Histories) (v : ℕ) → outcome d b v ≡ FreeRide → (lost d b v ≡ 0) × (0 < got d b v)
unfolding outcome
free_ride d b v e =
    let k =
    free_parts (lost d b v == 0) (got d b v == 0) (nat_lt (got d b v) (length (entering d.graph v))) (lost d b v == length (leaving d.graph v)) e in
    (eqb-true (lost d b v) 0 k.0, grind (arith, nat_tests))

discount_parts : (x y z u : Bool) → cond x (cond y NoDeal FreeRide) (cond z Underwater (cond u WholeDeal Discount)) ≡ Discount → (z ≡ false) × (u ≡ false)
discount_parts true true z u e = absurd (cc e)
discount_parts true false z u e = absurd (cc e)
discount_parts false y true u e = absurd (cc e)
discount_parts false y false true e = absurd (cc e)
discount_parts false y false false e = (refl, refl)

discounted : (d : Deal) (b : Histories) (v : ℕ) → outcome d b v ≡ Discount → (length (entering d.graph v) ≤ got d b v) × (lost d b v ≢ length (leaving d.graph v))
unfolding outcome
discounted d b v e =
    let k =
    discount_parts (lost d b v == 0) (got d b v == 0) (nat_lt (got d b v) (length (entering d.graph v))) (lost d b v == length (leaving d.graph v)) e in (
      ltb-false (got d b v) (length (entering d.graph v)) k.0,
      λ same. false≢true (sym k.1 ∙ eq-eqb (lost d b v) (length (leaving d.graph v)) same),
    )

some_lost : (d : Deal) (b : Histories) (v : ℕ) → HasLost d b v → 0 < lost d b v
some_lost d b v stake =
    let o = any_at (is_triggered d b) (leaving d.graph v) stake in
    passes_some (is_triggered d b) (leaving d.graph v) o.now (subst (λ l. IsElement o.now l) (sym o.stands.1) (in_from_moment o.past o.now o.stands.0)) o.passes

-- one who has lost and isn't underwater got all
got_all : (d : Deal) (b : Histories) (v : ℕ) → outcome d b v ≢ Underwater → HasLost d b v → (a : ℕ) → IsElement a (entering d.graph v) → is_got d b a ≡ true
got_all d b v dry stake a i = go (is_got d b a) refl
  where
    go : (x : Bool) → is_got d b a ≡ x → is_got d b a ≡ true
    go true e = e
    go false e = absurd (dry (underwater_of d b v (some_lost d b v stake) (fails_some (is_got d b) (entering d.graph v) a i e)))

lost_by : (d : Deal) (b : Histories) (v a : ℕ) → a < length d.graph.arcs → party d a ≡ v → is_triggered d b a ≡ true → HasLost d b v
lost_by d b v a l e t = list_any-in (is_triggered d b) (leaving d.graph v) a t (leaves_it d.graph a v l e)

differ : (c : Coalition) (u v : ℕ) → c u ≡ false → c v ≡ true → u ≢ v
differ c u v e f same = false≢true (sym e ∙ (ap c same ∙ f))

module _ (d : Deal) (b : Histories) (c : Coalition) (k : IsAccepted d) (legal : IsLegalBook d b) (dry : NoOtherIsUnderwater d b c) where
  abbrev GotAll : ℕ → Type 0
  GotAll v = (a : ℕ) → IsElement a (entering d.graph v) → is_got d b a ≡ true

  -- one who stands before one that got all has paid
  before_one : (x y : ℕ) → has_arc d.graph x y ≡ true → GotAll y → HasLost d b x
  before_one x y e all =
      let n = between d.graph.arcs x y e in
      lost_by d b x n.arc n.below n.from (got_is_triggered d b n.arc legal n.below (all n.arc (enters_it d.graph n.arc y n.below n.to)))

  before : (w u : ℕ) (p : List ℕ) → is_path d.graph p ≡ true → first_is w p ≡ true → last_is u p ≡ true → are_outside c p ≡ true → HasLost d b u → GotAll w
  before w u [] path first last out stake a i = absurd (cc path)
  before w u (x ∷ []) path first last out stake a i =
      let at_w : x ≡ w = eqb-true x w first in
      let at_u : x ≡ u = eqb-true x u last in
      got_all d b x (dry x (path_below d.graph (x ∷ []) x path (inl refl)) (not-true-of (c x) (and_parts (not (c x)) true out).0))
      (subst (HasLost d b) (sym at_u) stake) a (subst (λ z. IsElement a (entering d.graph z)) (sym at_w) i)
  before w u (x ∷ y ∷ p) path first last out stake a i =
      let s = path_step d.graph x y p path in
      let o = and_parts (not (c x)) (are_outside c (y ∷ p)) out in
      got_all d b x (dry x s.below (not-true-of (c x) o.0))
      (before_one x y s.arc (before y u (y ∷ p) s.rest (eq-eqb y y refl) last o.1 stake)) a
      (subst (λ z. IsElement a (entering d.graph z)) (sym (eqb-true x w first)) i)

  -- back along a path to one outside that has lost: an arc out of the coalition is got, or the path
  -- begins with one outside that has lost
  abbrev Crosses : ℕ → Type 0
  Crosses x = HasPaid d b c ⊎ ((c x ≡ false) × HasLost d b x)

  cross_step : (x y : ℕ) → has_arc d.graph x y ≡ true → y < d.graph.n → (t : Bool) → c x ≡ t → Crosses y → Crosses x
  cross_step x y e below t h (inl paid) = inl paid
  cross_step x y e below true h (inr r) =
      let n = between d.graph.arcs x y e in
      inl (record {
        arc = n.arc;
        below = n.below;
        out = and_both (c (party d n.arc)) (not (c (counterparty d n.arc))) (ap c n.from ∙ h) (ap not (ap c n.to ∙ r.0));
        got = got_all d b y (dry y below r.0) r.1 n.arc (enters_it d.graph n.arc y n.below n.to);
      })
  cross_step x y e below false h (inr r) = inr (h, before_one x y e (got_all d b y (dry y below r.0) r.1))

  crossing : (x u : ℕ) (p : List ℕ) → is_path d.graph p ≡ true → first_is x p ≡ true → last_is u p ≡ true → c u ≡ false → HasLost d b u → Crosses x
  crossing x u [] path first last out stake = absurd (cc path)
  crossing x u (w ∷ []) path first last out stake =
      let same : u ≡ x = sym (eqb-true w u last) ∙ eqb-true w x first in
      inr (subst (λ z. c z ≡ false) same out, subst (HasLost d b) same stake)
  crossing x u (w ∷ y ∷ p) path first last out stake =
      let s = path_step d.graph w y p path in
      subst Crosses (eqb-true w x first)
      (cross_step w y s.arc (path_below d.graph (y ∷ p) y s.rest (inl refl)) (c w) refl (crossing y u (y ∷ p) s.rest (eq-eqb y y refl) last out stake))

  no_free_ride : (a : ℕ) → a < length d.graph.arcs → leads_in d c a ≡ true → is_triggered d b a ≡ true → HasPaid d b c
  no_free_ride a l e t =
      let h = and_parts (not (c (party d a))) (c (counterparty d a)) e in
      let out : c (party d a) ≡ false = not-true-of (c (party d a)) h.0 in
      let path = k.strong (counterparty d a) (party d a) (k.ends.to a l) (k.ends.from a l) (λ same. differ c (party d a) (counterparty d a) out h.1 (sym same)) in
      go h.1 (crossing (counterparty d a) (party d a) path.0 path.1.0 path.1.1 path.1.2 out (lost_by d b (party d a) a l refl t))
    where
      go : c (counterparty d a) ≡ true → Crosses (counterparty d a) → HasPaid d b c
      go i (inl paid) = paid
      go i (inr r) = absurd (false≢true (sym r.0 ∙ i))

  -- on along a path from one outside into the coalition: where every arc into it is triggered, the
  -- one outside has lost
  module _ (all : IsAllTriggered d b c) where
    onward_step : (w y : ℕ) → has_arc d.graph w y ≡ true → y < d.graph.n → c w ≡ false → (t : Bool) → c y ≡ t → (c y ≡ false → HasLost d b y) → HasLost d b w
    onward_step w y e below out true h rest =
        let n = between d.graph.arcs w y e in
        lost_by d b w n.arc n.below n.from
        (all n.arc n.below (and_both (not (c (party d n.arc))) (c (counterparty d n.arc)) (ap not (ap c n.from ∙ out)) (ap c n.to ∙ h)))
    onward_step w y e below out false h rest = before_one w y e (got_all d b y (dry y below h) (rest h))

    onward : (w x : ℕ) (p : List ℕ) → is_path d.graph p ≡ true → first_is w p ≡ true → last_is x p ≡ true → c x ≡ true → c w ≡ false → HasLost d b w
    onward w x [] path first last i out = absurd (cc path)
    onward w x (u ∷ []) path first last i out = absurd (differ c w x out i (sym (eqb-true u w first) ∙ eqb-true u x last))
    onward w x (u ∷ y ∷ p) path first last i out =
        let s = path_step d.graph u y p path in
        let same : u ≡ w = eqb-true u w first in
        subst (HasLost d b) same
        (onward_step u y s.arc (path_below d.graph (y ∷ p) y s.rest (inl refl)) (ap c same ∙ out) (c y) refl
        (λ o. onward y x (y ∷ p) s.rest (eq-eqb y y refl) last i o))

    no_discount : (a : ℕ) → a < length d.graph.arcs → leads_out d c a ≡ true → is_got d b a ≡ true
    no_discount a l e =
        let h = and_parts (c (party d a)) (not (c (counterparty d a))) e in
        let out : c (counterparty d a) ≡ false = not-true-of (c (counterparty d a)) h.1 in
        let path = k.strong (counterparty d a) (party d a) (k.ends.to a l) (k.ends.from a l) (differ c (counterparty d a) (party d a) out h.0) in
        got_all d b (counterparty d a) (dry (counterparty d a) (k.ends.to a l) out)
        (onward (counterparty d a) (party d a) path.0 path.1.0 path.1.1 path.1.2 h.0 out) a (enters_it d.graph a (counterparty d a) l refl)

pub coalitions_gain_nothing : CoalitionsGainNothing
coalitions_gain_nothing d b c k legal dry = record {
  no_free_ride = λ a l e t. no_free_ride d b c k legal dry a l e t;
  no_discount = λ all a l e. no_discount d b c k legal dry all a l e;
}

pub payers_are_paid : PayersArePaid
payers_are_paid d b c w u p k legal dry path out stake a i = before d b c k legal dry w u p path.0 path.1 path.2 out stake a i

pub receivers_pay : ReceiversPay
receivers_pay d b c w u p a k legal dry path out i none o j = go (is_triggered d b o) refl
  where
    go : (t : Bool) → is_triggered d b o ≡ t → is_triggered d b o ≡ false
    go false e = e
    go true e =
        absurd (false≢true (sym none
        ∙ before d b c k legal dry w u p path.0 path.1 path.2 out (list_any-in (is_triggered d b) (leaving d.graph u) o e j) a i))

-- One party alone.

module _ (d : Deal) (b : Histories) (v : ℕ) (k : IsAccepted d) (legal : IsLegalBook d b) (dry : NoOtherIsUnderwater d b (only v)) where
  other : (u w : ℕ) → w ≡ v → u ≢ w → (u == v) ≡ false
  other u w e n = go (u == v) refl
    where
      go : (x : Bool) → (u == v) ≡ x → (u == v) ≡ false
      go false h = h
      go true h = absurd (n (eqb-true u v h ∙ sym e))

  into : (a : ℕ) → IsElement a (entering d.graph v) → leads_in d (only v) a ≡ true
  into a i =
      let n = enters d v a i in
      and_both (not (party d a == v)) (counterparty d a == v) (ap not (other (party d a) (counterparty d a) n.1 (k.ends.apart a n.0)))
      (eq-eqb (counterparty d a) v n.1)

  out_of : (a : ℕ) → IsElement a (leaving d.graph v) → leads_out d (only v) a ≡ true
  out_of a i =
      let n = leaves d v a i in
      and_both (party d a == v) (not (counterparty d a == v)) (eq-eqb (party d a) v n.1)
      (ap not (other (counterparty d a) (party d a) n.1 (λ same. k.ends.apart a n.0 (sym same))))

  no_free_ride_alone : outcome d b v ≢ FreeRide
  no_free_ride_alone e =
      let f = free_ride d b v e in
      let y = some_passes (is_got d b) (entering d.graph v) f.1 in
      let l = (enters d v y.0 y.1).0 in
      let paid = no_free_ride d b (only v) k legal dry y.0 l (into y.0 y.1) (got_is_triggered d b y.0 legal l y.2) in
      let mine : party d paid.arc ≡ v = eqb-true (party d paid.arc) v (and_parts (party d paid.arc == v) (not (counterparty d paid.arc == v)) paid.out).0 in
      let some =
      passes_some (is_triggered d b) (leaving d.graph v) paid.arc (leaves_it d.graph paid.arc v paid.below mine)
      (got_is_triggered d b paid.arc legal paid.below paid.got) in
      let none : lost d b v ≡ 0 = f.0 in
      omega arith

  no_discount_alone : outcome d b v ≢ Discount
  no_discount_alone e =
      let f = discounted d b v e in
      f.1 (count_whole (is_triggered d b) (leaving d.graph v) (λ a i. let l = (leaves d v a i).0 in
      got_is_triggered d b a legal l (no_discount d b (only v) k legal dry (all f.0) a l (out_of a i))))
    where
      all : length (entering d.graph v) ≤ got d b v → IsAllTriggered d b (only v)
      all many a l e =
          let at : counterparty d a ≡ v = eqb-true (counterparty d a) v (and_parts (not (party d a == v)) (counterparty d a == v) e).1 in
          got_is_triggered d b a legal l (all_pass (is_got d b) (entering d.graph v) many a (enters_it d.graph a v l at))

pub loners_gain_nothing : LonersGainNothing
loners_gain_nothing d b v k legal dry = (no_free_ride_alone d b v k legal dry, no_discount_alone d b v k legal dry)

-- All or nothing.

module _ (d : Deal) (b : Histories) (k : IsAccepted d) (legal : IsLegalBook d b) (dry : (v : ℕ) → v < d.graph.n → outcome d b v ≢ Underwater) where
  abbrev nobody : Coalition
  nobody = λ v. false

  all_lose : (u : ℕ) → u < d.graph.n → HasLost d b u → (v : ℕ) → v < d.graph.n → HasLost d b v
  all_lose u lu stake v lv = go (v == u) refl
    where
      from : Crosses d b nobody k legal (λ w l o. dry w l) v → HasLost d b v
      from (inl paid) = absurd (false≢true paid.out)
      from (inr r) = r.1

      go : (x : Bool) → (v == u) ≡ x → HasLost d b v
      go true e = subst (HasLost d b) (sym (eqb-true v u e)) stake
      go false e =
          let path = k.strong v u lv lu (λ same. false≢true (sym e ∙ eq-eqb v u same)) in
          from (crossing d b nobody k legal (λ w l o. dry w l) v u path.0 path.1.0 path.1.1 path.1.2 refl stake)

  all_whole : ((v : ℕ) → v < d.graph.n → HasLost d b v) → (v : ℕ) → v < d.graph.n → outcome d b v ≡ WholeDeal
  all_whole stakes v below =
      let gets : (w : ℕ) → w < d.graph.n → (a : ℕ) → IsElement a (entering d.graph w) → is_got d b a ≡ true = λ w l. got_all d b w (dry w l) (stakes w l) in
      let l : lost d b v ≡ length (leaving d.graph v) =
      count_whole (is_triggered d b) (leaving d.graph v) (λ a i. let n = (leaves d v a i).0 in
      got_is_triggered d b a legal n (gets (counterparty d a) (k.ends.to a n) a (enters_it d.graph a (counterparty d a) n refl))) in
      let g : got d b v ≡ length (entering d.graph v) = count_whole (is_got d b) (entering d.graph v) (gets v below) in
      whole_of d b v (some_lost d b v (stakes v below)) g l

  all_nothing : ((a : ℕ) → a < length d.graph.arcs → is_triggered d b a ≡ true → ⊥) → (v : ℕ) → outcome d b v ≡ NoDeal
  all_nothing none v =
      no_deal_of d b v (count_none (is_triggered d b) (leaving d.graph v) (λ a i. none a (leaves d v a i).0))
      (count_none (is_got d b) (entering d.graph v) (λ a i g. let l = (enters d v a i).0 in none a l (got_is_triggered d b a legal l g)))

pub all_or_nothing : AllOrNothing
all_or_nothing d b k legal dry = go (list_any (is_triggered d b) (arcs d.graph)) refl
  where
    go : (t : Bool) → list_any (is_triggered d b) (arcs d.graph) ≡ t
        → ((v : ℕ) → v < d.graph.n → outcome d b v ≡ NoDeal) ⊎ ((v : ℕ) → v < d.graph.n → outcome d b v ≡ WholeDeal)
    go true e =
        let o = any_at (is_triggered d b) (arcs d.graph) e in
        let l : o.now < length d.graph.arcs =
        from_range o.now (length d.graph.arcs) (subst (λ l. IsElement o.now l) (sym o.stands.1) (in_from_moment o.past o.now o.stands.0)) in
        inr (all_whole d b k legal dry (all_lose d b k legal dry (party d o.now) (k.ends.from o.now l) (lost_by d b (party d o.now) o.now l refl o.passes)))
    go false e =
        inl (λ v l. all_nothing d b k legal dry (λ a la t.
        false≢true (sym e ∙ list_any-in (is_triggered d b) (arcs d.graph) a t (in_range a (length d.graph.arcs) la))) v)

-- By what is found.

others_are_dry : (d : Deal) (conforming : ℕ → Bool) (b : Histories) (c : Coalition) → IsAccepted d → IsLegalBook d b
    → OthersAreUnharmed d conforming (findings d conforming b) c → NoOtherIsUnderwater d b c
others_are_dry d conforming b c k legal well v l out =
    let h = well v l out in late_publish_is_safe d conforming b v k legal l h.conforms h.clear h.unforged

pub cheaters_gain_nothing : CheatersGainNothing
cheaters_gain_nothing d conforming b c k legal well = coalitions_gain_nothing d b c k legal (others_are_dry d conforming b c k legal well)

pub cheater_gains_nothing : CheaterGainsNothing
cheater_gains_nothing d conforming b v k legal well = loners_gain_nothing d b v k legal (others_are_dry d conforming b (only v) k legal well)

pub unharmed_trade_all_or_nothing : UnharmedTradeAllOrNothing
unharmed_trade_all_or_nothing d conforming b k legal well =
    all_or_nothing d b k legal (λ v l. others_are_dry d conforming b (λ w. false) k legal (λ w m out. well w m) v l refl)
