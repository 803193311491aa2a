-- As long as all that is presented opens in time, all that is due is useful.
use Rattle.std.proofs.Common.{◌≡◌, ℕ, ◌+◌, slice_index, ◌<◌, ◌≤◌, nat_le, Bool, true, false, cond, not, ◌&&◌, ◌||◌, List, [], ◌∷◌, ◌++◌, length, Option, Some, None, is_none}
use Rattle.std.proofs.Common.{refl, sym, ap, ap₂, ◌∙◌, subst, inl, inr, arith, leb-true, le-leb}
use Rattle.std.specs.List.{flat_map}
use Rattle.std.proofs.lemmas.Bool.{false≢true}
use Rattle.swap_base.specs.Lists.{IsElement}
use Rattle.swap_base.proofs.Lists.{and_parts, and_both, list_all-in, list_all-from, in_range, from_range}
use Rattle.swap_digraph.specs.declared.deal.Deal.{Deal}
use Rattle.swap_digraph.specs.Graph.{listed_arcs, leaving, entering}
use Rattle.swap_digraph.specs.Deal.{locks}
use Rattle.hashkey_path.specs.declared.hashkey.Hashkey.{Hashkey}
use Rattle.escrow_core.specs.Terms.{stated_terms, last_unlock, refund_expiry}
use Rattle.ledger_core.specs.declared.entry.Call.TheVariants.{Publish}
use Rattle.ledger_core.specs.declared.facts.Settlement.{Settlement}
use Rattle.ledger_core.specs.declared.facts.Settlement.TheVariants.{Claimed, Refunded}
use Rattle.ledger_core.specs.History.{height, settled, is_open, IsLegal}
use Rattle.ledger_core.specs.Book.{Histories, history, IsLegalBook}
use Rattle.ledger_core.proofs.History.{claimed_done, refunded_done, of_claim, of_refund, height-past, triggered-past}
use Rattle.swap_rules.specs.Accepted.{IsAccepted}
use Rattle.swap_rules.specs.Party.{is_correct, is_ready, least_expiry, first_key}
use Rattle.swap_rules.specs.Due.{Wallet, Action, has_called, unlocks_lock, is_due_publish, due_key, presented, due_arc_unlock, when_due, due_publishes}
use Rattle.swap_rules.specs.Due.{due_unlocks, due_claims, due_refunds, due}
use Rattle.swap_rules.specs.Rounds.{IsNear}
use Rattle.swap_rules.proofs.Accepted.{times_law, time_law}
use Rattle.swap_rules.proofs.Times.{TimeLaw, OfTimelocks, OfHashkeys, last-timelock, deadline_mono, deadline_first}
use Rattle.swap_rules.proofs.Calls.{correct, correct_past}
use Rattle.swap_rules.proofs.Growth.{ready_good}
use Rattle.swap_rules.proofs.Openings.{expired_lock, least-expired}
use Rattle.swap_rules.proofs.Words.{enters}
use Rattle.swap_rules.specs.Useful.{is_past, is_missed, has_missed}
use Rattle.swap_rules.specs.Useful.{opens_in_time, accepts, takes, has_lost, is_withheld, timely_unlock, pressing_unlocks, useful_publishes, useful_unlocks}
use Rattle.swap_rules.specs.Useful.{useful, EarlyIsUseful}
use Rattle.std.proofs.Common.{le-ltb}
use Rattle.std.specs.List.{list_any}
use Rattle.swap_rules.proofs.Prefixes.{list_any-none}
use Rattle.time_bounds.specs.Times as times

-- every hashkey is accepted up to delta above the height by which contracts open
pub last_open : (d : Deal) → TimeLaw d → (c : ℕ) (key : Hashkey) → c < length d.graph.arcs
    → times.opening_deadline d.start d.delta d.bound + d.delta ≤ last_unlock d.mode (stated_terms d c) key
last_open d (OfTimelocks law) c key l =
    let e : times.opening_deadline d.start d.delta d.bound + d.delta ≤ slice_index d.timelocks c = law.opens c l in
    let f : last_unlock d.mode (stated_terms d c) key ≡ slice_index d.timelocks c = last-timelock d (stated_terms d c) key law.mode in
    omega arith
last_open d (OfHashkeys law) c key l =
    let e : last_unlock d.mode (stated_terms d c) key ≡ times.deadline d.start d.delta d.bound (listed_arcs key.path) =
    ap (λ m. last_unlock m (stated_terms d c) key) law.mode in
    let f = deadline_first d.start d.delta d.bound in
    let g = deadline_mono d.start d.delta d.bound 0 (listed_arcs key.path) (omega arith) in
    omega arith

same_flat : {A B : Type 0} (f g : A → List B) (xs : List A) → ((x : A) → IsElement x xs → f x ≡ g x) → flat_map f xs ≡ flat_map g xs
same_flat f g [] h = refl
same_flat f g (x ∷ xs) h = ap₂ (λ ys zs. ys ++ zs) (h x (inl refl)) (same_flat f g xs (λ y i. h y (inr i)))

and_true : (p q : Bool) → q ≡ true → (p && q) ≡ p
and_true true q e = e
and_true false q e = refl

and_neither : (p m q : Bool) → m ≡ false → q ≡ true → (p && (m || not q)) ≡ false
and_neither false m q f e = refl
and_neither true false true f e = refl
and_neither true true q f e = absurd (false≢true (sym f))
and_neither true false false f e = absurd (false≢true e)

either : (x : Bool) (xs : List Action) → xs ≡ [] → cond x xs [] ≡ []
either true xs e = e
either false xs e = refl

unless : (x : Bool) (xs : List Action) → xs ≡ [] → cond x [] xs ≡ []
unless true xs e = refl
unless false xs e = e

none_flat : {A B : Type 0} (f : A → List B) (xs : List A) → ((x : A) → IsElement x xs → f x ≡ []) → flat_map f xs ≡ []
none_flat f [] h = refl
none_flat f (x ∷ xs) h = ap₂ (λ ys zs. ys ++ zs) (h x (inl refl)) (none_flat f xs (λ y i. h y (inr i)))

module _ (d : Deal) (v : ℕ) (at : ℕ → ℕ) (w : Wallet) (signed : ℕ → Option Hashkey) (k : Histories) (acc : IsAccepted d) (legal : IsLegalBook d k)
    (ahead : (a : ℕ) → IsNear d v a → height (history k a) ≤ at a) (early : (a : ℕ) → IsNear d v a → opens_in_time d at a ≡ true) where
  low : (c : ℕ) → IsNear d v c → at c ≤ times.opening_deadline d.start d.delta d.bound
  low c j = leb-true (at c) (times.opening_deadline d.start d.delta d.bound) (early c j)

  legal_on : (c : ℕ) → IsElement c (entering d.graph v) → IsLegal d c (history k c)
  legal_on c j = let l = (enters d v c j).0 in legal.legal c (rw legal.one_each l)

  unrefunded : (c : ℕ) → is_ready d k v ≡ true → IsElement c (entering d.graph v) → settled (history k c) ≡ Some Refunded → ⊥
  unrefunded c ready j s =
      let r = (refunded_done d c (history k c) (legal_on c j) s).1 in
      let of_r = of_refund d c r.past r.act.by r.clear in
      let right : is_correct d k c ≡ true = (and_parts (is_correct d k c) _ (ready_good d k v c ready j)).0 in
      let terms : of_r.contract.terms ≡ stated_terms d c =
      correct_past d k c r.past r.now of_r.contract (correct d k c right) r.stands of_r.published in
      let above : least_expiry d c r.past < height r.past = subst (λ t. refund_expiry d c t (is_open r.past) < height r.past) terms of_r.expired in
      let x = expired_lock d c r.past (height r.past) (least-expired d c r.past (height r.past) of_r.untriggered above) in
      let over = x.above in
      let opens = (times_law d acc).opens c x.lock (enters d v c j).0 in
      let y = height-past (history k c) r.past r.now r.stands in
      let z = ahead c (inr j) in
      let t = low c (inr j) in
      omega arith

  taken : (i c : ℕ) → i < length d.leaders → is_ready d k v ≡ true → IsElement c (entering d.graph v) → (o : Option Hashkey) → takes d at k i o c ≡ true
  taken i c below ready j o = by_open (is_open (history k c) i) refl o
    where
      claimed : is_open (history k c) i ≡ false → settled (history k c) ≡ Some Claimed → ⊥
      claimed shut s =
          let r = (claimed_done d c (history k c) (legal_on c j) s).1 in
          let p = of_claim d c r.past r.act.by r.clear in
          let all = triggered-past d (history k c) r.past r.now r.stands p.triggered in
          false≢true (sym shut ∙ list_all-in (is_open (history k c)) (locks d) i all (in_range i (length d.leaders) below))

      unsettled : is_open (history k c) i ≡ false → (s : Option Settlement) → settled (history k c) ≡ s → is_none s ≡ true
      unsettled shut None e = refl
      unsettled shut (Some Claimed) e = absurd (claimed shut e)
      unsettled shut (Some Refunded) e = absurd (unrefunded c ready j e)

      by_key : is_open (history k c) i ≡ false → (o : Option Hashkey) → accepts d at k o c ≡ true
      by_key shut None = refl
      by_key shut (Some key) =
          let t = low c (inr j) in
          let l = last_open d (time_law d acc) c key (enters d v c j).0 in
          and_both (is_none (settled (history k c))) (nat_le (at c) (last_unlock d.mode (stated_terms d c) key))
          (unsettled shut (settled (history k c)) refl) (le-leb (at c) (last_unlock d.mode (stated_terms d c) key) (omega arith))

      by_open : (x : Bool) → is_open (history k c) i ≡ x → (o : Option Hashkey) → takes d at k i o c ≡ true
      by_open true e o = ap (λ x. x || accepts d at k o c) e
      by_open false e o = ap (λ x. x || accepts d at k o c) e ∙ by_key e o

  not_past : (c : ℕ) → IsElement c (entering d.graph v) → (o : Option Hashkey) → is_past d c o (height (history k c)) ≡ false
  not_past c j None = refl
  not_past c j (Some key) =
      let t = low c (inr j) in
      let h = ahead c (inr j) in
      let l = last_open d (time_law d acc) c key (enters d v c j).0 in
      le-ltb (last_unlock d.mode (stated_terms d c) key) (height (history k c)) (omega arith)

  none_missed : has_missed d v signed k ≡ false
  none_missed =
      list_any-none (λ c. list_any (is_missed d k signed c) (locks d)) (entering d.graph v) (λ c j.
      list_any-none (is_missed d k signed c) (locks d) (λ l i.
      ap (λ x. not (is_open (history k c) l) && x) (not_past c j (signed l)) ∙ nothing (not (is_open (history k c) l))))
    where
      nothing : (x : Bool) → (x && false) ≡ false
      nothing true = refl
      nothing false = refl

  none_due : is_ready d k v ≡ false → (i c : ℕ) → due_arc_unlock d v w (signed i) k i c ≡ []
  unfolding due_arc_unlock
  none_due n i c = ap (λ x. cond (x && not (has_called v (unlocks_lock i) (history k c))) (presented c (due_key d v w (signed i) k i)) []) n

  by_lock : (i : ℕ) → i < length d.leaders → (x : Bool) → is_ready d k v ≡ x
      → pressing_unlocks d v at w signed k i ≡ flat_map (due_arc_unlock d v w (signed i) k i) (entering d.graph v)
  by_lock i below false e =
      unless (is_withheld d v at signed k i (due_key d v w (signed i) k i)) (flat_map (timely_unlock d v at w (signed i) k i) (entering d.graph v))
      (none_flat (timely_unlock d v at w (signed i) k i) (entering d.graph v)
      (λ c j. either (takes d at k i (due_key d v w (signed i) k i) c) (due_arc_unlock d v w (signed i) k i c) (none_due e i c)))
      ∙ sym (none_flat (due_arc_unlock d v w (signed i) k i) (entering d.graph v) (λ c j. none_due e i c))
  by_lock i below true e =
      let all =
      list_all-from (takes d at k i (due_key d v w (signed i) k i)) (entering d.graph v) (λ c j. taken i c below e j (due_key d v w (signed i) k i)) in
      ap (λ x. cond x [] (flat_map (timely_unlock d v at w (signed i) k i) (entering d.graph v)))
      (and_neither (is_none (first_key k v i) && not (has_lost d k v)) (has_missed d v signed k) _ none_missed all)
      ∙ same_flat (timely_unlock d v at w (signed i) k i) (due_arc_unlock d v w (signed i) k i) (entering d.graph v)
      (λ c j. ap (λ x. cond x (due_arc_unlock d v w (signed i) k i c) []) (taken i c below e j (due_key d v w (signed i) k i)))

  publishes : useful_publishes d v at k ≡ due_publishes d v k
  publishes =
      same_flat (λ a. when_due (is_due_publish d v k a && opens_in_time d at a) a (Publish (stated_terms d a)))
      (λ a. when_due (is_due_publish d v k a) a (Publish (stated_terms d a))) (leaving d.graph v)
      (λ a j. ap (λ b. when_due b a (Publish (stated_terms d a))) (and_true (is_due_publish d v k a) (opens_in_time d at a) (early a (inl j))))

  unlocks : useful_unlocks d v at w signed k ≡ due_unlocks d v w signed k
  unlocks =
      same_flat (pressing_unlocks d v at w signed k) (λ i. flat_map (due_arc_unlock d v w (signed i) k i) (entering d.graph v)) (locks d)
      (λ i j. by_lock i (from_range i (length d.leaders) j) (is_ready d k v) refl)

  pub all_useful : useful d v at w signed k ≡ due d v w signed k
  unfolding useful due
  all_useful = ap₂ (λ xs ys. xs ++ ys ++ due_claims d v k ++ due_refunds d v k) publishes unlocks

pub early_is_useful : EarlyIsUseful
early_is_useful d v at w signed k acc legal ahead early = all_useful d v at w signed k acc legal ahead early
