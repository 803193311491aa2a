-- What is useful but for the unlocks for stopped locks is what no stop takes away.
use Rattle.std.proofs.Common.{◌≡◌, ℕ, Bool, true, false, cond, not, List, [], ◌∷◌, ◌++◌, ◌&&◌, Option, refl, sym, ap, ap₂, ◌∙◌, inl, inr}
use Rattle.std.specs.List.{flat_map}
use Rattle.std.proofs.lemmas.List.Elements.{filter-append}
use Rattle.swap_base.specs.Lists.{IsElement}
use Rattle.swap_digraph.specs.declared.deal.Deal.{Deal}
use Rattle.swap_digraph.specs.Graph.{leaving, entering}
use Rattle.swap_digraph.specs.Deal.{locks}
use Rattle.hashkey_path.specs.declared.hashkey.Hashkey.{Hashkey}
use Rattle.escrow_core.specs.Terms.{stated_terms}
use Rattle.ledger_core.specs.declared.entry.Call.{Call}
use Rattle.ledger_core.specs.declared.entry.Call.TheVariants.{Publish, Claim, Refund}
use Rattle.ledger_core.specs.Book.{Histories, IsLegalBook}
use Rattle.swap_rules.specs.Due.{Wallet, Action, due_arc_unlock, due_key, is_due_claim, is_due_publish, is_due_refund}
use Rattle.swap_rules.specs.Due.{may_unlock, presented, when_due}
use Rattle.swap_rules.specs.Useful.{opens_in_time, takes, is_withheld, timely_unlock, pressing_unlocks, useful}
use Rattle.swap_rules.proofs.Prefixes.{from_flat_map}
use Rattle.answer_rules.specs.Stopped.{is_stopped_call, unlocks_unless_stopped, unstopped, useful_unless_stopped}
use Rattle.answer_rules.specs.Laws.{AreGoodKeys, SignsItsLock}
use Rattle.answer_rules.proofs.Due.{due_lock, origin}
use Rattle.answer_rules.proofs.UsefulKinds.{in_cond, in_if, in_presented}

-- Calls that stay, and calls that are left out.
module _ (stops : ℕ → Bool) where
  all_stay : (xs : List Action) → ((x : Action) → IsElement x xs → is_stopped_call stops x.call ≡ false) → unstopped stops xs ≡ xs
  all_stay [] h = refl
  all_stay (x ∷ xs) h =
      ap (λ (b : Bool). cond (not b) (x ∷ unstopped stops xs) (unstopped stops xs)) (h x (inl refl))
      ∙ ap (λ (ys : List Action). x ∷ ys) (all_stay xs (λ y i. h y (inr i)))

  none_stays : (xs : List Action) → ((x : Action) → IsElement x xs → is_stopped_call stops x.call ≡ true) → unstopped stops xs ≡ []
  none_stays [] h = refl
  none_stays (x ∷ xs) h =
      ap (λ (b : Bool). cond (not b) (x ∷ unstopped stops xs) (unstopped stops xs)) (h x (inl refl)) ∙ none_stays xs (λ y i. h y (inr i))

  both_stay : (xs ys : List Action) → unstopped stops (xs ++ ys) ≡ unstopped stops xs ++ unstopped stops ys
  both_stay xs ys = filter-append (λ x. not (is_stopped_call stops x.call)) xs ys

  joined : (xs ys ps qs : List Action) → unstopped stops xs ≡ ps → unstopped stops ys ≡ qs → unstopped stops (xs ++ ys) ≡ ps ++ qs
  joined xs ys ps qs e f = both_stay xs ys ∙ ap₂ (λ (p q : List Action). p ++ q) e f

  each_stays : (f g : ℕ → List Action) (is : List ℕ) → ((i : ℕ) → unstopped stops (f i) ≡ g i) → unstopped stops (flat_map f is) ≡ flat_map g is
  each_stays f g [] h = refl
  each_stays f g (i ∷ is) h = joined (f i) (flat_map f is) (g i) (flat_map g is) (h i) (each_stays f g is h)

  when_stays : (test : Bool) (a : ℕ) (c : Call) → is_stopped_call stops c ≡ false → unstopped stops (when_due test a c) ≡ when_due test a c
  when_stays true a c e = ap (λ (b : Bool). cond (not b) (record { arc = a; call = c } ∷ []) []) e
  when_stays false a c e = refl

module _ (stops : ℕ → Bool) (d : Deal) (v : ℕ) (at : ℕ → ℕ) (w : Wallet) (kept : ℕ → Option Hashkey) (k : Histories) (legal : IsLegalBook d k)
    (signs : SignsItsLock w) (good : AreGoodKeys d v kept) where
  -- the unlocks for a lock are stopped with it
  with_lock : (i : ℕ) (x : Action) → IsElement x (pressing_unlocks d v at w kept k i) → is_stopped_call stops x.call ≡ stops i
  unfolding due_arc_unlock
  with_lock i x e =
      let g =
      in_cond (is_withheld d v at kept k i (due_key d v w (kept i) k i)) (flat_map (timely_unlock d v at w (kept i) k i) (entering d.graph v)) x e in
      let h = from_flat_map (timely_unlock d v at w (kept i) k i) (entering d.graph v) x g.1 in
      let u = in_if (takes d at k i (due_key d v w (kept i) k i) h.0) (due_arc_unlock d v w (kept i) k i h.0) x h.2 in
      let t = in_if (may_unlock d v k i h.0) (presented h.0 (due_key d v w (kept i) k i)) x u.1 in
      let p = in_presented h.0 (due_key d v w (kept i) k i) x t.1 in
      ap (is_stopped_call stops) p.2 ∙ ap stops (due_lock d v w kept k i p.0 legal signs good (origin d v w kept k i p.0 p.1))

  by_lock : (i : ℕ) → unstopped stops (pressing_unlocks d v at w kept k i) ≡ unlocks_unless_stopped stops d v at w kept k i
  by_lock i = go (stops i) refl
    where
      go : (b : Bool) → stops i ≡ b → unstopped stops (pressing_unlocks d v at w kept k i) ≡ cond b [] (pressing_unlocks d v at w kept k i)
      go true e = none_stays stops (pressing_unlocks d v at w kept k i) (λ x j. with_lock i x j ∙ e)
      go false e = all_stay stops (pressing_unlocks d v at w kept k i) (λ x j. with_lock i x j ∙ e)

  abbrev publish_on : ℕ → List Action
  publish_on a = when_due (is_due_publish d v k a && opens_in_time d at a) a (Publish (stated_terms d a))

  abbrev claim_on : ℕ → List Action
  claim_on a = when_due (is_due_claim d v k a) a Claim

  abbrev refund_on : ℕ → List Action
  refund_on a = when_due (is_due_refund d v k a) a Refund

  pub unstopped_useful : useful_unless_stopped stops d v at w kept k ≡ unstopped stops (useful d v at w kept k)
  unfolding useful useful_unless_stopped
  unstopped_useful =
      let publishes = each_stays stops publish_on publish_on (leaving d.graph v) (λ a. when_stays stops _ a (Publish (stated_terms d a)) refl) in
      let unlocks = each_stays stops (pressing_unlocks d v at w kept k) (unlocks_unless_stopped stops d v at w kept k) (locks d) by_lock in
      let claims = each_stays stops claim_on claim_on (entering d.graph v) (λ a. when_stays stops _ a Claim refl) in
      let refunds = each_stays stops refund_on refund_on (leaving d.graph v) (λ a. when_stays stops _ a Refund refl) in
      sym (joined stops _ _ _ _ (joined stops _ _ _ _ (joined stops _ _ _ _ publishes unlocks) claims) refunds)
