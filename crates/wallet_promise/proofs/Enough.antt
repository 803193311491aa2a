-- What is due over books that say enough.
use Rattle.std.proofs.Common.{◌≡◌, ℕ, ◌==◌, nat_le, nat_lt, Bool, true, false, cond, not, ◌&&◌, ◌||◌, List, [], ◌∷◌, ◌++◌, length, count_by, Option, Some}
use Rattle.std.proofs.Common.{map, filter, None, is_some, is_none, refl, sym, ap, ap₂, ◌∙◌, ◌⊎◌, inl, inr}
use Rattle.std.specs.List.{list_any, list_all, flat_map}
use Rattle.std.proofs.lemmas.Bool.{false≢true}
use Rattle.swap_base.specs.Lists.{or_else, first_given_answer, IsElement}
use Rattle.swap_base.proofs.Lists.{and_parts, from_filter}
use Rattle.time_bounds.specs.Times as times
use Rattle.swap_digraph.specs.declared.deal.Deal.{Deal}
use Rattle.swap_digraph.specs.Graph.{leaving, entering}
use Rattle.swap_digraph.specs.Deal.{locks, leads}
use Rattle.hashkey_path.specs.declared.hashkey.Hashkey.{Hashkey}
use Rattle.escrow_core.specs.Terms.{stated_terms, refund_expiry, last_unlock}
use Rattle.escrow_core.specs.Table.{are_open}
use Rattle.ledger_core.specs.declared.entry.Call.{Call}
use Rattle.ledger_core.specs.declared.entry.Call.TheVariants.{Publish, Claim, Refund}
use Rattle.ledger_core.specs.History.{height, opened, published, settled, is_open}
use Rattle.ledger_core.specs.Book.{Histories, history}
use Rattle.swap_rules.specs.declared.outcome.Outcome.TheVariants.{NoDeal, FreeRide, Underwater, Deal as WholeDeal, Discount}
use Rattle.swap_rules.specs.Party.{is_correct, is_arc_correct, is_good, publication_height, is_ready, ready_height, is_triggered, expiry, least_expiry}
use Rattle.swap_rules.specs.Party.{has_expired}
use Rattle.swap_rules.specs.Party.{leads_one, pick_call, unlock_hashkey, first_key, key_without_party, first_seen_key}
use Rattle.swap_rules.specs.Conduct.{is_publish}
use Rattle.swap_rules.specs.Due.{Wallet, Action, unlocks_lock, is_claiming, is_refunding, has_called, is_due_publish, seen_key, extended, due_key}
use Rattle.swap_rules.specs.Due.{presented, may_unlock, due_arc_unlock, is_due_claim, is_due_refund, when_due, due_publishes, due_unlocks, due_claims}
use Rattle.swap_rules.specs.Due.{due_refunds, due}
use Rattle.swap_rules.specs.Rest.{is_waiting, least_number, rest_deadline}
use Rattle.swap_rules.specs.Outcome.{outcome, is_got, is_claim, got, lost}
use Rattle.swap_rules.specs.Useful.{is_past, is_missed, has_missed}
use Rattle.swap_rules.specs.Useful.{opens_in_time, accepts, takes, has_lost, is_withheld, timely_unlock, pressing_unlocks, pressing, useful_publishes}
use Rattle.swap_rules.specs.Useful.{useful_unlocks, useful}
use Rattle.swap_rules.proofs.Growth.{ready_good}
use Rattle.wallet_promise.specs.WithoutNoise.{SaysTheSame, AreUseless, SayEnough}
use Rattle.wallet_promise.proofs.Filters.{any_each, filter-same, map-same, all-same, greatest-same, count-same, flat-same, first-same, any-same}

-- no answer is one that no test passes

none_head : {B : Type 0} (o r : Option B) (b : Bool) → is_none r ≡ not b → is_none (or_else o r) ≡ not (is_some o || b)
none_head None r b e = e
none_head (Some y) r b e = refl

none_any : {A B : Type 0} (f : A → Option B) (xs : List A) → is_none (first_given_answer f xs) ≡ not (list_any (λ x. is_some (f x)) xs)
none_any f [] = refl
none_any f (x ∷ xs) = none_head (f x) (first_given_answer f xs) (list_any (λ y. is_some (f y)) xs) (none_any f xs)

module _ (d : Deal) (v : ℕ) (k h : Histories) (s : SayEnough d v k h) where
  -- of an arc that leaves v the same is said
  pub leaving_same : (a : ℕ) → IsElement a (leaving d.graph v) → SaysTheSame v (history k a) (history h a)
  leaving_same a i = go (s a)
    where
      go : SaysTheSame v (history k a) (history h a) ⊎ AreUseless d v a (history k a) (history h a) → SaysTheSame v (history k a) (history h a)
      go (inl t) = t
      go (inr u) = absurd (u.enters i)

  pub same_calls : (a : ℕ) (test : Option Call → Bool) → test None ≡ false → has_called v test (history k a) ≡ has_called v test (history h a)
  same_calls a test n = go (s a)
    where
      go : SaysTheSame v (history k a) (history h a) ⊎ AreUseless d v a (history k a) (history h a)
          → has_called v test (history k a) ≡ has_called v test (history h a)
      go (inl t) = t.calls test n
      go (inr u) = u.calls test n

  pub same_good : (a : ℕ) → is_good d k a ≡ is_good d h a
  same_good a = go (s a)
    where
      go : SaysTheSame v (history k a) (history h a) ⊎ AreUseless d v a (history k a) (history h a) → is_good d k a ≡ is_good d h a
      go (inl t) = ap (λ o. is_arc_correct d a o && nat_le (publication_height o) (times.opening_deadline d.start d.delta d.bound)) t.published
      go (inr u) =
          ap (λ b. b && nat_le (publication_height (published (history k a))) (times.opening_deadline d.start d.delta d.bound)) u.one
          ∙ sym (ap (λ b. b && nat_le (publication_height (published (history h a))) (times.opening_deadline d.start d.delta d.bound)) u.other)

  pub same_ready : is_ready d k v ≡ is_ready d h v
  unfolding is_ready
  same_ready = ap (λ (f : ℕ → Bool). list_all f (entering d.graph v)) (λ j a. same_good a j)

  open_at : (a : ℕ) → SaysTheSame v (history k a) (history h a) → is_open (history k a) ≡ is_open (history h a)
  open_at a t = λ j i. is_some (t.opened i j)

  pub same_trigger : (a : ℕ) → SaysTheSame v (history k a) (history h a) → is_triggered d k a ≡ is_triggered d h a
  same_trigger a t = ap (are_open d) (open_at a t)

  same_expired : (a : ℕ) → SaysTheSame v (history k a) (history h a)
      → has_expired d a (history k a) (height (history k a)) ≡ has_expired d a (history h a) (height (history h a))
  same_expired a t =
      ap (λ (f : ℕ → Bool). list_any (λ i. not (f i) && nat_lt (expiry d a i) (height (history k a))) (locks d)) (open_at a t)
      ∙ ap (λ n. has_expired d a (history h a) n) t.height

  pub same_seen : (i : ℕ) → first_seen_key d k v i ≡ first_seen_key d h v i
  same_seen i =
      first-same (λ a. key_without_party v (opened (history k a) i)) (λ a. key_without_party v (opened (history h a) i)) (leaving d.graph v)
      (λ a j. ap (key_without_party v) ((leaving_same a j).opened i))

  same_due_publish : (a : ℕ) → is_due_publish d v k a ≡ is_due_publish d v h a
  unfolding is_due_publish
  same_due_publish a = ap₂ (λ x y. (leads_one d v || x) && not y) same_ready (same_calls a is_publish refl)

  same_due_key : (o : Option Hashkey) (w : Wallet) (i : ℕ) → due_key d v w o k i ≡ due_key d v w o h i
  unfolding due_key seen_key
  same_due_key o w i = ap (λ x. or_else o (cond (leads d v i) (Some (w.first i)) (extended w x))) (same_seen i)

  same_may : (i a : ℕ) → may_unlock d v k i a ≡ may_unlock d v h i a
  same_may i a = ap₂ (λ x y. x && not y) same_ready (same_calls a (unlocks_lock i) refl)

  same_unlock_on : (w : Wallet) (o : Option Hashkey) (i a : ℕ) → due_arc_unlock d v w o k i a ≡ due_arc_unlock d v w o h i a
  unfolding due_arc_unlock
  same_unlock_on w o i a = ap₂ (λ x y. cond x (presented a y) []) (same_may i a) (same_due_key o w i)

  same_due_claim : (a : ℕ) → is_due_claim d v k a ≡ is_due_claim d v h a
  unfolding is_due_claim
  same_due_claim a = go (s a)
    where
      go : SaysTheSame v (history k a) (history h a) ⊎ AreUseless d v a (history k a) (history h a)
          → (is_correct d k a && is_triggered d k a && not (has_called v is_claiming (history k a)))
          ≡ (is_correct d h a && is_triggered d h a && not (has_called v is_claiming (history h a)))
      go (inl t) =
          ap₂ (λ x y. x && y && not (has_called v is_claiming (history k a))) (ap (is_arc_correct d a) t.published) (same_trigger a t)
          ∙ ap (λ z. is_correct d h a && is_triggered d h a && not z) (t.calls is_claiming refl)
      go (inr u) =
          ap (λ x. x && is_triggered d k a && not (has_called v is_claiming (history k a))) u.one
          ∙ sym (ap (λ x. x && is_triggered d h a && not (has_called v is_claiming (history h a))) u.other)

  same_due_refund : (a : ℕ) → SaysTheSame v (history k a) (history h a) → is_due_refund d v k a ≡ is_due_refund d v h a
  unfolding is_due_refund
  same_due_refund a t =
      ap₂ (λ x y. is_some x && is_none y && not (is_triggered d k a) && has_expired d a (history k a) (height (history k a))
      && not (has_called v is_refunding (history k a))) t.published t.settled
      ∙ (ap₂ (λ x y. is_some (published (history h a)) && is_none (settled (history h a)) && not x && y && not (has_called v is_refunding (history k a)))
      (same_trigger a t) (same_expired a t)
      ∙ ap (λ z. is_some (published (history h a)) && is_none (settled (history h a)) && not (is_triggered d h a)
      && has_expired d a (history h a) (height (history h a)) && not z) (t.calls is_refunding refl))

  same_publishes : due_publishes d v k ≡ due_publishes d v h
  same_publishes =
      ap (λ (f : ℕ → Bool). flat_map (λ a. when_due (f a) a (Publish (stated_terms d a))) (leaving d.graph v)) (λ j a. same_due_publish a j)

  same_unlocks : (w : Wallet) (signed : ℕ → Option Hashkey) → due_unlocks d v w signed k ≡ due_unlocks d v w signed h
  same_unlocks w signed =
      ap (λ (f : ℕ → ℕ → List Action). flat_map (λ i. flat_map (f i) (entering d.graph v)) (locks d)) (λ j i a. same_unlock_on w (signed i) i a j)

  same_claims : due_claims d v k ≡ due_claims d v h
  same_claims = ap (λ (f : ℕ → Bool). flat_map (λ a. when_due (f a) a Claim) (entering d.graph v)) (λ j a. same_due_claim a j)

  same_refunds : due_refunds d v k ≡ due_refunds d v h
  same_refunds =
      flat-same (λ a. when_due (is_due_refund d v k a) a Refund) (λ a. when_due (is_due_refund d v h a) a Refund) (leaving d.graph v)
      (λ a i. ap (λ b. when_due b a Refund) (same_due_refund a (leaving_same a i)))

  -- all that is due over the one is due over the other
  pub same_due : (w : Wallet) (signed : ℕ → Option Hashkey) → due d v w signed k ≡ due d v w signed h
  unfolding due
  same_due w signed =
      ap₂ (λ x y. x ++ y ++ due_claims d v k ++ due_refunds d v k) same_publishes (same_unlocks w signed)
      ∙ ap₂ (λ x y. due_publishes d v h ++ due_unlocks d v w signed h ++ x ++ y) same_claims same_refunds

  -- Rest.

  same_least : (a : ℕ) → SaysTheSame v (history k a) (history h a) → least_expiry d a (history k a) ≡ least_expiry d a (history h a)
  same_least a t = ap (refund_expiry d a (stated_terms d a)) (open_at a t)

  same_waiting : (a : ℕ) → SaysTheSame v (history k a) (history h a) → is_waiting d v k a ≡ is_waiting d v h a
  same_waiting a t =
      ap₂ (λ x y. is_some x && is_none y && not (is_triggered d k a) && not (has_called v is_refunding (history k a))) t.published t.settled
      ∙ ap₂ (λ x y. is_some (published (history h a)) && is_none (settled (history h a)) && not x && not y) (same_trigger a t) (t.calls is_refunding refl)

  pub same_rest : rest_deadline d v k ≡ rest_deadline d v h
  same_rest =
      ap (λ xs. least_number (map (λ a. least_expiry d a (history k a)) xs))
      (filter-same (is_waiting d v k) (is_waiting d v h) (leaving d.graph v) (λ a i. same_waiting a (leaving_same a i)))
      ∙ ap least_number (map-same (λ a. least_expiry d a (history k a)) (λ a. least_expiry d a (history h a)) (filter (is_waiting d v h) (leaving d.graph v))
      (λ a i. same_least a (leaving_same a (from_filter (is_waiting d v h) a (leaving d.graph v) i).0)))

  -- Heights at which v became ready, and how it came out.

  pub same_correct : (a : ℕ) → is_correct d k a ≡ is_correct d h a
  same_correct a = go (s a)
    where
      go : SaysTheSame v (history k a) (history h a) ⊎ AreUseless d v a (history k a) (history h a) → is_correct d k a ≡ is_correct d h a
      go (inl t) = ap (is_arc_correct d a) t.published
      go (inr u) = u.one ∙ sym u.other

  -- of a correct arc the same is said
  pub correct_says : (a : ℕ) → is_correct d h a ≡ true → SaysTheSame v (history k a) (history h a)
  correct_says a c = go (s a)
    where
      go : SaysTheSame v (history k a) (history h a) ⊎ AreUseless d v a (history k a) (history h a) → SaysTheSame v (history k a) (history h a)
      go (inl t) = t
      go (inr u) = absurd (false≢true (sym u.other ∙ c))

  good_says : (a : ℕ) → is_good d h a ≡ true → SaysTheSame v (history k a) (history h a)
  good_says a g =
      correct_says a (and_parts (is_correct d h a) (nat_le (publication_height (published (history h a))) (times.opening_deadline d.start d.delta d.bound)) g).0

  pub same_ready_height : is_ready d h v ≡ true → ready_height d k v ≡ ready_height d h v
  unfolding ready_height
  same_ready_height r =
      greatest-same (λ a. publication_height (published (history k a))) (λ a. publication_height (published (history h a))) (entering d.graph v)
      (λ a i. ap publication_height (good_says a (ready_good d h v a r i)).published)

  same_got_at : (a : ℕ) → is_got d k a ≡ is_got d h a
  same_got_at a = go (s a)
    where
      go : SaysTheSame v (history k a) (history h a) ⊎ AreUseless d v a (history k a) (history h a) → is_got d k a ≡ is_got d h a
      go (inl t) = ap₂ (λ x y. is_arc_correct d a x && is_claim y) t.published t.settled
      go (inr u) =
          ap (λ x. x && is_claim (settled (history k a))) u.one ∙ sym (ap (λ x. x && is_claim (settled (history h a))) u.other)

  same_got : got d k v ≡ got d h v
  same_got = ap (λ (f : ℕ → Bool). count_by f (entering d.graph v)) (λ j a. same_got_at a j)

  same_lost : lost d k v ≡ lost d h v
  same_lost = count-same (is_triggered d k) (is_triggered d h) (leaving d.graph v) (λ a i. same_trigger a (leaving_same a i))

  pub same_outcome : outcome d k v ≡ outcome d h v
  unfolding outcome
  same_outcome =
      ap₂ (λ n m. cond (n == 0) (cond (m == 0) NoDeal FreeRide) (cond (nat_lt m (length (entering d.graph v))) Underwater
      (cond (n == length (leaving d.graph v)) WholeDeal Discount))) same_lost same_got

  -- What presses.

  same_presented : (i : ℕ) → is_none (first_key k v i) ≡ is_none (first_key h v i)
  unfolding first_key
  same_presented i =
      none_any (λ e. unlock_hashkey i (pick_call v e)) (flat_map (λ l. l) k)
      ∙ (ap not (any_each (λ e. is_some (unlock_hashkey i (pick_call v e))) k h (λ a. same_calls a (λ o. is_some (unlock_hashkey i o)) refl))
      ∙ sym (none_any (λ e. unlock_hashkey i (pick_call v e)) (flat_map (λ l. l) h)))

  -- who isn't ready unlocks nothing
  unready : (b : Histories) → is_ready d b v ≡ false → (w : Wallet) (o : Option Hashkey) (i : ℕ) (xs : List ℕ)
      → flat_map (due_arc_unlock d v w o b i) xs ≡ []
  unfolding due_arc_unlock
  unready b n w o i [] = refl
  unready b n w o i (a ∷ xs) =
      ap₂ (λ r l. cond (r && not (has_called v (unlocks_lock i) (history b a))) (presented a (due_key d v w o b i)) [] ++ l) n (unready b n w o i xs)

  no_choice : (b : Bool) (xs : List Action) → xs ≡ [] → cond b [] xs ≡ []
  no_choice true xs e = refl
  no_choice false xs e = e

  either : (b : Bool) (xs : List Action) → xs ≡ [] → cond b xs [] ≡ []
  either true xs e = e
  either false xs e = refl

  module _ (at : ℕ → ℕ) where
    untimely : (b : Histories) → is_ready d b v ≡ false → (w : Wallet) (o : Option Hashkey) (i : ℕ) (xs : List ℕ)
        → flat_map (timely_unlock d v at w o b i) xs ≡ []
    unfolding due_arc_unlock
    untimely b n w o i [] = refl
    untimely b n w o i (a ∷ xs) =
        ap₂ (λ p q. p ++ q) (either (takes d at b i (due_key d v w o b i) a) (due_arc_unlock d v w o b i a)
        (ap (λ r. cond (r && not (has_called v (unlocks_lock i) (history b a))) (presented a (due_key d v w o b i)) []) n)) (untimely b n w o i xs)

    same_has_lost : has_lost d k v ≡ has_lost d h v
    same_has_lost = any-same (is_triggered d k) (is_triggered d h) (leaving d.graph v) (λ a i. same_trigger a (leaving_same a i))

    module _ (r : is_ready d h v ≡ true) where
      says : (a : ℕ) → IsElement a (entering d.graph v) → SaysTheSame v (history k a) (history h a)
      says a j = good_says a (ready_good d h v a r j)

      same_accepts : (o : Option Hashkey) (a : ℕ) → IsElement a (entering d.graph v) → accepts d at k o a ≡ accepts d at h o a
      same_accepts None a j = refl
      same_accepts (Some key) a j = ap (λ z. is_none z && nat_le (at a) (last_unlock d.mode (stated_terms d a) key)) (says a j).settled

      same_takes : (i : ℕ) (o : Option Hashkey) (a : ℕ) → IsElement a (entering d.graph v) → takes d at k i o a ≡ takes d at h i o a
      same_takes i o a j = ap₂ (λ x y. is_some x || y) ((says a j).opened i) (same_accepts o a j)

      same_missed : (signed : ℕ → Option Hashkey) → has_missed d v signed k ≡ has_missed d v signed h
      same_missed signed =
          any-same (λ a. list_any (is_missed d k signed a) (locks d)) (λ a. list_any (is_missed d h signed a) (locks d)) (entering d.graph v)
          (λ a j. any-same (is_missed d k signed a) (is_missed d h signed a) (locks d) (λ l i.
          ap₂ (λ x n. not (is_some x) && is_past d a (signed l) n) ((says a j).opened l) (says a j).height))

      same_withheld : (signed : ℕ → Option Hashkey) (i : ℕ) (o : Option Hashkey) → is_withheld d v at signed k i o ≡ is_withheld d v at signed h i o
      same_withheld signed i o =
          ap₂ (λ x y. x && not y && (has_missed d v signed k || not (list_all (takes d at k i o) (entering d.graph v)))) (same_presented i) same_has_lost
          ∙ ap₂ (λ m y. is_none (first_key h v i) && not (has_lost d h v) && (m || not y)) (same_missed signed)
          (all-same (takes d at k i o) (takes d at h i o) (entering d.graph v) (λ a j. same_takes i o a j))

      same_timely : (w : Wallet) (o : Option Hashkey) (i : ℕ)
          → flat_map (timely_unlock d v at w o k i) (entering d.graph v) ≡ flat_map (timely_unlock d v at w o h i) (entering d.graph v)
      same_timely w o i =
          flat-same (timely_unlock d v at w o k i) (timely_unlock d v at w o h i) (entering d.graph v) (λ a j.
          ap (λ z. cond (takes d at k i z a) (due_arc_unlock d v w o k i a) []) (same_due_key o w i)
          ∙ ap₂ (λ x y. cond x y []) (same_takes i (due_key d v w o h i) a j) (same_unlock_on w o i a))

    same_pressing_unlocks : (w : Wallet) (signed : ℕ → Option Hashkey) (i : ℕ) → pressing_unlocks d v at w signed k i ≡ pressing_unlocks d v at w signed h i
    same_pressing_unlocks w signed i = go (is_ready d h v) refl
      where
        go : (r : Bool) → is_ready d h v ≡ r → pressing_unlocks d v at w signed k i ≡ pressing_unlocks d v at w signed h i
        go true r =
            ap (λ o. cond (is_withheld d v at signed k i o) [] (flat_map (timely_unlock d v at w (signed i) k i) (entering d.graph v))) (same_due_key (signed i) w i)
            ∙ ap₂ (λ x y. cond x [] y) (same_withheld r signed i (due_key d v w (signed i) h i)) (same_timely r w (signed i) i)
        go false r =
            no_choice (is_withheld d v at signed k i (due_key d v w (signed i) k i)) (flat_map (timely_unlock d v at w (signed i) k i) (entering d.graph v))
            (untimely k (same_ready ∙ r) w (signed i) i (entering d.graph v))
            ∙ sym (no_choice (is_withheld d v at signed h i (due_key d v w (signed i) h i)) (flat_map (timely_unlock d v at w (signed i) h i) (entering d.graph v))
            (untimely h r w (signed i) i (entering d.graph v)))

    pub same_pressing : (w : Wallet) (signed : ℕ → Option Hashkey) → pressing d v at w signed k ≡ pressing d v at w signed h
    unfolding pressing
    same_pressing w signed =
        ap₂ (λ (f : ℕ → List Action) (x : List Action). flat_map f (locks d) ++ x ++ due_refunds d v k) (λ j i. same_pressing_unlocks w signed i j) same_claims
        ∙ ap (λ x. flat_map (pressing_unlocks d v at w signed h) (locks d) ++ due_claims d v h ++ x) same_refunds

    same_useful_publishes : useful_publishes d v at k ≡ useful_publishes d v at h
    same_useful_publishes =
        flat-same (λ a. when_due (is_due_publish d v k a && opens_in_time d at a) a (Publish (stated_terms d a)))
        (λ a. when_due (is_due_publish d v h a && opens_in_time d at a) a (Publish (stated_terms d a))) (leaving d.graph v)
        (λ a i. ap (λ x. when_due (x && opens_in_time d at a) a (Publish (stated_terms d a))) (same_due_publish a))

    pub same_useful : (w : Wallet) (signed : ℕ → Option Hashkey) → useful d v at w signed k ≡ useful d v at w signed h
    unfolding useful
    same_useful w signed =
        ap₂ (λ (x : List Action) (f : ℕ → List Action). x ++ flat_map f (locks d) ++ due_claims d v k ++ due_refunds d v k) same_useful_publishes
        (λ j i. same_pressing_unlocks w signed i j)
        ∙ ap₂ (λ x y. useful_publishes d v at h ++ useful_unlocks d v at w signed h ++ x ++ y) same_claims same_refunds
