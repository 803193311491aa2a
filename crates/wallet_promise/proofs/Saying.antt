-- What a party reads in two books that say the same to it.
use Rattle.std.proofs.Common.{◌≡◌, ℕ, nat_le, nat_lt, Bool, cond, not, ◌&&◌, ◌||◌, List, [], ◌++◌, Option, Some, is_some, is_none, map, filter}
use Rattle.std.proofs.Common.{refl, ap, ap₂, ◌∙◌}
use Rattle.std.specs.List.{list_any, list_all, flat_map}
use Rattle.swap_base.specs.Lists.{or_else, first_given_answer, greatest}
use Rattle.time_bounds.specs.Times as times
use Rattle.swap_digraph.specs.declared.deal.Deal.{Deal}
use Rattle.swap_digraph.specs.Graph.{leaving, entering}
use Rattle.swap_digraph.specs.Deal.{locks, leads}
use Rattle.hashkey_path.specs.declared.hashkey.Hashkey.{Hashkey}
use Rattle.escrow_core.specs.Terms.{stated_terms, refund_expiry}
use Rattle.escrow_core.specs.Table.{are_open}
use Rattle.ledger_core.specs.declared.entry.Call.TheVariants.{Publish, Claim, Refund}
use Rattle.ledger_core.specs.History.{height, published, settled, is_open}
use Rattle.ledger_core.specs.Book.{Histories, history}
use Rattle.swap_rules.specs.Party.{is_correct, is_arc_correct, is_good, publication_height, is_ready, ready_height, is_triggered, expiry, least_expiry}
use Rattle.swap_rules.specs.Party.{has_expired}
use Rattle.swap_rules.specs.Party.{leads_one, key_without_party, first_seen_key}
use Rattle.swap_rules.specs.Conduct.{is_publish}
use Rattle.swap_rules.specs.Due.{Wallet, Action, unlocks_lock, is_claiming, is_refunding, has_called, is_due_publish, seen_key, extended, due_key}
use Rattle.swap_rules.specs.Due.{presented, may_unlock, due_arc_unlock, is_due_claim, is_due_refund, when_due, due_publishes, due_unlocks, due_claims}
use Rattle.swap_rules.specs.Due.{due_refunds, due}
use Rattle.swap_rules.specs.Rest.{is_waiting, least_number, rest_deadline}
use Rattle.wallet_promise.specs.WithoutNoise.{SayTheSame}

module _ (d : Deal) (v : ℕ) (k h : Histories) (s : SayTheSame v k h) where
  pub same_correct : (a : ℕ) → is_correct d k a ≡ is_correct d h a
  same_correct a = ap (is_arc_correct d a) (s a).published

  same_good : (a : ℕ) → is_good d k a ≡ is_good d h a
  same_good a = ap (λ o. is_arc_correct d a o && nat_le (publication_height o) (times.opening_deadline d.start d.delta d.bound)) (s a).published

  pub same_ready : (u : ℕ) → is_ready d k u ≡ is_ready d h u
  unfolding is_ready
  same_ready u = ap (λ (f : ℕ → Bool). list_all f (entering d.graph u)) (λ j a. same_good a j)

  pub same_ready_height : (u : ℕ) → ready_height d k u ≡ ready_height d h u
  unfolding ready_height
  same_ready_height u = ap (λ (f : ℕ → ℕ). greatest f (entering d.graph u)) (λ j a. publication_height ((s a).published j))

  pub same_open : (a : ℕ) → is_open (history k a) ≡ is_open (history h a)
  same_open a = λ j i. is_some ((s a).opened i j)

  pub same_trigger : (a : ℕ) → is_triggered d k a ≡ is_triggered d h a
  same_trigger a = ap (are_open d) (same_open a)

  pub same_least : (a : ℕ) → least_expiry d a (history k a) ≡ least_expiry d a (history h a)
  same_least a = ap (refund_expiry d a (stated_terms d a)) (same_open a)

  same_expired_at : (a at : ℕ) → has_expired d a (history k a) at ≡ has_expired d a (history h a) at
  same_expired_at a at = ap (λ (f : ℕ → Bool). list_any (λ i. not (f i) && nat_lt (expiry d a i) at) (locks d)) (same_open a)

  same_expired : (a : ℕ) → has_expired d a (history k a) (height (history k a)) ≡ has_expired d a (history h a) (height (history h a))
  same_expired a = same_expired_at a (height (history k a)) ∙ ap (λ n. has_expired d a (history h a) n) (s a).height

  pub same_seen : (u i : ℕ) → first_seen_key d k u i ≡ first_seen_key d h u i
  same_seen u i = ap (λ (f : ℕ → Option Hashkey). first_given_answer f (leaving d.graph u)) (λ j a. key_without_party u ((s a).opened i j))

  same_due_publish : (a : ℕ) → is_due_publish d v k a ≡ is_due_publish d v h a
  unfolding is_due_publish
  same_due_publish a = ap₂ (λ x y. (leads_one d v || x) && not y) (same_ready v) ((s a).calls is_publish refl)

  same_due_key : (o : Option Hashkey) (w : Wallet) (i : ℕ) → due_key d v w o k i ≡ due_key d v w o h i
  unfolding due_key seen_key
  same_due_key o w i = ap (λ x. or_else o (cond (leads d v i) (Some (w.first i)) (extended w x))) (same_seen v i)

  same_may : (i a : ℕ) → may_unlock d v k i a ≡ may_unlock d v h i a
  same_may i a = ap₂ (λ x y. x && not y) (same_ready v) ((s a).calls (unlocks_lock i) refl)

  same_unlock_on : (w : Wallet) (o : Option Hashkey) (i a : ℕ) → due_arc_unlock d v w o k i a ≡ due_arc_unlock d v w o h i a
  unfolding due_arc_unlock
  same_unlock_on w o i a = ap₂ (λ x y. cond x (presented a y) []) (same_may i a) (same_due_key o w i)

  same_due_claim : (a : ℕ) → is_due_claim d v k a ≡ is_due_claim d v h a
  unfolding is_due_claim
  same_due_claim a =
      ap₂ (λ x y. x && y && not (has_called v is_claiming (history k a))) (same_correct a) (same_trigger a)
      ∙ ap (λ z. is_correct d h a && is_triggered d h a && not z) ((s a).calls is_claiming refl)

  same_due_refund : (a : ℕ) → is_due_refund d v k a ≡ is_due_refund d v h a
  unfolding is_due_refund
  same_due_refund a =
      ap₂ (λ x y. is_some x && is_none y && not (is_triggered d k a) && has_expired d a (history k a) (height (history k a))
      && not (has_called v is_refunding (history k a))) (s a).published (s a).settled
      ∙ (ap₂ (λ x y. is_some (published (history h a)) && is_none (settled (history h a)) && not x && y && not (has_called v is_refunding (history k a)))
      (same_trigger a) (same_expired a)
      ∙ ap (λ z. is_some (published (history h a)) && is_none (settled (history h a)) && not (is_triggered d h a)
      && has_expired d a (history h a) (height (history h a)) && not z) ((s a).calls is_refunding refl))

  same_publishes : due_publishes d v k ≡ due_publishes d v h
  same_publishes =
      ap (λ (f : ℕ → Bool). flat_map (λ a. when_due (f a) a (Publish (stated_terms d a))) (leaving d.graph v)) (λ j a. same_due_publish a j)

  same_unlocks : (w : Wallet) (signed : ℕ → Option Hashkey) → due_unlocks d v w signed k ≡ due_unlocks d v w signed h
  same_unlocks w signed =
      ap (λ (f : ℕ → ℕ → List Action). flat_map (λ i. flat_map (f i) (entering d.graph v)) (locks d)) (λ j i a. same_unlock_on w (signed i) i a j)

  same_claims : due_claims d v k ≡ due_claims d v h
  same_claims = ap (λ (f : ℕ → Bool). flat_map (λ a. when_due (f a) a Claim) (entering d.graph v)) (λ j a. same_due_claim a j)

  same_refunds : due_refunds d v k ≡ due_refunds d v h
  same_refunds = ap (λ (f : ℕ → Bool). flat_map (λ a. when_due (f a) a Refund) (leaving d.graph v)) (λ j a. same_due_refund a j)

  -- all that is due over the one is due over the other
  pub same_due : (w : Wallet) (signed : ℕ → Option Hashkey) → due d v w signed k ≡ due d v w signed h
  unfolding due
  same_due w signed =
      ap₂ (λ x y. x ++ y ++ due_claims d v k ++ due_refunds d v k) same_publishes (same_unlocks w signed)
      ∙ ap₂ (λ x y. due_publishes d v h ++ due_unlocks d v w signed h ++ x ++ y) same_claims same_refunds

  same_waiting : (a : ℕ) → is_waiting d v k a ≡ is_waiting d v h a
  same_waiting a =
      ap₂ (λ x y. is_some x && is_none y && not (is_triggered d k a) && not (has_called v is_refunding (history k a))) (s a).published (s a).settled
      ∙ ap₂ (λ x y. is_some (published (history h a)) && is_none (settled (history h a)) && not x && not y) (same_trigger a) ((s a).calls is_refunding refl)

  pub same_rest : rest_deadline d v k ≡ rest_deadline d v h
  same_rest =
      ap₂ (λ (f : ℕ → ℕ) (g : ℕ → Bool). least_number (map f (filter g (leaving d.graph v)))) (λ j a. same_least a j) (λ j a. same_waiting a j)
