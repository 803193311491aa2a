-- Where no account lacks units, every one has what is set aside from it.
use Rattle.std.proofs.Common.{◌≡◌, ◌≢◌, ◌⊎◌, ℕ, ◌<◌, ◌≤◌, ◌==◌, nat_lt, Bool, true, false, cond, [], length, Option, Some, None, refl, ap}
use Rattle.std.proofs.Common.{subst, inl, inr, arith, eqb-true, ltb-false}
use Rattle.std.specs.Prelude.{slice_index_or}
use Rattle.std.specs.List.{range_with_len}
use Rattle.swap_base.proofs.Lists.{none_in, in_range, from_range, below_or}
use Rattle.swap_digraph.specs.Graph.{arcs}
use Rattle.swap_digraph.specs.Deal.{amount}
use Rattle.ledger_core.proofs.History.{not-true}
use Rattle.swap_many.specs.declared.overdrawn.Overdrawn.{Overdrawn}
use Rattle.swap_many.specs.Chains.{Setup, place, arc_chain, slot_funding, opening_units, set_aside}
use Rattle.swap_many.specs.Opened.{account_lack, chain_lack, overdrawn, ArePlaces, NoLackIsCovered}
use Rattle.swap_many.proofs.Sums.{sum_zero}

module _ (m : Setup) (places : ArePlaces m) where
  -- an account out of range pays for nothing
  none_aside : (i x : ℕ) → ((s a : ℕ) → s < m.swaps → a < length (m.cast s).deal.graph.arcs → arc_chain m s a ≡ i → x ≢ (place m s a).from)
      → set_aside m i x ≡ 0
  none_aside i x apart =
      sum_zero _ (range_with_len 0 m.swaps) (λ s j. sum_zero (slot_funding m i x s) (arcs (m.cast s).deal.graph) (λ a k.
      one s a (from_range s m.swaps j) (from_range a (length (m.cast s).deal.graph.arcs) k) (arc_chain m s a == i) refl))
    where
      one : (s a : ℕ) → s < m.swaps → a < length (m.cast s).deal.graph.arcs → (b : Bool) → (arc_chain m s a == i) ≡ b
          → ◌≡◌ {A = ℕ} (cond b (cond (x == (place m s a).from) (amount (m.cast s).deal a) 0) 0) 0
      one s a ls la false e = refl
      one s a ls la true e =
          ap (λ (b : Bool). cond {A = ℕ} b (amount (m.cast s).deal a) 0)
          (not-true (x == (place m s a).from) (λ q. apart s a ls la (eqb-true (arc_chain m s a) i e) (eqb-true x (place m s a).from q)))

  covered : overdrawn m ≡ None → (i x : ℕ) → set_aside m i x ≤ opening_units m i x
  covered none i x = go (below_or i (length m.chains)) (below_or x (length (slice_index_or m.chains i [])))
    where
      low : (n o : ℕ) → n ≡ 0 → n ≤ o
      low n o e = omega arith

      within : (b : Bool) → nat_lt (opening_units m i x) (set_aside m i x) ≡ b
          → cond {A = Option Overdrawn} b (Some (record { chain = i; account = x; have = opening_units m i x; wanted = set_aside m i x })) None ≡ None
          → set_aside m i x ≤ opening_units m i x
      within true e q = absurd (cc q)
      within false e q = ltb-false (opening_units m i x) (set_aside m i x) e

      go : (i < length m.chains) ⊎ (length m.chains ≤ i)
          → (x < length (slice_index_or m.chains i [])) ⊎ (length (slice_index_or m.chains i []) ≤ x) → set_aside m i x ≤ opening_units m i x
      go (inl li) (inl lx) =
          within (nat_lt (opening_units m i x) (set_aside m i x)) refl
          (none_in (account_lack m i) (range_with_len 0 (length (slice_index_or m.chains i []))) x
          (none_in (chain_lack m) (range_with_len 0 (length m.chains)) i none
          (in_range i (length m.chains) li)) (in_range x (length (slice_index_or m.chains i [])) lx))
      go (inl li) (inr above) =
          low (set_aside m i x) (opening_units m i x) (none_aside i x (λ s a ls la e q.
          past x (place m s a).from (length (slice_index_or m.chains i [])) q
          (subst (λ j. (place m s a).from < length (slice_index_or m.chains j [])) e (places.from s a ls la)) above))
        where
          past : (x f n : ℕ) → x ≡ f → f < n → n ≤ x → ⊥
          past x f n e l g = absurd (omega arith)
      go (inr above) other =
          low (set_aside m i x) (opening_units m i x) (none_aside i x (λ s a ls la e q. past (arc_chain m s a) i (length m.chains) e (places.chain s a ls la) above))
        where
          past : (c i n : ℕ) → c ≡ i → c < n → n ≤ i → ⊥
          past c i n e l g = absurd (omega arith)

pub no_lack_is_covered : NoLackIsCovered
no_lack_is_covered m places none i x = covered m places none i x
