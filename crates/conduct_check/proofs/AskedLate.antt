-- What a rule asks of a party on an arc.
use Rattle.std.proofs.Common.{◌≡◌, ℕ, ◌<◌, ◌==◌, Bool, true, false, ◌&&◌, ◌||◌, not, nat_lt, cond, max, filter, length, Option, Some, None, is_some}
use Rattle.std.proofs.Common.{option_copied, refl, sym, ap, ◌∙◌}
use Rattle.std.specs.List.{list_any, range_with_len}
use denote.Ref.{Bor}
use Rattle.swap_base.proofs.Lists.{in_filter, from_filter, in_range}
use Rattle.swap_digraph.specs.Value.{Graph}
use Rattle.swap_digraph.specs.Graph.{ends, entering, is_listed, leaving}
use Rattle.swap_digraph.specs.declared.deal.Deal.{Deal}
use Rattle.swap_digraph.specs.Deal.{leads}
use Rattle.hashkey_path.specs.declared.hashkey.Hashkey.{Hashkey}
use Rattle.ledger_core.specs.declared.entry.Call.{Call}
use Rattle.ledger_core.specs.declared.entry.Call.TheVariants.{Publish, Unlock, Claim, Refund, Transfer}
use Rattle.ledger_core.specs.Book.{Histories, history}
use Rattle.ledger_core.specs.History.{opened, published}
use Rattle.swap_rules.specs.declared.finding.Rule.TheVariants.{Publish as ToPublish, Unlock as ToUnlock, Claim as ToClaim, Refund as ToRefund}
use Rattle.swap_rules.specs.Party.{first_key, is_correct, is_ready, is_triggered, least_expiry, leads_one, ready_height, opens_without_party}
use Rattle.swap_rules.specs.Conduct.{is_first_key}
use Rattle.swap_rules.specs.Late.{unlock_base, counts, reference_height, trigger_height, when}
use Rattle.swap_digraph.proofs.Paths.{is_listed-true, in-is_listed}
use Rattle.hash_signature.proofs.Bytes.{same_truth}
use Rattle.conduct_check.specs.declared.counting.Counted.TheVariants as counted
use Rattle.conduct_check.specs.Overdue.{claim_start, is_counted_call, publish_start, refund_start, unlock_start, IsAsked}

-- The ends of an arc tell whether it leaves or enters a party.

among_filter : (p : ℕ → Bool) (a n : ℕ) → a < n → p a ≡ is_listed a (filter p (range_with_len 0 n))
among_filter p a n l =
    same_truth (p a) (is_listed a (filter p (range_with_len 0 n)))
    (λ t. in-is_listed a (filter p (range_with_len 0 n)) (in_filter p a (range_with_len 0 n) (in_range a n l) t))
    (λ t. (from_filter p a (range_with_len 0 n) (is_listed-true a (filter p (range_with_len 0 n)) t)).1)

-- What each rule asks where the arc touches the party on the rule's side, and that it asks nothing
-- elsewhere.

module _ (d : Deal) (b : Histories) (v a : ℕ) where
  pub no_publish : is_listed a (leaving d.graph v) ≡ false → reference_height d b v ToPublish a ≡ None
  unfolding reference_height
  no_publish e = ap (λ x. when (x && (leads_one d v || is_ready d b v)) (cond (leads_one d v) 0 (ready_height d b v))) e

  pub no_unlock : (i : ℕ) → is_listed a (entering d.graph v) ≡ false → reference_height d b v (ToUnlock i) a ≡ None
  unfolding reference_height
  no_unlock i e =
      ap (λ x. when (x && is_ready d b v && (leads d v i || is_some (first_key b v i)
      || list_any (λ c. opens_without_party v (opened (history b c) i)) (leaving d.graph v)))
      (cond (leads d v i) (ready_height d b v) (max (ready_height d b v) (unlock_base d.mode d b v i (first_key b v i))))) e

  pub no_claim : is_listed a (entering d.graph v) ≡ false → reference_height d b v ToClaim a ≡ None
  unfolding reference_height
  no_claim e = ap (λ x. when (x && is_correct d b a && is_triggered d b a) (trigger_height d (history b a))) e

  pub no_refund : is_listed a (leaving d.graph v) ≡ false → reference_height d b v ToRefund a ≡ None
  unfolding reference_height
  no_refund e = ap (λ x. when (x && is_some (published (history b a)) && not (is_triggered d b a)) (least_expiry d a (history b a))) e

  publish_calls : (at : ℕ) (o : Option Call) → is_counted_call counted.Publish at o ≡ counts d b v ToPublish a at o
  unfolding counts
  publish_calls at None = refl
  publish_calls at (Some (Publish t)) = refl
  publish_calls at (Some (Unlock key)) = refl
  publish_calls at (Some Claim) = refl
  publish_calls at (Some Refund) = refl
  publish_calls at (Some (Transfer to units)) = refl

  unlock_calls : (i : ℕ) (first : Option (Bor Hashkey)) → option_copied first ≡ first_key b v i → (at : ℕ) (o : Option Call)
      → is_counted_call (counted.Unlock i first) at o ≡ counts d b v (ToUnlock i) a at o
  unfolding counts
  unlock_calls i first e at None = refl
  unlock_calls i first e at (Some (Publish t)) = refl
  unlock_calls i first e at (Some (Unlock key)) = ap (λ k. (key.lock == i) && is_first_key k key) e
  unlock_calls i first e at (Some Claim) = refl
  unlock_calls i first e at (Some Refund) = refl
  unlock_calls i first e at (Some (Transfer to units)) = refl

  claim_calls : (at : ℕ) (o : Option Call) → is_counted_call counted.Claim at o ≡ counts d b v ToClaim a at o
  unfolding counts
  claim_calls at None = refl
  claim_calls at (Some (Publish t)) = refl
  claim_calls at (Some (Unlock key)) = refl
  claim_calls at (Some Claim) = refl
  claim_calls at (Some Refund) = refl
  claim_calls at (Some (Transfer to units)) = refl

  refund_calls : (least : ℕ) → least ≡ least_expiry d a (history b a) → (at : ℕ) (o : Option Call)
      → is_counted_call (counted.Refund least) at o ≡ counts d b v ToRefund a at o
  unfolding counts
  refund_calls least e at None = refl
  refund_calls least e at (Some (Publish t)) = refl
  refund_calls least e at (Some (Unlock key)) = refl
  refund_calls least e at (Some Claim) = refl
  refund_calls least e at (Some Refund) = ap (λ n. nat_lt n at) e
  refund_calls least e at (Some (Transfer to units)) = refl

  pub publish_asked : (from : Option ℕ) → from ≡ publish_start d b v → is_listed a (leaving d.graph v) ≡ true → IsAsked d b v ToPublish a from counted.Publish
  unfolding reference_height
  publish_asked from e t = record {
    height = e ∙ ap (λ x. when (x && (leads_one d v || is_ready d b v)) (cond (leads_one d v) 0 (ready_height d b v))) (sym t);
    calls = publish_calls;
  }

  pub unlock_asked : (i : ℕ) (first : Option (Bor Hashkey)) (from : Option ℕ) → option_copied first ≡ first_key b v i → from ≡ unlock_start d b v i
      → is_listed a (entering d.graph v) ≡ true → IsAsked d b v (ToUnlock i) a from (counted.Unlock i first)
  unfolding reference_height
  unlock_asked i first from k e t = record {
    height =
        e
        ∙ ap (λ x. when (x && is_ready d b v && (leads d v i || is_some (first_key b v i)
        || list_any (λ c. opens_without_party v (opened (history b c) i)) (leaving d.graph v)))
        (cond (leads d v i) (ready_height d b v) (max (ready_height d b v) (unlock_base d.mode d b v i (first_key b v i))))) (sym t);
    calls = unlock_calls i first k;
  }

  pub claim_asked : (from : Option ℕ) → from ≡ claim_start d b a → is_listed a (entering d.graph v) ≡ true → IsAsked d b v ToClaim a from counted.Claim
  unfolding reference_height
  claim_asked from e t = record {
    height = e ∙ ap (λ x. when (x && is_correct d b a && is_triggered d b a) (trigger_height d (history b a))) (sym t);
    calls = claim_calls;
  }

  pub refund_asked : (least : ℕ) (from : Option ℕ) → least ≡ least_expiry d a (history b a) → from ≡ refund_start d b a
      → is_listed a (leaving d.graph v) ≡ true → IsAsked d b v ToRefund a from (counted.Refund least)
  unfolding reference_height
  refund_asked least from k e t = record {
    height = e ∙ ap (λ x. when (x && is_some (published (history b a)) && not (is_triggered d b a)) (least_expiry d a (history b a))) (sym t);
    calls = refund_calls least k;
  }

pub leaves_by_end : (g : Graph) (v a : ℕ) → a < length g.arcs → ((ends g a).from == v) ≡ is_listed a (leaving g v)
leaves_by_end g v a l = among_filter (λ x. (ends g x).from == v) a (length g.arcs) l

pub enters_by_end : (g : Graph) (v a : ℕ) → a < length g.arcs → ((ends g a).to == v) ≡ is_listed a (entering g v)
enters_by_end g v a l = among_filter (λ x. (ends g x).to == v) a (length g.arcs) l
