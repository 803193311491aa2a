-- Where nothing presses over what counts, nothing is due over all that is known, but for publishes
-- and for locks whose hashkey some entering arc wouldn't take.
use Rattle.std.proofs.Common.{◌≡◌, ℕ, nat_le, nat_lt, Bool, true, false, cond, not, ◌&&◌, ◌||◌, [], length, Option, Some, None, is_some, is_none, refl, sym, ap}
use Rattle.std.proofs.Common.{◌∙◌, ◌++◌}
use Rattle.std.specs.List.{list_any, list_all, flat_map}
use Rattle.std.proofs.lemmas.Bool.{false≢true}
use Rattle.swap_base.specs.Lists.{or_else, first_given_answer, IsElement}
use Rattle.swap_base.proofs.Lists.{and_parts, and_both, list_all-in, in_range}
use Rattle.swap_digraph.specs.declared.deal.Deal.{Deal}
use Rattle.swap_digraph.specs.Graph.{leaving, entering}
use Rattle.swap_digraph.specs.Deal.{locks, leads}
use Rattle.hashkey_path.specs.declared.hashkey.Hashkey.{Hashkey}
use Rattle.escrow_core.specs.Terms.{stated_terms, last_unlock}
use Rattle.escrow_core.specs.Table.{are_open}
use Rattle.ledger_core.specs.declared.entry.Call.{Call}
use Rattle.ledger_core.specs.declared.entry.Call.TheVariants.{Claim}
use Rattle.ledger_core.specs.History.{height, published, opened, settled}
use Rattle.ledger_core.specs.Book.{Histories, history}
use Rattle.ledger_core.proofs.History.{not-false}
use Rattle.swap_rules.specs.Party.{is_correct, is_arc_correct, publication_height, is_ready, is_triggered, expiry, has_expired, key_without_party, first_key}
use Rattle.swap_rules.specs.Due.{Wallet, unlocks_lock, is_claiming, is_refunding, has_called, due_key, seen_key, extended, presented, may_unlock}
use Rattle.swap_rules.specs.Due.{due_arc_unlock, is_due_claim, is_due_refund, when_due, due_claims, due_refunds}
use Rattle.swap_rules.proofs.Rounds.{NothingElseDue, refund_none}
use Rattle.swap_rules.proofs.Words.{append_empty, flat_map_none}
use Rattle.swap_rules.specs.Useful.{is_past, has_missed}
use Rattle.swap_base.proofs.Lists.{or_neither}
use Rattle.swap_rules.specs.Useful.{accepts, takes, has_lost, is_withheld, timely_unlock, pressing_unlocks, pressing}
use Rattle.swap_rules.proofs.Counted.{ReadsFewer}
use Rattle.time_bounds.specs.Times as times

-- some entering arc wouldn't take the hashkey that is due for lock i, or has missed a lock
abbrev pub hindered : Deal → ℕ → (ℕ → ℕ) → Wallet → (ℕ → Option Hashkey) → ℕ → Histories → Bool
hindered d v at w signed i k = has_missed d v signed k || not (list_all (takes d at k i (due_key d v w (signed i) k i)) (entering d.graph v))

when_due_none : (test : Bool) (a : ℕ) (c : Call) → when_due test a c ≡ [] → test ≡ false
when_due_none true a c e = absurd (cc e)
when_due_none false a c e = refl

present_none : (test : Bool) (a : ℕ) (o : Option Hashkey) → cond test (presented a o) [] ≡ [] → test ≡ true → o ≡ None
present_none true a None e t = refl
present_none true a (Some key) e t = absurd (cc e)
present_none false a o e t = absurd (false≢true t)

and_neither : (p m q : Bool) → m ≡ false → q ≡ true → (p && (m || not q)) ≡ false
and_neither false m q f e = refl
and_neither true false true f e = refl
and_neither true true q f e = absurd (false≢true (sym f))
and_neither true false false f e = absurd (false≢true e)

uncalled : (x y : Bool) → (x ≡ true → y ≡ true) → not y ≡ true → not x ≡ true
uncalled false y h e = refl
uncalled true true h e = e
uncalled true false h e = absurd (false≢true (h refl))

no_more : (p q x y : Bool) → p ≡ q → (x ≡ true → y ≡ true) → (p && not x) ≡ false → (q && not y) ≡ false
no_more true true false y e h f = absurd (false≢true (sym f))
no_more true true true true e h f = refl
no_more true true true false e h f = absurd (false≢true (h refl))
no_more true false x y e h f = refl
no_more false false x y e h f = refl
no_more false true x y e h f = absurd (false≢true e)

module _ (d : Deal) (v : ℕ) (at : ℕ → ℕ) (w : Wallet) (signed : ℕ → Option Hashkey) (g k : Histories)
    (reads : (a : ℕ) → ReadsFewer v (history g a) (history k a)) where
  same_height : (a : ℕ) → height (history g a) ≡ height (history k a)
  same_height a = let r = reads a in r.height

  same_published : (a : ℕ) → published (history g a) ≡ published (history k a)
  same_published a = let r = reads a in r.published

  same_opened : (a i : ℕ) → opened (history g a) i ≡ opened (history k a) i
  same_opened a i = let r = reads a in r.opened i

  same_settled : (a : ℕ) → settled (history g a) ≡ settled (history k a)
  same_settled a = let r = reads a in r.settled

  fewer : (test : Option Call → Bool) (a : ℕ) → has_called v test (history g a) ≡ true → has_called v test (history k a) ≡ true
  fewer test a = let r = reads a in r.calls test

  pub same_ready : is_ready d g v ≡ is_ready d k v
  unfolding is_ready
  same_ready =
      λ j. list_all (λ a. is_arc_correct d a (same_published a j) && nat_le (publication_height (same_published a j))
      (times.opening_deadline d.start d.delta d.bound)) (entering d.graph v)

  pub same_key : (s : Option Hashkey) (i : ℕ) → due_key d v w s g i ≡ due_key d v w s k i
  unfolding due_key seen_key
  same_key s i =
      λ j. or_else s (cond (leads d v i) (Some (w.first i))
      (extended w (first_given_answer (λ c. key_without_party v (same_opened c i j)) (leaving d.graph v))))

  same_accepts : (o : Option Hashkey) (c : ℕ) → accepts d at g o c ≡ accepts d at k o c
  same_accepts None c = refl
  same_accepts (Some key) c = λ j. is_none (same_settled c j) && nat_le (at c) (last_unlock d.mode (stated_terms d c) key)

  pub same_takes : (i : ℕ) (o : Option Hashkey) (c : ℕ) → takes d at g i o c ≡ takes d at k i o c
  same_takes i o c = λ j. is_some (same_opened c i j) || same_accepts o c j

  same_all : (i : ℕ) → list_all (takes d at g i (due_key d v w (signed i) g i)) (entering d.graph v)
      ≡ list_all (takes d at k i (due_key d v w (signed i) k i)) (entering d.graph v)
  same_all i =
      ap (λ o. list_all (takes d at g i o) (entering d.graph v)) (same_key (signed i) i)
      ∙ (λ j. list_all (λ c. same_takes i (due_key d v w (signed i) k i) c j) (entering d.graph v))

  same_missed : has_missed d v signed g ≡ has_missed d v signed k
  same_missed =
      λ j. list_any (λ a. list_any (λ l. not (is_some (same_opened a l j)) && is_past d a (signed l) (same_height a j)) (locks d)) (entering d.graph v)

  same_trigger : (a : ℕ) → is_triggered d g a ≡ is_triggered d k a
  same_trigger a = λ j. are_open d (λ i. is_some (same_opened a i j))

  same_correct : (a : ℕ) → is_correct d g a ≡ is_correct d k a
  same_correct a = ap (is_arc_correct d a) (same_published a)

  same_expired : (a : ℕ) → has_expired d a (history g a) (height (history g a)) ≡ has_expired d a (history k a) (height (history k a))
  same_expired a =
      ap (λ n. has_expired d a (history g a) n) (same_height a)
      ∙ (λ j. list_any (λ i. not (is_some (same_opened a i j)) && nat_lt (expiry d a i) (height (history k a))) (locks d))

  claim_part : (a : ℕ) → is_due_claim d v g a ≡ false → is_due_claim d v k a ≡ false
  unfolding is_due_claim
  claim_part a e =
      no_more (is_correct d g a && is_triggered d g a) (is_correct d k a && is_triggered d k a) (has_called v is_claiming (history g a))
      (has_called v is_claiming (history k a)) (λ j. same_correct a j && same_trigger a j) (fewer is_claiming a) e

  refund_part : (a : ℕ) → is_due_refund d v g a ≡ false → is_due_refund d v k a ≡ false
  unfolding is_due_refund
  refund_part a e =
      no_more (is_some (published (history g a)) && is_none (settled (history g a)) && not (is_triggered d g a)
      && has_expired d a (history g a) (height (history g a)))
      (is_some (published (history k a)) && is_none (settled (history k a)) && not (is_triggered d k a)
      && has_expired d a (history k a) (height (history k a))) (has_called v is_refunding (history g a)) (has_called v is_refunding (history k a))
      (λ j. is_some (same_published a j) && is_none (same_settled a j) && not (same_trigger a j) && same_expired a j) (fewer is_refunding a) e

  -- what is due over what counts is due over all that is known, where v made no such call
  pub same_claimable : (a : ℕ) → is_due_claim d v g a ≡ true → has_called v is_claiming (history k a) ≡ false → is_due_claim d v k a ≡ true
  unfolding is_due_claim
  same_claimable a e n =
      let p = and_parts (is_correct d g a && is_triggered d g a) (not (has_called v is_claiming (history g a))) e in
      and_both (is_correct d k a && is_triggered d k a) (not (has_called v is_claiming (history k a)))
      (sym (λ j. same_correct a j && same_trigger a j) ∙ p.0) (ap not n)

  pub same_refundable : (a : ℕ) → is_due_refund d v g a ≡ true → has_called v is_refunding (history k a) ≡ false → is_due_refund d v k a ≡ true
  unfolding is_due_refund
  same_refundable a e n =
      let p =
      and_parts (is_some (published (history g a)) && is_none (settled (history g a)) && not (is_triggered d g a)
      && has_expired d a (history g a) (height (history g a))) (not (has_called v is_refunding (history g a))) e in
      and_both (is_some (published (history k a)) && is_none (settled (history k a)) && not (is_triggered d k a)
      && has_expired d a (history k a) (height (history k a))) (not (has_called v is_refunding (history k a)))
      (sym (λ j. is_some (same_published a j) && is_none (same_settled a j) && not (same_trigger a j) && same_expired a j) ∙ p.0) (ap not n)

  may_part : (i a : ℕ) → may_unlock d v k i a ≡ true → may_unlock d v g i a ≡ true
  may_part i a e =
      let p = and_parts (is_ready d k v) (not (has_called v (unlocks_lock i) (history k a))) e in
      and_both (is_ready d g v) (not (has_called v (unlocks_lock i) (history g a))) (same_ready ∙ p.0)
      (uncalled (has_called v (unlocks_lock i) (history g a)) (has_called v (unlocks_lock i) (history k a)) (fewer (unlocks_lock i) a) p.1)

  pub nothing_else : pressing d v at w signed g ≡ [] → NothingElseDue d v signed w k (λ i. hindered d v at w signed i k)
  unfolding pressing due_arc_unlock
  nothing_else e =
      let e1 = append_empty (flat_map (pressing_unlocks d v at w signed g) (locks d) ++ due_claims d v g) (due_refunds d v g) e in
      let e2 = append_empty (flat_map (pressing_unlocks d v at w signed g) (locks d)) (due_claims d v g) e1.0 in
      record {
        unlock = λ i a l j may free. let n = or_neither (has_missed d v signed k) _ free in by_lock i a j may n.0 (not-false _ n.1)
            (flat_map_none (pressing_unlocks d v at w signed g) (locks d) i e2.0 (in_range i (length d.leaders) l));
        claim = λ a i. claim_part a (when_due_none (is_due_claim d v g a) a Claim
            (flat_map_none (λ a. when_due (is_due_claim d v g a) a Claim) (entering d.graph v) a e2.1 i));
        refund = λ a i. refund_part a (refund_none d v g e1.1 a i);
      }
    where
      by_lock : (i a : ℕ) → IsElement a (entering d.graph v) → may_unlock d v k i a ≡ true → has_missed d v signed k ≡ false
          → list_all (takes d at k i (due_key d v w (signed i) k i)) (entering d.graph v) ≡ true → pressing_unlocks d v at w signed g i ≡ []
          → due_key d v w (signed i) k i ≡ None
      by_lock i a j may none all empty =
          let all_g = same_all i ∙ all in
          let free : is_withheld d v at signed g i (due_key d v w (signed i) g i) ≡ false =
          and_neither (is_none (first_key g v i) && not (has_lost d g v)) (has_missed d v signed g) _ (same_missed ∙ none) all_g in
          let timely : flat_map (timely_unlock d v at w (signed i) g i) (entering d.graph v) ≡ [] =
          ap (λ x. cond x [] (flat_map (timely_unlock d v at w (signed i) g i) (entering d.graph v))) (sym free) ∙ empty in
          let one = flat_map_none (timely_unlock d v at w (signed i) g i) (entering d.graph v) a timely j in
          let taken = list_all-in (takes d at g i (due_key d v w (signed i) g i)) (entering d.graph v) a all_g j in
          let due_none : due_arc_unlock d v w (signed i) g i a ≡ [] = ap (λ x. cond x (due_arc_unlock d v w (signed i) g i a) []) (sym taken) ∙ one in
          sym (same_key (signed i) i) ∙ present_none (may_unlock d v g i a) a (due_key d v w (signed i) g i) due_none (may_part i a may)
