-- What a wallet has called, or what lands of it, after it was told of every ledger next to its party
-- past a height.
use Rattle.std.proofs.Common.{◌≡◌, ◌⊎◌, ℕ, ◌<◌, ◌≤◌, ◌==◌, nat_le, Bool, true, false, cond, not, if◌then◌else◌, max, ◌&&◌, ◌||◌}
use Rattle.std.proofs.Common.{List, [], ◌∷◌, ◌++◌, length, Option, Some, None, is_some, is_none, refl, sym, ap, ◌∙◌, subst, inl, inr, arith}
use Rattle.std.proofs.Common.{eqb-true, leb-true, le-leb, lt-ltb}
use Rattle.std.specs.List.{list_any, list_all, flat_map}
use Rattle.std.proofs.lemmas.Bool.{false≢true}
use Rattle.std.proofs.lemmas.Option.{same_Some}
use Rattle.swap_base.specs.Lists.{or_else, IsElement, IsMoment}
use Rattle.swap_base.proofs.Lists.{any_at, all_moments_front, list_all-in, list_any-in, or-right, in_range, and_parts, and_both}
use Rattle.swap_base.proofs.Lists.{first_given_answer-now, in_append, from_append, in_flat_map, in_from_moment, bool_or}
use Rattle.swap_digraph.specs.declared.deal.Deal.{Deal}
use Rattle.swap_digraph.specs.Graph.{leaving, entering, is_listed}
use Rattle.swap_digraph.specs.Deal.{locks, leads, lock_hashlock}
use Rattle.swap_digraph.proofs.Paths.{is_listed-true}
use Rattle.hashkey_path.specs.declared.hashkey.Hashkey.{Hashkey}
use Rattle.hashkey_path.specs.Hashkey.{is_valid}
use Rattle.escrow_core.specs.declared.terms.Terms.{Terms}
use Rattle.escrow_core.specs.Terms.{stated_terms}
use Rattle.ledger_core.specs.declared.entry.Call.{Call}
use Rattle.ledger_core.specs.declared.entry.Call.TheVariants.{Publish, Unlock, Claim, Refund, Transfer}
use Rattle.ledger_core.specs.declared.entry.Entry.{Entry}
use Rattle.ledger_core.specs.declared.facts.Settlement.{Settlement}
use Rattle.ledger_core.specs.declared.facts.Settlement.TheVariants.{Claimed, Refunded}
use Rattle.ledger_core.specs.History.{height, accepted, publication, published, Publication, settled, opened, is_open, triggered, IsLegal, IsLegalMoment}
use Rattle.ledger_core.specs.Book.{Histories, history, IsLegalBook}
use Rattle.ledger_core.proofs.History.{published_done, claimed_done, refunded_done, of_claim, of_refund, height-past, triggered-past}
use Rattle.ledger_core.proofs.History.{is_some-of, not-true, not-false}
use Rattle.swap_rules.specs.declared.finding.Rule.TheVariants.{Publish as RulePublish, Unlock as RuleUnlock, Claim as RuleClaim, Refund as RuleRefund}
use Rattle.swap_rules.specs.Accepted.{IsAccepted}
use Rattle.swap_rules.specs.Party.{is_arc_correct, is_correct, is_ready, ready_height, is_triggered, least_expiry, has_expired, leads_one, pick_call, first_key}
use Rattle.swap_rules.specs.Party.{opens_without_party}
use Rattle.swap_rules.specs.Conduct.{is_publish, is_first_key, keeps, IsConducted}
use Rattle.swap_rules.specs.Late.{unlock_base, trigger_height, when, reference_height, counts, is_done}
use Rattle.swap_rules.specs.Due.{Wallet, Action, unlocks_lock, is_claiming, is_refunding, has_called, seen_key, extended, due_key, presented, may_unlock}
use Rattle.swap_rules.specs.Due.{is_due_publish, due_publishes, due_unlocks, due as all_due}
use Rattle.swap_rules.specs.Due.{due_arc_unlock, is_due_claim, is_due_refund, when_due, due_claims, due_refunds}
use Rattle.swap_rules.specs.Machine.{IsWallet}
use Rattle.swap_rules.specs.Rounds.{IsNear, IsDoneInTime}
use Rattle.swap_rules.specs.Counted.{all_counted}
use Rattle.swap_rules.specs.Useful.{is_past, has_missed, takes, has_lost, is_withheld, timely_unlock, pressing_unlocks, pressing}
use Rattle.swap_rules.specs.Useful.{useful, useful_publishes, useful_unlocks}
use Rattle.swap_rules.proofs.Counted.{ReadsFewer, all_counted_reads}
use Rattle.swap_rules.proofs.Pressing.{hindered, same_ready, same_key, same_takes}
use Rattle.swap_base.proofs.Lists.{or_neither}
use Rattle.escrow_core.specs.Table.{are_open}
use Rattle.std.proofs.Common.{nat_lt}
use Rattle.swap_rules.specs.Party.{expiry}
use Rattle.swap_rules.proofs.Accepted.{times_law}
use Rattle.swap_rules.proofs.Calls.{own_publish, OwnPublish, kept}
use Rattle.swap_rules.proofs.Cases.{Case, ToPublish, ToUnlock, ToClaim, ToRefund, case_of}
use Rattle.swap_rules.proofs.DueKeys.{OwnTerms, key_rule}
use Rattle.swap_rules.proofs.Growth.{Grows, is_open-more, triggered-more, same_published, is_published-more}
use Rattle.swap_rules.proofs.Openings.{first_expiry, has_expired-lock, expired-least}
use Rattle.swap_rules.proofs.Expiry.{still_expired}
use Rattle.swap_rules.proofs.Prefixes.{moment_more, in_front}
use Rattle.swap_rules.proofs.Rounds.{called_at, Seeing, ready_known, triggered_known, open_published, seen, seen_key_some}
use Rattle.swap_rules.proofs.Words.{and_three, and_five, act_of, pick_call-act, enters, leaves, or-left}
use Rattle.wallet_promise.specs.Life.{Asking, nothing_kept, IsAnswered, IsLife}
use Rattle.wallet_promise.proofs.Keys.{Keeps, journal_keeps}
use Rattle.wallet_promise.proofs.Living.{life_conducts}
use Rattle.clock_promise.specs.Polls.{is_like, stands_by}

-- Small facts.

pub when_some : (t : Bool) (n r : ℕ) → when t n ≡ Some r → (t ≡ true) × (n ≡ r)
when_some true n r e = (refl, same_Some n r e)
when_some false n r e = absurd (cc e)

like_none : (c : Call) → is_like c None ≡ false
like_none (Publish t) = refl
like_none (Unlock key) = refl
like_none Claim = refl
like_none Refund = refl
like_none (Transfer to units) = refl

unlocking : (i : ℕ) (c : Call) → unlocks_lock i (Some c) ≡ true → (key : Hashkey) × (c ≡ Unlock key) × ((key.lock == i) ≡ true)
unlocking i (Unlock key) e = (key, refl, e)
unlocking i (Publish t) e = absurd (cc e)
unlocking i Claim e = absurd (cc e)
unlocking i Refund e = absurd (cc e)
unlocking i (Transfer to units) e = absurd (cc e)

publishing : (c : Call) → is_publish (Some c) ≡ true → (t : Terms) × (c ≡ Publish t)
publishing (Publish t) e = (t, refl)
publishing (Unlock key) e = absurd (cc e)
publishing Claim e = absurd (cc e)
publishing Refund e = absurd (cc e)
publishing (Transfer to units) e = absurd (cc e)

claiming : (c : Call) → is_claiming (Some c) ≡ true → c ≡ Claim
claiming Claim e = refl
claiming (Publish t) e = absurd (cc e)
claiming (Unlock key) e = absurd (cc e)
claiming Refund e = absurd (cc e)
claiming (Transfer to units) e = absurd (cc e)

refunding : (c : Call) → is_refunding (Some c) ≡ true → c ≡ Refund
refunding Refund e = refl
refunding (Publish t) e = absurd (cc e)
refunding (Unlock key) e = absurd (cc e)
refunding Claim e = absurd (cc e)
refunding (Transfer to units) e = absurd (cc e)

and_no : (z : Bool) → (z && false) ≡ false
and_no true = refl
and_no false = refl

-- a call that landed
pub record Landed (b : Histories) (v : ℕ) (y : Action) (by : ℕ) : Type 0 where
  pub past : List Entry
  pub now : Entry
  pub call : Call
  pub stands : IsMoment (history b y.arc) past now
  pub called : pick_call v now ≡ Some call
  pub like : is_like y.call (Some call) ≡ true
  pub low : now.height ≤ by

pub landed : (b : Histories) (v : ℕ) (y : Action) (by : ℕ) → stands_by b v y by ≡ true → Landed b v y by
landed b v y by e =
    let f = any_at (λ e. is_like y.call (pick_call v e) && nat_le e.height by) (history b y.arc) e in
    let p = and_parts (is_like y.call (pick_call v f.now)) (nat_le f.now.height by) f.passes in
    go f.past f.now f.stands (pick_call v f.now) refl p.0 (leb-true f.now.height by p.1)
  where
    go : (past : List Entry) (now : Entry) → IsMoment (history b y.arc) past now → (o : Option Call) → pick_call v now ≡ o → is_like y.call o ≡ true
        → now.height ≤ by → Landed b v y by
    go past now m None q l low = absurd (false≢true (sym (like_none y.call) ∙ l))
    go past now m (Some c) q l low = record { past = past; now = now; call = c; stands = m; called = q; like = l; low = low }

-- where a hashkey is led or seen one is due
key_due : (d : Deal) (v : ℕ) (w : Wallet) (signed : Option Hashkey) (k : Histories) (i : ℕ) → (leads d v i || is_some (seen_key d v k i)) ≡ true
    → is_some (due_key d v w signed k i) ≡ true
unfolding due_key
key_due d v w signed k i h = go signed (leads d v i) (seen_key d v k i) h
  where
    go : (s : Option Hashkey) (y : Bool) (o : Option Hashkey) → (y || is_some o) ≡ true
        → is_some (or_else s (cond y (Some (w.first i)) (extended w o))) ≡ true
    go (Some key) y o h = refl
    go None true o h = refl
    go None false (Some key) h = refl
    go None false None h = absurd (cc h)

-- what presses over what counts
uncalled : (x y : Bool) → (x ≡ true → y ≡ true) → not y ≡ true → not x ≡ true
uncalled false y h e = refl
uncalled true true h e = e
uncalled true false h e = absurd (false≢true (h refl))

module _ (d : Deal) (v : ℕ) (at : ℕ → ℕ) (w : Wallet) (signed : ℕ → Option Hashkey) (k : Histories) where
  abbrev counts_of : Histories
  counts_of = all_counted v k

  reads : (a : ℕ) → ReadsFewer v (history counts_of a) (history k a)
  reads a = all_counted_reads v k a

  same_height : (a : ℕ) → height (history counts_of a) ≡ height (history k a)
  same_height a = let r = reads a in r.height

  same_shown : (a : ℕ) → published (history counts_of a) ≡ published (history k a)
  same_shown a = let r = reads a in r.published

  same_opened : (a i : ℕ) → opened (history counts_of a) i ≡ opened (history k a) i
  same_opened a i = let r = reads a in r.opened i

  same_settled : (a : ℕ) → settled (history counts_of a) ≡ settled (history k a)
  same_settled a = let r = reads a in r.settled

  fewer : (test : Option Call → Bool) (a : ℕ) → not (has_called v test (history k a)) ≡ true → not (has_called v test (history counts_of a)) ≡ true
  fewer test a e = let r = reads a in uncalled (has_called v test (history counts_of a)) (has_called v test (history k a)) (r.calls test) e

  same_missed : has_missed d v signed counts_of ≡ has_missed d v signed k
  same_missed =
      λ j. list_any (λ a. list_any (λ l. not (is_some (same_opened a l j)) && is_past d a (signed l) (same_height a j)) (locks d)) (entering d.graph v)

  abbrev key_of : ℕ → Option Hashkey
  key_of i = due_key d v w (signed i) counts_of i

  same_key_of : (i : ℕ) → key_of i ≡ due_key d v w (signed i) k i
  same_key_of i = same_key d v at w signed counts_of k reads (signed i) i

  same_all : (i : ℕ) → list_all (takes d at counts_of i (key_of i)) (entering d.graph v)
      ≡ list_all (takes d at k i (due_key d v w (signed i) k i)) (entering d.graph v)
  same_all i =
      ap (λ o. list_all (takes d at counts_of i o) (entering d.graph v)) (same_key_of i)
      ∙ (λ j. list_all (λ c. same_takes d v at w signed counts_of k reads i (due_key d v w (signed i) k i) c j) (entering d.graph v))

  and_neither : (p m q : Bool) → m ≡ false → q ≡ true → (p && (m || not q)) ≡ false
  and_neither false m q f e = refl
  and_neither true false true f e = refl
  and_neither true true q f e = absurd (false≢true (sym f))
  and_neither true false false f e = absurd (false≢true e)

  pub unlock_presses : (i a : ℕ) (key : Hashkey) → i < length d.leaders → IsElement a (entering d.graph v) → may_unlock d v k i a ≡ true
      → due_key d v w (signed i) k i ≡ Some key → hindered d v at w signed i k ≡ false
      → IsElement (record { arc = a; call = Unlock key }) (pressing d v at w signed counts_of)
  unfolding pressing due_arc_unlock
  unlock_presses i a key below en may t free =
      let act : Action = record { arc = a; call = Unlock key } in
      let n = or_neither (has_missed d v signed k) _ free in
      let all = same_all i ∙ not-false _ n.1 in
      let p = and_parts (is_ready d k v) (not (has_called v (unlocks_lock i) (history k a))) may in
      let may_counted : may_unlock d v counts_of i a ≡ true =
      and_both (is_ready d counts_of v) (not (has_called v (unlocks_lock i) (history counts_of a))) (same_ready d v at w signed counts_of k reads ∙ p.0)
      (fewer (unlocks_lock i) a p.1) in
      let here : IsElement act (due_arc_unlock d v w (signed i) counts_of i a) =
      subst (λ z. IsElement act (cond z (presented a (key_of i)) [])) (sym may_counted)
      (subst (λ o. IsElement act (presented a o)) (sym (same_key_of i ∙ t)) (inl refl)) in
      let taken = list_all-in (takes d at counts_of i (key_of i)) (entering d.graph v) a all en in
      let timely : IsElement act (timely_unlock d v at w (signed i) counts_of i a) =
      subst (λ z. IsElement act (cond z (due_arc_unlock d v w (signed i) counts_of i a) [])) (sym taken) here in
      let inner = in_flat_map (timely_unlock d v at w (signed i) counts_of i) (entering d.graph v) a act en timely in
      let shown : is_withheld d v at signed counts_of i (key_of i) ≡ false =
      and_neither (is_none (first_key counts_of v i) && not (has_lost d counts_of v)) (has_missed d v signed counts_of) _ (same_missed ∙ n.0) all in
      let open_one : IsElement act (pressing_unlocks d v at w signed counts_of i) =
      subst (λ z. IsElement act (cond z [] (flat_map (timely_unlock d v at w (signed i) counts_of i) (entering d.graph v)))) (sym shown) inner in
      let every = in_flat_map (pressing_unlocks d v at w signed counts_of) (locks d) i act (in_range i (length d.leaders) below) open_one in
      in_append (flat_map (pressing_unlocks d v at w signed counts_of) (locks d) ++ due_claims d v counts_of) (due_refunds d v counts_of) act
      (inl (in_append (flat_map (pressing_unlocks d v at w signed counts_of) (locks d)) (due_claims d v counts_of) act (inl every)))

  claim_counted : (a : ℕ) → is_due_claim d v k a ≡ true → is_due_claim d v counts_of a ≡ true
  unfolding is_due_claim
  claim_counted a e =
      let p = and_parts (is_correct d k a && is_triggered d k a) (not (has_called v is_claiming (history k a))) e in
      let same : (is_correct d counts_of a && is_triggered d counts_of a) ≡ (is_correct d k a && is_triggered d k a) =
      λ j. is_arc_correct d a (same_shown a j) && are_open d (λ i. is_some (same_opened a i j)) in
      and_both (is_correct d counts_of a && is_triggered d counts_of a) (not (has_called v is_claiming (history counts_of a))) (same ∙ p.0)
      (fewer is_claiming a p.1)

  pub claim_presses : (a : ℕ) → IsElement a (entering d.graph v) → is_due_claim d v k a ≡ true
      → IsElement (record { arc = a; call = Claim }) (pressing d v at w signed counts_of)
  unfolding pressing
  claim_presses a en t =
      let act : Action = record { arc = a; call = Claim } in
      let here : IsElement act (when_due (is_due_claim d v counts_of a) a Claim) =
      subst (λ z. IsElement act (when_due z a Claim)) (sym (claim_counted a t)) (inl refl) in
      in_append (flat_map (pressing_unlocks d v at w signed counts_of) (locks d) ++ due_claims d v counts_of) (due_refunds d v counts_of) act
      (inl (in_append (flat_map (pressing_unlocks d v at w signed counts_of) (locks d)) (due_claims d v counts_of) act
      (inr (in_flat_map (λ a. when_due (is_due_claim d v counts_of a) a Claim) (entering d.graph v) a act en here))))

  refund_counted : (a : ℕ) → is_due_refund d v k a ≡ true → is_due_refund d v counts_of a ≡ true
  unfolding is_due_refund
  refund_counted a e =
      let p =
      and_parts (is_some (published (history k a)) && is_none (settled (history k a)) && not (is_triggered d k a)
      && has_expired d a (history k a) (height (history k a))) (not (has_called v is_refunding (history k a))) e in
      let expired : has_expired d a (history counts_of a) (height (history counts_of a)) ≡ has_expired d a (history k a) (height (history k a)) =
      ap (λ n. has_expired d a (history counts_of a) n) (same_height a)
      ∙ (λ j. list_any (λ i. not (is_some (same_opened a i j)) && nat_lt (expiry d a i) (height (history k a))) (locks d)) in
      let same : (is_some (published (history counts_of a)) && is_none (settled (history counts_of a)) && not (is_triggered d counts_of a)
      && has_expired d a (history counts_of a) (height (history counts_of a))) ≡ (is_some (published (history k a)) && is_none (settled (history k a))
      && not (is_triggered d k a) && has_expired d a (history k a) (height (history k a))) =
      λ j. is_some (same_shown a j) && is_none (same_settled a j) && not (are_open d (λ i. is_some (same_opened a i j))) && expired j in
      and_both (is_some (published (history counts_of a)) && is_none (settled (history counts_of a)) && not (is_triggered d counts_of a)
      && has_expired d a (history counts_of a) (height (history counts_of a))) (not (has_called v is_refunding (history counts_of a))) (same ∙ p.0)
      (fewer is_refunding a p.1)

  pub refund_presses : (a : ℕ) → IsElement a (leaving d.graph v) → is_due_refund d v k a ≡ true
      → IsElement (record { arc = a; call = Refund }) (pressing d v at w signed counts_of)
  unfolding pressing
  refund_presses a out t =
      let act : Action = record { arc = a; call = Refund } in
      let here : IsElement act (when_due (is_due_refund d v counts_of a) a Refund) =
      subst (λ z. IsElement act (when_due z a Refund)) (sym (refund_counted a t)) (inl refl) in
      in_append (flat_map (pressing_unlocks d v at w signed counts_of) (locks d) ++ due_claims d v counts_of) (due_refunds d v counts_of) act
      (inr (in_flat_map (λ a. when_due (is_due_refund d v counts_of a) a Refund) (leaving d.graph v) a act out here))

  -- what presses is useful
  pub pressing_is_useful : (g : Histories) (y : Action) → IsElement y (pressing d v at w signed g) → IsElement y (useful d v at w signed g)
  unfolding pressing useful
  pressing_is_useful g y i =
      outer (from_append (useful_unlocks d v at w signed g ++ due_claims d v g) (due_refunds d v g) y i)
    where
      middle : IsElement y (useful_unlocks d v at w signed g) ⊎ IsElement y (due_claims d v g)
          → IsElement y (useful_publishes d v at g ++ useful_unlocks d v at w signed g ++ due_claims d v g)
      middle (inl j) =
          in_append (useful_publishes d v at g ++ useful_unlocks d v at w signed g) (due_claims d v g) y
          (inl (in_append (useful_publishes d v at g) (useful_unlocks d v at w signed g) y (inr j)))
      middle (inr j) = in_append (useful_publishes d v at g ++ useful_unlocks d v at w signed g) (due_claims d v g) y (inr j)

      outer : IsElement y (useful_unlocks d v at w signed g ++ due_claims d v g) ⊎ IsElement y (due_refunds d v g)
          → IsElement y (useful_publishes d v at g ++ useful_unlocks d v at w signed g ++ due_claims d v g ++ due_refunds d v g)
      outer (inl j) =
          in_append (useful_publishes d v at g ++ useful_unlocks d v at w signed g ++ due_claims d v g) (due_refunds d v g) y
          (inl (middle (from_append (useful_unlocks d v at w signed g) (due_claims d v g) y j)))
      outer (inr j) = in_append (useful_publishes d v at g ++ useful_unlocks d v at w signed g ++ due_claims d v g) (due_refunds d v g) y (inr j)

-- what is due
to_due : (d : Deal) (v : ℕ) (w : Wallet) (signed : ℕ → Option Hashkey) (k : Histories) (y : Action)
    → IsElement y (due_publishes d v k) ⊎ (IsElement y (due_unlocks d v w signed k) ⊎ (IsElement y (due_claims d v k) ⊎ IsElement y (due_refunds d v k)))
    → IsElement y (all_due d v w signed k)
unfolding all_due
to_due d v w signed k y (inl i) =
    in_append (due_publishes d v k ++ due_unlocks d v w signed k ++ due_claims d v k) (due_refunds d v k) y
    (inl (in_append (due_publishes d v k ++ due_unlocks d v w signed k) (due_claims d v k) y
    (inl (in_append (due_publishes d v k) (due_unlocks d v w signed k) y (inl i)))))
to_due d v w signed k y (inr (inl i)) =
    in_append (due_publishes d v k ++ due_unlocks d v w signed k ++ due_claims d v k) (due_refunds d v k) y
    (inl (in_append (due_publishes d v k ++ due_unlocks d v w signed k) (due_claims d v k) y
    (inl (in_append (due_publishes d v k) (due_unlocks d v w signed k) y (inr i)))))
to_due d v w signed k y (inr (inr (inl i))) =
    in_append (due_publishes d v k ++ due_unlocks d v w signed k ++ due_claims d v k) (due_refunds d v k) y
    (inl (in_append (due_publishes d v k ++ due_unlocks d v w signed k) (due_claims d v k) y (inr i)))
to_due d v w signed k y (inr (inr (inr i))) =
    in_append (due_publishes d v k ++ due_unlocks d v w signed k ++ due_claims d v k) (due_refunds d v k) y (inr i)

there : (test : Bool) (a : ℕ) (c : Call) → test ≡ true → IsElement (record { arc = a; call = c }) (when_due test a c)
there true a c e = inl refl
there false a c e = absurd (false≢true e)

module _ (d : Deal) (v : ℕ) (w : Wallet) (signed : ℕ → Option Hashkey) (k : Histories) where
  pub publish_is_due : (a : ℕ) → IsElement a (leaving d.graph v) → is_due_publish d v k a ≡ true
      → IsElement (record { arc = a; call = Publish (stated_terms d a) }) (all_due d v w signed k)
  publish_is_due a out t =
      to_due d v w signed k (record { arc = a; call = Publish (stated_terms d a) })
      (inl (in_flat_map (λ a. when_due (is_due_publish d v k a) a (Publish (stated_terms d a))) (leaving d.graph v) a
      (record { arc = a; call = Publish (stated_terms d a) }) out (there (is_due_publish d v k a) a (Publish (stated_terms d a)) t)))

  pub claim_is_due : (a : ℕ) → IsElement a (entering d.graph v) → is_due_claim d v k a ≡ true
      → IsElement (record { arc = a; call = Claim }) (all_due d v w signed k)
  claim_is_due a en t =
      to_due d v w signed k (record { arc = a; call = Claim })
      (inr (inr (inl (in_flat_map (λ a. when_due (is_due_claim d v k a) a Claim) (entering d.graph v) a (record { arc = a; call = Claim }) en
      (there (is_due_claim d v k a) a Claim t)))))

  pub refund_is_due : (a : ℕ) → IsElement a (leaving d.graph v) → is_due_refund d v k a ≡ true
      → IsElement (record { arc = a; call = Refund }) (all_due d v w signed k)
  refund_is_due a out t =
      to_due d v w signed k (record { arc = a; call = Refund })
      (inr (inr (inr (in_flat_map (λ a. when_due (is_due_refund d v k a) a Refund) (leaving d.graph v) a (record { arc = a; call = Refund }) out
      (there (is_due_refund d v k a) a Refund t)))))

  pub unlock_is_due : (i a : ℕ) (key : Hashkey) → i < length d.leaders → IsElement a (entering d.graph v) → may_unlock d v k i a ≡ true
      → due_key d v w (signed i) k i ≡ Some key → IsElement (record { arc = a; call = Unlock key }) (all_due d v w signed k)
  unfolding due_arc_unlock
  unlock_is_due i a key below en may t =
      let act : Action = record { arc = a; call = Unlock key } in
      let here : IsElement act (due_arc_unlock d v w (signed i) k i a) =
      subst (λ z. IsElement act (cond z (presented a (due_key d v w (signed i) k i)) [])) (sym may)
      (subst (λ o. IsElement act (presented a o)) (sym t) (inl refl)) in
      to_due d v w signed k act
      (inr (inl (in_flat_map (λ i. flat_map (due_arc_unlock d v w (signed i) k i) (entering d.graph v)) (locks d) i act (in_range i (length d.leaders) below)
      (in_flat_map (due_arc_unlock d v w (signed i) k i) (entering d.graph v) a act en here))))

-- A wallet's life.

module _ (d : Deal) (v : ℕ) (w : Wallet) (b : Histories) (askings : List Asking) (kept_keys : ℕ → Option Hashkey) (acc : IsAccepted d) (legal : IsLegalBook d b)
    (wallet : IsWallet d v w) (life : IsLife d v w b askings kept_keys) where
  pub conducted : IsConducted d b v
  conducted = life_conducts d v w b askings kept_keys acc legal wallet life

  pub own_terms : OwnTerms d b v
  own_terms a p i e = OwnPublish.correct (own_publish d b v conducted legal a p i e)

  pub keeping : Keeps d v w b legal wallet own_terms nothing_kept askings kept_keys
  keeping = journal_keeps d v w b legal wallet own_terms nothing_kept askings kept_keys life.told (λ i key e. absurd (cc e)) life.journal

  legal_on : (a : ℕ) → a < length d.graph.arcs → IsLegal d a (history b a)
  legal_on a l = legal.legal a (rw legal.one_each l)

  near_below : (a : ℕ) → IsNear d v a → a < length d.graph.arcs
  near_below a (inl i) = (leaves d v a i).0
  near_below a (inr i) = (enters d v a i).0

  -- What counts.

  unlock_counts : (i a t : ℕ) (past : List Entry) (e : Entry) (u : Hashkey) → IsMoment (history b a) past e → pick_call v e ≡ Some (Unlock u)
      → (u.lock == i) ≡ true → e.height ≤ t → is_done d b v (RuleUnlock i) a t ≡ true
  unfolding counts keeps
  unlock_counts i a t past e u m called lock low =
      let q =
      and_five (is_some (published past)) (is_ready d b v) (is_first_key (first_key b v u.lock) u) (is_valid d a (lock_hashlock d u.lock) u) _
      (kept d b v conducted a past e (Unlock u) m called) in
      list_any-in (λ e. counts d b v (RuleUnlock i) a e.height (pick_call v e) && nat_le e.height t) (history b a) e
      (and_both (counts d b v (RuleUnlock i) a e.height (pick_call v e)) _
      (ap (counts d b v (RuleUnlock i) a e.height) called
      ∙ and_both (u.lock == i) _ lock (subst (λ j. is_first_key (first_key b v j) u ≡ true) (eqb-true u.lock i lock) q.2)) (le-leb e.height t low))
      (subst (IsElement e) (sym m.1) (in_from_moment past e m.0))

  claim_counts : (a t : ℕ) (past : List Entry) (e : Entry) → IsMoment (history b a) past e → pick_call v e ≡ Some Claim → e.height ≤ t
      → is_done d b v RuleClaim a t ≡ true
  unfolding counts
  claim_counts a t past e m called low =
      list_any-in (λ e. counts d b v RuleClaim a e.height (pick_call v e) && nat_le e.height t) (history b a) e
      (and_both (counts d b v RuleClaim a e.height (pick_call v e)) _ (ap (counts d b v RuleClaim a e.height) called) (le-leb e.height t low))
      (subst (IsElement e) (sym m.1) (in_from_moment past e m.0))

  publish_counts : (a t : ℕ) (past : List Entry) (e : Entry) (u : Terms) → IsMoment (history b a) past e → pick_call v e ≡ Some (Publish u) → e.height ≤ t
      → is_done d b v RulePublish a t ≡ true
  unfolding counts
  publish_counts a t past e u m called low =
      list_any-in (λ e. counts d b v RulePublish a e.height (pick_call v e) && nat_le e.height t) (history b a) e
      (and_both (counts d b v RulePublish a e.height (pick_call v e)) _ (ap (counts d b v RulePublish a e.height) called) (le-leb e.height t low))
      (subst (IsElement e) (sym m.1) (in_from_moment past e m.0))

  pub refund_counts : (a t : ℕ) (past : List Entry) (e : Entry) → IsElement a (leaving d.graph v) → IsMoment (history b a) past e
      → pick_call v e ≡ Some Refund → e.height ≤ t → is_done d b v RuleRefund a t ≡ true
  unfolding counts keeps
  refund_counts a t past e i m called low =
      let l = (leaves d v a i).0 in
      let at : e.height ≡ height past = (act_of d a (history b a) past e Refund v (legal_on a l) m called).0.at in
      let expired : has_expired d a past e.height ≡ true = kept d b v conducted a past e Refund m called in
      let still =
      still_expired d (times_law d acc) a l past (history b a) (legal_on a l) (e ∷ m.0, m.1) (λ p q.
      OwnPublish.correct (own_publish d b v conducted legal a p i q)) e.height e.height expired (omega arith) (omega arith) in
      list_any-in (λ e. counts d b v RuleRefund a e.height (pick_call v e) && nat_le e.height t) (history b a) e
      (and_both (counts d b v RuleRefund a e.height (pick_call v e)) _
      (ap (counts d b v RuleRefund a e.height) called ∙ lt-ltb (least_expiry d a (history b a)) e.height (expired-least d a (history b a) e.height still))
      (le-leb e.height t low))
      (subst (IsElement e) (sym m.1) (in_from_moment past e m.0))

  -- a refund call of v comes after the publish
  pub asks : (a : ℕ) (past : List Entry) (e : Entry) → IsMoment (history b a) past e → pick_call v e ≡ Some Refund → is_some (published past) ≡ true
  unfolding is_due_refund
  asks a past e m k =
      let y = life.calls a past e Refund m k in
      go y (case_of d v w y.asking.kept y.asking.known (record { arc = a; call = Refund }) y.may.is_due)
    where
      go : (y : IsAnswered d v w askings a past Refund) → Case d v w y.asking.kept y.asking.known a Refund → is_some (published past) ≡ true
      go y (ToPublish j t q) = absurd (cc q)
      go y (ToUnlock j key l en may t q) = absurd (cc q)
      go y (ToClaim j t q) = absurd (cc q)
      go y (ToRefund j t q) =
          let r =
          and_five (is_some (published (history y.asking.known a))) (is_none (settled (history y.asking.known a))) (not (is_triggered d y.asking.known a))
          (has_expired d a (history y.asking.known a) (height (history y.asking.known a))) _ t in
          is_published-more (history y.asking.known a) past y.later r.0

  -- A refund call of v on arc a.
  pub record Refunding (a due : ℕ) : Type 0 where
    pub past : List Entry
    pub now : Entry
    pub stands : IsMoment (history b a) past now
    pub called : pick_call v now ≡ Some Refund
    pub low : now.height ≤ due

  -- One asking, told of every ledger next to v past ref.

  module _ (q : Asking) (asked : IsElement q askings) (ref due : ℕ) where
    abbrev known : Histories
    known = q.known

    grows : Grows known b
    grows = life.told q asked

    -- a known call of v was made in time
    known_low : (a : ℕ) (past : List Entry) (e : Entry) (call : Call) → a < length d.graph.arcs → height (history known a) ≤ due
        → IsMoment (history known a) past e → pick_call v e ≡ Some call → e.height ≤ due
    known_low a past e call l low m called =
        let m2 = moment_more (history known a) (history b a) past e (grows a) m in
        let act = act_of d a (history b a) past e call v (legal_on a l) m2 called in
        let same : e.height ≡ height past = act.0.at in
        let h1 = height-past (history known a) past e m in
        omega arith

    -- a call lands in time, or the ledger hasn't come so far
    abbrev pub Lands : ℕ → Call → Type 0
    Lands a call = Landed b v (record { arc = a; call = call }) due ⊎ (height (history b a) ≤ due)

    -- Unlocks and claims.

    module _ (told : (a : ℕ) → IsNear d v a → ref < height (history q.known a)) where
      abbrev sees : Seeing d b v ref
      sees = record { known = q.known; grows = life.told q asked; low = told }

      ready_low : (z : Bool) (r u : ℕ) → cond z r (max r u) ≡ ref → r ≤ ref
      ready_low true r u e = omega arith
      ready_low false r u e = omega arith

      base_low : (z : Bool) (r u : ℕ) → z ≡ false → cond z r (max r u) ≡ ref → u ≤ ref
      base_low true r u f e = absurd (cc f)
      base_low false r u f e = omega arith

      -- an unlock that is enabled has a hashkey that is known
      has_key : (i : ℕ) → i < length d.leaders
          → (leads d v i || is_some (first_key b v i) || list_any (λ c. opens_without_party v (opened (history b c) i)) (leaving d.graph v)) ≡ true
          → (leads d v i ≡ false → unlock_base d.mode d b v i (first_key b v i) ≤ ref) → (leads d v i || is_some (seen_key d v known i)) ≡ true
      has_key i below enabled low = go (leads d v i) refl
        where
          go : (z : Bool) → leads d v i ≡ z → (leads d v i || is_some (seen_key d v known i)) ≡ true
          go true f = or-left (leads d v i) _ f
          go false f =
              let s =
              seen d b v ref acc legal conducted sees i below f
              (ap (λ y. y || is_some (first_key b v i) || list_any (λ c. opens_without_party v (opened (history b c) i)) (leaving d.graph v)) (sym f)
              ∙ enabled) (low f) in
              or-right (leads d v i) _ (seen_key_some d b v ref acc legal conducted sees i s)

      pub unlock_by : (i a : ℕ) → i < length d.leaders → height (history q.known a) ≤ due
          → ((key : Hashkey) → may_unlock d v q.known i a ≡ true → due_key d v w (q.kept i) q.known i ≡ Some key → Lands a (Unlock key))
          → reference_height d b v (RuleUnlock i) a ≡ Some ref → IsDoneInTime d b v (RuleUnlock i) a due
      unfolding reference_height
      unlock_by i a below soon lands e =
          let s =
          when_some (is_listed a (entering d.graph v) && is_ready d b v
          && (leads d v i || is_some (first_key b v i) || list_any (λ c. opens_without_party v (opened (history b c) i)) (leaving d.graph v)))
          (if leads d v i then ready_height d b v else max (ready_height d b v) (unlock_base d.mode d b v i (first_key b v i))) ref e in
          let p = and_three (is_listed a (entering d.graph v)) (is_ready d b v) _ s.0 in
          let en = is_listed-true a (entering d.graph v) p.0 in
          go en p.1 p.2 s.1 (bool_or (has_called v (unlocks_lock i) (history known a)))
        where
          go : IsElement a (entering d.graph v) → is_ready d b v ≡ true
              → (leads d v i || is_some (first_key b v i) || list_any (λ c. opens_without_party v (opened (history b c) i)) (leaving d.graph v)) ≡ true
              → cond (leads d v i) (ready_height d b v) (max (ready_height d b v) (unlock_base d.mode d b v i (first_key b v i))) ≡ ref
              → (has_called v (unlocks_lock i) (history known a) ≡ true) ⊎ (has_called v (unlocks_lock i) (history known a) ≡ false)
              → IsDoneInTime d b v (RuleUnlock i) a due
          go en ready enabled same (inl h) =
              let f = called_at v (history known a) (unlocks_lock i) refl h in
              let u = unlocking i f.call f.passes in
              let low = known_low a f.past f.now f.call (enters d v a en).0 soon f.stands f.called in
              inl (unlock_counts i a due f.past f.now u.0 (moment_more (history known a) (history b a) f.past f.now (grows a) f.stands)
              (f.called ∙ ap Some u.1) u.2 low)
          go en ready enabled same (inr h) =
              let may =
              and_both (is_ready d known v) _ (ready_known d b v ref acc legal conducted sees ready
              (ready_low (leads d v i) (ready_height d b v) (unlock_base d.mode d b v i (first_key b v i)) same)) (ap not h) in
              let key =
              is_some-of (due_key d v w (q.kept i) known i) (key_due d v w (q.kept i) known i (has_key i below enabled (λ f.
              base_low (leads d v i) (ready_height d b v) (unlock_base d.mode d b v i (first_key b v i)) f same))) in
              let lock : key.0.lock ≡ i =
              (key_rule d v w b legal wallet own_terms q.kept known (keeping.each q asked) grows i key.0 below key.1).good.lock in
              finish key.0 lock (lands key.0 may key.1)
            where
              finish : (key : Hashkey) → key.lock ≡ i
                  → Landed b v (record { arc = a; call = Unlock key }) due ⊎ (height (history b a) ≤ due)
                  → IsDoneInTime d b v (RuleUnlock i) a due
              finish key lock (inl l) =
                  let u = unlocking key.lock l.call l.like in
                  inl (unlock_counts i a due l.past l.now u.0 l.stands (l.called ∙ ap Some u.1)
                  (subst (λ j. (u.0.lock == j) ≡ true) lock u.2) l.low)
              finish key lock (inr s) = inr s

      -- Claims.

      pub claim_by : (a : ℕ) → height (history q.known a) ≤ due → (is_due_claim d v q.known a ≡ true → Lands a Claim) → reference_height d b v RuleClaim a ≡ Some ref → IsDoneInTime d b v RuleClaim a due
      unfolding reference_height is_due_claim
      claim_by a soon lands e =
          let s = when_some (is_listed a (entering d.graph v) && is_correct d b a && is_triggered d b a) (trigger_height d (history b a)) ref e in
          let p = and_three (is_listed a (entering d.graph v)) (is_correct d b a) (is_triggered d b a) s.0 in
          let en = is_listed-true a (entering d.graph v) p.0 in
          let same : trigger_height d (history b a) ≡ ref = s.1 in
          let t = triggered_known d b v ref acc legal conducted sees a (inr en) p.2 (omega arith) in
          let shown =
          open_published d b v ref acc legal conducted sees a 0 (enters d v a en).0
          (list_all-in (is_open (history known a)) (locks d) 0 t (in_range 0 (length d.leaders) acc.leaders.0)) in
          let right : is_correct d known a ≡ true = ap (is_arc_correct d a) (sym (same_published d known b a grows shown)) ∙ p.1 in
          go en (and_both (is_correct d known a) _ right t) (bool_or (has_called v is_claiming (history known a)))
        where
          finish : Landed b v (record { arc = a; call = Claim }) due ⊎ (height (history b a) ≤ due)
              → IsDoneInTime d b v RuleClaim a due
          finish (inl l) = inl (claim_counts a due l.past l.now l.stands (l.called ∙ ap Some (claiming l.call l.like)) l.low)
          finish (inr s) = inr s

          go : IsElement a (entering d.graph v) → (is_correct d known a && is_triggered d known a) ≡ true
              → (has_called v is_claiming (history known a) ≡ true) ⊎ (has_called v is_claiming (history known a) ≡ false)
              → IsDoneInTime d b v RuleClaim a due
          go en t (inl h) =
              let f = called_at v (history known a) is_claiming refl h in
              let low = known_low a f.past f.now f.call (enters d v a en).0 soon f.stands f.called in
              inl (claim_counts a due f.past f.now (moment_more (history known a) (history b a) f.past f.now (grows a) f.stands)
              (f.called ∙ ap Some (claiming f.call f.passes)) low)
          go en t (inr h) =
              finish (lands (and_both (is_correct d known a && is_triggered d known a) _ t (ap not h)))

      -- Publishes.

      pub publish_by : (a : ℕ) → height (history q.known a) ≤ due
          → (is_due_publish d v q.known a ≡ true → Lands a (Publish (stated_terms d a)))
          → reference_height d b v RulePublish a ≡ Some ref → IsDoneInTime d b v RulePublish a due
      unfolding reference_height is_due_publish
      publish_by a soon lands e =
          let s =
          when_some (is_listed a (leaving d.graph v) && (leads_one d v || is_ready d b v)) (if leads_one d v then 0 else ready_height d b v) ref e in
          let p = and_parts (is_listed a (leaving d.graph v)) (leads_one d v || is_ready d b v) s.0 in
          let out = is_listed-true a (leaving d.graph v) p.0 in
          go out (may (leads_one d v) refl p.1 s.1) (bool_or (has_called v is_publish (history known a)))
        where
          may : (z : Bool) → leads_one d v ≡ z → (leads_one d v || is_ready d b v) ≡ true → cond (leads_one d v) 0 (ready_height d b v) ≡ ref
              → (leads_one d v || is_ready d known v) ≡ true
          may true f m same = or-left (leads_one d v) _ f
          may false f m same =
              let low : ready_height d b v ≡ ref = ap (λ y. cond y 0 (ready_height d b v)) (sym f) ∙ same in
              or-right (leads_one d v) _ (ready_known d b v ref acc legal conducted sees (ap (λ y. y || is_ready d b v) (sym f) ∙ m) (omega arith))

          finish : Landed b v (record { arc = a; call = Publish (stated_terms d a) }) due ⊎ (height (history b a) ≤ due)
              → IsDoneInTime d b v RulePublish a due
          finish (inl l) =
              let t = publishing l.call l.like in inl (publish_counts a due l.past l.now t.0 l.stands (l.called ∙ ap Some t.1) l.low)
          finish (inr s) = inr s

          go : IsElement a (leaving d.graph v) → (leads_one d v || is_ready d known v) ≡ true
              → (has_called v is_publish (history known a) ≡ true) ⊎ (has_called v is_publish (history known a) ≡ false)
              → IsDoneInTime d b v RulePublish a due
          go out t (inl h) =
              let f = called_at v (history known a) is_publish refl h in
              let u = publishing f.call f.passes in
              let low = known_low a f.past f.now f.call (leaves d v a out).0 soon f.stands f.called in
              inl (publish_counts a due f.past f.now u.0 (moment_more (history known a) (history b a) f.past f.now (grows a) f.stands)
              (f.called ∙ ap Some u.1) low)
          go out t (inr h) = finish (lands (and_both (leads_one d v || is_ready d known v) _ t (ap not h)))

    -- Refunds.

    pub refund_by : (a : ℕ) (p : Publication) → IsElement a (leaving d.graph v) → ref < height (history q.known a) → published (history b a) ≡ Some p → p.height ≤ ref
        → is_triggered d b a ≡ false → least_expiry d a (history b a) ≤ ref → height (history q.known a) ≤ due → (is_due_refund d v q.known a ≡ true → Lands a Refund)
        → Refunding a due ⊎ (height (history b a) ≤ due)
    unfolding is_due_refund
    refund_by a p out up e low shut late soon lands =
        let done = published_done d a (history b a) p (legal_on a (leaves d v a out).0) e in
        let at : p.height ≡ height done.past = done.at in
        let there = in_front (history known a) (history b a) done.past done.now (grows a) done.stands (omega arith) in
        let shown : is_some (published (history known a)) ≡ true =
        first_given_answer-now (λ e. publication e.height (accepted e)) (history known a) done.past done.now (record {
          height = done.now.height;
          terms =
              p.terms;
        }) there (ap (publication done.now.height) done.took) in
        let first = first_expiry d a (stated_terms d a) (is_open (history b a)) shut in
        let same = first.height in
        let shut_known : triggered d (history known a) ≡ false =
        not-true _ (λ z. false≢true (sym shut ∙ triggered-more d (history known a) (history b a) (grows a) z)) in
        let closed : is_open (history known a) first.lock ≡ false =
        not-true _ (λ z. false≢true (sym first.closed ∙ is_open-more (history known a) (history b a) first.lock (grows a) z)) in
        go shown shut_known
        (has_expired-lock d a (history known a) (height (history known a)) first.lock first.within closed (omega arith)) (settled (history known a)) refl
        (bool_or (has_called v is_refunding (history known a)))
      where
        finish : Landed b v (record { arc = a; call = Refund }) due ⊎ (height (history b a) ≤ due)
            → Refunding a due ⊎ (height (history b a) ≤ due)
        finish (inl l) =
            inl (record { past = l.past; now = l.now; stands = l.stands; called = l.called ∙ ap Some (refunding l.call l.like); low = l.low })
        finish (inr s) = inr s

        known_one : (past : List Entry) (now : Entry) → IsMoment (history known a) past now → pick_call v now ≡ Some Refund
            → Refunding a due ⊎ (height (history b a) ≤ due)
        known_one past now m called =
            inl (record {
              past = past;
              now = now;
              stands = moment_more (history known a) (history b a) past now (grows a) m;
              called = called;
              low = known_low a past now Refund (leaves d v a out).0 soon m called;
            })

        legal_known : IsLegal d a (history known a)
        legal_known = all_moments_front (IsLegalMoment d a) (history known a) (grows a).0 (subst (IsLegal d a) (grows a).1 (legal_on a (leaves d v a out).0))

        go : is_some (published (history known a)) ≡ true → triggered d (history known a) ≡ false
            → has_expired d a (history known a) (height (history known a)) ≡ true → (z : Option Settlement) → settled (history known a) ≡ z
            → (has_called v is_refunding (history known a) ≡ true) ⊎ (has_called v is_refunding (history known a) ≡ false)
            → Refunding a due ⊎ (height (history b a) ≤ due)
        go shown shut_known over None z (inl h) =
            let f = called_at v (history known a) is_refunding refl h in
            known_one f.past f.now f.stands (f.called ∙ ap Some (refunding f.call f.passes))
        go shown shut_known over None z (inr h) =
            finish (lands
            (and_both (is_some (published (history known a)) && is_none (settled (history known a)) && not (is_triggered d known a)
            && has_expired d a (history known a) (height (history known a))) _
            (and_both (is_some (published (history known a)) && is_none (settled (history known a)) && not (is_triggered d known a)) _
            (and_both (is_some (published (history known a)) && is_none (settled (history known a))) _
            (and_both (is_some (published (history known a))) _ shown (ap is_none z)) (ap not shut_known)) over) (ap not h)))
        go shown shut_known over (Some Claimed) z h =
            let f = (claimed_done d a (history known a) legal_known z).1 in
            absurd (false≢true (sym shut_known ∙ triggered-past d (history known a) f.past f.now f.stands (of_claim d a f.past f.act.by f.clear).triggered))
        go shown shut_known over (Some Refunded) z h =
            let f = (refunded_done d a (history known a) legal_known z).1 in
            let by : f.act.by ≡ v = (of_refund d a f.past f.act.by f.clear).party ∙ (leaves d v a out).1 in
            known_one f.past f.now f.stands (pick_call-act d a f.past f.now Refund v f.act by)
