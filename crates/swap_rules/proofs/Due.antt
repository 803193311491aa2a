-- What is due is sound: each due call keeps the rules of conduct.
use Rattle.std.proofs.Common.{◌≡◌, ◌⊎◌, ℕ, ◌<◌, ◌==◌, Bool, true, false, cond, not, ◌||◌, IsTrue, List, length, Option, Some, None, is_some}
use Rattle.std.proofs.Common.{is_none, refl, sym, ap, ◌∙◌, subst, inl, inr, arith, eqb-true, eq-eqb}
use Rattle.std.proofs.lemmas.Option.{same_Some}
use Rattle.swap_base.specs.Lists.{IsElement}
use Rattle.swap_base.proofs.Lists.{or-right, and_parts, from_append}
use Rattle.swap_digraph.specs.declared.deal.Deal.{Deal}
use Rattle.swap_digraph.specs.Graph.{leaving, entering}
use Rattle.swap_digraph.specs.Deal.{party, counterparty, touches}
use Rattle.hashkey_path.specs.declared.hashkey.Hashkey.{Hashkey}
use Rattle.escrow_core.specs.Terms.{stated_terms}
use Rattle.ledger_core.specs.declared.entry.Call.{Call}
use Rattle.ledger_core.specs.declared.entry.Call.TheVariants.{Publish, Unlock, Claim, Refund, Transfer}
use Rattle.ledger_core.specs.declared.entry.Entry.{Entry}
use Rattle.ledger_core.specs.History.{height, published, settled, fit, IsLegal}
use Rattle.ledger_core.specs.CallSignatures.{presents_valid}
use Rattle.ledger_core.specs.Book.{Histories, history, IsLegalBook}
use Rattle.swap_rules.specs.Party.{has_expired, is_correct, is_ready, is_triggered, leads_one, pick_call}
use Rattle.swap_rules.specs.Conduct.{is_publish}
use Rattle.swap_rules.specs.declared.finding.Rule.{Rule}
use Rattle.swap_rules.specs.declared.finding.Rule.TheVariants.{Publish as OfPublish, Unlock as OfUnlock, Claim as OfClaim, Refund as OfRefund}
use Rattle.swap_rules.specs.Findings.{deal_rules}
use Rattle.swap_rules.specs.Accepted.{IsAccepted}
use Rattle.swap_rules.specs.Due.{Wallet, Action, unlocks_lock, is_claiming, is_refunding, has_called, is_due_publish, due_key}
use Rattle.swap_rules.specs.Due.{may_unlock, is_due_claim, is_due_refund}
use Rattle.swap_rules.specs.Due.{due}
use Rattle.swap_rules.specs.Machine.{KeepsOwn, KeepsKey, KeepsRules, rule_test, Knows, IsWallet, noted}
use Rattle.swap_rules.proofs.Words.{same_terms-refl, and_three, and_five, same_terms-true, enters, leaves, pick_call-act, publish_rule}
use Rattle.swap_rules.proofs.Words.{unlock_rule, claim_rule, refund_rule, or-left}
use Rattle.swap_rules.proofs.Cases.{Case, ToPublish, ToUnlock, ToClaim, ToRefund, case_of}
use Rattle.swap_rules.proofs.DueKeys.{OwnTerms, key_rule}
use Rattle.swap_rules.proofs.Expiry.{still_expired}
use Rattle.swap_rules.proofs.Accepted.{times_law}
use Rattle.ledger_core.proofs.History.{published_done, of_publish, not-true-of}
use Rattle.swap_rules.proofs.Fitting.{terms_fit, key_fits}
use Rattle.swap_rules.proofs.Prefixes.{begins_height, list_any-none, not_any-in, none_called}
use Rattle.swap_rules.proofs.Growth.{Grows, triggered-more, is_published-more, correct_published, is_ready-more, ready_good, may-more}

pub record IsDue (d : Deal) (v : ℕ) (w : Wallet) (signed : ℕ → Option Hashkey) (b known : Histories) (a : ℕ) (c : Call) : Type 0 where
  pub slot : Rule
  pub slot_in : IsElement slot (deal_rules d)
  pub passes : rule_test slot (Some c) ≡ true
  pub fresh : has_called v (rule_test slot) (history known a) ≡ false
  pub below : a < length d.graph.arcs
  pub of_the_two : IsTrue (touches d v a)
  pub fits : IsTrue (fit d a c)
  pub rule : KeepsOwn d b (noted signed c) v a (history b a) c
  pub keeps_signed : (i : ℕ) (key : Hashkey) → signed i ≡ Some key → noted signed c i ≡ Some key
  pub keys : (i : ℕ) (key : Hashkey) → noted signed c i ≡ Some key → KeepsKey d b v i key

-- what is due presents a valid hashkey, or none
pub due_is_valid : (d : Deal) (v : ℕ) (w : Wallet) (signed : ℕ → Option Hashkey) (b known : Histories) (a : ℕ) (c : Call)
    → IsDue d v w signed b known a c → presents_valid d a c ≡ true
due_is_valid d v w signed b known a (Unlock key) i = (i.keys key.lock key i.rule.2).good.valid a i.rule.3
due_is_valid d v w signed b known a (Publish t) i = refl
due_is_valid d v w signed b known a Claim i = refl
due_is_valid d v w signed b known a Refund i = refl
due_is_valid d v w signed b known a (Transfer to units) i = refl

-- whatever v called on a ledger, it knows of
pub knows_call : (v : ℕ) (test : Option Call → Bool) (k h : List Entry) → test None ≡ false → Knows v k h → has_called v test k ≡ false
    → has_called v test h ≡ false
knows_call v test k h n kn e = list_any-none (λ x. test (pick_call v x)) h (λ x i. go x (from_append k kn.rest x (subst (IsElement x) kn.whole i)))
  where
    go : (x : Entry) → IsElement x k ⊎ IsElement x kn.rest → test (pick_call v x) ≡ false
    go x (inl i) = not_any-in (λ x. test (pick_call v x)) k x e i
    go x (inr i) = ap test (none_called v x (kn.others x i)) ∙ n

module _ (d : Deal) (v : ℕ) (w : Wallet) (signed : ℕ → Option Hashkey) (b known : Histories)
    (legal : IsLegalBook d b) (rules : KeepsRules d b signed v) (knows : (a : ℕ) → Knows v (history known a) (history b a)) (wallet : IsWallet d v w)
    (accepted_deal : IsAccepted d) where
  grows : Grows known b
  grows a = let k = knows a in (k.rest, k.whole)

  legal_on : (a : ℕ) → a < length d.graph.arcs → IsLegal d a (history b a)
  legal_on a l = legal.legal a (rw legal.one_each l)

  leaving_two : (a : ℕ) → IsElement a (leaving d.graph v) → IsTrue (touches d v a)
  leaving_two a i = or-left (v == party d a) _ (eq-eqb v (party d a) (sym (leaves d v a i).1))

  entering_two : (a : ℕ) → IsElement a (entering d.graph v) → IsTrue (touches d v a)
  entering_two a i = or-right (v == party d a) _ (eq-eqb v (counterparty d a) (sym (enters d v a i).1))

  -- what v published on a leaving arc is correct
  own_terms : OwnTerms d b v
  own_terms c p i e =
      let l = leaves d v c i in
      let done = published_done d c (history b c) p (legal_on c l.0) e in
      let by : done.act.by ≡ v = (of_publish d c done.past done.act.by p.terms done.clear).party ∙ l.1 in
      let r = rules.own c done.past done.now (Publish p.terms) done.stands (pick_call-act d c done.past done.now (Publish p.terms) v done.act by) in
      same_terms-true p.terms (stated_terms d c) r.0

  -- the hashkey that is due for a lock keeps the rules
  key_due : (i : ℕ) (key : Hashkey) → i < length d.leaders → due_key d v w (signed i) known i ≡ Some key → KeepsKey d b v i key
  key_due i key below e = key_rule d v w b legal wallet own_terms signed known rules.keys grows i key below e

  publish_due : (a : ℕ) → IsElement a (leaving d.graph v) → is_due_publish d v known a ≡ true → IsDue d v w signed b known a (Publish (stated_terms d a))
  unfolding is_due_publish
  publish_due a i e =
      let k = and_parts (leads_one d v || is_ready d known v) (not (has_called v is_publish (history known a))) e in
      record {
        slot = OfPublish;
        slot_in = publish_rule d;
        passes = refl;
        fresh = not-true-of _ k.1;
        below = (leaves d v a i).0;
        of_the_two = leaving_two a i;
        fits = terms_fit d accepted_deal a (leaves d v a i).0;
        rule = (
          same_terms-refl (stated_terms d a),
          may-more d known b v grows k.0,
          knows_call v is_publish (history known a) (history b a) refl (knows a) (not-true-of _ k.1),
        );
        keeps_signed = λ i key q. q;
        keys = rules.keys;
      }

  claim_due : (a : ℕ) → IsElement a (entering d.graph v) → is_due_claim d v known a ≡ true → IsDue d v w signed b known a Claim
  unfolding is_due_claim
  claim_due a i e =
      let k = and_three (is_correct d known a) (is_triggered d known a) (not (has_called v is_claiming (history known a))) e in
      record {
        slot = OfClaim;
        slot_in = claim_rule d;
        passes = refl;
        fresh = not-true-of _ k.2;
        below = (enters d v a i).0;
        of_the_two = entering_two a i;
        fits = refl;
        rule = (
          triggered-more d (history known a) (history b a) (grows a) k.1,
          knows_call v is_claiming (history known a) (history b a) refl (knows a) (not-true-of _ k.2),
        );
        keeps_signed = λ i key q. q;
        keys = rules.keys;
      }

  refund_due : (a : ℕ) → IsElement a (leaving d.graph v) → is_due_refund d v known a ≡ true → IsDue d v w signed b known a Refund
  unfolding is_due_refund
  refund_due a i e =
      let k =
      and_five (is_some (published (history known a))) (is_none (settled (history known a))) (not (is_triggered d known a))
      (has_expired d a (history known a) (height (history known a))) _ e in
      let out = leaves d v a i in
      let m = begins_height (history known a) (history b a) (grows a) in
      let up =
      still_expired d (times_law d accepted_deal) a out.0 (history known a) (history b a) (legal_on a out.0) (grows a) (λ p q.
      own_terms a p i q) (height (history known a)) (height (history b a)) k.3 (omega arith) m in
      record {
        slot = OfRefund;
        slot_in = refund_rule d;
        passes = refl;
        fresh = not-true-of _ k.4;
        below = (leaves d v a i).0;
        of_the_two = leaving_two a i;
        fits = refl;
        rule = (up, knows_call v is_refunding (history known a) (history b a) refl (knows a) (not-true-of _ k.4));
        keeps_signed = λ i key q. q;
        keys = rules.keys;
      }

  unlock_due : (a i : ℕ) (key : Hashkey) → IsElement a (entering d.graph v) → i < length d.leaders → may_unlock d v known i a ≡ true
      → due_key d v w (signed i) known i ≡ Some key → IsDue d v w signed b known a (Unlock key)
  unfolding due_key
  unlock_due a i key w_in below may e =
      let k = and_parts (is_ready d known v) (not (has_called v (unlocks_lock i) (history known a))) may in
      let r = key_due i key below e in
      let lock : key.lock ≡ i = r.good.lock in
      record {
        slot = OfUnlock i;
        slot_in = unlock_rule d i below;
        passes = eq-eqb key.lock i lock;
        fresh = not-true-of _ k.1;
        below = (enters d v a w_in).0;
        of_the_two = entering_two a w_in;
        fits = key_fits d accepted_deal a key (subst (λ j. j < length d.leaders) (sym lock) below) (r.good.valid a w_in);
        rule = (
          is_published-more (history known a) (history b a) (grows a)
              (correct_published d known a (and_parts (is_correct d known a) _ (ready_good d known v a k.0 w_in)).0),
          is_ready-more d known b v grows k.0,
          ap (λ x. cond x (Some key) (signed key.lock)) (eq-eqb key.lock key.lock refl),
          w_in,
          subst (λ j. has_called v (unlocks_lock j) (history b a) ≡ false) (sym lock)
              (knows_call v (unlocks_lock i) (history known a) (history b a) refl (knows a) (not-true-of _ k.1)),
        );
        keeps_signed = λ j old q. keep j old q (j == key.lock) refl;
        keys = λ j new q. at j new (j == key.lock) refl q;
      }
    where
      first_signed : (s : Option Hashkey) (old : Hashkey) → signed i ≡ s → s ≡ Some old → due_key d v w s known i ≡ Some old
      first_signed (Some k) old q r = r
      first_signed None old q r = absurd (cc r)

      keep : (j : ℕ) (old : Hashkey) → signed j ≡ Some old → (x : Bool) → (j == key.lock) ≡ x → cond x (Some key) (signed j) ≡ Some old
      keep j old q true h =
          let r = key_due i key below e in
          let j_is : j ≡ i = eqb-true j key.lock h ∙ r.good.lock in
          sym e ∙ first_signed (signed i) old refl (ap signed (sym j_is) ∙ q)
      keep j old q false h = q

      at : (j : ℕ) (new : Hashkey) (x : Bool) → (j == key.lock) ≡ x → cond x (Some key) (signed j) ≡ Some new → KeepsKey d b v j new
      at j new true h q =
          let r = key_due i key below e in
          let j_is : j ≡ i = eqb-true j key.lock h ∙ r.good.lock in
          subst (λ z. KeepsKey d b v j z) (same_Some key new q) (subst (λ z. KeepsKey d b v z key) (sym j_is) r)
      at j new false h q = rules.keys j new q

  -- each due action keeps the rules
  pub is_due : (x : Action) → IsElement x (due d v w signed known) → IsDue d v w signed b known x.arc x.call
  is_due x i = go (case_of d v w signed known x i)
    where
      at : (c : Call) → x.call ≡ c → IsDue d v w signed b known x.arc c → IsDue d v w signed b known x.arc x.call
      at c e r = subst (λ z. IsDue d v w signed b known x.arc z) (sym e) r

      go : Case d v w signed known x.arc x.call → IsDue d v w signed b known x.arc x.call
      go (ToPublish out e c) = at (Publish (stated_terms d x.arc)) c (publish_due x.arc out e)
      go (ToUnlock l key below en e k c) = at (Unlock key) c (unlock_due x.arc l key en below e k)
      go (ToClaim en e c) = at Claim c (claim_due x.arc en e)
      go (ToRefund out e c) = at Refund c (refund_due x.arc out e)
