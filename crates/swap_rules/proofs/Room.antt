-- The entries of a party that keeps its rules never fill a ledger.
use Rattle.std.proofs.Common.{length-append, count_by, ◌≡◌, ℕ, suc, ◌+◌, ◌≤◌, Bool, true, false, cond, not, List, [], ◌∷◌, ◌++◌, length}
use Rattle.std.proofs.Common.{Option, Some, None, refl, ap, ◌∙◌, inl, inr, arith, eq-eqb, leb-true, map}
use Rattle.std.proofs.lemmas.List.Sums.{sum_by-append, sum_by-cons}
use Rattle.swap_base.specs.Lists.{IsElement, IsMoment}
use Rattle.swap_base.proofs.Lists.{at_moment, list_any-in, in_append, grow, length-range}
use Rattle.swap_base.proofs.Lists.{bit_le, count_le, count_less, not-mono}
use Rattle.swap_digraph.specs.declared.deal.Deal.{Deal}
use Rattle.swap_digraph.specs.Deal.{locks}
use Rattle.hashkey_path.specs.declared.hashkey.Hashkey.{Hashkey}
use Rattle.escrow_core.specs.declared.reply.Reply.{Reply}
use Rattle.ledger_core.specs.declared.entry.Call.{Call}
use Rattle.ledger_core.specs.declared.entry.Call.TheVariants.{Publish, Unlock, Claim, Refund, Transfer}
use Rattle.ledger_core.specs.declared.entry.Sender.{Sender}
use Rattle.ledger_core.specs.declared.entry.Sender.TheVariants.{Party, Clock}
use Rattle.ledger_core.specs.declared.entry.What.{What}
use Rattle.ledger_core.specs.declared.entry.What.TheVariants.{Call as Made, Tick}
use Rattle.ledger_core.specs.declared.entry.Entry.{Entry}
use Rattle.ledger_core.specs.History.{is_full, IsLegalMoment, IsLegalEntry, is_sender, made_call}
use Rattle.ledger_core.specs.Book.{Histories, history, IsLegalBook}
use Rattle.swap_rules.specs.declared.finding.Rule.{Rule}
use Rattle.swap_rules.specs.declared.finding.Rule.TheVariants.{Publish as ToPublish, Unlock as ToUnlock, Claim as ToClaim, Refund as ToRefund}
use Rattle.swap_rules.specs.Party.{pick_call}
use Rattle.swap_rules.specs.Conduct.{is_publish}
use Rattle.swap_rules.specs.Findings.{deal_rules}
use Rattle.swap_rules.specs.Accepted.{IsAccepted}
use Rattle.swap_rules.specs.Due.{unlocks_lock, is_claiming, is_refunding, has_called}
use Rattle.swap_rules.specs.Machine.{KeepsOwn, KeepsRules, rule_test}
use Rattle.swap_rules.specs.Laws.{RulesLeaveRoom}
use Rattle.ledger_core.proofs.History.{not-true}
use Rattle.swap_rules.proofs.Words.{publish_rule, unlock_rule, claim_rule, refund_rule}
use Rattle.swap_rules.proofs.Prefixes.{moment_more, list_any-more}
use Rattle.swap_rules.proofs.Conducting.{below_of}

-- Counts.

pub count_top : {A : Type 0} (p : A → Bool) (xs : List A) → count_by p xs ≤ length xs
count_top p [] = omega arith
count_top p (x ∷ xs) =
    let e1 : count_by p (x ∷ xs) ≡ cond (p x) 1 0 + count_by p xs = sum_by-cons (λ z. cond (p z) 1 0) x xs in
    let e2 = bit_le (p x) true (λ q. refl) in
    let e3 = count_top p xs in
    omega arith

count_push : {A : Type 0} (p : A → Bool) (xs : List A) (x : A) → count_by p (xs ++ x ∷ []) ≡ count_by p xs + cond (p x) 1 0
count_push p xs x =
    let e1 : count_by p (xs ++ x ∷ []) ≡ count_by p xs + count_by p (x ∷ []) = sum_by-append (λ z. cond (p z) 1 0) xs (x ∷ []) in
    let e2 : count_by p (x ∷ []) ≡ cond (p x) 1 0 + count_by p [] = sum_by-cons (λ z. cond (p z) 1 0) x [] in
    let e3 : count_by p [] ≡ 0 = refl in
    omega arith

-- Each entry of v is the first of its rule.

abbrev Fresh : Deal → ℕ → List Entry → Type 0
Fresh d v h =
    (past : List Entry) (e : Entry) → IsMoment h past e → is_sender v e.sender ≡ true
    → (r : Rule) × IsElement r (deal_rules d) × (rule_test r (pick_call v e) ≡ true) × (has_called v (rule_test r) past ≡ false)

abbrev waits : ℕ → List Entry → Rule → Bool
waits v h r = not (has_called v (rule_test r) h)

own_count : (d : Deal) (v : ℕ) (h : List Entry) → Fresh d v h
    → count_by (λ e. is_sender v e.sender) h + count_by (waits v h) (deal_rules d) ≤ length (deal_rules d)
own_count d v h f = grow (λ h. Fresh d v h
    → count_by (λ e. is_sender v e.sender) h + count_by (waits v h) (deal_rules d) ≤ length (deal_rules d)) h start more f
  where
    start : Fresh d v [] → count_by (λ (e : Entry). is_sender v e.sender) [] + count_by (waits v []) (deal_rules d) ≤ length (deal_rules d)
    start f = let c = count_top (waits v []) (deal_rules d) in let z : count_by (λ (e : Entry). is_sender v e.sender) [] ≡ 0 = refl in omega arith

    more : (xs : List Entry) (x : Entry)
        → (Fresh d v xs → count_by (λ e. is_sender v e.sender) xs + count_by (waits v xs) (deal_rules d) ≤ length (deal_rules d)) → Fresh d v (xs ++ x ∷ [])
        → count_by (λ e. is_sender v e.sender) (xs ++ x ∷ []) + count_by (waits v (xs ++ x ∷ [])) (deal_rules d) ≤ length (deal_rules d)
    more xs x rest f =
        let before = rest (λ past e m s. f past e (moment_more xs (xs ++ x ∷ []) past e (x ∷ [], refl) m) s) in
        go before (count_push (λ e. is_sender v e.sender) xs x) (is_sender v x.sender) refl
      where
        drops : (r : Rule) → waits v (xs ++ x ∷ []) r ≡ true → waits v xs r ≡ true
        drops r e =
            not-mono (has_called v (rule_test r) xs) (has_called v (rule_test r) (xs ++ x ∷ [])) (λ q.
            list_any-more (λ y. rule_test r (pick_call v y)) xs (x ∷ []) q) e

        go : count_by (λ e. is_sender v e.sender) xs + count_by (waits v xs) (deal_rules d) ≤ length (deal_rules d)
            → count_by (λ e. is_sender v e.sender) (xs ++ x ∷ []) ≡ count_by (λ e. is_sender v e.sender) xs + cond (is_sender v x.sender) 1 0
            → (y : Bool) → is_sender v x.sender ≡ y → count_by (λ e. is_sender v e.sender) (xs ++ x ∷ []) + count_by (waits v (xs ++ x ∷ [])) (deal_rules d)
            ≤ length (deal_rules d)
        go before c true e =
            let r = f xs x ([], refl) e in
            let here : has_called v (rule_test r.0) (xs ++ x ∷ []) ≡ true =
            list_any-in (λ y. rule_test r.0 (pick_call v y)) (xs ++ x ∷ []) x r.2 (in_append xs (x ∷ []) x (inr (inl refl))) in
            let less = count_less (waits v xs) (waits v (xs ++ x ∷ [])) (deal_rules d) drops r.0 r.1 (ap not r.3) (ap not here) in
            let b : ◌≡◌ {A = ℕ} (cond (is_sender v x.sender) 1 0) 1 = ap (λ z. cond {A = ℕ} z 1 0) e in
            omega arith
        go before c false e =
            let less = count_le (waits v xs) (waits v (xs ++ x ∷ [])) (deal_rules d) drops in
            let b : ◌≡◌ {A = ℕ} (cond (is_sender v x.sender) 1 0) 0 = ap (λ z. cond {A = ℕ} z 1 0) e in
            omega arith

own_call : (d : Deal) (a : ℕ) (past : List Entry) (v : ℕ) (s : Sender) (w : What) (at : ℕ) (r : Reply) → IsLegalEntry d a past s w at r
    → is_sender v s ≡ true → (c : Call) × (made_call w ≡ Some c)
own_call d a past v (Party p) (Made c) at r l e = (c, refl)
own_call d a past v (Party p) (Tick k) at r l e = absurd l
own_call d a past v Clock w at r l e = absurd (cc e)

length-map-to : (f : ℕ → Rule) (xs : List ℕ) → length (map f xs) ≡ length xs
length-map-to f [] = refl
length-map-to f (x ∷ xs) = ap suc (length-map-to f xs)

pub number_of_rules : (d : Deal) → length (deal_rules d) ≡ length d.leaders + 3
number_of_rules d =
    let e1 : length (deal_rules d) ≡ length (ToPublish ∷ [] ++ map ToUnlock (locks d)) + length (ToClaim ∷ ToRefund ∷ []) =
    length-append (ToPublish ∷ [] ++ map ToUnlock (locks d)) (ToClaim ∷ ToRefund ∷ []) in
    let e2 : length (map ToUnlock (locks d)) ≡ length (locks d) = length-map-to ToUnlock (locks d) in
    let e3 : length (locks d) ≡ length d.leaders = length-range 0 (length d.leaders) in
    let e4 : length (ToPublish ∷ [] ++ map ToUnlock (locks d)) ≡ suc (length (map ToUnlock (locks d))) = refl in
    let e5 : length (ToClaim ∷ ToRefund ∷ []) ≡ 2 = refl in
    omega arith

module _ (d : Deal) (b : Histories) (signed : ℕ → Option Hashkey) (v : ℕ) (k : IsAccepted d) (legal : IsLegalBook d b) (rules : KeepsRules d b signed v) where
  fresh : (a : ℕ) → Fresh d v (history b a)
  fresh a past e m s =
      let c =
      own_call d a past v e.sender e.what e.height e.reply
      (at_moment (IsLegalMoment d a) (history b a) past e (legal.legal a (below_of b a past e m)) m) s in
      let q : pick_call v e ≡ Some c.0 = ap (λ z. cond z (made_call e.what) None) s ∙ c.1 in
      go c.0 q (rules.own a past e c.0 m q)
    where
      go : (c : Call) → pick_call v e ≡ Some c → KeepsOwn d b signed v a past c
          → (r : Rule) × IsElement r (deal_rules d) × (rule_test r (pick_call v e) ≡ true) × (has_called v (rule_test r) past ≡ false)
      go (Publish t) q r = (ToPublish, publish_rule d, ap is_publish q, r.2)
      go (Unlock key) q r =
          let low = (rules.keys key.lock key r.2).below in
          (ToUnlock key.lock, unlock_rule d key.lock low, ap (unlocks_lock key.lock) q ∙ eq-eqb key.lock key.lock refl, r.4)
      go Claim q r = (ToClaim, claim_rule d, ap is_claiming q, r.1)
      go Refund q r = (ToRefund, refund_rule d, ap is_refunding q, r.1)
      go (Transfer to units) q r = absurd r

  -- a conforming party never fills a ledger
  pub not_full : (a : ℕ) → is_full (history b a) v ≡ false
  not_full a =
      let c = own_count d v (history b a) (fresh a) in
      let n = number_of_rules d in
      let l : length d.leaders ≤ 8 = k.leaders.1 in
      not-true _ (λ e. let h : 32 ≤ count_by (λ e. is_sender v e.sender) (history b a) = leb-true 32 _ e in absurd (omega arith))

pub rules_leave_room : RulesLeaveRoom
rules_leave_room d b signed v a k legal rules = not_full d b signed v k legal rules a
