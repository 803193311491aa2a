-- A retrying life is a told life.
use Rattle.std.proofs.Common.{◌≡◌, ◌⊎◌, ℕ, suc, zero, ◌+◌, ◌<◌, ◌==◌, Bool, true, false, cond, not, ◌||◌, List, [], ◌∷◌, ◌++◌, length, map, Option, Some, None}
use Rattle.std.proofs.Common.{refl, sym, ap, ◌∙◌, subst, inl, inr, arith, eqb-true, length-append}
use Rattle.std.specs.List.{flat_map}
use Rattle.std.proofs.lemmas.Bool.{false≢true}
use Rattle.std.proofs.lemmas.Option.{same_Some}
use Rattle.swap_base.specs.Lists.{IsElement, IsMoment}
use Rattle.swap_base.proofs.Lists.{in_append, in_flat_map, in_range, in_map, and_parts, and_both, bool_or}
use Rattle.swap_digraph.specs.declared.deal.Deal.{Deal}
use Rattle.swap_digraph.specs.Graph.{leaving, entering}
use Rattle.swap_digraph.specs.Deal.{locks}
use Rattle.hashkey_path.specs.declared.hashkey.Hashkey.{Hashkey}
use Rattle.escrow_core.specs.Terms.{stated_terms}
use Rattle.ledger_core.specs.declared.entry.Call.{Call}
use Rattle.ledger_core.specs.declared.entry.Call.TheVariants.{Publish, Unlock, Claim, Refund, Transfer}
use Rattle.ledger_core.specs.declared.entry.Entry.{Entry}
use Rattle.ledger_core.specs.Book.{Histories, history}
use Rattle.ledger_core.proofs.History.{is_some-of}
use Rattle.swap_rules.specs.Party.{is_ready, leads_one, pick_call}
use Rattle.swap_rules.specs.Conduct.{is_publish, is_first_key}
use Rattle.swap_rules.specs.Due.{Wallet, Action, unlocks_lock, is_claiming, is_refunding, has_called, is_due_publish, due_key, presented}
use Rattle.swap_rules.specs.Due.{may_unlock, due_arc_unlock, is_due_claim, is_due_refund, when_due, due_publishes, due_unlocks, due_claims, due_refunds, due}
use Rattle.swap_rules.specs.Machine.{noted}
use Rattle.swap_rules.proofs.Cases.{Case, ToPublish, ToUnlock, ToClaim, ToRefund, case_of}
use Rattle.swap_rules.proofs.Prefixes.{begins_more, moment_more}
use Rattle.swap_rules.proofs.Rounds.{called_at}
use Rattle.swap_rules.proofs.Words.{same_key-true}
use Rattle.swap_rules.specs.Counted.{all_counted}
use Rattle.swap_rules.proofs.Counted.{ReadsFewer, all_counted_reads}
use Rattle.swap_rules.proofs.Pressing.{same_ready, same_key, same_claimable, same_refundable}
use Rattle.wallet_promise.specs.Life.{nothing_kept, action_answer, Keep, IsPartKept, MayKeep as OrdinaryKeep, IsKeepingStep as OrdinaryStep}
use Rattle.wallet_promise.specs.Life.{IsJournal as OrdinaryJournal}
use Rattle.wallet_promise.specs.ToldLife.{Hearing, whole_asking, IsHeard as OrdinaryHeard, IsToldAnswered, IsToldLife}
use Rattle.wallet_promise.proofs.Enough.{same_due}
use Rattle.wallet_promise.proofs.Keys.{kept_state}
use Rattle.wallet_promise.proofs.Lives.{told_life_conducts, told_watchful_is_safe, told_life_is_safe}
use Rattle.wallet_promise.proofs.Merged.{says_refl}
use Rattle.wallet_promise.specs.Answers.{MayKeep}
use Rattle.wallet_promise.specs.Retrying.{IsKeepingStep, IsJournal, IsHeard, IsAnswered, IsRetryingLife, whole, RetryingIsTold}
use Rattle.wallet_promise.specs.Retrying.{RetryingIsPromised}

-- What is due, by its case.

when_there : (test : Bool) (a : ℕ) (c : Call) → test ≡ true → IsElement (record { arc = a; call = c }) (when_due test a c)
when_there true a c e = inl refl
when_there false a c e = absurd (false≢true e)

module _ (d : Deal) (v : ℕ) (w : Wallet) (signed : ℕ → Option Hashkey) (k : Histories) where
  to_due : (x : Action) → IsElement x (due_publishes d v k) ⊎ (IsElement x (due_unlocks d v w signed k) ⊎ (IsElement x (due_claims d v k) ⊎ IsElement x (due_refunds d v k)))
      → IsElement x (due d v w signed k)
  unfolding due
  to_due x (inl i) =
      in_append (due_publishes d v k ++ due_unlocks d v w signed k ++ due_claims d v k) (due_refunds d v k) x
      (inl (in_append (due_publishes d v k ++ due_unlocks d v w signed k) (due_claims d v k) x
      (inl (in_append (due_publishes d v k) (due_unlocks d v w signed k) x (inl i)))))
  to_due x (inr (inl i)) =
      in_append (due_publishes d v k ++ due_unlocks d v w signed k ++ due_claims d v k) (due_refunds d v k) x
      (inl (in_append (due_publishes d v k ++ due_unlocks d v w signed k) (due_claims d v k) x
      (inl (in_append (due_publishes d v k) (due_unlocks d v w signed k) x (inr i)))))
  to_due x (inr (inr (inl i))) =
      in_append (due_publishes d v k ++ due_unlocks d v w signed k ++ due_claims d v k) (due_refunds d v k) x
      (inl (in_append (due_publishes d v k ++ due_unlocks d v w signed k) (due_claims d v k) x (inr i)))
  to_due x (inr (inr (inr i))) =
      in_append (due_publishes d v k ++ due_unlocks d v w signed k ++ due_claims d v k) (due_refunds d v k) x (inr i)

  publish_due : (a : ℕ) → IsElement a (leaving d.graph v) → is_due_publish d v k a ≡ true
      → IsElement (record { arc = a; call = Publish (stated_terms d a) }) (due d v w signed k)
  publish_due a j t =
      to_due (record { arc = a; call = Publish (stated_terms d a) }) (inl (in_flat_map
      (λ c. when_due (is_due_publish d v k c) c (Publish (stated_terms d c))) (leaving d.graph v) a
      (record { arc = a; call = Publish (stated_terms d a) }) j (when_there (is_due_publish d v k a) a (Publish (stated_terms d a)) t)))

  unlock_due : (i a : ℕ) (key : Hashkey) → i < length d.leaders → IsElement a (entering d.graph v) → may_unlock d v k i a ≡ true
      → due_key d v w (signed i) k i ≡ Some key → IsElement (record { arc = a; call = Unlock key }) (due d v w signed k)
  unfolding due_arc_unlock
  unlock_due i a key l j t e =
      to_due (record { arc = a; call = Unlock key }) (inr (inl (in_flat_map
      (λ i. flat_map (due_arc_unlock d v w (signed i) k i) (entering d.graph v)) (locks d) i (record { arc = a; call = Unlock key })
      (in_range i (length d.leaders) l)
      (in_flat_map (due_arc_unlock d v w (signed i) k i) (entering d.graph v) a (record { arc = a; call = Unlock key }) j
      (subst (λ x. IsElement (record { arc = a; call = Unlock key }) (cond x (presented a (due_key d v w (signed i) k i)) [])) (sym t)
      (subst (λ o. IsElement (record { arc = a; call = Unlock key }) (presented a o)) (sym e) (inl refl)))))))

  claim_due : (a : ℕ) → IsElement a (entering d.graph v) → is_due_claim d v k a ≡ true → IsElement (record { arc = a; call = Claim }) (due d v w signed k)
  claim_due a j t =
      to_due (record { arc = a; call = Claim }) (inr (inr (inl (in_flat_map (λ c. when_due (is_due_claim d v k c) c Claim) (entering d.graph v) a
      (record { arc = a; call = Claim }) j (when_there (is_due_claim d v k a) a Claim t)))))

  refund_due : (a : ℕ) → IsElement a (leaving d.graph v) → is_due_refund d v k a ≡ true → IsElement (record { arc = a; call = Refund }) (due d v w signed k)
  refund_due a j t =
      to_due (record { arc = a; call = Refund }) (inr (inr (inr (in_flat_map (λ c. when_due (is_due_refund d v k c) c Refund) (leaving d.graph v) a
      (record { arc = a; call = Refund }) j (when_there (is_due_refund d v k a) a Refund t)))))

-- Hashkeys that were kept.

-- each hashkey is kept for its own lock
abbrev IsFiled : (ℕ → Option Hashkey) → Type 0
IsFiled kept = (i : ℕ) (key : Hashkey) → kept i ≡ Some key → key.lock ≡ i

filed_on : (before : ℕ → Option Hashkey) (key : Hashkey) → IsFiled before → IsFiled (noted before (Unlock key))
filed_on before key f i z e = go (i == key.lock) refl z e
  where
    go : (x : Bool) → (i == key.lock) ≡ x → (z : Hashkey) → cond x (Some key) (before i) ≡ Some z → z.lock ≡ i
    go true h z e = ap (λ y. y.lock) (sym (same_Some key z e)) ∙ sym (eqb-true i key.lock h)
    go false h z e = f i z e

first_there : (o : Option Hashkey) (key : Hashkey) → is_first_key o key ≡ true → o ≡ Some key
first_there None key t = absurd (cc t)
first_there (Some old) key t = ap (λ z. Some z) (same_key-true old key t)

module _ (d : Deal) (v : ℕ) (w : Wallet) (b : Histories) where
  -- the hashkey that is due is the one that was handed over
  handed_is : (s : Option Hashkey) (k : Histories) (i : ℕ) (key z : Hashkey) → s ≡ Some z → due_key d v w s k i ≡ Some key → z ≡ key
  unfolding due_key
  handed_is None k i key z q e = absurd (cc q)
  handed_is (Some y) k i key z q e = same_Some z key (sym q ∙ e)

  not_called : (test : Option Call → Bool) (g k : List Entry) → ReadsFewer v g k → has_called v test k ≡ false → not (has_called v test g) ≡ true → not (has_called v test k) ≡ true
  not_called test g k r n e = ap not n

  -- A hearing.
  module _ (h : Hearing) (heard : IsHeard d v b h) where
    reads : (a : ℕ) → ReadsFewer v (history (all_counted v h.behind) a) (history h.behind a)
    reads = all_counted_reads v h.behind

    due_behind : (x : Action) → IsElement x (due d v w h.asking.kept (all_counted v h.asking.known)) → IsElement x (due d v w h.asking.kept (all_counted v h.behind))
    due_behind x i =
        subst (IsElement x) (same_due d v (all_counted v h.asking.known) (all_counted v h.behind) heard.says w h.asking.kept) i

    -- an unlock for a lock that v never called on this arc is due over all
    unlock_behind : (i a : ℕ) (key : Hashkey) → i < length d.leaders → IsElement a (entering d.graph v)
        → may_unlock d v (all_counted v h.behind) i a ≡ true → due_key d v w (h.asking.kept i) (all_counted v h.behind) i ≡ Some key
        → has_called v (unlocks_lock i) (history h.behind a) ≡ false → IsElement (record { arc = a; call = Unlock key }) (due d v w h.asking.kept h.behind)
    unlock_behind i a key l j may e n =
        let p = and_parts (is_ready d (all_counted v h.behind) v) (not (has_called v (unlocks_lock i) (history (all_counted v h.behind) a))) may in
        unlock_due d v w h.asking.kept h.behind i a key l j
        (and_both (is_ready d h.behind v) (not (has_called v (unlocks_lock i) (history h.behind a)))
        (sym (same_ready d v (λ c. 0) w h.asking.kept (all_counted v h.behind) h.behind reads) ∙ p.0) (ap not n))
        (sym (same_key d v (λ c. 0) w h.asking.kept (all_counted v h.behind) h.behind reads (h.asking.kept i) i) ∙ e)

    publish_behind : (a : ℕ) → is_due_publish d v (all_counted v h.behind) a ≡ true → is_due_publish d v h.behind a ≡ true
    unfolding is_due_publish
    publish_behind a t =
        let r = reads a in
        let p =
        and_parts (leads_one d v || is_ready d (all_counted v h.behind) v) (not (has_called v is_publish (history (all_counted v h.behind) a))) t in
        and_both (leads_one d v || is_ready d h.behind v) (not (has_called v is_publish (history h.behind a)))
        (ap (λ x. leads_one d v || x) (sym (same_ready d v (λ c. 0) w h.asking.kept (all_counted v h.behind) h.behind reads)) ∙ p.0)
        (ap not (sym r.publishes) ∙ p.1)

  -- What may be kept.

  keeps : (before : ℕ → Option Hashkey) (h : Hearing) (key : Hashkey) → IsHeard d v b h → IsFiled before → IsPartKept h.asking.kept before
      → before key.lock ≡ None → MayKeep d v w h.asking key → OrdinaryKeep d v w (whole_asking h) key
  keeps before h key heard filed part free m =
      let state = kept_state h.asking.kept m.unlock key m.asks in
      let c =
      case_of d v w h.asking.kept (all_counted v h.behind) m.unlock (due_behind h heard m.unlock m.is_due) in
      go m.unlock.arc m.unlock.call state.0 m.asks c
    where
      go : (a : ℕ) (c : Call) → c ≡ Unlock key → action_answer h.asking.kept (Some (record { arc = a; call = c })) ≡ Keep key
          → Case d v w h.asking.kept (all_counted v h.behind) a c → OrdinaryKeep d v w (whole_asking h) key
      go a c is asks (ToPublish j t q) = absurd (cc (sym is ∙ q))
      go a c is asks (ToClaim j t q) = absurd (cc (sym is ∙ q))
      go a c is asks (ToRefund j t q) = absurd (cc (sym is ∙ q))
      go a c is asks (ToUnlock i other l j may e q) =
          let same : other ≡ key = cc (sym q ∙ is) in
          let due : due_key d v w (h.asking.kept i) (all_counted v h.behind) i ≡ Some key = e ∙ ap (λ z. Some z) same in
          by i l j may due (bool_or (has_called v (unlocks_lock i) (history h.behind a)))
        where
          by : (i : ℕ) → i < length d.leaders → IsElement a (entering d.graph v) → may_unlock d v (all_counted v h.behind) i a ≡ true
              → due_key d v w (h.asking.kept i) (all_counted v h.behind) i ≡ Some key
              → (has_called v (unlocks_lock i) (history h.behind a) ≡ true) ⊎ (has_called v (unlocks_lock i) (history h.behind a) ≡ false)
              → OrdinaryKeep d v w (whole_asking h) key
          by i l j may due (inr n) = record {
            unlock = record { arc = a; call = Unlock key };
            is_due = unlock_behind h heard i a key l j may due n;
            asks = ap (λ z. action_answer h.asking.kept (Some (record { arc = a; call = z }))) (sym is) ∙ asks;
          }
          by i l j may due (inl y) =
              let z = is_some-of (h.asking.kept i) (heard.handed a i y) in
              let old = part i z.0 z.1 in
              let lock = filed i z.0 old in
              let same = handed_is (h.asking.kept i) (all_counted v h.behind) i key z.0 z.1 due in
              let at : key.lock ≡ i = ap (λ k. k.lock) (sym same) ∙ lock in
              absurd (cc (sym free ∙ (ap before at ∙ old)))

  journal : (before : ℕ → Option Hashkey) (hs : List Hearing) (after : ℕ → Option Hashkey) → ((h : Hearing) → IsElement h hs → IsHeard d v b h)
      → IsFiled before → IsJournal d v w before (map (λ h. h.asking) hs) after
      → OrdinaryJournal d v w before (map (λ h. h.asking) (map whole hs)) after × IsFiled after × IsPartKept before after
      × ((h : Hearing) → IsElement h hs → IsPartKept h.asking.kept after)
  journal before [] after told filed j =
      (j, subst (λ k. IsFiled k) (sym j) filed, λ i key z. ap (λ f. f i) j ∙ z, λ h i. absurd i)
  journal before (h ∷ hs) after told filed j =
      let s = step before j.1 j.0 filed j.2 in
      let r = journal j.1 hs after (λ x i. told x (inr i)) s.1 j.3 in (
        (j.0, j.1, s.0, r.0),
        r.1,
        λ i key z. r.2 i key (s.2 i key z),
        λ x i. at x i j.0 s.2 r.2 r.3,
      )
    where
      step : (before next : ℕ → Option Hashkey) → IsPartKept h.asking.kept before → IsFiled before → IsKeepingStep d v w before h.asking next
          → OrdinaryStep d v w before (whole_asking h) next × IsFiled next × IsPartKept before next
      step before next part filed (inl e) = (inl e, subst (λ k. IsFiled k) (sym e) filed, λ i key z. ap (λ f. f i) e ∙ z)
      step before next part filed (inr k) = (
        inr (k.0, keeps before h k.0 (told h (inl refl)) filed part k.2 k.1, k.2, k.3),
        subst (λ f. IsFiled f) (sym k.3) (filed_on before k.0 filed),
        λ i key z. ap (λ f. f i) k.3 ∙ hold i key z (i == k.0.lock) refl,
      )
        where
          hold : (i : ℕ) (key : Hashkey) → before i ≡ Some key → (x : Bool) → (i == k.0.lock) ≡ x → cond x (Some k.0) (before i) ≡ Some key
          hold i key z true q = absurd (cc (sym z ∙ (ap before (eqb-true i k.0.lock q) ∙ k.2)))
          hold i key z false q = z

      at : {next : ℕ → Option Hashkey} (x : Hearing) → (x ≡ h) ⊎ IsElement x hs → IsPartKept h.asking.kept before → IsPartKept before next → IsPartKept next after
          → ((x : Hearing) → IsElement x hs → IsPartKept x.asking.kept after) → IsPartKept x.asking.kept after
      at x (inl e) part grows more rest i key z = more i key (grows i key (part i key (ap (λ y. y.asking.kept i) (sym e) ∙ z)))
      at x (inr k) part grows more rest i key z = rest x k i key z

-- A life.

call_is_claim : (c : Call) → is_claiming (Some c) ≡ true → c ≡ Claim
call_is_claim Claim e = refl
call_is_claim (Publish t) e = absurd (cc e)
call_is_claim (Unlock key) e = absurd (cc e)
call_is_claim Refund e = absurd (cc e)
call_is_claim (Transfer to units) e = absurd (cc e)

call_is_refund : (c : Call) → is_refunding (Some c) ≡ true → c ≡ Refund
call_is_refund Refund e = refl
call_is_refund (Publish t) e = absurd (cc e)
call_is_refund (Unlock key) e = absurd (cc e)
call_is_refund Claim e = absurd (cc e)
call_is_refund (Transfer to units) e = absurd (cc e)

call_is_unlock : (i : ℕ) (c : Call) → unlocks_lock i (Some c) ≡ true → (key : Hashkey) × (c ≡ Unlock key) × (key.lock ≡ i)
call_is_unlock i (Unlock key) e = (key, refl, eqb-true key.lock i e)
call_is_unlock i (Publish t) e = absurd (cc e)
call_is_unlock i Claim e = absurd (cc e)
call_is_unlock i Refund e = absurd (cc e)
call_is_unlock i (Transfer to units) e = absurd (cc e)

shorter : (p : List Entry) (e : Entry) (h : List Entry) → IsMoment h p e → length p < length h
shorter p e h m =
    let whole : length h ≡ length (p ++ e ∷ m.0) = ap length m.1 in
    let parts : length (p ++ e ∷ m.0) ≡ length p + length (e ∷ m.0) = length-append p (e ∷ m.0) in
    omega arith

module _ (d : Deal) (v : ℕ) (w : Wallet) (b : Histories) (hs : List Hearing) (kept : ℕ → Option Hashkey) (life : IsRetryingLife d v w b hs kept) where
  abbrev filing : Type 0
  filing = OrdinaryJournal d v w nothing_kept (map (λ h. h.asking) (map whole hs)) kept × IsFiled kept × IsPartKept nothing_kept kept
      × ((h : Hearing) → IsElement h hs → IsPartKept h.asking.kept kept)

  files : filing
  files = journal d v w b nothing_kept hs kept life.told (λ i key e. absurd (cc e)) life.journal

  abbrev Told : ℕ → List Entry → Call → Type 0
  Told a past c = IsToldAnswered d v w (map whole hs) a past c

  -- the hashkey of an unlock that was answered is the one that is kept
  kept_of : (a : ℕ) (past : List Entry) (key : Hashkey) → Told a past (Unlock key) → kept key.lock ≡ Some key
  kept_of a past key t =
      let f = from_whole_map hs t.hearing t.heard in
      let z = first_there (t.hearing.asking.kept key.lock) key t.may.was_kept in
      files.3 f.0 f.1 key.lock key (ap (λ x. x.asking.kept key.lock) (sym f.2) ∙ z)
    where
      from_whole_map : (xs : List Hearing) (y : Hearing) → IsElement y (map whole xs) → (x : Hearing) × IsElement x xs × (y ≡ whole x)
      from_whole_map [] y i = absurd i
      from_whole_map (x ∷ xs) y (inl e) = (x, inl refl, e)
      from_whole_map (x ∷ xs) y (inr i) = let r = from_whole_map xs y i in (r.0, inr r.1, r.2)

  -- one that is answered anew
  anew : (a : ℕ) (past : List Entry) (c : Call) (i : IsAnswered d v w hs a past c)
      → IsElement (record { arc = a; call = c }) (due d v w (i.hearing.asking).kept i.hearing.behind) → Told a past c
  anew a past c i j = record {
    hearing = whole i.hearing;
    heard = in_map whole hs i.hearing i.heard;
    may = record { is_due = j; was_kept = i.may.was_kept };
    later = i.later;
  }

  -- one that stood there before
  again : (a : ℕ) (past before : List Entry) (e : Entry) (c : Call) → IsMoment past before e → Told a before c → Told a past c
  again a past before e c m t = record {
    hearing = t.hearing;
    heard = t.heard;
    may = t.may;
    later = begins_more (history t.hearing.behind a) before past t.later (e ∷ m.0, m.1);
  }

  answered : (n a : ℕ) (past : List Entry) (e : Entry) (c : Call) → length past < n → IsMoment (history b a) past e → pick_call v e ≡ Some c → Told a past c
  answered zero a past e c l m k = absurd (omega arith)
  answered (suc n) a past e c l m k =
      let i = life.calls a past e c m k in
      let heard = life.told i.hearing i.heard in
      let x =
      case_of d v w i.hearing.asking.kept (all_counted v i.hearing.behind) (record { arc = a; call = c })
      (due_behind d v w b i.hearing heard (record { arc = a; call = c }) i.may.is_due) in
      go i heard (λ before f call q z. answered n a before f call (let s = shorter before f past q in omega arith)
      (moment_more past (history b a) before f (e ∷ m.0, m.1) q) z) x
    where
      go : (i : IsAnswered d v w hs a past c) → IsHeard d v b i.hearing
          → ((before : List Entry) (f : Entry) (call : Call) → IsMoment past before f → pick_call v f ≡ Some call → Told a before call)
          → Case d v w i.hearing.asking.kept (all_counted v i.hearing.behind) a c → Told a past c
      go i heard rec (ToPublish j t q) =
          anew a past c i (subst (λ z. IsElement (record { arc = a; call = z }) (due d v w i.hearing.asking.kept i.hearing.behind)) (sym q)
          (publish_due d v w i.hearing.asking.kept i.hearing.behind a j (publish_behind d v w b i.hearing heard a t)))
      go i heard rec (ToUnlock l key below j may e q) = by (bool_or (has_called v (unlocks_lock l) (history i.hearing.behind a)))
        where
          by : (has_called v (unlocks_lock l) (history i.hearing.behind a) ≡ true) ⊎ (has_called v (unlocks_lock l) (history i.hearing.behind a) ≡ false)
              → Told a past c
          by (inr n) =
              anew a past c i (subst (λ z. IsElement (record { arc = a; call = z }) (due d v w i.hearing.asking.kept i.hearing.behind)) (sym q)
              (unlock_behind d v w b i.hearing heard l a key below j may e n))
          by (inl y) =
              let f = called_at v (history i.hearing.behind a) (unlocks_lock l) refl y in
              let u = call_is_unlock l f.call f.passes in
              let m = moment_more (history i.hearing.behind a) past f.past f.now i.later f.stands in
              let t = rec f.past f.now (Unlock u.0) m (f.called ∙ ap (λ z. Some z) u.1) in
              let old = kept_of a f.past u.0 t in
              let z = is_some-of (i.hearing.asking.kept l) (heard.handed a l y) in
              let same = handed_is d v w b (i.hearing.asking.kept l) (all_counted v i.hearing.behind) l key z.0 z.1 e in
              let mine : kept l ≡ Some key = files.3 i.hearing i.heard l z.0 z.1 ∙ ap (λ k. Some k) same in
              let one : u.0 ≡ key = same_Some u.0 key (sym old ∙ (ap kept u.2 ∙ mine)) in
              again a past f.past f.now c m (subst (λ k. Told a f.past k) (ap Unlock one ∙ sym q) t)
      go i heard rec (ToClaim j t q) = by (bool_or (has_called v is_claiming (history i.hearing.behind a)))
        where
          by : (has_called v is_claiming (history i.hearing.behind a) ≡ true) ⊎ (has_called v is_claiming (history i.hearing.behind a) ≡ false) → Told a past c
          by (inr n) =
              anew a past c i (subst (λ z. IsElement (record { arc = a; call = z }) (due d v w i.hearing.asking.kept i.hearing.behind)) (sym q)
              (claim_due d v w i.hearing.asking.kept i.hearing.behind a j
              (same_claimable d v (λ c. 0) w i.hearing.asking.kept (all_counted v i.hearing.behind) i.hearing.behind
              (all_counted_reads v i.hearing.behind) a t n)))
          by (inl y) =
              let f = called_at v (history i.hearing.behind a) is_claiming refl y in
              let m = moment_more (history i.hearing.behind a) past f.past f.now i.later f.stands in
              let t = rec f.past f.now Claim m (f.called ∙ ap (λ z. Some z) (call_is_claim f.call f.passes)) in
              again a past f.past f.now c m (subst (λ k. Told a f.past k) (sym q) t)
      go i heard rec (ToRefund j t q) = by (bool_or (has_called v is_refunding (history i.hearing.behind a)))
        where
          by : (has_called v is_refunding (history i.hearing.behind a) ≡ true) ⊎ (has_called v is_refunding (history i.hearing.behind a) ≡ false) → Told a past c
          by (inr n) =
              anew a past c i (subst (λ z. IsElement (record { arc = a; call = z }) (due d v w i.hearing.asking.kept i.hearing.behind)) (sym q)
              (refund_due d v w i.hearing.asking.kept i.hearing.behind a j
              (same_refundable d v (λ c. 0) w i.hearing.asking.kept (all_counted v i.hearing.behind) i.hearing.behind
              (all_counted_reads v i.hearing.behind) a t n)))
          by (inl y) =
              let f = called_at v (history i.hearing.behind a) is_refunding refl y in
              let m = moment_more (history i.hearing.behind a) past f.past f.now i.later f.stands in
              let t = rec f.past f.now Refund m (f.called ∙ ap (λ z. Some z) (call_is_refund f.call f.passes)) in
              again a past f.past f.now c m (subst (λ k. Told a f.past k) (sym q) t)

  pub told_life : IsToldLife d v w b (map whole hs) kept
  told_life = record {
    journal = files.0;
    told = λ h i. let r = from_whole_map hs h i in
        subst (OrdinaryHeard d v b) (sym r.2) (record { says = λ a. inl (says_refl v (history r.0.behind a)); begins = (life.told r.0 r.1).begins });
    calls = λ a past e c m k. answered (suc (length past)) a past e c (omega arith) m k;
    once = life.once;
  }
    where
      from_whole_map : (xs : List Hearing) (y : Hearing) → IsElement y (map whole xs) → (x : Hearing) × IsElement x xs × (y ≡ whole x)
      from_whole_map [] y i = absurd i
      from_whole_map (x ∷ xs) y (inl e) = (x, inl refl, e)
      from_whole_map (x ∷ xs) y (inr i) = let r = from_whole_map xs y i in (r.0, inr r.1, r.2)

pub retrying_is_told : RetryingIsTold
retrying_is_told d v w b hs kept life = told_life d v w b hs kept life

pub retrying_is_promised : RetryingIsPromised
retrying_is_promised d v w b hs kept acc book limits wallet life =
    let told = told_life d v w b hs kept life in
    record {
      conducted = told_life_conducts d v w b (map whole hs) kept acc book limits wallet told;
      watchful = told_watchful_is_safe d v w b (map whole hs) kept acc book limits wallet told;
      on_time = told_life_is_safe d v w b (map whole hs) kept acc book limits wallet told;
    }
