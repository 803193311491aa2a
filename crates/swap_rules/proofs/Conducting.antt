-- Conduct from the rules that a party keeps call by call.
use Rattle.std.proofs.Common.{append_assoc, count_by, ◌≡◌, ◌≢◌, ◌⊎◌, ℕ, ◌+◌, ◌<◌, ◌==◌, nat_lt, Bool, true, false, cond, ◌&&◌, IsTrue, List}
use Rattle.std.proofs.Common.{[], ◌∷◌, ◌++◌, length, Option, Some, None, is_some, refl, sym, ap, ◌∙◌, subst, inl, inr, arith, eq-eqb, ltb-true, lt-ltb}
use Rattle.std.proofs.Common.{append-nil, set}
use Rattle.std.specs.List.{list_any, flat_map}
use Rattle.std.proofs.lemmas.Bool.{false≢true}
use Rattle.std.proofs.lemmas.Option.{same_Some}
use Rattle.std.proofs.lemmas.List.{get_or-set_same, get_or-set_other, length-set}
use Rattle.std.proofs.lemmas.List.Sums.{sum_by-append, sum_by-cons}
use Rattle.swap_base.specs.Lists.{first_given_answer, IsElement, Moment, moments, IsMoment, moments_after_past}
use Rattle.swap_base.proofs.Lists.{first_at, first_given_answer-in, all_moments_push, list_all-from, list_any-at, and_both, in_from_moment}
use Rattle.swap_base.proofs.Lists.{moment_from_in, in_whole, from_whole}
use Rattle.swap_digraph.specs.declared.deal.Deal.{Deal}
use Rattle.swap_digraph.specs.Deal.{lock_hashlock, touches}
use Rattle.hashkey_path.specs.declared.hashkey.Hashkey.{Hashkey}
use Rattle.hashkey_path.specs.Hashkey.{same_key, is_valid}
use Rattle.escrow_core.specs.Terms.{stated_terms, same_terms}
use Rattle.ledger_core.specs.declared.entry.Call.{Call}
use Rattle.ledger_core.specs.declared.entry.Call.TheVariants.{Publish, Unlock, Claim, Refund, Transfer}
use Rattle.ledger_core.specs.declared.entry.Sender.{Sender}
use Rattle.ledger_core.specs.declared.entry.Sender.TheVariants.{Party}
use Rattle.ledger_core.specs.declared.entry.What.{What}
use Rattle.ledger_core.specs.declared.entry.What.TheVariants.{Call as Made}
use Rattle.ledger_core.specs.declared.entry.Entry.{Entry}
use Rattle.ledger_core.specs.History.{height, published, history_reply, fit, IsLegal, IsLegalMoment, is_sender, made_call}
use Rattle.ledger_core.specs.Book.{Histories, history, IsLegalBook}
use Rattle.swap_rules.specs.Party.{has_expired, is_ready, pick_call, unlock_hashkey, first_key}
use Rattle.swap_rules.specs.Conduct.{is_publish, is_first_key, keeps, keeps_entry, IsConducted}
use Rattle.ledger_core.specs.Ledger.{after_call, is_sender_full}
use Rattle.swap_rules.specs.Machine.{KeepsOwn, KeepsKey, KeepsRules, Begins, Knows, appended_entry}
use Rattle.swap_rules.proofs.Words.{past_end, call_of_parts, act_of, key_parts, same_key-refl}
use Rattle.ledger_core.proofs.History.{is_some-of}
use Rattle.swap_rules.proofs.Prefixes.{begins_refl, not_any-in, same_or_not, at_end}
use Rattle.swap_rules.proofs.Growth.{Grows, is_ready-more, may-more, has_origin-more}

-- Moments.

from_moments_after : {A : Type 0} (before xs : List A) (m : Moment A) → IsElement m (moments_after_past before xs)
    → (p : List A) × (m.past ≡ before ++ p) × IsMoment xs p m.now
from_moments_after before [] m i = absurd i
from_moments_after before (x ∷ xs) m (inl e) = ([], ap (λ z. z.past) e ∙ sym (append-nil before), (xs, ap (λ z. z ∷ xs) (sym (ap (λ z. z.now) e))))
from_moments_after before (x ∷ xs) m (inr i) =
    let r = from_moments_after (before ++ x ∷ []) xs m i in
    (x ∷ r.0, r.1 ∙ append_assoc before (x ∷ []) r.0, (r.2.0, ap (λ l. x ∷ l) r.2.1))

pub from_moments : {A : Type 0} (xs : List A) (m : Moment A) → IsElement m (moments xs) → IsMoment xs m.past m.now
from_moments xs m i = let r = from_moments_after [] xs m i in subst (λ p. IsMoment xs p m.now) (sym r.1) r.2

-- an entry of a book stands on one of its arcs
pub below_of : (b : Histories) (a : ℕ) (past : List Entry) (e : Entry) → IsMoment (history b a) past e → a < length b
below_of b a past e m = go (nat_lt a (length b)) refl
  where
    no : past ++ e ∷ m.0 ≡ [] → (p : List Entry) → past ≡ p → ⊥
    no q [] r = let z : e ∷ m.0 ≡ [] = ap (λ l. l ++ e ∷ m.0) (sym r) ∙ q in cc z
    no q (x ∷ p) r = let z : x ∷ (p ++ e ∷ m.0) ≡ [] = ap (λ l. l ++ e ∷ m.0) (sym r) ∙ q in cc z

    go : (x : Bool) → nat_lt a (length b) ≡ x → a < length b
    go true e = ltb-true a (length b) e
    go false h = absurd (no (sym m.1 ∙ past_end b a (λ l. false≢true (sym h ∙ lt-ltb a (length b) l))) past refl)

-- where one that passes has none before it, and each has none before it, there is one
count_none : {A : Type 0} (p : A → Bool) (xs : List A) → ((x : A) → IsElement x xs → p x ≡ false) → count_by p xs ≡ 0
count_none p [] h = refl
count_none p (x ∷ xs) h =
    let e1 : count_by p (x ∷ xs) ≡ cond (p x) 1 0 + count_by p xs = sum_by-cons (λ z. cond (p z) 1 0) x xs in
    let e2 : ◌≡◌ {A = ℕ} (cond (p x) 1 0) 0 = ap (λ b. cond {A = ℕ} b 1 0) (h x (inl refl)) in
    let e3 : count_by p xs ≡ 0 = count_none p xs (λ y i. h y (inr i)) in
    omega arith

pub count_single : {A : Type 0} (p : A → Bool) (xs past : List A) (x : A) → IsMoment xs past x → p x ≡ true
    → ((q : List A) (y : A) → IsMoment xs q y → p y ≡ true → list_any p q ≡ false) → count_by p xs ≡ 1
count_single p xs past x m px none =
    let e1 : count_by p xs ≡ count_by p (past ++ x ∷ m.0) = ap (count_by p) m.1 in
    let e2 : count_by p (past ++ x ∷ m.0) ≡ count_by p past + count_by p (x ∷ m.0) = sum_by-append (λ z. cond (p z) 1 0) past (x ∷ m.0) in
    let e3 : count_by p (x ∷ m.0) ≡ cond (p x) 1 0 + count_by p m.0 = sum_by-cons (λ z. cond (p z) 1 0) x m.0 in
    let e4 : ◌≡◌ {A = ℕ} (cond (p x) 1 0) 1 = ap (λ b. cond {A = ℕ} b 1 0) px in
    let e5 : count_by p past ≡ 0 = count_none p past (λ y i. not_any-in p past y (none past x m px) i) in
    let e6 : count_by p m.0 ≡ 0 = count_none p m.0 (λ y i. after y i (p y) refl) in
    omega arith
  where
    after : (y : _) → IsElement y m.0 → (t : Bool) → p y ≡ t → p y ≡ false
    after y i false e = e
    after y i true e =
        let n = moment_from_in m.0 y i in
        let w : xs ≡ (past ++ x ∷ n.0) ++ y ∷ n.1.0 = m.1 ∙ (ap (λ l. past ++ x ∷ l) n.1.1 ∙ sym (append_assoc past (x ∷ n.0) (y ∷ n.1.0))) in
        absurd (false≢true (sym (none (past ++ x ∷ n.0) y (n.1.0, w) e) ∙ list_any-at p past x n.0 px))

-- A party all of whose unlock calls for a lock carry one hashkey carries its first.

module _ (b : Histories) (v : ℕ) (signed : ℕ → Option Hashkey)
    (one_key : (a : ℕ) (past : List Entry) (e : Entry) (key : Hashkey) → IsMoment (history b a) past e → pick_call v e ≡ Some (Unlock key)
    → signed key.lock ≡ Some key) where
  pub first_signed : (key : Hashkey) (a : ℕ) (past : List Entry) (e : Entry) → IsMoment (history b a) past e → pick_call v e ≡ Some (Unlock key)
      → is_first_key (first_key b v key.lock) key ≡ true
  unfolding first_key
  first_signed key a past e m k =
      let key_is : unlock_hashkey key.lock (pick_call v e) ≡ Some key = ap (unlock_hashkey key.lock) k
      ∙ ap (λ x. cond x (Some key) None) (eq-eqb key.lock key.lock refl) in
      let stands : IsElement e (flat_map (λ h. h) b) = in_whole b a e (subst (IsElement e) (sym m.1) (in_from_moment past e m.0)) in
      let s =
      is_some-of (first_given_answer (λ e. unlock_hashkey key.lock (pick_call v e)) (flat_map (λ h. h) b))
      (first_given_answer-in (λ e. unlock_hashkey key.lock (pick_call v e)) (flat_map (λ h. h) b) e key stands key_is) in
      let f = first_at (λ e. unlock_hashkey key.lock (pick_call v e)) (flat_map (λ h. h) b) s.0 s.1 in
      let p = key_parts key.lock (pick_call v f.now) s.0 f.gives in
      let w = from_whole b f.now (subst (IsElement f.now) (sym f.stands.1) (in_from_moment f.past f.now f.stands.0)) in
      let n = moment_from_in (history b w.0) f.now w.2 in
      let r1 = one_key w.0 n.0 f.now s.0 n.1 p.0 in
      let r2 = one_key a past e key m k in
      let same : s.0 ≡ key = same_Some s.0 key (sym (ap signed (sym p.1) ∙ r1) ∙ r2) in
      ap (λ o. is_first_key o key) s.1 ∙ (ap (λ x. same_key x key) same ∙ same_key-refl key)

-- A party that keeps its rules is conducted.

module _ (d : Deal) (b : Histories) (signed : ℕ → Option Hashkey) (v : ℕ) (legal : IsLegalBook d b) (rules : KeepsRules d b signed v) where
  legal_here : (a : ℕ) (past : List Entry) (e : Entry) → IsMoment (history b a) past e → IsLegal d a (history b a)
  legal_here a past e m = legal.legal a (below_of b a past e m)

  keep_call : (a : ℕ) (past : List Entry) (e : Entry) (c : Call) → IsMoment (history b a) past e → pick_call v e ≡ Some c → KeepsOwn d b signed v a past c
      → keeps d b v a past e.height (Some c) ≡ true
  unfolding keeps
  keep_call a past e (Publish t) m k r =
      let one = count_single (λ e. is_publish (pick_call v e)) (history b a) past e m (ap is_publish k) (λ q y n p. publish_first q y n
      (pick_call v y) refl p) in
      and_both (same_terms t (stated_terms d a) && (count_by (λ e. is_publish (pick_call v e)) (history b a) == 1)) _
      (and_both (same_terms t (stated_terms d a)) _ r.0 (eq-eqb _ 1 one)) r.1
    where
      publish_first : (q : List Entry) (y : Entry) → IsMoment (history b a) q y → (o : Option Call) → pick_call v y ≡ o → is_publish (pick_call v y) ≡ true
          → list_any (λ e. is_publish (pick_call v e)) q ≡ false
      publish_first q y n None h p = absurd (false≢true (sym (ap is_publish h) ∙ p))
      publish_first q y n (Some (Publish u)) h p = (rules.own a q y (Publish u) n h).2
      publish_first q y n (Some (Unlock u)) h p = absurd (false≢true (sym (ap is_publish h) ∙ p))
      publish_first q y n (Some Claim) h p = absurd (false≢true (sym (ap is_publish h) ∙ p))
      publish_first q y n (Some Refund) h p = absurd (false≢true (sym (ap is_publish h) ∙ p))
      publish_first q y n (Some (Transfer u z)) h p = absurd (false≢true (sym (ap is_publish h) ∙ p))
  keep_call a past e (Unlock key) m k r =
      let kr = rules.keys key.lock key r.2 in
      and_both (is_some (published past) && is_ready d b v && is_first_key (first_key b v key.lock) key && is_valid d a (lock_hashlock d key.lock) key) _
      (and_both (is_some (published past) && is_ready d b v && is_first_key (first_key b v key.lock) key) _
      (and_both (is_some (published past) && is_ready d b v) _
      (and_both (is_some (published past)) _ r.0 r.1)
      (first_signed b v signed (λ a past e key m k. (rules.own a past e (Unlock key) m k).2) key a past e m k))
      (kr.good.valid a r.3))
      kr.origin
  keep_call a past e Claim m k r = r.0
  keep_call a past e Refund m k r =
      let x = act_of d a (history b a) past e Refund v (legal_here a past e m) m k in
      let at : e.height ≡ height past = x.0.at in
      subst (λ n. has_expired d a past n ≡ true) (sym at) r.0
  keep_call a past e (Transfer to units) m k r = absurd r

  keep_at : (a : ℕ) (past : List Entry) (e : Entry) → IsMoment (history b a) past e → (o : Option Call) → pick_call v e ≡ o
      → keeps d b v a past e.height o ≡ true
  unfolding keeps
  keep_at a past e m None k = refl
  keep_at a past e m (Some c) k = keep_call a past e c m k (rules.own a past e c m k)

  pub rules_conduct : IsConducted d b v
  rules_conduct a =
      list_all-from (keeps_entry d b v a) (moments (history b a)) (λ m i. keep_at a m.past m.now (from_moments (history b a) m i) (pick_call v m.now) refl)

-- A history's next entry, if any.

pub data Next (d : Deal) (a : ℕ) (h k : List Entry) (s : Sender) (w : What) : Type 0 where
  Still : k ≡ h → Next d a h k s w
  Pushed : (e : Entry) → k ≡ h ++ e ∷ [] → e.sender ≡ s → e.what ≡ w → IsLegalMoment d a (record { past = h; now = e }) → Next d a h k s w

pub next_call : (d : Deal) (a : ℕ) (h : List Entry) (p : ℕ) (c : Call) → IsTrue (touches d p a) → IsTrue (fit d a c)
    → Next d a h (after_call d a p c h) (Party p) (Made c)
unfolding after_call
next_call d a h p c two fits = go (is_sender_full (history_reply d a h p c)) refl
  where
    go : (x : Bool) → is_sender_full (history_reply d a h p c) ≡ x → Next d a h (cond x h (h ++ appended_entry d a h p c ∷ [])) (Party p) (Made c)
    go true e = Still refl
    go false e = Pushed (appended_entry d a h p c) refl refl refl
        (record { of_the_two = two; fits = fits; height = refl; reply = refl; room = λ q. false≢true (sym e ∙ ap is_sender_full q) })

-- The book after it.

legal_at_push : (d : Deal) (a : ℕ) (h k : List Entry) (s : Sender) (w : What) → Next d a h k s w → IsLegal d a h → IsLegal d a k
legal_at_push d a h k s w (Still e) l = subst (IsLegal d a) (sym e) l
legal_at_push d a h k s w (Pushed e q es ew le) l = subst (IsLegal d a) (sym q) (all_moments_push (IsLegalMoment d a) h e l le)

pub history_same : (b : Histories) (a : ℕ) (h : List Entry) → a < length b → history (set b a h) a ≡ h
history_same b a h l = get_or-set_same b a h [] l

pub history_other : (b : Histories) (a c : ℕ) (h : List Entry) → c ≢ a → history (set b a h) c ≡ history b c
history_other b a c h n = get_or-set_other b a c h [] n

pub next_legal : (d : Deal) (b : Histories) (a : ℕ) (k : List Entry) (s : Sender) (w : What) → a < length b → Next d a (history b a) k s w
    → IsLegalBook d b → IsLegalBook d (set b a k)
next_legal d b a k s w below n l = record {
  one_each = length-set b a k ∙ l.one_each;
  legal = λ c lc. go c (same_or_not c a) (subst (λ z. c < z) (length-set b a k) lc);
}
  where
    go : (c : ℕ) → (c ≡ a) ⊎ (c ≢ a) → c < length b → IsLegal d c (history (set b a k) c)
    go c (inl e) lc =
        subst (λ z. IsLegal d z (history (set b a k) z)) (sym e)
        (subst (IsLegal d a) (sym (history_same b a k below)) (legal_at_push d a (history b a) k s w n (l.legal a below)))
    go c (inr e) lc = subst (IsLegal d c) (sym (history_other b a c k e)) (l.legal c lc)

pub next_begins : (d : Deal) (a : ℕ) (h k : List Entry) (s : Sender) (w : What) → Next d a h k s w → Begins h k
next_begins d a h k s w (Still e) = ([], e ∙ sym (append-nil h))
next_begins d a h k s w (Pushed e q es ew le) = (e ∷ [], q)

pub next_grows : (d : Deal) (b : Histories) (a : ℕ) (k : List Entry) (s : Sender) (w : What) → a < length b → Next d a (history b a) k s w → Grows b (set b a k)
next_grows d b a k s w below n c = go (same_or_not c a)
  where
    go : (c ≡ a) ⊎ (c ≢ a) → Begins (history b c) (history (set b a k) c)
    go (inl e) =
        subst (λ z. Begins (history b z) (history (set b a k) z)) (sym e)
        (subst (Begins (history b a)) (sym (history_same b a k below)) (next_begins d a (history b a) k s w n))
    go (inr e) = subst (Begins (history b c)) (sym (history_other b a c k e)) (begins_refl (history b c))

-- What a party keeps.

pub own_more : (d : Deal) (b c : Histories) (signed more : ℕ → Option Hashkey) (v a : ℕ) (past : List Entry) (call : Call) → Grows b c
    → ((i : ℕ) (key : Hashkey) → signed i ≡ Some key → more i ≡ Some key) → KeepsOwn d b signed v a past call → KeepsOwn d c more v a past call
own_more d b c signed more v a past (Publish t) g s r = (r.0, may-more d b c v g r.1, r.2)
own_more d b c signed more v a past (Unlock key) g s r = (r.0, is_ready-more d b c v g r.1, s key.lock key r.2, r.3, r.4)
own_more d b c signed more v a past Claim g s r = r
own_more d b c signed more v a past Refund g s r = r
own_more d b c signed more v a past (Transfer to units) g s r = r

pub key_more : (d : Deal) (b c : Histories) (v i : ℕ) (key : Hashkey) → Grows b c → KeepsKey d b v i key → KeepsKey d c v i key
key_more d b c v i key g k = record { below = k.below; good = k.good; origin = has_origin-more d b c v key g k.origin }

-- every call after the next entry keeps its rule, where the next entry does
pub rules_next : (d : Deal) (b : Histories) (a : ℕ) (k : List Entry) (s : Sender) (w : What) (signed more : ℕ → Option Hashkey) (v : ℕ) → a < length b
    → Next d a (history b a) k s w → KeepsRules d b signed v
    → ((i : ℕ) (key : Hashkey) → signed i ≡ Some key → more i ≡ Some key) → ((i : ℕ) (key : Hashkey) → more i ≡ Some key → KeepsKey d b v i key)
    → ((c : Call) → is_sender v s ≡ true → made_call w ≡ Some c → KeepsOwn d b more v a (history b a) c) → KeepsRules d (set b a k) more v
rules_next d b a k s w signed more v below n r keep keys own = record {
  own =
      λ c past e call m q. own_more d b (set b a k) more more v c past call (next_grows d b a k s w below n) (λ i key z.
      z) (at c past e call m q (same_or_not c a));
  keys = λ i key q. key_more d b (set b a k) v i key (next_grows d b a k s w below n) (keys i key q);
}
  where
    old : (c : ℕ) (past : List Entry) (e : Entry) (call : Call) → IsMoment (history b c) past e → pick_call v e ≡ Some call → KeepsOwn d b more v c past call
    old c past e call m q = own_more d b b signed more v c past call (λ z. begins_refl (history b z)) keep (r.own c past e call m q)

    here : (past : List Entry) (e : Entry) (call : Call) → Next d a (history b a) k s w → IsMoment k past e → pick_call v e ≡ Some call
        → KeepsOwn d b more v a past call
    here past e call (Still z) m q = old a past e call (subst (λ l. IsMoment l past e) z m) q
    here past e call (Pushed x z es ew le) m q = new (at_end (history b a) x past e (subst (λ l. IsMoment l past e) z m))
      where
        new : IsMoment (history b a) past e ⊎ ((past ≡ history b a) × (e ≡ x)) → KeepsOwn d b more v a past call
        new (inl i) = old a past e call i q
        new (inr p) =
            let parts = call_of_parts v x call (ap (pick_call v) (sym p.1) ∙ q) in
            subst (λ l. KeepsOwn d b more v a l call) (sym p.0) (own call (ap (is_sender v) (sym es) ∙ parts.0) (ap made_call (sym ew) ∙ parts.1))

    at : (c : ℕ) (past : List Entry) (e : Entry) (call : Call) → IsMoment (history (set b a k) c) past e → pick_call v e ≡ Some call → (c ≡ a) ⊎ (c ≢ a)
        → KeepsOwn d b more v c past call
    at c past e call m q (inl z) =
        subst (λ y. KeepsOwn d b more v y past call) (sym z)
        (here past e call n (subst (λ l. IsMoment l past e) (history_same b a k below) (subst (λ y. IsMoment (history (set b a k) y) past e) z m))
        q)
    at c past e call m q (inr z) = old c past e call (subst (λ l. IsMoment l past e) (history_other b a c k z) m) q

pub knows_all : (v : ℕ) (h : List Entry) → Knows v h h
knows_all v h = record { rest = []; whole = sym (append-nil h); others = λ e i. absurd i }
