-- What an accepted call of a legal history shows of the entries before it, and what makes a call
-- accepted.
use Rattle.std.proofs.Common.{◌≡◌, ◌≢◌, ℕ, ◌+◌, ◌<◌, ◌≤◌, ◌==◌, nat_lt, nat_le, Bool, true, false, cond, not, ◌&&◌, IsTrue, List, [], ◌∷◌, ◌++◌}
use Rattle.std.proofs.Common.{length, Option, Some, None, is_some, is_none, refl, sym, ap, ap₂, ◌∙◌, subst, arith, eqb-true, eq-eqb, ltb-true}
use Rattle.std.proofs.Common.{ltb-false}
use Rattle.std.specs.List.{list_all, AllByRecursion}
use Rattle.std.proofs.lemmas.Bool.{false≢true}
use Rattle.std.proofs.lemmas.List.Sums.{sum_by-append}
use Rattle.swap_base.specs.Lists.{IsMoment}
use Rattle.swap_base.proofs.Lists.{first_at, first_given_answer-past, first_given_answer-now, at_moment, all_moments_front, Order, Earlier, Same, Later, moments_in_order}
use Rattle.swap_base.proofs.Lists.{list_all-in, list_all-from, some_fails_all, and_parts}
use Rattle.swap_digraph.specs.declared.deal.Deal.{Deal}
use Rattle.escrow_core.specs.declared.terms.Terms.{Terms}
use Rattle.hashkey_path.specs.declared.hashkey.Hashkey.{Hashkey}
use Rattle.ledger_core.specs.declared.entry.Call.{Call}
use Rattle.ledger_core.specs.declared.entry.Call.TheVariants.{Publish, Unlock, Claim, Refund, Transfer}
use Rattle.ledger_core.specs.declared.entry.Sender.{Sender}
use Rattle.ledger_core.specs.declared.entry.Sender.TheVariants.{Party, Clock}
use Rattle.ledger_core.specs.declared.entry.What.{What}
use Rattle.ledger_core.specs.declared.entry.What.TheVariants.{Call as Made, Tick}
use Rattle.escrow_core.specs.declared.reply.Reply.{Reply}
use Rattle.escrow_core.specs.declared.reply.Reply.TheVariants.{Accepted, SenderFull}
use Rattle.ledger_core.specs.declared.entry.Entry.{Entry}
use Rattle.swap_digraph.specs.Deal.{party, counterparty, locks, path_limit, touches}
use Rattle.hashkey_path.specs.Hashkey.{is_wrong_secret, is_wrong_path, is_wrong_signature}
use Rattle.escrow_core.specs.Table.{first_row}
use Rattle.escrow_core.specs.Terms.{terms_hashlock, last_unlock, refund_expiry}
use Rattle.ledger_core.specs.declared.facts.Settlement.{Settlement}
use Rattle.ledger_core.specs.declared.facts.Settlement.TheVariants.{Claimed, Refunded}
use Rattle.ledger_core.specs.History.{made_call}
use Rattle.ledger_core.specs.History.{entry_ticks, height, accepted_call, accepted, Publication, publication, published, Opening, opening, opened, settling}
use Rattle.ledger_core.specs.History.{settled, is_open, triggered, the_terms, publication_terms, is_full, rows, history_reply, fit, IsLegalEntry, IsLegalMoment}
use Rattle.ledger_core.specs.History.{IsLegal, balance}

-- The table of replies.

abbrev is_refusal : Reply → Bool
is_refusal Accepted = false
is_refusal _ = true

abbrev pub AreClear : List (Bool × Reply) → Type 0
AreClear rs = AllByRecursion (λ row. row.0 ≡ false) rs

clear_head : (b : Bool) (r : Reply) (rs : List (Bool × Reply)) → is_refusal r ≡ true → cond b r (first_row rs) ≡ Accepted
    → (first_row rs ≡ Accepted → AreClear rs) → (b ≡ false) × AreClear rs
clear_head true r rs h e rest = absurd (false≢true (ap is_refusal (sym e) ∙ h))
clear_head false r rs h e rest = (refl, rest e)

-- where the reply is Accepted, no row applies
pub clear : (rs : List (Bool × Reply)) → list_all (λ row. is_refusal row.1) rs ≡ true → first_row rs ≡ Accepted → AreClear rs
clear [] h e = tt
clear (row ∷ rs) h e = let k = and_parts (is_refusal row.1) (list_all (λ row. is_refusal row.1) rs) h in clear_head row.0 row.1 rs k.0 e (clear rs k.1)

pub from_clear : (rs : List (Bool × Reply)) → AreClear rs → first_row rs ≡ Accepted
from_clear [] h = refl
from_clear (row ∷ rs) h = rw h.0 (from_clear rs h.1)

only_refusals : (d : Deal) (a : ℕ) (past : List Entry) (p : ℕ) (c : Call) → list_all (λ row. is_refusal row.1) (rows d a past p c) ≡ true
unfolding rows
only_refusals d a past p (Publish t) = refl
only_refusals d a past p (Unlock key) = refl
only_refusals d a past p Claim = refl
only_refusals d a past p Refund = refl
only_refusals d a past p (Transfer to units) = refl

pub accepted_clear : (d : Deal) (a : ℕ) (past : List Entry) (p : ℕ) (c : Call) → history_reply d a past p c ≡ Accepted → AreClear (rows d a past p c)
accepted_clear d a past p c e = clear (rows d a past p c) (only_refusals d a past p c) e

-- A call at its moment.

pub record Act (d : Deal) (a : ℕ) (past : List Entry) (e : Entry) (c : Call) : Type 0 where
  pub by : ℕ
  pub sender : e.sender ≡ Party by
  pub what : e.what ≡ Made c
  pub at : e.height ≡ height past
  pub of_the_two : IsTrue (touches d by a)
  pub fits : IsTrue (fit d a c)
  pub reply : e.reply ≡ history_reply d a past by c
  pub room : e.reply ≢ SenderFull

made : (d : Deal) (a : ℕ) (past : List Entry) (e : Entry) (c : Call) (s : Sender) (w : What) → e.sender ≡ s → e.what ≡ w → made_call w ≡ Some c
    → IsLegalEntry d a past s w e.height e.reply → Act d a past e c
made d a past e c (Party p) (Made c') es ew k l =
    let same : c' ≡ c = cc in
    record {
      by = p;
      sender = es;
      what = ew ∙ ap Made same;
      at = l.height;
      of_the_two = l.of_the_two;
      fits = subst (λ x. IsTrue (fit d a x)) same l.fits;
      reply = l.reply ∙ ap (history_reply d a past p) same;
      room = l.room;
    }
made d a past e c Clock (Made c') es ew k l = absurd l
made d a past e c (Party p) (Tick n) es ew k l = absurd l
made d a past e c Clock (Tick n) es ew k l = absurd (cc k)

pub act_at : (d : Deal) (a : ℕ) (h past : List Entry) (e : Entry) (c : Call) → IsLegal d a h → IsMoment h past e → made_call e.what ≡ Some c
    → Act d a past e c
act_at d a h past e c l m k = made d a past e c e.sender e.what refl refl k (at_moment (IsLegalMoment d a) h past e l m)

accepted_parts : (w : What) (r : Reply) (c : Call) → accepted_call w r ≡ Some c → (made_call w ≡ Some c) × (r ≡ Accepted)
accepted_parts (Made c') Accepted c e = (e, refl)
accepted_parts _ _ c e = absurd (cc e)

-- an accepted call is clear of its rows
pub clear_at : (d : Deal) (a : ℕ) (h past : List Entry) (e : Entry) (c : Call) → IsLegal d a h → IsMoment h past e → accepted e ≡ Some c
    → (act : Act d a past e c) × AreClear (rows d a past act.by c)
clear_at d a h past e c l m k =
    let parts = accepted_parts e.what e.reply c k in
    let act = act_at d a h past e c l m parts.0 in
    (act, clear (rows d a past act.by c) (only_refusals d a past act.by c) (sym act.reply ∙ parts.1))

-- An accepted call, with what stood before it.
pub record Done (d : Deal) (a : ℕ) (h : List Entry) (c : Call) (t : ℕ) : Type 0 where
  pub past : List Entry
  pub now : Entry
  pub stands : IsMoment h past now
  pub act : Act d a past now c
  pub took : accepted now ≡ Some c
  pub at : t ≡ height past
  pub clear : AreClear (rows d a past act.by c)

pub done_at : (d : Deal) (a : ℕ) (h past : List Entry) (e : Entry) (c : Call) (t : ℕ) → IsLegal d a h → IsMoment h past e → accepted e ≡ Some c
    → e.height ≡ t → Done d a h c t
done_at d a h past e c t l m k te =
    let k' = clear_at d a h past e c l m k in
    record {
      past = past;
      now = e;
      stands = m;
      act = k'.0;
      took = k;
      at = sym te ∙ k'.0.at;
      clear = k'.1;
    }

publication_parts : (t : ℕ) (o : Option Call) (p : Publication) → publication t o ≡ Some p → (o ≡ Some (Publish p.terms)) × (t ≡ p.height)
publication_parts t (Some (Publish terms)) p e = (cc, cc)
publication_parts t _ p e = absurd (cc e)

pub published_done : (d : Deal) (a : ℕ) (h : List Entry) (p : Publication) → IsLegal d a h → published h ≡ Some p → Done d a h (Publish p.terms) p.height
published_done d a h p l e =
    let f = first_at (λ e. publication e.height (accepted e)) h p e in
    let parts = publication_parts f.now.height (accepted f.now) p f.gives in
    done_at d a h f.past f.now (Publish p.terms) p.height l f.stands parts.0 parts.1

opening_parts : (i t : ℕ) (o : Option Call) (w : Opening) → opening i t o ≡ Some w → (o ≡ Some (Unlock w.key)) × (t ≡ w.height) × (w.key.lock ≡ i)
opening_parts i t (Some (Unlock key)) w e = go (key.lock == i) refl e
  where
    go : (b : Bool) → (key.lock == i) ≡ b → cond b (Some (record { height = t; key = key })) None ≡ Some w
        → (Some (Unlock key) ≡ Some (Unlock w.key)) × (t ≡ w.height) × (w.key.lock ≡ i)
    go true h k = (cc, cc, let same : key ≡ w.key = cc in ap (λ x. x.lock) (sym same) ∙ eqb-true key.lock i h)
    go false h k = absurd (cc k)
opening_parts i t _ w e = absurd (cc e)

pub opened_done : (d : Deal) (a : ℕ) (h : List Entry) (i : ℕ) (w : Opening) → IsLegal d a h → opened h i ≡ Some w
    → Done d a h (Unlock w.key) w.height × (w.key.lock ≡ i)
opened_done d a h i w l e =
    let f = first_at (λ e. opening i e.height (accepted e)) h w e in
    let parts = opening_parts i f.now.height (accepted f.now) w f.gives in
    (done_at d a h f.past f.now (Unlock w.key) w.height l f.stands parts.0 parts.1, parts.2)

settling_claim : (o : Option Call) → settling o ≡ Some Claimed → o ≡ Some Claim
settling_claim (Some Claim) e = refl
settling_claim (Some Refund) e = absurd (cc e)
settling_claim _ e = absurd (cc e)

settling_refund : (o : Option Call) → settling o ≡ Some Refunded → o ≡ Some Refund
settling_refund (Some Refund) e = refl
settling_refund (Some Claim) e = absurd (cc e)
settling_refund _ e = absurd (cc e)

pub claimed_done : (d : Deal) (a : ℕ) (h : List Entry) → IsLegal d a h → settled h ≡ Some Claimed → (t : ℕ) × Done d a h Claim t
claimed_done d a h l e =
    let f = first_at (λ e. settling (accepted e)) h Claimed e in
    (f.now.height, done_at d a h f.past f.now Claim f.now.height l f.stands (settling_claim (accepted f.now) f.gives) refl)

pub refunded_done : (d : Deal) (a : ℕ) (h : List Entry) → IsLegal d a h → settled h ≡ Some Refunded → (t : ℕ) × Done d a h Refund t
refunded_done d a h l e =
    let f = first_at (λ e. settling (accepted e)) h Refunded e in
    (f.now.height, done_at d a h f.past f.now Refund f.now.height l f.stands (settling_refund (accepted f.now) f.gives) refl)

-- What the clear rows of an accepted call say.

pub not-false : (b : Bool) → not b ≡ false → b ≡ true
not-false true h = refl
not-false false h = absurd (cc h)

some_of : {A : Type 0} (o : Option A) → is_none o ≡ false → (x : A) × (o ≡ Some x)
some_of None h = absurd (cc h)
some_of (Some x) h = (x, refl)

none_of : {A : Type 0} (o : Option A) → is_some o ≡ false → o ≡ None
none_of None h = refl
none_of (Some x) h = absurd (cc h)

pub record OfPublish (d : Deal) (a : ℕ) (past : List Entry) (by : ℕ) (t : Terms) : Type 0 where
  pub party : by ≡ party d a
  pub first : published past ≡ None
  pub funds : t.amount ≤ balance d a past by

pub of_publish : (d : Deal) (a : ℕ) (past : List Entry) (by : ℕ) (t : Terms) → AreClear (rows d a past by (Publish t)) → OfPublish d a past by t
unfolding rows
of_publish d a past by t k = record {
  party = eqb-true by (party d a) (not-false (by == party d a) k.1.0);
  first = none_of (published past) k.1.1.0;
  funds = omega (arith, ltb-false (balance d a past by) t.amount k.1.1.1.0);
}

pub record OfUnlock (d : Deal) (a : ℕ) (past : List Entry) (by : ℕ) (key : Hashkey) : Type 0 where
  pub contract : Publication
  pub published : published past ≡ Some contract
  pub unsettled : settled past ≡ None
  pub counterparty : by ≡ counterparty d a
  pub closed : is_open past key.lock ≡ false
  pub secret : is_wrong_secret (terms_hashlock contract.terms key.lock) key ≡ false
  pub path : is_wrong_path d a d.mode key ≡ false
  pub signature : is_wrong_signature d d.mode key ≡ false
  pub in_time : height past ≤ last_unlock d.mode contract.terms key

pub of_unlock : (d : Deal) (a : ℕ) (past : List Entry) (by : ℕ) (key : Hashkey) → AreClear (rows d a past by (Unlock key)) → OfUnlock d a past by key
unfolding rows
of_unlock d a past by key k =
    let c = some_of (published past) k.1.0 in
    let same : the_terms past ≡ c.0.terms = ap publication_terms c.1 in
    record {
      contract = c.0;
      published = c.1;
      unsettled = none_of (settled past) k.1.1.0;
      counterparty = eqb-true by (counterparty d a) (not-false (by == counterparty d a) k.1.1.1.0);
      closed = k.1.1.1.1.0;
      secret = subst (λ t. is_wrong_secret (terms_hashlock t key.lock) key ≡ false) same k.1.1.1.1.1.0;
      path = k.1.1.1.1.1.1.0;
      signature = k.1.1.1.1.1.1.1.0;
      in_time = subst (λ t. height past ≤ last_unlock d.mode t key) same (ltb-false (last_unlock d.mode (the_terms past) key)
          (height past) k.1.1.1.1.1.1.1.1.0);
    }

pub record OfClaim (d : Deal) (a : ℕ) (past : List Entry) (by : ℕ) : Type 0 where
  pub contract : Publication
  pub published : published past ≡ Some contract
  pub unsettled : settled past ≡ None
  pub counterparty : by ≡ counterparty d a
  pub triggered : triggered d past ≡ true

pub of_claim : (d : Deal) (a : ℕ) (past : List Entry) (by : ℕ) → AreClear (rows d a past by Claim) → OfClaim d a past by
unfolding rows
of_claim d a past by k =
    let c = some_of (published past) k.1.0 in
    record {
      contract = c.0;
      published = c.1;
      unsettled = none_of (settled past) k.1.1.0;
      counterparty = eqb-true by (counterparty d a) (not-false (by == counterparty d a) k.1.1.1.0);
      triggered = not-false (triggered d past) k.1.1.1.1.0;
    }

pub record OfRefund (d : Deal) (a : ℕ) (past : List Entry) (by : ℕ) : Type 0 where
  pub contract : Publication
  pub published : published past ≡ Some contract
  pub unsettled : settled past ≡ None
  pub party : by ≡ party d a
  pub untriggered : triggered d past ≡ false
  pub expired : refund_expiry d a contract.terms (is_open past) < height past

pub of_refund : (d : Deal) (a : ℕ) (past : List Entry) (by : ℕ) → AreClear (rows d a past by Refund) → OfRefund d a past by
unfolding rows
of_refund d a past by k =
    let c = some_of (published past) k.1.0 in
    let same : the_terms past ≡ c.0.terms = ap publication_terms c.1 in
    let late : refund_expiry d a (the_terms past) (is_open past) + 1 ≤ height past =
    ltb-false (height past) (refund_expiry d a (the_terms past) (is_open past) + 1) k.1.1.1.1.1.0 in
    record {
      contract = c.0;
      published = c.1;
      unsettled = none_of (settled past) k.1.1.0;
      party = eqb-true by (party d a) (not-false (by == party d a) k.1.1.1.0);
      untriggered = k.1.1.1.1.0;
      expired = subst (λ t. refund_expiry d a t (is_open past) < height past) same (omega arith);
    }

pub of_transfer : (d : Deal) (a : ℕ) (past : List Entry) (by to units : ℕ) → AreClear (rows d a past by (Transfer to units)) → units ≤ balance d a past by
unfolding rows
of_transfer d a past by to units k = ltb-false (balance d a past by) units k.1.0

-- Heights only grow.

pub height_append : (xs ys : List Entry) → height (xs ++ ys) ≡ height xs + height ys
height_append xs ys = sum_by-append (λ e. entry_ticks e.what) xs ys

pub height-past : (h past : List Entry) (e : Entry) → IsMoment h past e → height past ≤ height h
height-past h past e m =
    let k : height h ≡ height past + height (e ∷ m.0) = ap height m.1 ∙ height_append past (e ∷ m.0) in
    omega arith

-- What stands in a prefix stands in the whole.

pub published-past : (h past : List Entry) (e : Entry) (p : Publication) → IsMoment h past e → published past ≡ Some p → published h ≡ Some p
published-past h past e p m k = first_given_answer-past (λ e. publication e.height (accepted e)) h past e p m k

pub settled-past : (h past : List Entry) (e : Entry) (s : Settlement) → IsMoment h past e → settled past ≡ Some s → settled h ≡ Some s
settled-past h past e s m k = first_given_answer-past (λ e. settling (accepted e)) h past e s m k

pub is_some-of : {A : Type 0} (o : Option A) → is_some o ≡ true → (x : A) × (o ≡ Some x)
is_some-of None h = absurd (cc h)
is_some-of (Some x) h = (x, refl)

pub opened-past : (h past : List Entry) (e : Entry) (i : ℕ) → IsMoment h past e → is_open past i ≡ true → is_open h i ≡ true
opened-past h past e i m k =
    let o = is_some-of (opened past i) k in
    ap is_some (first_given_answer-past (λ e. opening i e.height (accepted e)) h past e o.0 m o.1)

pub triggered-past : (d : Deal) (h past : List Entry) (e : Entry) → IsMoment h past e → triggered d past ≡ true → triggered d h ≡ true
triggered-past d h past e m k =
    list_all-from (is_open h) (locks d) (λ i w. opened-past h past e i m (list_all-in (is_open past) (locks d) i k w))

opening-now : (i t : ℕ) (o : Option Call) (key : Hashkey) → o ≡ Some (Unlock key) → key.lock ≡ i → opening i t o ≡ Some (record { height = t; key = key })
opening-now i t o key e l = ap (opening i t) e ∙ ap (λ b. cond b (Some (record { height = t; key = key })) None) (eq-eqb key.lock i l)

pub opened-now : (h past : List Entry) (e : Entry) (key : Hashkey) → IsMoment h past e → accepted e ≡ Some (Unlock key) → is_open h key.lock ≡ true
opened-now h past e key m k =
    first_given_answer-now (λ x. opening key.lock x.height (accepted x)) h past e (record {
      height = e.height;
      key =
          key;
    }) m (opening-now key.lock e.height (accepted e) key k refl)

pub settled-now : (h past : List Entry) (e : Entry) (s : Settlement) → IsMoment h past e → settling (accepted e) ≡ Some s → is_some (settled h) ≡ true
settled-now h past e s m k = first_given_answer-now (λ x. settling (accepted x)) h past e s m k

-- An accepted refund and all locks open do not go together.
pub refunded-untriggered : (d : Deal) (a : ℕ) (h : List Entry) → IsLegal d a h → settled h ≡ Some Refunded → triggered d h ≡ true → ⊥
refunded-untriggered d a h l s t =
    let r = (refunded_done d a h l s).1 in
    let of_r = of_refund d a r.past r.act.by r.clear in
    let shut = some_fails_all (is_open r.past) (locks d) of_r.untriggered in
    let i = shut.0 in
    let o = is_some-of (opened h i) (list_all-in (is_open h) (locks d) i t shut.1) in
    let u = opened_done d a h i o.0 l o.1 in
    let of_u = of_unlock d a u.0.past u.0.act.by o.0.key u.0.clear in
    go r u.0 of_u (u.1) shut.2 (moments_in_order h u.0.past r.past u.0.now r.now u.0.stands r.stands)
  where
    go : {i t t' : ℕ} {key : Hashkey} (r : Done d a h Refund t) (u : Done d a h (Unlock key) t') → OfUnlock d a u.past u.act.by key → key.lock ≡ i
        → is_open r.past i ≡ false → Order u.past u.now r.past r.now → ⊥
    go {key = key} r u of_u e shut (Earlier m) = false≢true (sym shut ∙ (ap (is_open r.past) (sym e) ∙ opened-now r.past u.past u.now key m u.took))
    go r u of_u e shut (Same p n) =
        let k : Some (Unlock _) ≡ Some Refund = sym u.took ∙ (ap accepted n ∙ r.took) in
        cc k
    go r u of_u e shut (Later m) = false≢true (sym (ap is_some of_u.unsettled) ∙ settled-now u.past r.past r.now Refunded m (ap settling r.took))

-- A call that no row refuses is accepted.

pub full_reply : (d : Deal) (a : ℕ) (past : List Entry) (p : ℕ) (c : Call) → is_full past p ≡ true → history_reply d a past p c ≡ SenderFull
unfolding rows
full_reply d a past p (Publish t) e = rw e refl
full_reply d a past p (Unlock key) e = rw e refl
full_reply d a past p Claim e = rw e refl
full_reply d a past p Refund e = rw e refl
full_reply d a past p (Transfer to units) e = rw e refl

pub not-true : (b : Bool) → (b ≡ true → ⊥) → b ≡ false
not-true true h = absurd (h refl)
not-true false h = refl

pub not-full : (d : Deal) (a : ℕ) (past : List Entry) (e : Entry) (c : Call) (act : Act d a past e c) → is_full past act.by ≡ false
not-full d a past e c act = not-true (is_full past act.by) (λ k. act.room (act.reply ∙ full_reply d a past act.by c k))

pub accepted-now : (e : Entry) (c : Call) → e.what ≡ Made c → e.reply ≡ Accepted → accepted e ≡ Some c
accepted-now e c w r = ap₂ accepted_call w r

pub not-true-of : (b : Bool) → not b ≡ true → b ≡ false
not-true-of true h = absurd (cc h)
not-true-of false h = refl

pub legal-past : (d : Deal) (a : ℕ) (h past : List Entry) (e : Entry) → IsLegal d a h → IsMoment h past e → IsLegal d a past
legal-past d a h past e l m = all_moments_front (IsLegalMoment d a) past (e ∷ m.0) (subst (IsLegal d a) m.1 l)

pub lock-below : (d : Deal) (a : ℕ) (key : Hashkey) → IsTrue (fit d a (Unlock key)) → key.lock < length d.leaders
lock-below d a key f =
    let k =
    and_parts (nat_lt key.lock (length d.leaders) && nat_le (length key.path) (path_limit d) && nat_le (length key.sigs) (path_limit d))
    (list_all (λ v. nat_lt v d.graph.n) key.path) f in
    let k2 = and_parts (nat_lt key.lock (length d.leaders) && nat_le (length key.path) (path_limit d)) (nat_le (length key.sigs) (path_limit d)) k.0 in
    let k3 = and_parts (nat_lt key.lock (length d.leaders)) (nat_le (length key.path) (path_limit d)) k2.0 in
    ltb-true key.lock (length d.leaders) k3.0
