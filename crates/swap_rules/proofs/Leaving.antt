-- What a triggered arc that leaves a party says of it: it is ready, and it knows every lock.
use Rattle.std.proofs.Common.{◌≡◌, ℕ, suc, ◌<◌, ◌≤◌, ◌==◌, nat_lt, Bool, true, false, cond, not, ◌&&◌, ◌||◌, List, [], ◌∷◌, length, Option, Some, None}
use Rattle.std.proofs.Common.{max, if◌then◌else◌, is_some, refl, sym, ap, ◌∙◌, subst, inl, inr, arith, eq-eqb, ltb-true, get_or, slice_index_or}
use Rattle.std.specs.List.{list_any, flat_map}
use Rattle.std.proofs.lemmas.Bool.Decides.{nat_tests}
use Rattle.std.specs.Str.{bytes_eq}
use Rattle.swap_base.specs.Lists.{IsElement, IsMoment}
use Rattle.swap_base.proofs.Lists.{first_given_answer-in, any_at, list_all-in, in_range, some_passes, some_fails, in_from_moment}
use Rattle.swap_digraph.specs.declared.deal.Deal.{Deal}
use Rattle.swap_digraph.specs.declared.deal.Mode.TheVariants.{Timelocks}
use Rattle.swap_digraph.specs.Graph.{leaving, entering, is_listed}
use Rattle.swap_digraph.specs.Deal.{locks, leads, lock_hashlock}
use Rattle.hash_signature.specs.Signature.{hashed_value}
use Rattle.hashkey_path.specs.declared.hashkey.Hashkey.{Hashkey}
use Rattle.hashkey_path.specs.Hashkey.{is_wrong_secret, is_wrong_path, is_valid}
use Rattle.escrow_core.specs.Terms.{stated_terms, last_unlock, terms_hashlock}
use Rattle.ledger_core.specs.declared.entry.Call.{Call}
use Rattle.ledger_core.specs.declared.entry.Call.TheVariants.{Publish, Unlock, Claim, Refund, Transfer}
use Rattle.ledger_core.specs.declared.entry.Entry.{Entry}
use Rattle.ledger_core.specs.History.{height, accepted, Publication, published, Opening, opened, is_open}
use Rattle.ledger_core.specs.Book.{Histories, history, IsLegalBook}
use Rattle.swap_rules.specs.declared.outcome.Outcome.TheVariants.{NoDeal, FreeRide, Underwater, Deal as WholeDeal, Discount}
use Rattle.swap_rules.specs.Party.{is_ready, ready_height, is_triggered, leads_one, pick_call, unlock_hashkey, first_key, opens_without_party}
use Rattle.swap_rules.specs.Conduct.{IsConducted, carries}
use Rattle.swap_rules.specs.Forged.{forges}
use Rattle.swap_rules.specs.Outcome.{is_got, got, lost, outcome}
use Rattle.swap_rules.proofs.Entering.{DueUnlock, valid_of_unlock}
use Rattle.swap_digraph.proofs.Paths.{is_listed-true}
use Rattle.swap_rules.proofs.Words.{and_three, leaves}
use Rattle.swap_rules.specs.Late.{unlock_base, when, reference_height}
use Rattle.swap_rules.specs.declared.finding.Rule.TheVariants.{Unlock as ToUnlock}
use Rattle.ledger_core.proofs.History.{opened_done, of_unlock, published-past, is_some-of, not-false}
use Rattle.swap_rules.proofs.Calls.{legal_at, OwnPublish, own_publish, or-left_false, unlock_ready}

-- The outcome.

underwater_parts : (x y z u : Bool) → cond x (cond y NoDeal FreeRide) (cond z Underwater (cond u WholeDeal Discount)) ≡ Underwater → (x ≡ false) × (z ≡ true)
underwater_parts true true z u e = absurd (cc e)
underwater_parts true false z u e = absurd (cc e)
underwater_parts false y true u e = (refl, refl)
underwater_parts false y false true e = absurd (cc e)
underwater_parts false y false false e = absurd (cc e)

pub underwater_lost : (d : Deal) (b : Histories) (v : ℕ) → outcome d b v ≡ Underwater → (a : ℕ) × IsElement a (leaving d.graph v) × (is_triggered d b a ≡ true)
unfolding outcome
underwater_lost d b v e =
    let k =
    underwater_parts (lost d b v == 0) (got d b v == 0) (nat_lt (got d b v) (length (entering d.graph v)))
    (lost d b v == length (leaving d.graph v)) e in
    some_passes (is_triggered d b) (leaving d.graph v) (grind (arith, nat_tests))

pub underwater_missing : (d : Deal) (b : Histories) (v : ℕ) → outcome d b v ≡ Underwater → (a : ℕ) × IsElement a (entering d.graph v) × (is_got d b a ≡ false)
unfolding outcome
underwater_missing d b v e =
    let k =
    underwater_parts (lost d b v == 0) (got d b v == 0) (nat_lt (got d b v) (length (entering d.graph v)))
    (lost d b v == length (leaving d.graph v)) e in
    some_fails (is_got d b) (entering d.graph v) (ltb-true (got d b v) (length (entering d.graph v)) k.1)

-- A party with a triggered leaving arc is ready.

find_place : (v : ℕ) (vs : List ℕ) (z : ℕ) → IsElement v vs → (i : ℕ) × (i < length vs) × (get_or vs i z ≡ v)
find_place v [] z i = absurd i
find_place v (w ∷ vs) z (inl e) = (0, omega arith, sym e)
find_place v (w ∷ vs) z (inr i) = let r = find_place v vs z i in (suc r.0, omega arith, r.2)

carried : (secret : List ℕ) (o : Option Call) → carries secret o ≡ true → (key : Hashkey) × (o ≡ Some (Unlock key))
carried secret (Some (Unlock key)) k = (key, refl)
carried secret None k = absurd (cc k)
carried secret (Some (Publish t)) k = absurd (cc k)
carried secret (Some Claim) k = absurd (cc k)
carried secret (Some Refund) k = absurd (cc k)
carried secret (Some (Transfer to units)) k = absurd (cc k)

not-forged : (x y z : Bool) → (x && y && not z) ≡ false → x ≡ true → y ≡ true → z ≡ true
not-forged true true true e h k = refl
not-forged true true false e h k = absurd (cc e)
not-forged true false z e h k = absurd (cc k)
not-forged false y z e h k = absurd (cc h)

-- a call of v that a leader's unforged open lock shows
pub record Shown (b : Histories) (v : ℕ) : Type 0 where
  pub entry : Entry
  pub key : Hashkey
  pub stands : IsElement entry (flat_map (λ h. h) b)
  pub called : pick_call v entry ≡ Some (Unlock key)

pub shown_timelocks : (d : Deal) (b : Histories) (v : ℕ) (key : Hashkey) → forges Timelocks d b v (Some (Unlock key)) ≡ false
    → is_wrong_secret (lock_hashlock d key.lock) key ≡ false → leads d v key.lock ≡ true → Shown b v
unfolding forges
shown_timelocks d b v key f s l =
    let any = not-forged (bytes_eq (hashed_value key.secret) (slice_index_or d.hashlocks key.lock [])) (leads d v key.lock) _ f (not-false _ s) l in
    let e = any_at (λ e. carries key.secret (pick_call v e)) (flat_map (λ h. h) b) any in
    let c = carried key.secret (pick_call v e.now) e.passes in
    record { entry = e.now; key = c.0; stands = subst (IsElement e.now) (sym e.stands.1) (in_from_moment e.past e.now e.stands.0); called = c.1 }

module _ (d : Deal) (b : Histories) (v : ℕ) (legal : IsLegalBook d b) (conducted : IsConducted d b v)
    (some_lock : 0 < length d.leaders) where
  -- the accepted unlock of an open lock of an arc that leaves v, under the correct terms
  pub record Opener (a i : ℕ) (opening : Opening) : Type 0 where
    pub opened : opened (history b a) i ≡ Some opening
    pub past : List Entry
    pub now : Entry
    pub stands : IsMoment (history b a) past now
    pub took : accepted now ≡ Some (Unlock opening.key)
    pub lock : opening.key.lock ≡ i
    pub contract : Publication
    pub published : published (history b a) ≡ Some contract
    pub correct : contract.terms ≡ stated_terms d a
    pub valid : is_valid d a (lock_hashlock d opening.key.lock) opening.key ≡ true
    pub secret : is_wrong_secret (lock_hashlock d opening.key.lock) opening.key ≡ false
    pub path : is_wrong_path d a d.mode opening.key ≡ false
    pub in_time : opening.height ≤ last_unlock d.mode (stated_terms d a) opening.key

  pub opener_at : (a i : ℕ) → IsElement a (leaving d.graph v) → (o : Opening) → opened (history b a) i ≡ Some o → Opener a i o
  opener_at a i w o e =
      let out = leaves d v a w in
      let u = opened_done d a (history b a) i o (legal_at d b v conducted legal a out.0) e in
      let of_u = of_unlock d a u.0.past u.0.act.by o.key u.0.clear in
      let pub_whole = published-past (history b a) u.0.past u.0.now of_u.contract u.0.stands of_u.published in
      let terms : of_u.contract.terms ≡ stated_terms d a = OwnPublish.correct (own_publish d b v conducted legal a of_u.contract w pub_whole) in
      let on_time : height u.0.past ≤ last_unlock d.mode (stated_terms d a) o.key = subst
      (λ t. height u.0.past ≤ last_unlock d.mode t o.key) terms of_u.in_time in
      let at : o.height ≡ height u.0.past = u.0.at in
      record {
        opened = e;
        past = u.0.past;
        now = u.0.now;
        stands = u.0.stands;
        took = u.0.took;
        lock = u.1;
        contract = of_u.contract;
        published = pub_whole;
        correct = terms;
        valid = subst (λ t. is_valid d a (terms_hashlock t o.key.lock) o.key ≡ true) terms (valid_of_unlock d a u.0.past u.0.act.by o.key of_u);
        secret = subst (λ t. is_wrong_secret (terms_hashlock t o.key.lock) o.key ≡ false) terms of_u.secret;
        path = of_u.path;
        in_time = omega arith;
      }

  pub opener : (a i : ℕ) → IsElement a (leaving d.graph v) → is_triggered d b a ≡ true → i < length d.leaders → (o : Opening) × Opener a i o
  opener a i w t l =
      let o = is_some-of (opened (history b a) i) (list_all-in (is_open (history b a)) (locks d) i t (in_range i (length d.leaders) l)) in
      (o.0, opener_at a i w o.0 o.1)

  -- a follower by the rule of its publish, a leader by its own lock, which nobody opens without it
  pub triggered_ready : (shown : (a i : ℕ) → i < length d.leaders → IsElement a (leaving d.graph v) → leads d v i ≡ true → (o : Opening) → Opener a i o
      → Shown b v) → (a : ℕ) → IsElement a (leaving d.graph v) → is_triggered d b a ≡ true → is_ready d b v ≡ true
  triggered_ready shown a w t = go (leads_one d v) refl
    where
      go : (x : Bool) → leads_one d v ≡ x → is_ready d b v ≡ true
      go false e =
          let o = opener a 0 w t some_lock in
          let p = own_publish d b v conducted legal a o.1.contract w o.1.published in
          or-left_false d b v conducted legal (leads_one d v) (is_ready d b v) e p.may
      go true e =
          let place = find_place v d.leaders d.graph.n (is_listed-true v d.leaders e) in
          let l : leads d v place.0 ≡ true = eq-eqb _ v place.2 in
          let o = opener a place.0 w t place.1 in
          let s = shown a place.0 place.1 w l o.0 o.1 in
          unlock_ready d b v conducted legal s.entry s.key s.stands s.called

-- Lock i is v's own, or v has opened it, or it is opened on a leaving arc by a path without v.
abbrev pub is_known : Deal → Histories → ℕ → ℕ → Bool
is_known d b v i = leads d v i || is_some (first_key b v i) || list_any (λ c. opens_without_party v (opened (history b c) i)) (leaving d.graph v)

-- How a party passes locks on, in either mode.
pub record Passing (d : Deal) (b : Histories) (v : ℕ) : Type 0 where
  pub ready : (a : ℕ) → IsElement a (leaving d.graph v) → is_triggered d b a ≡ true → is_ready d b v ≡ true
  pub known : (c i : ℕ) → IsElement c (leaving d.graph v) → is_open (history b c) i ≡ true → is_known d b v i ≡ true
  pub due : is_ready d b v ≡ true → (a i : ℕ) → IsElement a (entering d.graph v) → i < length d.leaders → is_known d b v i ≡ true → DueUnlock d b v a i

-- What an enabled unlock shows.
pub record Enabled (d : Deal) (b : Histories) (v i a : ℕ) : Type 0 where
  pub enters : IsElement a (entering d.graph v)
  pub ready : is_ready d b v ≡ true
  pub known : is_known d b v i ≡ true

when_true : (t : Bool) (n r : ℕ) → when t n ≡ Some r → t ≡ true
when_true true n r e = refl
when_true false n r e = absurd (cc e)

pub enabled_parts : (d : Deal) (b : Histories) (v i a r : ℕ) → reference_height d b v (ToUnlock i) a ≡ Some r → Enabled d b v i a
unfolding reference_height
enabled_parts d b v i a r e =
    let t =
    when_true (is_listed a (entering d.graph v) && is_ready d b v && is_known d b v i)
    (if leads d v i then ready_height d b v else max (ready_height d b v) (unlock_base d.mode d b v i (first_key b v i))) r e in
    let k = and_three (is_listed a (entering d.graph v)) (is_ready d b v) (is_known d b v i) t in
    record { enters = is_listed-true a (entering d.graph v) k.0; ready = k.1; known = k.2 }

-- a hashkey that v presents for a lock shows as its first one
pub presents : (b : Histories) (v i : ℕ) (e : Entry) (key : Hashkey) → IsElement e (flat_map (λ h. h) b) → pick_call v e ≡ Some (Unlock key) → key.lock ≡ i
    → is_some (first_key b v i) ≡ true
unfolding first_key
presents b v i e key stands called lock =
    first_given_answer-in (λ e. unlock_hashkey i (pick_call v e)) (flat_map (λ h. h) b) e key stands
    (ap (unlock_hashkey i) called ∙ ap (λ x. cond x (Some key) None) (eq-eqb key.lock i lock))
