-- With hashkeys, no conducted party that unlocks and claims, and in whose name nothing is forged,
-- ends underwater.
use Rattle.std.proofs.Common.{◌≡◌, ◌≢◌, ℕ, suc, ◌+◌, ◌<◌, ◌≤◌, ◌==◌, Bool, true, false, cond, not, ◌-◌, if◌then◌else◌, max, ◌&&◌, ◌||◌, List, [], ◌∷◌}
use Rattle.std.proofs.Common.{length, Option, Some, None, is_some, refl, sym, ap, ◌∙◌, subst, arith, eq-eqb}
use Rattle.std.specs.List.{flat_map}
use Rattle.std.proofs.lemmas.Bool.{false≢true}
use Rattle.swap_base.specs.Lists.{IsElement, IsMoment, greatest}
use Rattle.swap_base.proofs.Lists.{first_given_answer-in, any_at, list_all-in, list_any-in, or-right, from_range, and_parts, and_both, greatest-in}
use Rattle.swap_base.proofs.Lists.{greatest-below, in_from_moment, moment_from_in}
use Rattle.swap_digraph.specs.declared.deal.Deal.{Deal}
use Rattle.swap_digraph.specs.declared.deal.Mode.TheVariants.{Hashkeys}
use Rattle.swap_digraph.specs.Graph.{last_is, listed_arcs, leaving, entering, is_listed}
use Rattle.swap_digraph.specs.Deal.{locks, leads, lock_leader}
use Rattle.hash_signature.specs.declared.sig.Sig.{Sig}
use Rattle.hashkey_path.specs.declared.hashkey.Hashkey.{Hashkey}
use Rattle.escrow_core.specs.Terms.{stated_terms, last_unlock}
use Rattle.ledger_core.specs.declared.entry.Call.{Call}
use Rattle.ledger_core.specs.declared.entry.Call.TheVariants.{Publish, Unlock, Claim, Refund, Transfer}
use Rattle.ledger_core.specs.declared.entry.Entry.{Entry}
use Rattle.ledger_core.specs.History.{height, accepted, Opening, opened, is_open}
use Rattle.ledger_core.specs.Book.{Histories, history, IsLegalBook}
use Rattle.swap_rules.specs.declared.outcome.Outcome.TheVariants.{Underwater}
use Rattle.swap_rules.specs.Party.{is_ready, ready_height, is_triggered, pick_call, unlock_hashkey, first_key, opens_without_party, first_seen_key}
use Rattle.swap_rules.specs.Conduct.{is_first_key, IsConducted, extends, extends_inner_key, extends_without_party}
use Rattle.swap_rules.specs.Late.{is_carried, is_used, height_if, greatest_used, unlock_base, when, reference_height}
use Rattle.swap_rules.specs.Forged.{forges, has_made, has_forged_suffix}
use Rattle.swap_rules.specs.Outcome.{outcome, EnteringHaveEnded}
use Rattle.swap_rules.proofs.Entering.{DueUnlock, UnlocksInTime, parse_call, call_due, ready_below, gets_all}
use Rattle.swap_digraph.proofs.Paths.{in-is_listed, last_unlock as end_in, some_length}
use Rattle.swap_rules.proofs.Words.{leaves, or-left, or-first, key_parts, same_key-path, leader_reads}
use Rattle.swap_rules.proofs.Times.{HashkeyLaw, below_horizon, deadline_mono, deadline_next, deadline_first, deadline_last, make_path, times_of_hashkeys}
use Rattle.ledger_core.proofs.History.{done_at, of_unlock, published-past, is_some-of, not-true-of, lock-below}
use Rattle.swap_rules.specs.Laws.{IsUnforged}
use Rattle.swap_rules.specs.Walking.{UnlocksAll, ClaimsAll, HasLost, IsUnrevealed}
use Rattle.swap_rules.proofs.Calls.{legal_at, OwnPublish, own_publish}
use Rattle.swap_rules.proofs.Leaving.{underwater_lost, underwater_missing, Shown, Opener, opener_at, triggered_ready, is_known, Passing, enabled_parts, opener, presents}
use Rattle.time_bounds.specs.Times as times

-- a call of v with a hashkey for lock i
pub record MadeFor (b : Histories) (v i : ℕ) : Type 0 where
  pub entry : Entry
  pub key : Hashkey
  pub stands : IsElement entry (flat_map (λ h. h) b)
  pub called : pick_call v entry ≡ Some (Unlock key)
  pub lock : key.lock ≡ i

renewed_wallet : (b : Histories) (v : ℕ) (key : Hashkey) → has_made b v key ≡ true → MadeFor b v key.lock
renewed_wallet b v key h =
    let e = any_at (λ e. is_first_key (unlock_hashkey key.lock (pick_call v e)) key) (flat_map (λ h. h) b) h in
    go e.now (subst (IsElement e.now) (sym e.stands.1) (in_from_moment e.past e.now e.stands.0)) (unlock_hashkey key.lock (pick_call v e.now)) refl e.passes
  where
    go : (e : Entry) → IsElement e (flat_map (λ h. h) b) → (o : Option Hashkey) → unlock_hashkey key.lock (pick_call v e) ≡ o → is_first_key o key ≡ true
        → MadeFor b v key.lock
    go e i None k q = absurd (cc q)
    go e i (Some k') k q = let parts = key_parts key.lock (pick_call v e) k' k in record { entry = e; key = k'; stands = i; called = parts.0; lock = parts.1 }

-- a hashkey that isn't forged in v's name, with v on its path, shows a call of v for its lock
suffix_made : (b : Histories) (v : ℕ) (key : Hashkey) (p : List ℕ) (sigs : List Sig) → has_forged_suffix b v key p sigs ≡ false → length p ≡ length sigs
    → is_listed v p ≡ true → MadeFor b v key.lock
suffix_made b v key [] sigs f l i = absurd (cc i)
suffix_made b v key (u ∷ p) [] f l i = absurd (cc l)
suffix_made b v key (u ∷ p) (s ∷ sigs) f l i =
    go (u == v) (has_made b v (record { lock = key.lock; secret = key.secret; path = u ∷ p; sigs = s ∷ sigs })) (has_forged_suffix b v key p sigs) f i
    (renewed_wallet b v (record { lock = key.lock; secret = key.secret; path = u ∷ p; sigs = s ∷ sigs }))
    (λ g j. suffix_made b v key p sigs g (omega arith) j)
  where
    go : (x y z : Bool) → ((x && not y) || z) ≡ false → (x || is_listed v p) ≡ true → (y ≡ true → MadeFor b v key.lock)
        → (z ≡ false → is_listed v p ≡ true → MadeFor b v key.lock) → MadeFor b v key.lock
    go true true z f i m rest = m refl
    go true false z f i m rest = absurd (cc f)
    go false y z f i m rest = rest f i

forges_hashkeys : (b : Histories) (d : Deal) (v : ℕ) (key : Hashkey) → forges Hashkeys d b v (Some (Unlock key)) ≡ false
    → has_forged_suffix b v key key.path key.sigs ≡ false
unfolding forges
forges_hashkeys b d v key h = h

-- what v extended was accepted on a leaving arc, in time for one more arc
pub record Extended (d : Deal) (b : Histories) (v : ℕ) (key : Hashkey) (t : ℕ) : Type 0 where
  pub arc : ℕ
  pub leaves : IsElement arc (leaving d.graph v)
  pub past : List Entry
  pub now : Entry
  pub stands : IsMoment (history b arc) past now
  pub inner : Hashkey
  pub took : accepted now ≡ Some (Unlock inner)
  pub height : now.height ≡ t
  pub extends : extends_inner_key v inner key.path key.sigs key ≡ true

pub extended_key : (v : ℕ) (key : Hashkey) (o : Option Call) → extends v key o ≡ true
    → (inner : Hashkey) × (o ≡ Some (Unlock inner)) × (extends_inner_key v inner key.path key.sigs key ≡ true)
extended_key v key (Some (Unlock inner)) e = (inner, refl, e)
extended_key v key None e = absurd (cc e)
extended_key v key (Some (Publish t)) e = absurd (cc e)
extended_key v key (Some Claim) e = absurd (cc e)
extended_key v key (Some Refund) e = absurd (cc e)
extended_key v key (Some (Transfer to units)) e = absurd (cc e)

-- what an extension of a hashkey without v says of that hashkey
pub extended_without : (v : ℕ) (key : Hashkey) (o : Option Call) → extends_without_party v key o ≡ true
    → (inner : Hashkey) × (o ≡ Some (Unlock inner)) × (is_listed v inner.path ≡ false) × (extends_inner_key v inner key.path key.sigs key ≡ true)
extended_without v key (Some (Unlock inner)) e =
    let k = and_parts (not (is_listed v inner.path)) (extends_inner_key v inner key.path key.sigs key) e in
    (inner, refl, not-true-of _ k.0, k.1)
extended_without v key None e = absurd (cc e)
extended_without v key (Some (Publish t)) e = absurd (cc e)
extended_without v key (Some Claim) e = absurd (cc e)
extended_without v key (Some Refund) e = absurd (cc e)
extended_without v key (Some (Transfer to units)) e = absurd (cc e)

pub used_below : (d : Deal) (b : Histories) (v : ℕ) (test : Entry → Bool) (n : ℕ)
    → ((a : ℕ) (past : List Entry) (e : Entry) → IsElement a (leaving d.graph v) → IsMoment (history b a) past e → test e ≡ true → e.height ≤ n)
    → greatest_used d b v test ≤ n
used_below d b v test n h = greatest-below (λ a. greatest (λ e. height_if (test e) e.height) (history b a)) (leaving d.graph v) n
    (λ a w. greatest-below (λ e. height_if (test e) e.height) (history b a) n (λ e i. let m = moment_from_in (history b a) e i in
    go (test e) e (h a m.0 e w m.1)))
  where
    go : (x : Bool) (e : Entry) → (x ≡ true → e.height ≤ n) → height_if x e.height ≤ n
    go true e f = f refl
    go false e f = omega arith

pub used_in : (d : Deal) (b : Histories) (v : ℕ) (test : Entry → Bool) (a : ℕ) (e : Entry) → IsElement a (leaving d.graph v) → IsElement e (history b a)
    → test e ≡ true → e.height ≤ greatest_used d b v test
used_in d b v test a e w i t =
    let h1 = greatest-in (λ a. greatest (λ e. height_if (test e) e.height) (history b a)) (leaving d.graph v) a w in
    let h2 = greatest-in (λ e. height_if (test e) e.height) (history b a) e i in
    let h3 : ◌≡◌ {A = ℕ} (height_if (test e) e.height) e.height = ap (λ x. height_if x e.height) t in
    omega arith

pub extended_of : (d : Deal) (b : Histories) (v : ℕ) (key : Hashkey) (a : ℕ) (past : List Entry) (e : Entry) → IsElement a (leaving d.graph v)
    → IsMoment (history b a) past e → extends v key (accepted e) ≡ true → Extended d b v key e.height
extended_of d b v key a past e w m h =
    let k = extended_key v key (accepted e) h in
    record { arc = a; leaves = w; past = past; now = e; stands = m; inner = k.0; took = k.1; height = refl; extends = k.2 }

pub carried_key : (o : Option Hashkey) (c : Option Call) → is_carried o c ≡ true → (key : Hashkey) × (c ≡ Some (Unlock key))
carried_key (Some inner) (Some (Unlock key)) e = (key, refl)
carried_key (Some inner) None e = absurd (cc e)
carried_key (Some inner) (Some (Publish t)) e = absurd (cc e)
carried_key (Some inner) (Some Claim) e = absurd (cc e)
carried_key (Some inner) (Some Refund) e = absurd (cc e)
carried_key (Some inner) (Some (Transfer to units)) e = absurd (cc e)
carried_key None c e = absurd (cc e)

-- an extension's path has one arc more
pub longer : (g : Hashkey) (v : ℕ) (inner : Hashkey) (p : List ℕ) (sigs : List Sig) (key : Hashkey) → extends_inner_key v inner p sigs key ≡ true
    → (length p ≡ suc (length inner.path)) × (inner.lock ≡ key.lock)
longer g v inner [] sigs key e = absurd (cc e)
longer g v inner (u ∷ p) [] key e = absurd (cc e)
longer g v inner (u ∷ p) (s ∷ sigs) key e =
    let k = and_parts (u == v) _ e in
    let q = same_key-path inner (record { lock = key.lock; secret = key.secret; path = p; sigs = sigs }) k.1 in
    (ap (λ x. suc (length x)) (sym q.1), q.0)

module _ (d : Deal) (b : Histories) (v : ℕ) (legal : IsLegalBook d b) (conducted : IsConducted d b v)
    (law : HashkeyLaw d) where
  last_is_deadline : (a : ℕ) (key : Hashkey) → last_unlock d.mode (stated_terms d a) key ≡ times.deadline d.start d.delta d.bound (listed_arcs key.path)
  last_is_deadline a key = ap (λ m. last_unlock m (stated_terms d a) key) law.mode

  module _ (ready : is_ready d b v ≡ true) where
    g_low_hashkeys : ready_height d b v ≤ times.opening_deadline d.start d.delta d.bound
    g_low_hashkeys = ready_below d b v legal conducted (times_of_hashkeys d law) ready

    -- the base height is in time for every hashkey that v may use, and for the horizon
    record InTime (o : Option Hashkey) (t : ℕ) : Type 0 where
      ends : t + d.delta ≤ times.horizon d.start d.delta d.bound
      early : (key : Hashkey) → is_first_key o key ≡ true → t + d.delta ≤ times.deadline d.start d.delta d.bound (listed_arcs key.path)

    first_in_time : (t : ℕ) → t ≤ times.opening_deadline d.start d.delta d.bound → (o : Option Hashkey) → InTime o t
    first_in_time t h o =
        let z = deadline_first d.start d.delta d.bound in
        record {
          ends = omega arith;
          early = λ key f. let m = deadline_mono d.start d.delta d.bound 0 (listed_arcs key.path) (omega arith) in omega arith;
        }

    -- an unlock that was accepted on a leaving arc was in time
    taken_in_time : (a : ℕ) (past : List Entry) (e : Entry) (key : Hashkey) → IsElement a (leaving d.graph v) → IsMoment (history b a) past e
        → accepted e ≡ Some (Unlock key)
        → (e.height ≤ times.deadline d.start d.delta d.bound (listed_arcs key.path)) × (listed_arcs key.path ≤ d.bound) × (0 < length key.path)
    taken_in_time a past e key w m took =
        let out = leaves d v a w in
        let done = done_at d a (history b a) past e (Unlock key) e.height (legal_at d b v conducted legal a out.0) m took refl in
        let of_u = of_unlock d a done.past done.act.by key done.clear in
        let pub_whole = published-past (history b a) done.past done.now of_u.contract done.stands of_u.published in
        let terms : of_u.contract.terms ≡ stated_terms d a = OwnPublish.correct (own_publish d b v conducted legal a of_u.contract w pub_whole) in
        let e2 : height done.past ≤ last_unlock d.mode (stated_terms d a) key = subst (λ t. height done.past ≤ last_unlock d.mode t key) terms of_u.in_time in
        let e1 = last_is_deadline a key in
        let p = make_path d a key law.mode of_u.path in
        let k : listed_arcs key.path ≤ d.bound = law.path key.path key.lock (lock-below d a key done.act.fits) p.path p.last in
        let e3 : e.height ≡ height done.past = done.at in
        (omega arith, k, some_length d.graph key.path p.path)

    taken_ends : (a : ℕ) (past : List Entry) (e : Entry) (key : Hashkey) → IsElement a (leaving d.graph v) → IsMoment (history b a) past e
        → accepted e ≡ Some (Unlock key) → e.height ≤ times.last_expiry d.start d.delta d.bound
    taken_ends a past e key w m took =
        let t = taken_in_time a past e key w m took in
        let x : e.height ≤ times.deadline d.start d.delta d.bound (listed_arcs key.path) = t.0 in
        let y = deadline_mono d.start d.delta d.bound (listed_arcs key.path) d.bound t.1 in
        let z = deadline_last d.start d.delta d.bound in
        omega arith

    base_in_time : (i : ℕ) → i < length d.leaders → (o : Option Hashkey) → InTime o (unlock_base Hashkeys d b v i o)
    base_in_time i below None =
        let h =
        used_below d b v (is_used d b v i None) (times.last_expiry d.start d.delta d.bound) (λ a past e w m t.
        let k = carried_key (first_seen_key d b v i) (accepted e) t in taken_ends a past e k.0 w m k.1) in
        let f = below_horizon d.start d.bound d.delta in
        record { ends = omega arith; early = λ key q. absurd (cc q) }
    base_in_time i below (Some first) =
        let h =
        used_below d b v (is_used d b v i (Some first)) (times.last_expiry d.start d.delta d.bound) (λ a past e w m t.
        let k = extended_key v first (accepted e) t in taken_ends a past e k.0 w m k.1) in
        let f = below_horizon d.start d.bound d.delta in
        record {
          ends = omega arith;
          early = λ key q.
              let z1 = deadline_first d.start d.delta d.bound in
              let z2 = deadline_mono d.start d.delta d.bound 0 (listed_arcs key.path) (omega arith) in
              let g = used_below d b v (is_used d b v i (Some first)) (times.deadline d.start d.delta d.bound (listed_arcs key.path) - d.delta)
              (λ a past e w m t.
              let x = extended_key v first (accepted e) t in
              let t1 = taken_in_time a past e x.0 w m x.1 in
              let some = t1.2 in
              let e4 : e.height ≤ times.deadline d.start d.delta d.bound (listed_arcs x.0.path) = t1.0 in
              let long = longer first v x.0 first.path first.sigs first x.2 in
              let same = same_key-path first key q in
              let l1 : length first.path ≡ suc (length x.0.path) = long.0 in
              let l2 : length first.path ≡ length key.path = ap length same.1 in
              let l3 : listed_arcs x.0.path + 1 ≡ listed_arcs key.path = omega arith in
              let n = deadline_next d.start d.delta d.bound (listed_arcs x.0.path) in
              let n2 : times.deadline d.start d.delta d.bound (listed_arcs x.0.path + 1) ≡ times.deadline d.start d.delta d.bound (listed_arcs key.path) =
              ap (times.deadline d.start d.delta d.bound) l3 in
              omega arith) in
              omega arith;
        }

    max_in_time : (o : Option Hashkey) (s t : ℕ) → InTime o s → InTime o t → InTime o (max s t)
    max_in_time o s t x y =
        let e1 = x.ends in
        let e2 = y.ends in
        record { ends = omega arith; early = λ key f. let e3 = x.early key f in let e4 = y.early key f in omega arith }

    due_known_hashkeys : (a i : ℕ) → IsElement a (entering d.graph v) → i < length d.leaders → is_known d b v i ≡ true → DueUnlock d b v a i
    unfolding reference_height
    due_known_hashkeys a i w below known = go (leads d v i) refl
      where
        on : (is_listed a (entering d.graph v) && is_ready d b v && is_known d b v i) ≡ true
        on =
            and_both (is_listed a (entering d.graph v) && is_ready d b v) _
            (and_both (is_listed a (entering d.graph v)) (is_ready d b v) (in-is_listed a (entering d.graph v) w) ready) known

        due_at : (r : ℕ) → (if leads d v i then ready_height d b v else max (ready_height d b v) (unlock_base d.mode d b v i (first_key b v i))) ≡ r
            → InTime (first_key b v i) r → DueUnlock d b v a i
        due_at r e in_time = record {
          within = below;
          ref = r;
          value = sym e;
          enabled =
              ap (λ x. when x (if leads d v i then ready_height d b v else max (ready_height d b v) (unlock_base d.mode d b v i (first_key b v i)))) on
              ∙ ap Some e;
          ends = in_time.ends;
          early = λ key valid first. let e1 = in_time.early key first in let e2 = last_is_deadline a key in omega arith;
        }

        go : (x : Bool) → leads d v i ≡ x → DueUnlock d b v a i
        go true e =
            due_at (ready_height d b v) (ap (λ x. cond x (ready_height d b v) (max (ready_height d b v) (unlock_base d.mode d b v i (first_key b v i)))) e)
            (first_in_time (ready_height d b v) g_low_hashkeys (first_key b v i))
        go false e =
            due_at (max (ready_height d b v) (unlock_base d.mode d b v i (first_key b v i)))
            (ap (λ x. cond x (ready_height d b v) (max (ready_height d b v) (unlock_base d.mode d b v i (first_key b v i)))) e)
            (max_in_time (first_key b v i) (ready_height d b v) (unlock_base d.mode d b v i (first_key b v i))
            (first_in_time (ready_height d b v) g_low_hashkeys (first_key b v i))
            (subst (λ m. InTime (first_key b v i) (unlock_base m d b v i (first_key b v i))) (sym law.mode) (base_in_time i below (first_key b v i))))

  module _ (unforged : IsUnforged d b v) where
    -- v's calls that an open lock of a leaving arc shows
    made_of : (a i : ℕ) → IsElement a (leaving d.graph v) → (o : Opening) → Opener d b v legal conducted law.lock a i o → is_listed v o.key.path ≡ true
        → MadeFor b v i
    made_of a i w o u among =
        let f : forges Hashkeys d b v (Some (Unlock o.key)) ≡ false =
        ap (λ m. forges m d b v (Some (Unlock o.key))) (sym law.mode) ∙ (ap (forges d.mode d b v) (sym u.took) ∙ unforged a u.past u.now w u.stands) in
        let p = make_path d a o.key law.mode u.path in
        subst (λ j. MadeFor b v j) u.lock (suffix_made b v o.key o.key.path o.key.sigs (forges_hashkeys b d v o.key f) p.lengths among)

    -- v's call for a lock of its own, which an open lock of a leaving arc shows
    own_made : (a i : ℕ) → i < length d.leaders → IsElement a (leaving d.graph v) → leads d v i ≡ true → (o : Opening)
        → Opener d b v legal conducted law.lock a i o → MadeFor b v i
    own_made a i below w l o u =
        let p = make_path d a o.key law.mode u.path in
        let last : last_is v o.key.path ≡ true = subst (λ x. last_is x o.key.path ≡ true) (ap (lock_leader d) u.lock ∙ leader_reads d v i below l) p.last in
        made_of a i w o u (in-is_listed v o.key.path (end_in v o.key.path last))

    shown_hashkeys : (a i : ℕ) → i < length d.leaders → IsElement a (leaving d.graph v) → leads d v i ≡ true → (o : Opening)
        → Opener d b v legal conducted law.lock a i o → Shown b v
    shown_hashkeys a i below w l o u =
        let m = own_made a i below w l o u in
        record { entry = m.entry; key = m.key; stands = m.stands; called = m.called }

    -- a leader that presented no hashkey for its lock has lost nothing
    unrevealed_hashkeys : IsUnrevealed d b v → (a : ℕ) → IsElement a (leaving d.graph v) → is_triggered d b a ≡ true → ⊥
    unrevealed_hashkeys n a w t =
        let o = opener d b v legal conducted law.lock a n.lock w t n.below in
        let m = own_made a n.lock n.below w n.own o.0 o.1 in
        false≢true (sym (ap is_some n.none) ∙ presents b v n.lock m.entry m.key m.stands m.called m.lock)

    ready_hashkeys : (a : ℕ) → IsElement a (leaving d.graph v) → is_triggered d b a ≡ true → is_ready d b v ≡ true
    ready_hashkeys = triggered_ready d b v legal conducted law.lock shown_hashkeys

    known_open_hashkeys : (c i : ℕ) → IsElement c (leaving d.graph v) → is_open (history b c) i ≡ true → is_known d b v i ≡ true
    unfolding first_key
    known_open_hashkeys c i z t = go (is_listed v o.0.key.path) refl
      where
        o : (o : Opening) × (opened (history b c) i ≡ Some o)
        o = is_some-of (opened (history b c) i) t

        u : Opener d b v legal conducted law.lock c i o.0
        u = opener_at d b v legal conducted law.lock c i z o.0 o.1

        go : (x : Bool) → is_listed v o.0.key.path ≡ x → is_known d b v i ≡ true
        go true e =
            let m = made_of c i z o.0 u e in
            let key_is : unlock_hashkey i (pick_call v m.entry) ≡ Some m.key = ap (unlock_hashkey i) m.called
            ∙ ap (λ x. cond x (Some m.key) None) (eq-eqb m.key.lock i m.lock) in
            or-first (leads d v i) (is_some (first_key b v i)) _
            (or-left (is_some (first_key b v i)) _ (first_given_answer-in (λ e. unlock_hashkey i (pick_call v e)) (flat_map (λ h. h) b) m.entry m.key m.stands key_is))
        go false e =
            or-right (leads d v i || is_some (first_key b v i)) _ (list_any-in (λ c.
            opens_without_party v (opened (history b c) i)) (leaving d.graph v) c (ap (opens_without_party v) o.1 ∙ ap not e) z)

    pub passing_hashkeys : Passing d b v
    passing_hashkeys = record { ready = ready_hashkeys; known = known_open_hashkeys; due = due_known_hashkeys }

    safety_hashkeys : (HasLost d b v → UnlocksAll d b v) → (HasLost d b v → ClaimsAll d b v) → outcome d b v ≢ Underwater
    safety_hashkeys unlocks claims e =
        let lost = underwater_lost d b v e in
        let missing = underwater_missing d b v e in
        let ready = ready_hashkeys lost.0 lost.1 lost.2 in
        let stake = list_any-in (is_triggered d b) (leaving d.graph v) lost.0 lost.2 lost.1 in
        let has = gets_all d b v legal conducted (times_of_hashkeys d law) ready (claims stake)
        (λ a i w k.
        let below = from_range i (length d.leaders) k in
        let due = due_known_hashkeys ready a i w below (known_open_hashkeys lost.0 i lost.1 (list_all-in (is_open (history b lost.0)) (locks d) i lost.2 k)) in
        parse_call d b v i a (unlocks stake i a due.ref below due.enabled)) missing.0 missing.1 in
        false≢true (sym missing.2 ∙ has)

-- an enabled unlock that isn't late is called while its hashkey is accepted
pub hashkeys_unlock : (d : Deal) (b : Histories) (v : ℕ) → HashkeyLaw d → IsLegalBook d b → EnteringHaveEnded d b v → IsConducted d b v → UnlocksInTime d b v → UnlocksAll d b v
hashkeys_unlock d b v law legal ended conducted unlocks i a r below enabled =
    let e = enabled_parts d b v i a r enabled in
    let due = due_known_hashkeys d b v legal conducted law e.ready a i e.enters below e.known in
    let c = call_due d b v legal ended conducted unlocks a i e.enters due in
    record { past = c.past; now = c.now; key = c.key; stands = c.stands; called = c.called; lock = c.lock; in_time = c.last }

pub hashkeys_are_safe : (d : Deal) (b : Histories) (v : ℕ) → HashkeyLaw d → IsLegalBook d b → IsConducted d b v
    → (HasLost d b v → UnlocksAll d b v) → (HasLost d b v → ClaimsAll d b v) → IsUnforged d b v → outcome d b v ≢ Underwater
hashkeys_are_safe d b v law legal conducted unlocks claims unforged = safety_hashkeys d b v legal conducted law unforged unlocks claims

pub hashkeys_unrevealed : (d : Deal) (b : Histories) (v : ℕ) → HashkeyLaw d → IsLegalBook d b → IsConducted d b v → IsUnforged d b v → IsUnrevealed d b v
    → (a : ℕ) → IsElement a (leaving d.graph v) → is_triggered d b a ≡ true → ⊥
hashkeys_unrevealed d b v law legal conducted unforged n = unrevealed_hashkeys d b v legal conducted law unforged n
