-- Up to delta above the height from which an unlock is to be done, its hashkey is accepted on every
-- entering arc.
use Rattle.std.proofs.Common.{◌≡◌, ℕ, suc, ◌+◌, ◌<◌, ◌≤◌, ◌-◌, Bool, true, false, cond, if◌then◌else◌, max, List, length, slice_index, Option, Some, None}
use Rattle.std.proofs.Common.{refl, sym, ap, ◌∙◌, subst, arith}
use Rattle.swap_base.specs.Lists.{IsElement, IsMoment, greatest}
use Rattle.swap_base.proofs.Lists.{greatest-below, and_parts, in_from_moment}
use Rattle.swap_digraph.specs.declared.deal.Deal.{Deal}
use Rattle.swap_digraph.specs.declared.deal.Mode.TheVariants.{Hashkeys}
use Rattle.swap_digraph.specs.Graph.{listed_arcs, leaving, entering}
use Rattle.swap_digraph.specs.Deal.{leads}
use Rattle.swap_digraph.proofs.Paths.{some_length}
use Rattle.hashkey_path.specs.declared.hashkey.Hashkey.{Hashkey}
use Rattle.escrow_core.specs.Terms.{stated_terms, last_unlock}
use Rattle.ledger_core.specs.declared.entry.Call.{Call}
use Rattle.ledger_core.specs.declared.entry.Call.TheVariants.{Unlock}
use Rattle.ledger_core.specs.declared.entry.Entry.{Entry}
use Rattle.ledger_core.specs.History.{height, accepted, Opening, opened}
use Rattle.ledger_core.specs.Book.{Histories, history, IsLegalBook}
use Rattle.ledger_core.proofs.History.{done_at, of_unlock, published-past}
use Rattle.swap_rules.specs.Accepted.{IsAccepted}
use Rattle.swap_rules.specs.Party.{is_ready, ready_height, first_key, first_seen_key}
use Rattle.swap_rules.specs.Conduct.{IsConducted, extends, extends_inner_key}
use Rattle.swap_rules.specs.Late.{is_carried, is_used, height_of_opening, greatest_used, unlock_base}
use Rattle.swap_rules.specs.Machine.{IsDerivedHashkey}
use Rattle.swap_rules.proofs.Accepted.{times_law, time_law}
use Rattle.swap_rules.proofs.EarlyUseful.{last_open}
use Rattle.swap_rules.proofs.Calls.{legal_at, OwnPublish, own_publish}
use Rattle.swap_rules.proofs.Entering.{ready_below}
use Rattle.swap_rules.proofs.Leaving.{opener_at}
use Rattle.swap_rules.proofs.SafeHashkeys.{used_below, used_in, extended_key, longer}
use Rattle.swap_rules.proofs.Times.{TimeLaw, OfTimelocks, OfHashkeys, TimelockLaw, HashkeyLaw, times_of_timelocks, last-timelock, deadline_mono, deadline_next}
use Rattle.swap_rules.proofs.Times.{deadline_first, make_path}
use Rattle.swap_rules.proofs.Words.{leaves, enters, same_key-true}
use Rattle.time_bounds.specs.Times as times

carried_is : (o : Option Hashkey) (c : Option Call) → is_carried o c ≡ true
    → (inner : Hashkey) × (o ≡ Some inner) × (c ≡ Some (Unlock inner))
carried_is (Some inner) (Some (Unlock key)) e =
    (inner, refl, ap (λ k. Some (Unlock k)) (sym (same_key-true inner key e)))
carried_is (Some inner) None e = absurd (cc e)
carried_is (Some inner) (Some c) e = other c e
  where
    other : (c : Call) → is_carried (Some inner) (Some c) ≡ true → (k : Hashkey) × (Some inner ≡ Some k) × (Some c ≡ Some (Unlock k))
    other (Unlock key) e = (inner, refl, ap (λ k. Some (Unlock k)) (sym (same_key-true inner key e)))
    other c e = absurd (cc e)
carried_is None c e = absurd (cc e)

-- how the hashkey that is due comes from what the book shows of the lock
pub data Comes (d : Deal) (b : Histories) (v i : ℕ) (key : Hashkey) : Type 0 where
  Presented : first_key b v i ≡ Some key → Comes d b v i key
  Put : (inner : Hashkey) → first_key b v i ≡ None → first_seen_key d b v i ≡ Some inner → IsDerivedHashkey d.mode v inner key → Comes d b v i key

module _ (d : Deal) (b : Histories) (v : ℕ) (acc : IsAccepted d) (legal : IsLegalBook d b) (conducted : IsConducted d b v) where
  -- Timelocks.

  timelock_base : (law : TimelockLaw d) (c : ℕ) → IsElement c (entering d.graph v) → leads d v 0 ≡ false → (o : Option Hashkey)
      → unlock_base d.mode d b v 0 o + d.delta ≤ slice_index d.timelocks c
  timelock_base law c w l o =
      let early : times.opening_deadline d.start d.delta d.bound + d.delta ≤ slice_index d.timelocks c = law.opens c (enters d v c w).0 in
      let k : unlock_base d.mode d b v 0 o ≡ greatest (λ a. height_of_opening (opened (history b a) 0)) (leaving d.graph v) =
      ap (λ m. unlock_base m d b v 0 o) law.mode in
      let low : greatest (λ a. height_of_opening (opened (history b a) 0)) (leaving d.graph v) ≤ slice_index d.timelocks c - d.delta =
      greatest-below (λ a. height_of_opening (opened (history b a) 0)) (leaving d.graph v) (slice_index d.timelocks c - d.delta)
      (λ a z. go a z (opened (history b a) 0) refl) in
      omega arith
    where
      go : (a : ℕ) → IsElement a (leaving d.graph v) → (o : Option Opening) → opened (history b a) 0 ≡ o
          → height_of_opening o ≤ slice_index d.timelocks c - d.delta
      go a z None e = omega arith
      go a z (Some x) e =
          let u = opener_at d b v legal conducted (times_of_timelocks d law).lock a 0 z x e in
          let in_time : x.height ≤ last_unlock d.mode (stated_terms d a) x.key = u.in_time in
          let same : last_unlock d.mode (stated_terms d a) x.key ≡ slice_index d.timelocks a = last-timelock d (stated_terms d a) x.key law.mode in
          let step : slice_index d.timelocks a + d.delta ≤ slice_index d.timelocks c = law.steps v c a w z l in
          omega arith

  -- Hashkeys.

  taken_early : (law : HashkeyLaw d) (a : ℕ) (past : List Entry) (e : Entry) (key : Hashkey) → IsElement a (leaving d.graph v)
      → IsMoment (history b a) past e → accepted e ≡ Some (Unlock key)
      → (e.height ≤ times.deadline d.start d.delta d.bound (listed_arcs key.path)) × (0 < length key.path)
  taken_early law a past e key w m took =
      let out = leaves d v a w in
      let done = done_at d a (history b a) past e (Unlock key) e.height (legal_at d b v conducted legal a out.0) m took refl in
      let of_u = of_unlock d a done.past done.act.by key done.clear in
      let pub_whole = published-past (history b a) done.past done.now of_u.contract done.stands of_u.published in
      let terms : of_u.contract.terms ≡ stated_terms d a = OwnPublish.correct (own_publish d b v conducted legal a of_u.contract w pub_whole) in
      let e2 : height done.past ≤ last_unlock d.mode (stated_terms d a) key = subst (λ t. height done.past ≤ last_unlock d.mode t key) terms of_u.in_time in
      let e1 : last_unlock d.mode (stated_terms d a) key ≡ times.deadline d.start d.delta d.bound (listed_arcs key.path) =
      ap (λ m. last_unlock m (stated_terms d a) key) law.mode in
      let p = make_path d a key law.mode of_u.path in
      let e3 : e.height ≡ height done.past = done.at in
      (omega arith, some_length d.graph key.path p.path)

  hashkey_base : (law : HashkeyLaw d) (i : ℕ) (key : Hashkey)
      → greatest_used d b v (is_used d b v i (Some key)) + d.delta ≤ times.deadline d.start d.delta d.bound (listed_arcs key.path)
  hashkey_base law i key =
      let z1 = deadline_first d.start d.delta d.bound in
      let z2 = deadline_mono d.start d.delta d.bound 0 (listed_arcs key.path) (omega arith) in
      let g : greatest_used d b v (is_used d b v i (Some key)) ≤ times.deadline d.start d.delta d.bound (listed_arcs key.path) - d.delta =
      used_below d b v (is_used d b v i (Some key)) (times.deadline d.start d.delta d.bound (listed_arcs key.path) - d.delta)
      (λ a past e w m t.
      let x = extended_key v key (accepted e) t in
      let t1 = taken_early law a past e x.0 w m x.1 in
      let some = t1.1 in
      let e4 : e.height ≤ times.deadline d.start d.delta d.bound (listed_arcs x.0.path) = t1.0 in
      let long = longer key v x.0 key.path key.sigs key x.2 in
      let l1 : length key.path ≡ suc (length x.0.path) = long.0 in
      let l3 : listed_arcs x.0.path + 1 ≡ listed_arcs key.path = omega arith in
      let n = deadline_next d.start d.delta d.bound (listed_arcs x.0.path) in
      let n2 : times.deadline d.start d.delta d.bound (listed_arcs x.0.path + 1) ≡ times.deadline d.start d.delta d.bound (listed_arcs key.path) =
      ap (times.deadline d.start d.delta d.bound) l3 in
      omega arith) in
      omega arith

  -- what v would extend it extends by this hashkey
  carried_used : (i : ℕ) (inner key : Hashkey) → first_seen_key d b v i ≡ Some inner → IsDerivedHashkey Hashkeys v inner key
      → greatest_used d b v (is_used d b v i None) ≤ greatest_used d b v (is_used d b v i (Some key))
  carried_used i inner key s o =
      used_below d b v (is_used d b v i None) (greatest_used d b v (is_used d b v i (Some key))) (λ a past e w m t.
      let x = carried_is (first_seen_key d b v i) (accepted e) t in
      let is : inner ≡ x.0 = cc (sym s ∙ x.1) in
      let took : accepted e ≡ Some (Unlock inner) = x.2 ∙ ap (λ k. Some (Unlock k)) (sym is) in
      let ext : extends v key (Some (Unlock inner)) ≡ true = (and_parts _ (extends_inner_key v inner key.path key.sigs key) o).1 in
      used_in d b v (is_used d b v i (Some key)) a e w (subst (IsElement e) (sym m.1) (in_from_moment past e m.0)) (ap (extends v key) took ∙ ext))

  base_by : (law : HashkeyLaw d) (i : ℕ) (key : Hashkey) → Comes d b v i key
      → greatest_used d b v (is_used d b v i (first_key b v i)) + d.delta ≤ times.deadline d.start d.delta d.bound (listed_arcs key.path)
  base_by law i key (Presented f) =
      subst (λ o. greatest_used d b v (is_used d b v i o) + d.delta ≤ times.deadline d.start d.delta d.bound (listed_arcs key.path)) (sym f) (hashkey_base law i key)
  base_by law i key (Put inner f s o) =
      let g = hashkey_base law i key in
      let c = carried_used i inner key s (subst (λ m. IsDerivedHashkey m v inner key) law.mode o) in
      subst (λ o. greatest_used d b v (is_used d b v i o) + d.delta ≤ times.deadline d.start d.delta d.bound (listed_arcs key.path)) (sym f) (omega arith)

  -- the base height is in time for the hashkey that comes of it
  base_early : TimeLaw d → (i c : ℕ) (key : Hashkey) → i < length d.leaders → IsElement c (entering d.graph v) → leads d v i ≡ false → Comes d b v i key
      → unlock_base d.mode d b v i (first_key b v i) + d.delta ≤ last_unlock d.mode (stated_terms d c) key
  base_early (OfTimelocks law) i c key below w l x =
      let one : length d.leaders ≡ 1 = law.one in
      let zero : i ≡ 0 = omega arith in
      let low = timelock_base law c w (ap (leads d v) (sym zero) ∙ l) (first_key b v i) in
      let same : last_unlock d.mode (stated_terms d c) key ≡ slice_index d.timelocks c = last-timelock d (stated_terms d c) key law.mode in
      let base : unlock_base d.mode d b v i (first_key b v i) ≡ unlock_base d.mode d b v 0 (first_key b v i) =
      ap (λ j. unlock_base d.mode d b v j (first_key b v i)) zero in
      omega arith
  base_early (OfHashkeys law) i c key below w l x =
      let low = base_by law i key x in
      let base : unlock_base d.mode d b v i (first_key b v i) ≡ greatest_used d b v (is_used d b v i (first_key b v i)) =
      ap (λ m. unlock_base m d b v i (first_key b v i)) law.mode in
      let e : last_unlock d.mode (stated_terms d c) key ≡ times.deadline d.start d.delta d.bound (listed_arcs key.path) =
      ap (λ m. last_unlock m (stated_terms d c) key) law.mode in
      omega arith

  -- the height from which an unlock is to be done
  abbrev pub start_height : ℕ → ℕ
  start_height i = if leads d v i then ready_height d b v else max (ready_height d b v) (unlock_base d.mode d b v i (first_key b v i))

  pub start_early : is_ready d b v ≡ true → (i c : ℕ) (key : Hashkey) → i < length d.leaders → IsElement c (entering d.graph v)
      → (leads d v i ≡ false → Comes d b v i key) → start_height i + d.delta ≤ last_unlock d.mode (stated_terms d c) key
  start_early ready i c key below w comes = go (leads d v i) refl
    where
      go : (x : Bool) → leads d v i ≡ x → start_height i + d.delta ≤ last_unlock d.mode (stated_terms d c) key
      go true e =
          let low = ready_below d b v legal conducted (times_law d acc) ready in
          let last = last_open d (time_law d acc) c key (enters d v c w).0 in
          subst (λ x. cond x (ready_height d b v) (max (ready_height d b v) (unlock_base d.mode d b v i (first_key b v i))) + d.delta
          ≤ last_unlock d.mode (stated_terms d c) key) (sym e) (omega arith)
      go false e =
          let low = ready_below d b v legal conducted (times_law d acc) ready in
          let last = last_open d (time_law d acc) c key (enters d v c w).0 in
          let base = base_early (time_law d acc) i c key below w e (comes e) in
          subst (λ x. cond x (ready_height d b v) (max (ready_height d b v) (unlock_base d.mode d b v i (first_key b v i))) + d.delta
          ≤ last_unlock d.mode (stated_terms d c) key) (sym e) (omega arith)
