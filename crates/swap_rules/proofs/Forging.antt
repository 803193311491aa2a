-- Where all parties are conducted, nothing is forged.
use Rattle.std.proofs.Common.{length-append, ◌≡◌, ℕ, suc, zero, ◌+◌, ◌<◌, ◌==◌, Bool, true, false, cond, not, ◌&&◌, ◌||◌, List, [], ◌∷◌, ◌++◌, length}
use Rattle.std.proofs.Common.{Option, Some, None, is_some, refl, sym, ap, ◌∙◌, subst, inl, inr, arith, eqb-true, eq-eqb, lt-ltb, get_or, slice_index_or}
use Rattle.std.specs.List.{list_any, flat_map}
use Rattle.std.proofs.lemmas.Bool.{false≢true}
use Rattle.std.proofs.lemmas.List.{get_or_default}
use Rattle.std.specs.Str.{bytes_eq}
use Rattle.swap_base.specs.Lists.{IsElement, IsMoment, same_list}
use Rattle.swap_base.proofs.Lists.{list_any-in, and_parts, and_both, same_list-true, in_from_moment, moment_from_in, in_whole}
use Rattle.swap_digraph.specs.declared.deal.Mode.{Mode}
use Rattle.swap_digraph.specs.declared.deal.Mode.TheVariants.{Timelocks, Hashkeys}
use Rattle.swap_digraph.specs.declared.deal.Deal.{Deal}
use Rattle.swap_digraph.specs.Graph.{is_path, first_is, last_is, leaving, is_listed, are_followers, has_arc}
use Rattle.swap_digraph.specs.Deal.{counterparty, leads, lock_leader, lock_hashlock}
use Rattle.hash_signature.specs.declared.sig.Sig.{Sig}
use Rattle.hash_signature.specs.Signature.{hashed_value}
use Rattle.hashkey_path.specs.declared.hashkey.Hashkey.{Hashkey}
use Rattle.hashkey_path.specs.Hashkey.{same_key, is_wrong_path, is_valid}
use Rattle.ledger_core.specs.declared.entry.Call.{Call}
use Rattle.ledger_core.specs.declared.entry.Call.TheVariants.{Publish, Unlock, Claim, Refund, Transfer}
use Rattle.ledger_core.specs.declared.entry.Entry.{Entry}
use Rattle.ledger_core.specs.History.{accepted, published}
use Rattle.ledger_core.specs.Book.{Histories, history, IsLegalBook}
use Rattle.swap_rules.specs.Party.{is_ready, pick_call, unlock_hashkey, first_key}
use Rattle.swap_rules.specs.Conduct.{is_first_key, has_origin, carries, keeps, IsConducted, extends_without_party, is_alone}
use Rattle.swap_rules.specs.Forged.{forges, has_made, has_forged_suffix}
use Rattle.swap_rules.specs.Accepted.{IsAccepted, IsTimed}
use Rattle.swap_rules.proofs.Words.{bytes_eq-true, bytes_eq-refl, same_key-true, same_key-refl, and_three, and_five, leaves, pick_call-act}
use Rattle.swap_rules.proofs.SafeHashkeys.{extended_without}
use Rattle.swap_rules.proofs.Calls.{kept}
use Rattle.ledger_core.proofs.History.{of_unlock, clear_at, not-false, not-true, lock-below}
use Rattle.swap_rules.proofs.Accepted.{one_leader, arc_has}
use Rattle.swap_digraph.proofs.Paths.{path_length, path_snoc, suffix_from, followers-append, is_listed-true}
use Rattle.swap_rules.proofs.Prefixes.{in_any}
use Rattle.swap_rules.specs.Laws.{NothingIsForged}

-- an accepted unlock
pub record Taken (d : Deal) (b : Histories) (key : Hashkey) : Type 0 where
  pub arc : ℕ
  pub below : arc < length d.graph.arcs
  pub past : List Entry
  pub now : Entry
  pub stands : IsMoment (history b arc) past now
  pub took : accepted now ≡ Some (Unlock key)

-- what its sender kept
pub record Taker (d : Deal) (b : Histories) (key : Hashkey) (t : Taken d b key) : Type 0 where
  pub called : pick_call (counterparty d t.arc) t.now ≡ Some (Unlock key)
  pub path : is_wrong_path d t.arc d.mode key ≡ false
  pub origin : has_origin d.mode d b (counterparty d t.arc) key ≡ true
  pub lock : key.lock < length d.leaders

-- a hashkey's lock and secret, with that path and those signatures
abbrev with_path : Hashkey → List ℕ → List Sig → Hashkey
with_path key path sigs = record { lock = key.lock; secret = key.secret; path = path; sigs = sigs }

-- whence the hashkey came to v with hashkeys: it is v's own where v leads the lock, and extends one
-- that was taken else
abbrev origin_as : Deal → Histories → ℕ → Hashkey → Bool → Bool
origin_as d b v key led =
    cond led (is_alone v key.path) (list_any (λ a. list_any (λ e. extends_without_party v key (accepted e)) (history b a)) (leaving d.graph v))

pub revealed : (secret : List ℕ) (o : Option Call) → carries secret o ≡ true → (key : Hashkey) × (o ≡ Some (Unlock key)) × (bytes_eq key.secret secret ≡ true)
revealed secret (Some (Unlock key)) e = (key, refl, e)
revealed secret None e = absurd (cc e)
revealed secret (Some (Publish t)) e = absurd (cc e)
revealed secret (Some Claim) e = absurd (cc e)
revealed secret (Some Refund) e = absurd (cc e)
revealed secret (Some (Transfer to units)) e = absurd (cc e)

module _ (d : Deal) (b : Histories) (k : IsAccepted d) (legal : IsLegalBook d b) (all : (v : ℕ) → v < d.graph.n → IsConducted d b v) where
  taker : (key : Hashkey) (t : Taken d b key) → Taker d b key t
  unfolding keeps
  taker key t =
      let l = legal.legal t.arc (rw legal.one_each t.below) in
      let c = clear_at d t.arc (history b t.arc) t.past t.now (Unlock key) l t.stands t.took in
      let u = of_unlock d t.arc t.past c.0.by key c.1 in
      let called = pick_call-act d t.arc t.past t.now (Unlock key) (counterparty d t.arc) c.0 u.counterparty in
      let q =
      and_five (is_some (published t.past)) (is_ready d b (counterparty d t.arc)) (is_first_key (first_key b (counterparty d t.arc) key.lock) key)
      (is_valid d t.arc (lock_hashlock d key.lock) key) _
      (kept d b (counterparty d t.arc) (all (counterparty d t.arc) (k.ends.to t.arc t.below)) t.arc t.past t.now (Unlock key) t.stands called) in
      record { called = called; path = u.path; origin = q.4; lock = lock-below d t.arc key c.0.fits }

  entry_in : (key : Hashkey) (t : Taken d b key) → IsElement t.now (flat_map (λ h. h) b)
  entry_in key t = in_whole b t.arc t.now (subst (IsElement t.now) (sym t.stands.1) (in_from_moment t.past t.now t.stands.0))

  -- Hashkeys.

  made : (key : Hashkey) (t : Taken d b key) → has_made b (counterparty d t.arc) key ≡ true
  made key t =
      let r = taker key t in
      list_any-in (λ e. is_first_key (unlock_hashkey key.lock (pick_call (counterparty d t.arc) e)) key) (flat_map (λ h. h) b) t.now
      (ap (λ o. is_first_key (unlock_hashkey key.lock o) key) r.called
      ∙ (ap (λ z. is_first_key (cond z (Some key) None) key) (eq-eqb key.lock key.lock refl) ∙ same_key-refl key)) (entry_in key t)

  first_of_path : (key : Hashkey) (t : Taken d b key) → d.mode ≡ Hashkeys → first_is (counterparty d t.arc) key.path ≡ true
  first_of_path key t m =
      let h = not-false _ (ap (λ x. is_wrong_path d t.arc x key) (sym m) ∙ Taker.path (taker key t)) in
      let k1 =
      and_parts (is_path d.graph key.path && first_is (counterparty d t.arc) key.path && last_is (lock_leader d key.lock) key.path)
      (length key.path == length key.sigs) h in
      (and_three (is_path d.graph key.path) (first_is (counterparty d t.arc) key.path) (last_is (lock_leader d key.lock) key.path) k1.0).1

  alone_rest : (u x : ℕ) (p : List ℕ) → is_alone u (x ∷ p) ≡ true → p ≡ []
  alone_rest u x p e = same_list-true (λ x y. x == y) eqb-true p [] (and_parts (x == u) (same_list (λ x y. x == y) p []) e).1

  -- the hashkey that an extension extends was taken too
  inner_taken : (u x : ℕ) (p : List ℕ) (s : Sig) (sigs : List Sig) (key : Hashkey)
      → list_any (λ a. list_any (λ e. extends_without_party u (with_path key (x ∷ p) (s ∷ sigs)) (accepted e)) (history b a)) (leaving d.graph u) ≡ true
      → Taken d b (with_path key p sigs)
  inner_taken u x p s sigs key e =
      let y = in_any (λ a. list_any (λ e. extends_without_party u (with_path key (x ∷ p) (s ∷ sigs)) (accepted e)) (history b a)) (leaving d.graph u) e in
      let z = in_any (λ e. extends_without_party u (with_path key (x ∷ p) (s ∷ sigs)) (accepted e)) (history b y.0) y.2 in
      let i = extended_without u (with_path key (x ∷ p) (s ∷ sigs)) (accepted z.0) z.2 in
      let q = and_parts (x == u) (same_key i.0 (with_path key p sigs)) i.3 in
      let m = moment_from_in (history b y.0) z.0 z.1 in
      record {
        arc = y.0;
        below = (leaves d u y.0 y.1).0;
        past = m.0;
        now = z.0;
        stands = m.1;
        took = i.1 ∙ ap (λ h. Some (Unlock h)) (same_key-true i.0 (with_path key p sigs) q.1);
      }

  unforged_suffix : (v : ℕ) → d.mode ≡ Hashkeys → (p : List ℕ) (sigs : List Sig) (key : Hashkey)
      → Taken d b (with_path key p sigs) → has_forged_suffix b v key p sigs ≡ false
  unforged_suffix v mode [] sigs key t = refl
  unforged_suffix v mode (x ∷ p) [] key t = refl
  unforged_suffix v mode (x ∷ p) (s ∷ sigs) key t =
      let is_u : x ≡ counterparty d t.arc = eqb-true x (counterparty d t.arc) (first_of_path (with_path key (x ∷ p) (s ∷ sigs)) t mode) in
      let m : has_made b x (with_path key (x ∷ p) (s ∷ sigs)) ≡ true =
      subst (λ z. has_made b z (with_path key (x ∷ p) (s ∷ sigs)) ≡ true) (sym is_u) (made (with_path key (x ∷ p) (s ∷ sigs)) t) in
      let r = taker (with_path key (x ∷ p) (s ∷ sigs)) t in
      both (x == v) refl m (rest (leads d (counterparty d t.arc) key.lock) refl
      (ap (λ m. has_origin m d b (counterparty d t.arc) (with_path key (x ∷ p) (s ∷ sigs))) (sym mode) ∙ r.origin)
      (λ y. unforged_suffix v mode p sigs key y))
    where
      rest : (y : Bool) → leads d (counterparty d t.arc) key.lock ≡ y
          → origin_as d b (counterparty d t.arc) (with_path key (x ∷ p) (s ∷ sigs)) (leads d (counterparty d t.arc) key.lock) ≡ true
          → (Taken d b (with_path key p sigs) → has_forged_suffix b v key p sigs ≡ false)
          → has_forged_suffix b v key p sigs ≡ false
      rest true e o again =
          ap (λ l. has_forged_suffix b v key l sigs) (alone_rest (counterparty d t.arc) x p
          (ap (origin_as d b (counterparty d t.arc) (with_path key (x ∷ p) (s ∷ sigs))) (sym e) ∙ o))
      rest false e o again =
          again (inner_taken (counterparty d t.arc) x p s sigs key
          (ap (origin_as d b (counterparty d t.arc) (with_path key (x ∷ p) (s ∷ sigs))) (sym e) ∙ o))

      both : (y : Bool) → (x == v) ≡ y → has_made b x (with_path key (x ∷ p) (s ∷ sigs)) ≡ true
          → has_forged_suffix b v key p sigs ≡ false
          → ((y && not (has_made b v (with_path key (x ∷ p) (s ∷ sigs)))) || has_forged_suffix b v key p sigs) ≡ false
      both true e m f =
          ap (λ z. not z || has_forged_suffix b v key p sigs) (subst (λ z. has_made b z (with_path key (x ∷ p) (s ∷ sigs)) ≡ true) (eqb-true x v e) m) ∙ f
      both false e m f = f

  -- Timelocks.

  module _ (mode : d.mode ≡ Timelocks) (v : ℕ) (lead : leads d v 0 ≡ true) (secret : List ℕ) where
    one : length d.leaders ≡ 1
    one = (subst (λ m. IsTimed m d) mode k.timed).0

    abbrev IsShown : Type 0
    IsShown = list_any (λ e. carries secret (pick_call v e)) (flat_map (λ h. h) b) ≡ true

    follower : (u : ℕ) → leads d u 0 ≡ false → is_listed u d.leaders ≡ false
    follower u f = not-true _ (λ e.
        let i = is_listed-true u (get_or d.leaders 0 0 ∷ []) (ap (is_listed u) (sym (one_leader d.leaders one)) ∙ e) in
        elim i [
          | inl q ↦ false≢true (sym f ∙ eq-eqb _ u (get_or_default d.leaders 0 d.graph.n 0 (subst (λ z. 0 < z) (sym one) (omega arith)) ∙ sym q))
          | inr q ↦ q
        ])

    -- a taken hashkey whose taker leads
    by_leader : (key : Hashkey) (t : Taken d b key) → bytes_eq key.secret secret ≡ true → leads d (counterparty d t.arc) 0 ≡ true → IsShown
    by_leader key t s l =
        let same : counterparty d t.arc ≡ v = sym (eqb-true _ (counterparty d t.arc) l) ∙ eqb-true _ v lead in
        let r = taker key t in
        list_any-in (λ e. carries secret (pick_call v e)) (flat_map (λ h. h) b) t.now (ap (λ z. carries secret (pick_call z t.now)) (sym same)
        ∙ (ap (carries secret) r.called ∙ s)) (entry_in key t)

    abbrev Again : ℕ → Type 0
    Again m =
        (q : List ℕ) (inner : Hashkey) (y : Taken d b inner) → bytes_eq inner.secret secret ≡ true → leads d (counterparty d y.arc) 0 ≡ false
        → is_path d.graph q ≡ true → last_is (counterparty d y.arc) q ≡ true → are_followers d.leaders q ≡ true → length q + m ≡ suc d.graph.n → IsShown

    chase : (m : ℕ) (p : List ℕ) (key : Hashkey) (t : Taken d b key) → bytes_eq key.secret secret ≡ true → leads d (counterparty d t.arc) 0 ≡ false
        → is_path d.graph p ≡ true → last_is (counterparty d t.arc) p ≡ true → are_followers d.leaders p ≡ true → length p + m ≡ suc d.graph.n → IsShown
    chase zero p key t s f path last fs e = let l = path_length d.graph p path in absurd (omega arith)
    chase (suc m) p key t s f path last fs e =
        let r = taker key t in
        let lock : key.lock ≡ 0 = (let z = r.lock in let q = one in omega arith) in
        let o : (leads d (counterparty d t.arc) key.lock || list_any (λ a.
        list_any (λ e. carries key.secret (accepted e)) (history b a)) (leaving d.graph (counterparty d t.arc))) ≡ true =
        ap (λ m. has_origin m d b (counterparty d t.arc) key) (sym mode) ∙ r.origin in
        let shown : list_any (λ a. list_any (λ e. carries key.secret (accepted e)) (history b a)) (leaving d.graph (counterparty d t.arc)) ≡ true =
        ap (λ z. z || list_any (λ a. list_any (λ e. carries key.secret (accepted e)) (history b a)) (leaving d.graph (counterparty d t.arc)))
        (sym (ap (leads d (counterparty d t.arc)) lock ∙ f)) ∙ o in
        let y = in_any (λ a. list_any (λ e. carries key.secret (accepted e)) (history b a)) (leaving d.graph (counterparty d t.arc)) shown in
        let z = in_any (λ e. carries key.secret (accepted e)) (history b y.0) y.2 in
        let i = revealed key.secret (accepted z.0) z.2 in
        let n = moment_from_in (history b y.0) z.0 z.1 in
        let out = leaves d (counterparty d t.arc) y.0 y.1 in
        next i.0 (record { arc = y.0; below = out.0; past = n.0; now = z.0; stands = n.1; took = i.1 })
        (ap (λ x. bytes_eq x secret) (bytes_eq-true i.0.secret key.secret i.2) ∙ s)
        (arc_has d.graph y.0 (counterparty d t.arc) (counterparty d y.0) out.0 out.1 refl)
        (λ q inner y sy l path last fs e. chase m q inner y sy l path last fs e)
      where
        next : (inner : Hashkey) (y : Taken d b inner) → bytes_eq inner.secret secret ≡ true
            → has_arc d.graph (counterparty d t.arc) (counterparty d y.arc) ≡ true → Again m → IsShown
        next inner y sy arc again = go (leads d (counterparty d y.arc) 0) refl
          where
            apart : IsElement (counterparty d y.arc) p → ⊥
            apart i =
                let z = suffix_from d.graph d.leaders p (counterparty d y.arc) (counterparty d t.arc) path last fs i in
                false≢true (sym (k.feedback (counterparty d y.arc) (counterparty d t.arc) z.part z.between z.followers) ∙ arc)

            go : (x : Bool) → leads d (counterparty d y.arc) 0 ≡ x → IsShown
            go true l = by_leader inner y sy l
            go false l =
                let more = path_snoc d.graph p (counterparty d t.arc) (counterparty d y.arc) path last arc (k.ends.to y.arc y.below) apart in
                let long : length (p ++ counterparty d y.arc ∷ []) ≡ length p + length (counterparty d y.arc ∷ []) =
                length-append p (counterparty d y.arc ∷ []) in
                again (p ++ counterparty d y.arc ∷ []) inner y sy l more.0 more.1
                (followers-append d.leaders p (counterparty d y.arc) fs (follower (counterparty d y.arc) l)) (omega arith)

    shown : (key : Hashkey) (t : Taken d b key) → bytes_eq key.secret secret ≡ true → IsShown
    shown key t s = go (leads d (counterparty d t.arc) 0) refl
      where
        go : (x : Bool) → leads d (counterparty d t.arc) 0 ≡ x → IsShown
        go true l = by_leader key t s l
        go false l =
            chase d.graph.n (counterparty d t.arc ∷ []) key t s l (lt-ltb (counterparty d t.arc) d.graph.n (k.ends.to t.arc t.below))
            (eq-eqb (counterparty d t.arc) (counterparty d t.arc) refl)
            (and_both (not (is_listed (counterparty d t.arc) d.leaders)) true (ap not (follower (counterparty d t.arc) l)) refl) (omega arith)

  forges_none : (m : Mode) → d.mode ≡ m → (v : ℕ) (key : Hashkey) → Taken d b key → forges m d b v (Some (Unlock key)) ≡ false
  unfolding forges
  forges_none Hashkeys e v key t = unforged_suffix v e key.path key.sigs key t
  forges_none Timelocks e v key t = go (leads d v key.lock) refl
    where
      and_last : (x y z : Bool) → (y ≡ true → z ≡ true) → (x && y && not z) ≡ false
      and_last true true true h = refl
      and_last true true false h = absurd (cc (h refl))
      and_last true false z h = refl
      and_last false y z h = refl

      go : (x : Bool) → leads d v key.lock ≡ x
          → (bytes_eq (hashed_value key.secret) (slice_index_or d.hashlocks key.lock []) && leads d v key.lock
          && not (list_any (λ e. carries key.secret (pick_call v e)) (flat_map (λ h. h) b))) ≡ false
      go x l =
          and_last (bytes_eq (hashed_value key.secret) (slice_index_or d.hashlocks key.lock [])) (leads d v key.lock)
          (list_any (λ e. carries key.secret (pick_call v e)) (flat_map (λ h. h) b)) (λ h.
          let lock : key.lock ≡ 0 =
          (let z = Taker.lock (taker key t) in let q : length d.leaders ≡ 1 = (subst (λ m. IsTimed m d) e k.timed).0 in omega arith) in
          shown e v (ap (leads d v) (sym lock) ∙ h) key.secret key t (bytes_eq-refl key.secret))

  forges_other : (v a : ℕ) (past : List Entry) (e : Entry) → a < length d.graph.arcs → IsMoment (history b a) past e → (o : Option Call)
      → accepted e ≡ o → forges d.mode d b v o ≡ false
  unfolding forges
  forges_other v a past e l m (Some (Unlock key)) q = forges_none d.mode refl v key (record { arc = a; below = l; past = past; now = e; stands = m; took = q })
  forges_other v a past e l m None q = by_mode d.mode
    where
      by_mode : (m : Mode) → forges m d b v None ≡ false
      by_mode Timelocks = refl
      by_mode Hashkeys = refl
  forges_other v a past e l m (Some (Publish t)) q = by_mode d.mode
    where
      by_mode : (m : Mode) → forges m d b v (Some (Publish t)) ≡ false
      by_mode Timelocks = refl
      by_mode Hashkeys = refl
  forges_other v a past e l m (Some Claim) q = by_mode d.mode
    where
      by_mode : (m : Mode) → forges m d b v (Some Claim) ≡ false
      by_mode Timelocks = refl
      by_mode Hashkeys = refl
  forges_other v a past e l m (Some Refund) q = by_mode d.mode
    where
      by_mode : (m : Mode) → forges m d b v (Some Refund) ≡ false
      by_mode Timelocks = refl
      by_mode Hashkeys = refl
  forges_other v a past e l m (Some (Transfer to units)) q = by_mode d.mode
    where
      by_mode : (m : Mode) → forges m d b v (Some (Transfer to units)) ≡ false
      by_mode Timelocks = refl
      by_mode Hashkeys = refl

pub nothing_is_forged : NothingIsForged
nothing_is_forged d b k legal all v a past e l m = forges_other d b k legal all v a past e l m (accepted e) refl
