-- If a party's calls keep its rules, nothing is due by the hashkeys that it signed exactly where
-- nothing is due by those of its unlock calls.
use Rattle.std.proofs.Common.{◌≡◌, ℕ, ◌<◌, Bool, true, false, cond, ◌||◌, List, [], ◌∷◌, ◌++◌, length, Option, Some, None, is_some, refl, sym, ap}
use Rattle.std.proofs.Common.{◌∙◌, subst, inl, inr, arith}
use Rattle.std.specs.List.{list_any, flat_map}
use Rattle.std.proofs.lemmas.Bool.{false≢true}
use Rattle.swap_base.specs.Lists.{or_else, IsElement}
use Rattle.swap_base.proofs.Lists.{first_at, first_given_answer-in, from_range, from_whole, in_from_moment, moment_from_in}
use Rattle.swap_digraph.specs.declared.deal.Mode.{Mode}
use Rattle.swap_digraph.specs.declared.deal.Mode.TheVariants.{Timelocks, Hashkeys}
use Rattle.swap_digraph.specs.declared.deal.Deal.{Deal}
use Rattle.swap_digraph.specs.Graph.{leaving, entering, is_listed}
use Rattle.swap_digraph.specs.Deal.{locks, leads}
use Rattle.hashkey_path.specs.declared.hashkey.Hashkey.{Hashkey}
use Rattle.ledger_core.specs.declared.entry.Call.{Call}
use Rattle.ledger_core.specs.declared.entry.Call.TheVariants.{Publish, Unlock, Claim, Refund, Transfer}
use Rattle.ledger_core.specs.History.{accepted, Opening, opened, is_open, IsLegal}
use Rattle.ledger_core.specs.Book.{Histories, history}
use Rattle.ledger_core.proofs.History.{done_at, opened_done, of_unlock, clear_at, opened-now, is_some-of, lock-below}
use Rattle.swap_rules.specs.Accepted.{IsAccepted, IsTimed}
use Rattle.swap_rules.specs.Party.{pick_call, unlock_hashkey, first_key, key_without_party}
use Rattle.swap_rules.specs.Conduct.{has_seen, has_origin, carries, extends_without_party, is_alone}
use Rattle.swap_rules.specs.Due.{Wallet, seen_key, extended, due_key, presented, may_unlock, due_arc_unlock, due_publishes, due_unlocks, due_claims}
use Rattle.swap_rules.specs.Due.{due_refunds, due}
use Rattle.swap_rules.specs.Machine.{IsSound}
use Rattle.swap_rules.proofs.Words.{append_empty, leaves, key_parts}
use Rattle.swap_rules.proofs.Times.{no_path}
use Rattle.swap_rules.proofs.Prefixes.{in_any}
use Rattle.swap_rules.proofs.SafeHashkeys.{longer, extended_without}
use Rattle.swap_rules.proofs.Rounds.{nothing_due, opened_key}
use Rattle.party_threads.specs.Race.{RestShowsInCalls}

-- Empty parts.

none_of_each : {A B : Type 0} (f : A → List B) (xs : List A) → ((x : A) → IsElement x xs → f x ≡ []) → flat_map f xs ≡ []
none_of_each f [] h = refl
none_of_each f (x ∷ xs) h = ap (λ ys. ys ++ flat_map f xs) (h x (inl refl)) ∙ none_of_each f xs (λ y i. h y (inr i))

not_presented : (test : Bool) (a : ℕ) (o : Option Hashkey) → (test ≡ true → o ≡ None) → cond test (presented a o) [] ≡ []
not_presented true a o h = ap (presented a) (h refl)
not_presented false a o h = refl

key_parts_of : (o : Option Hashkey) (y : Bool) (own : Hashkey) (w : Wallet) (s : Option Hashkey) → or_else o (cond y (Some own) (extended w s)) ≡ None
    → (o ≡ None) × (y ≡ false) × (s ≡ None)
key_parts_of (Some key) y own w s e = absurd (cc e)
key_parts_of None true own w s e = absurd (cc e)
key_parts_of None false own w (Some key) e = absurd (cc e)
key_parts_of None false own w None e = (refl, refl, refl)

revealed : (secret : List ℕ) (o : Option Call) → carries secret o ≡ true → (key : Hashkey) × (o ≡ Some (Unlock key))
revealed secret (Some (Unlock key)) e = (key, refl)
revealed secret None e = absurd (cc e)
revealed secret (Some (Publish t)) e = absurd (cc e)
revealed secret (Some Claim) e = absurd (cc e)
revealed secret (Some Refund) e = absurd (cc e)
revealed secret (Some (Transfer to units)) e = absurd (cc e)

module _ (d : Deal) (v : ℕ) (w : Wallet) (k : Histories) where
  -- without a hashkey there is none to extend either
  no_key : (o : Option Hashkey) (i : ℕ) → due_key d v w o k i ≡ None → (o ≡ None) × (leads d v i ≡ false) × (seen_key d v k i ≡ None)
  unfolding due_key
  no_key o i e = key_parts_of o (leads d v i) (w.first i) w (seen_key d v k i) e

  -- where nothing is due by some hashkeys, nothing is by others that give none where those give
  -- none
  none_either : (s t : ℕ → Option Hashkey) → ((i : ℕ) → i < length d.leaders → due_key d v w (s i) k i ≡ None → due_key d v w (t i) k i ≡ None)
      → due d v w s k ≡ [] → due d v w t k ≡ []
  unfolding due due_arc_unlock
  none_either s t h e =
      let e1 = append_empty (due_publishes d v k ++ due_unlocks d v w s k ++ due_claims d v k) (due_refunds d v k) e in
      let e2 = append_empty (due_publishes d v k ++ due_unlocks d v w s k) (due_claims d v k) e1.0 in
      let e3 = append_empty (due_publishes d v k) (due_unlocks d v w s k) e2.0 in
      let n = nothing_due d v w s k e in
      let unlocks : due_unlocks d v w t k ≡ [] =
      none_of_each (λ i. flat_map (due_arc_unlock d v w (t i) k i) (entering d.graph v)) (locks d) (λ i j.
      let below : i < length d.leaders = from_range i (length d.leaders) j in
      none_of_each (due_arc_unlock d v w (t i) k i) (entering d.graph v) (λ a l.
      not_presented (may_unlock d v k i a) a (due_key d v w (t i) k i) (λ may. h i below (n.unlock i a below l may)))) in
      λ z. e3.0 z ++ unlocks z ++ e2.1 z ++ e1.1 z

  module _ (signed : ℕ → Option Hashkey) (accepted_deal : IsAccepted d) (sound : IsSound d k signed v) where
    legal_on : (a : ℕ) → IsElement a (leaving d.graph v) → IsLegal d a (history k a)
    legal_on a i = sound.legal.legal a (subst (λ n. a < n) (sym sound.legal.one_each) (leaves d v a i).0)

    -- the hashkey of a first unlock call was signed
    called_is_signed : (i : ℕ) (key : Hashkey) → first_key k v i ≡ Some key → signed i ≡ Some key
    unfolding first_key
    called_is_signed i key e =
        let f = first_at (λ e. unlock_hashkey i (pick_call v e)) (flat_map (λ h. h) k) key e in
        let parts = key_parts i (pick_call v f.now) key f.gives in
        let y = from_whole k f.now (subst (IsElement f.now) (sym f.stands.1) (in_from_moment f.past f.now f.stands.0)) in
        let m = moment_from_in (history k y.0) f.now y.2 in
        subst (λ j. signed j ≡ Some key) parts.1 (sound.rules.own y.0 m.0 f.now (Unlock key) m.1 parts.0).2

    -- a known opening by a path without v is one that v may extend
    by_opening : (a i : ℕ) (o : Opening) → IsElement a (leaving d.graph v) → opened (history k a) i ≡ Some o → is_listed v o.key.path ≡ false
        → is_some (seen_key d v k i) ≡ true
    unfolding seen_key
    by_opening a i o l e without =
        first_given_answer-in (λ a. key_without_party v (opened (history k a) i)) (leaving d.graph v) a o.key l
        (ap (key_without_party v) e ∙ ap (λ z. cond z None (Some o.key)) without)

    seen_by_hashkeys : (i : ℕ) (key : Hashkey) → key.lock ≡ i → has_seen d k v (extends_without_party v key) ≡ true → is_some (seen_key d v k i) ≡ true
    seen_by_hashkeys i key lock e =
        let y = in_any (λ a. list_any (λ e. extends_without_party v key (accepted e)) (history k a)) (leaving d.graph v) e in
        let z = in_any (λ e. extends_without_party v key (accepted e)) (history k y.0) y.2 in
        let m = moment_from_in (history k y.0) z.0 z.1 in
        let p = extended_without v key (accepted z.0) z.2 in
        let long = longer key v p.0 key.path key.sigs key p.3 in
        let lock_is : p.0.lock ≡ i = long.1 ∙ lock in
        let legal = legal_on y.0 y.1 in
        let done = done_at d y.0 (history k y.0) m.0 z.0 (Unlock p.0) z.0.height legal m.1 p.1 refl in
        let s : is_open (history k y.0) i ≡ true =
        subst (λ j. is_open (history k y.0) j ≡ true) lock_is (opened-now (history k y.0) m.0 z.0 p.0 m.1 p.1) in
        let o = is_some-of (opened (history k y.0) i) s in
        let one = opened_key d y.0 (history k y.0) i z.0.height p.0 o.0 legal done lock_is o.1 in
        by_opening y.0 i o.0 y.1 o.1 (ap (λ z. is_listed v z.path) one.0 ∙ p.2)

    seen_by_timelocks : (i : ℕ) (key : Hashkey) → d.mode ≡ Timelocks → i < length d.leaders → has_seen d k v (carries key.secret) ≡ true
        → is_some (seen_key d v k i) ≡ true
    seen_by_timelocks i key mode below e =
        let y = in_any (λ a. list_any (λ e. carries key.secret (accepted e)) (history k a)) (leaving d.graph v) e in
        let z = in_any (λ e. carries key.secret (accepted e)) (history k y.0) y.2 in
        let r = revealed key.secret (accepted z.0) z.2 in
        let m = moment_from_in (history k y.0) z.0 z.1 in
        let legal = legal_on y.0 y.1 in
        let act = (clear_at d y.0 (history k y.0) m.0 z.0 (Unlock r.0) legal m.1 r.1).0 in
        let low : r.0.lock < length d.leaders = lock-below d y.0 r.0 act.fits in
        let one : length d.leaders ≡ 1 = (subst (λ m. IsTimed m d) mode accepted_deal.timed).0 in
        let same : r.0.lock ≡ i = omega (arith, low, one, below) in
        let s : is_open (history k y.0) i ≡ true =
        subst (λ j. is_open (history k y.0) j ≡ true) same (opened-now (history k y.0) m.0 z.0 r.0 m.1 r.1) in
        let o = is_some-of (opened (history k y.0) i) s in
        let u = opened_done d y.0 (history k y.0) i o.0 legal o.1 in
        let of_u = of_unlock d y.0 u.0.past u.0.act.by o.0.key u.0.clear in
        by_opening y.0 i o.0 y.1 o.1 (ap (is_listed v) (no_path d y.0 o.0.key mode of_u.path))

    -- what v signed for a lock that it doesn't lead extends what it has seen
    seen_of_signed : (i : ℕ) (key : Hashkey) → signed i ≡ Some key → leads d v i ≡ false → is_some (seen_key d v k i) ≡ true
    seen_of_signed i key e f = go d.mode refl
      where
        kept : (key.lock ≡ i) × (i < length d.leaders) × (has_origin d.mode d k v key ≡ true)
        kept = let r = sound.rules.keys i key e in (r.good.lock, r.below, r.origin)

        go : (m : Mode) → d.mode ≡ m → is_some (seen_key d v k i) ≡ true
        go Hashkeys em =
            seen_by_hashkeys i key kept.0 (ap (λ z. cond z (is_alone v key.path) (has_seen d k v (extends_without_party v key))) (sym (ap (leads d v) kept.0 ∙ f))
            ∙ (ap (λ m. has_origin m d k v key) (sym em) ∙ kept.2))
        go Timelocks em =
            seen_by_timelocks i key em kept.1 (ap (λ z. z || has_seen d k v (carries key.secret)) (sym (ap (leads d v) kept.0 ∙ f))
            ∙ (ap (λ m. has_origin m d k v key) (sym em) ∙ kept.2))

    not_called : (i : ℕ) → signed i ≡ None → first_key k v i ≡ None
    not_called i none = go (first_key k v i) refl
      where
        go : (o : Option Hashkey) → first_key k v i ≡ o → first_key k v i ≡ None
        go None e = e
        go (Some key) e = absurd (cc (sym none ∙ called_is_signed i key e))

    not_signed : (i : ℕ) → leads d v i ≡ false → seen_key d v k i ≡ None → signed i ≡ None
    not_signed i f none = go (signed i) refl
      where
        go : (o : Option Hashkey) → signed i ≡ o → signed i ≡ None
        go None e = e
        go (Some key) e = absurd (false≢true (sym (ap is_some none) ∙ seen_of_signed i key e f))

    by_calls : (i : ℕ) → due_key d v w (signed i) k i ≡ None → due_key d v w (first_key k v i) k i ≡ None
    by_calls i e =
        let none = (no_key (signed i) i e).0 in
        ap (λ o. due_key d v w o k i) (not_called i none ∙ sym none) ∙ e

    by_signed : (i : ℕ) → due_key d v w (first_key k v i) k i ≡ None → due_key d v w (signed i) k i ≡ None
    by_signed i e =
        let none = no_key (first_key k v i) i e in
        ap (λ o. due_key d v w o k i) (not_signed i none.1 none.2 ∙ sym none.0) ∙ e

    pub both_ways : (due d v w signed k ≡ [] → due d v w (first_key k v) k ≡ []) × (due d v w (first_key k v) k ≡ [] → due d v w signed k ≡ [])
    both_ways = (none_either signed (first_key k v) (λ i l e. by_calls i e), none_either (first_key k v) signed (λ i l e. by_signed i e))

pub rest_shows_in_calls : RestShowsInCalls
rest_shows_in_calls d v w known signed accepted_deal sound = both_ways d v w known signed accepted_deal sound
