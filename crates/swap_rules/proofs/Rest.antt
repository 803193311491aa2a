-- A party for which nothing is due rests: ticks change only the heights that refunds are tested at.
use Rattle.std.proofs.Common.{◌≡◌, ◌≢◌, ◌⊎◌, ℕ, ◌≤◌, nat_lt, nat_le, Bool, true, false, cond, not, ◌&&◌, ◌||◌, List, [], ◌∷◌, ◌++◌, length, map, filter}
use Rattle.std.proofs.Common.{set, Option, Some, None, is_some, is_none, refl, sym, ap, ◌∙◌, subst, inl, inr, arith, ltb-true, ltb-false}
use Rattle.std.specs.List.{list_any, list_all, flat_map}
use Rattle.std.proofs.lemmas.Bool.{false≢true}
use Rattle.std.proofs.lemmas.List.{set_past}
use Rattle.swap_base.specs.Lists.{or_else, first_given_answer, IsElement}
use Rattle.swap_base.proofs.Lists.{first_given_answer-append, and_parts, in_filter, or_else-none, in_map}
use Rattle.swap_digraph.specs.declared.deal.Deal.{Deal}
use Rattle.swap_digraph.specs.Graph.{leaving, entering}
use Rattle.swap_digraph.specs.Deal.{locks, leads}
use Rattle.hashkey_path.specs.declared.hashkey.Hashkey.{Hashkey}
use Rattle.escrow_core.specs.Terms.{stated_terms, least, refund_expiry}
use Rattle.escrow_core.specs.Table.{are_open}
use Rattle.ledger_core.specs.declared.entry.Call.{Call}
use Rattle.ledger_core.specs.declared.entry.Call.TheVariants.{Publish, Claim, Refund}
use Rattle.ledger_core.specs.declared.entry.What.{What}
use Rattle.ledger_core.specs.declared.entry.What.TheVariants.{Call as Made, Tick}
use Rattle.ledger_core.specs.declared.entry.Entry.{Entry}
use Rattle.ledger_core.specs.History.{height, accepted, accepted_call, publication, published, opening, opened, settling, settled, triggered, is_sender}
use Rattle.ledger_core.specs.Book.{Histories, history}
use Rattle.ledger_core.specs.History.{made_call}
use Rattle.swap_rules.specs.Party.{is_arc_correct, publication_height, is_ready, is_triggered, least_expiry, has_expired, leads_one, pick_call}
use Rattle.swap_rules.specs.Party.{key_without_party, first_seen_key}
use Rattle.swap_rules.specs.Conduct.{is_publish}
use Rattle.swap_rules.specs.Due.{Wallet, unlocks_lock, is_claiming, is_refunding, has_called, is_due_publish, seen_key, extended, due_key, presented}
use Rattle.swap_rules.specs.Due.{due_arc_unlock, is_due_claim, is_due_refund, when_due, due_publishes, due_unlocks, due_claims, due_refunds, due}
use Rattle.swap_rules.specs.Rest.{is_ticking, are_ticks, is_waiting, least_number, rest_deadline, StaysLow, TicksMakeNothingDue}
use Rattle.ledger_core.proofs.History.{not-true}
use Rattle.swap_rules.proofs.Words.{append_empty}
use Rattle.swap_rules.specs.Machine.{Begins}
use Rattle.swap_rules.proofs.Prefixes.{same_or_not, begins_refl}
use Rattle.swap_rules.proofs.Openings.{expired-least, least-below}
use Rattle.swap_rules.proofs.Conducting.{history_same, history_other}
use Rattle.swap_rules.proofs.Rounds.{refund_none}
use Rattle.time_bounds.specs.Times as times

-- A list with ticks at its end.

no_call : (w : What) (x : _) → is_ticking w ≡ true → accepted_call w x ≡ None
no_call (Made c) x t = absurd (false≢true t)
no_call (Tick k) x t = refl

pub not_called : (v : ℕ) (e : Entry) → is_ticking e.what ≡ true → pick_call v e ≡ None
not_called v e t = go (is_sender v e.sender) e.what t
  where
    go : (b : Bool) (w : What) → is_ticking w ≡ true → cond b (made_call w) None ≡ None
    go true (Made c) t = absurd (false≢true t)
    go true (Tick k) t = refl
    go false w t = refl

none_first : {B : Type 0} (f : Entry → Option B) → ((e : Entry) → is_ticking e.what ≡ true → f e ≡ None) → (more : List Entry) → are_ticks more ≡ true
    → first_given_answer f more ≡ None
none_first f h [] t = refl
none_first f h (e ∷ more) t = let p =
    and_parts (is_ticking e.what) (are_ticks more) t in ap (λ o. or_else o (first_given_answer f more)) (h e p.0) ∙ none_first f h more p.1

-- a first answer that no tick gives is the same
pub first_past : {B : Type 0} (f : Entry → Option B) → ((e : Entry) → is_ticking e.what ≡ true → f e ≡ None) → (h more : List Entry)
    → are_ticks more ≡ true → first_given_answer f (h ++ more) ≡ first_given_answer f h
first_past f n h more t = first_given_answer-append f h more ∙ (ap (or_else (first_given_answer f h)) (none_first f n more t) ∙ or_else-none (first_given_answer f h))

any_past : (p : Entry → Bool) → ((e : Entry) → is_ticking e.what ≡ true → p e ≡ false) → (h more : List Entry) → are_ticks more ≡ true
    → list_any p (h ++ more) ≡ list_any p h
any_past p n [] [] t = refl
any_past p n [] (e ∷ more) t = let q = and_parts (is_ticking e.what) (are_ticks more) t in ap (λ b. b || list_any p more) (n e q.0) ∙ any_past p n [] more q.1
any_past p n (e ∷ h) more t = ap (λ b. p e || b) (any_past p n h more t)

-- What a party reads of an arc, its height apart.
pub record ReadsSame (v : ℕ) (h g : List Entry) : Type 0 where
  pub publish : published g ≡ published h
  pub open_at : (i : ℕ) → opened g i ≡ opened h i
  pub settle : settled g ≡ settled h
  pub calls : (test : Option Call → Bool) → test None ≡ false → has_called v test g ≡ has_called v test h

pub reads_same : (v : ℕ) (h : List Entry) → ReadsSame v h h
reads_same v h = record { publish = refl; open_at = λ i. refl; settle = refl; calls = λ test n. refl }

pub reads_on : (v : ℕ) (h more : List Entry) → are_ticks more ≡ true → ReadsSame v h (h ++ more)
reads_on v h more t = record {
  publish = first_past (λ e. publication e.height (accepted e)) (λ e s. ap (publication e.height) (no_call e.what e.reply s)) h more t;
  open_at = λ i. first_past (λ e. opening i e.height (accepted e)) (λ e s. ap (opening i e.height) (no_call e.what e.reply s)) h more t;
  settle = first_past (λ e. settling (accepted e)) (λ e s. ap settling (no_call e.what e.reply s)) h more t;
  calls = λ test n. any_past (λ e. test (pick_call v e)) (λ e s. ap test (not_called v e s) ∙ n) h more t;
}

-- Two books in which a party reads the same, heights apart.

module _ (d : Deal) (v : ℕ) (b c : Histories) (same : (a : ℕ) → ReadsSame v (history b a) (history c a)) where
  published_on : (a : ℕ) → published (history c a) ≡ published (history b a)
  published_on a = let s = same a in s.publish

  opened_on : (a i : ℕ) → opened (history c a) i ≡ opened (history b a) i
  opened_on a i = let s = same a in s.open_at i

  settled_on : (a : ℕ) → settled (history c a) ≡ settled (history b a)
  settled_on a = let s = same a in s.settle

  called_on : (test : Option Call → Bool) (a : ℕ) → test None ≡ false → has_called v test (history c a) ≡ has_called v test (history b a)
  called_on test a n = let s = same a in s.calls test n

  triggered_on : (a : ℕ) → is_triggered d c a ≡ is_triggered d b a
  triggered_on a = λ j. are_open d (λ i. is_some (opened_on a i j))

  ready_on : is_ready d c v ≡ is_ready d b v
  unfolding is_ready
  ready_on =
      λ j. list_all (λ a. is_arc_correct d a (published_on a j) && nat_le (publication_height (published_on a j))
      (times.opening_deadline d.start d.delta d.bound))
      (entering d.graph v)

  first_seen_arc : (i : ℕ) → first_seen_key d c v i ≡ first_seen_key d b v i
  first_seen_arc i = λ j. first_given_answer (λ a. key_without_party v (opened_on a i j)) (leaving d.graph v)

  pub same_publish : (a : ℕ) → is_due_publish d v c a ≡ is_due_publish d v b a
  unfolding is_due_publish
  same_publish a = λ j. (leads_one d v || ready_on j) && not (called_on is_publish a refl j)

  pub same_publishes : due_publishes d v c ≡ due_publishes d v b
  same_publishes = λ j. flat_map (λ a. when_due (same_publish a j) a (Publish (stated_terms d a))) (leaving d.graph v)

  pub same_unlock : (w : Wallet) (s : Option Hashkey) (i a : ℕ) → due_arc_unlock d v w s c i a ≡ due_arc_unlock d v w s b i a
  unfolding due_arc_unlock due_key seen_key
  same_unlock w s i a =
      λ j. cond (ready_on j && not (called_on (unlocks_lock i) a refl j))
      (presented a (or_else s (cond (leads d v i) (Some (w.first i)) (extended w (first_seen_arc i j))))) []

  pub same_unlocks : (w : Wallet) (signed : ℕ → Option Hashkey) → due_unlocks d v w signed c ≡ due_unlocks d v w signed b
  same_unlocks w signed = λ j. flat_map (λ i. flat_map (λ a. same_unlock w (signed i) i a j) (entering d.graph v)) (locks d)

  pub same_claims : due_claims d v c ≡ due_claims d v b
  unfolding is_due_claim
  same_claims =
      λ j. flat_map (λ a. when_due (is_arc_correct d a (published_on a j) && triggered_on a j && not (called_on is_claiming a refl j)) a Claim)
      (entering d.graph v)

  pub same_waiting : (a : ℕ) → is_waiting d v c a ≡ is_waiting d v b a
  same_waiting a = λ j. is_some (published_on a j) && is_none (settled_on a j) && not (triggered_on a j) && not (called_on is_refunding a refl j)

  pub same_expiry : (a : ℕ) → least_expiry d a (history c a) ≡ least_expiry d a (history b a)
  same_expiry a = λ j. refund_expiry d a (stated_terms d a) (λ i. is_some (opened_on a i j))

-- Refunds.

not_due_by : (p s t x c : Bool) → (p && s && t && c) ≡ false → (p && s && t && x && c) ≡ false
not_due_by false s t x c e = refl
not_due_by true false t x c e = refl
not_due_by true true false x c e = refl
not_due_by true true true false c e = refl
not_due_by true true true true c e = e

unexpired : (p s t x c : Bool) → x ≡ false → (p && s && t && x && c) ≡ false
unexpired p s t true c e = absurd (cc e)
unexpired false s t false c e = refl
unexpired true false t false c e = refl
unexpired true true false false c e = refl
unexpired true true true false c e = refl

module _ (d : Deal) (v : ℕ) (k : Histories) (a : ℕ) where
  abbrev carries : Bool
  carries = is_some (published (history k a))

  abbrev unsettled : Bool
  unsettled = is_none (settled (history k a))

  abbrev closed : Bool
  closed = not (is_triggered d k a)

  abbrev expired : Bool
  expired = has_expired d a (history k a) (height (history k a))

  abbrev unasked : Bool
  unasked = not (has_called v is_refunding (history k a))

  abbrev IsLow : Type 0
  IsLow = is_waiting d v k a ≡ true → height (history k a) ≤ least_expiry d a (history k a)

  by_wait : (b : Bool) → is_waiting d v k a ≡ b → IsLow → (carries && unsettled && closed && expired && unasked) ≡ false
  by_wait false e low = not_due_by carries unsettled closed expired unasked e
  by_wait true e low =
      let under : height (history k a) ≤ least_expiry d a (history k a) = low e in
      unexpired carries unsettled closed expired unasked (not-true expired (λ x. let above = expired-least d a (history k a) (height (history k a)) x in
      omega arith))

  -- no refund is due on an arc on which v doesn't wait, or whose ledger isn't above the least
  -- expiry
  no_refund : IsLow → is_due_refund d v k a ≡ false
  unfolding is_due_refund
  no_refund low = by_wait (is_waiting d v k a) refl low

same_refund : (d : Deal) (v : ℕ) (b c : Histories) (a : ℕ) → history c a ≡ history b a → is_due_refund d v c a ≡ is_due_refund d v b a
unfolding is_due_refund
same_refund d v b c a e =
    λ j. is_some (published (e j)) && is_none (settled (e j)) && not (triggered d (e j)) && has_expired d a (e j) (height (e j))
    && not (has_called v is_refunding (e j))

no_refunds : (test : ℕ → Bool) (arcs : List ℕ) → ((a : ℕ) → IsElement a arcs → test a ≡ false) → flat_map (λ a. when_due (test a) a Refund) arcs ≡ []
no_refunds test [] h = refl
no_refunds test (a ∷ arcs) h =
    ap (λ b. when_due b a Refund ++ flat_map (λ a. when_due (test a) a Refund) arcs) (h a (inl refl)) ∙ no_refunds test arcs (λ c i. h c (inr i))

-- The height of rest.

least_below : (xs : List ℕ) (x : ℕ) → IsElement x xs → (t : ℕ) × (least_number xs ≡ Some t) × (t ≤ x)
least_below [] x i = absurd i
least_below (y ∷ ys) x i = (least (y ∷ ys), refl, least-below (y ∷ ys) x i)

-- where v waits, it rests at most up to the least expiry
pub rests_below : (d : Deal) (v : ℕ) (k : Histories) (a : ℕ) → IsElement a (leaving d.graph v) → is_waiting d v k a ≡ true
    → (t : ℕ) × (rest_deadline d v k ≡ Some t) × (t ≤ least_expiry d a (history k a))
rests_below d v k a i w =
    let expiries = λ (c : ℕ). least_expiry d c (history k c) in
    let waited = filter (is_waiting d v k) (leaving d.graph v) in
    least_below (map expiries waited) (expiries a) (in_map expiries waited a (in_filter (is_waiting d v k) a (leaving d.graph v) i w))

-- The law.

module _ (d : Deal) (v : ℕ) (w : Wallet) (signed : ℕ → Option Hashkey) (k : Histories) (a : ℕ) (more : List Entry) (ticks : are_ticks more ≡ true) where
  abbrev after : Histories
  after = set k a (history k a ++ more)

  -- the history of an arc is as before, or has the ticks at its end
  abbrev Which : ℕ → Type 0
  Which c = (history after c ≡ history k c) ⊎ ((c ≡ a) × (history after c ≡ history k a ++ more))

  which : (c : ℕ) → Which c
  which c = go (same_or_not c a) (nat_lt a (length k)) refl
    where
      go : (c ≡ a) ⊎ (c ≢ a) → (b : Bool) → nat_lt a (length k) ≡ b → Which c
      go (inr n) b e = inl (history_other k a c (history k a ++ more) n)
      go (inl q) true e = inr (q, ap (history after) q ∙ history_same k a (history k a ++ more) (ltb-true a (length k) e))
      go (inl q) false e = inl (ap (λ z. history z c) (set_past k a (history k a ++ more) (ltb-false a (length k) e)))

  pub reads : (c : ℕ) → ReadsSame v (history k c) (history after c)
  reads c = go (which c)
    where
      go : Which c → ReadsSame v (history k c) (history after c)
      go (inl e) = subst (ReadsSame v (history k c)) (sym e) (reads_same v (history k c))
      go (inr e) = subst (ReadsSame v (history k c)) (sym (e.1 ∙ ap (λ z. history k z ++ more) (sym e.0))) (reads_on v (history k c) more ticks)

  pub grows_on : (c : ℕ) → Begins (history k c) (history after c)
  grows_on c = go (which c)
    where
      go : Which c → Begins (history k c) (history after c)
      go (inl e) = subst (Begins (history k c)) (sym e) (begins_refl (history k c))
      go (inr e) = subst (Begins (history k c)) (sym (e.1 ∙ ap (λ z. history k z ++ more) (sym e.0))) (more, refl)

  pub none_refunded : due_refunds d v k ≡ [] → StaysLow d v k a more → due_refunds d v after ≡ []
  none_refunded none low = no_refunds (is_due_refund d v after) (leaving d.graph v) (λ c i. go c i (which c))
    where
      go : (c : ℕ) → IsElement c (leaving d.graph v) → Which c → is_due_refund d v after c ≡ false
      go c i (inl e) = same_refund d v k after c e ∙ refund_none d v k none c i
      go c i (inr e) = no_refund d v after c (λ waits.
          let here : IsElement a (leaving d.graph v) = subst (λ z. IsElement z (leaving d.graph v)) e.0 i in
          let waited : is_waiting d v k a ≡ true = ap (is_waiting d v k) (sym e.0) ∙ (sym (same_waiting d v k after reads c) ∙ waits) in
          let high : height (history after c) ≡ height (history k a ++ more) = ap height e.1 in
          let same : least_expiry d c (history after c) ≡ least_expiry d a (history k a) =
          same_expiry d v k after reads c ∙ ap (λ z. least_expiry d z (history k z)) e.0 in
          let under = low here waited in
          omega arith)

  pub rests_on : due d v w signed k ≡ [] → StaysLow d v k a more → due d v w signed after ≡ []
  unfolding due
  rests_on none low =
      let before = append_empty (due_publishes d v k ++ due_unlocks d v w signed k ++ due_claims d v k) (due_refunds d v k) none in
      rw (same_publishes d v k after reads, same_unlocks d v k after reads w signed, same_claims d v k after reads, none_refunded before.1 low, before.0) refl

pub ticks_make_nothing_due : TicksMakeNothingDue
ticks_make_nothing_due d v w signed k a more ticks none low = rests_on d v w signed k a more ticks none low
