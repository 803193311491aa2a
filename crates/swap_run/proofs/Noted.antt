-- What a conforming party has noted stays right: after entries of others, a look of its own, and a
-- due call of its own.
use Rattle.std.proofs.Common.{append_assoc, ◌≡◌, ◌≢◌, ◌⊎◌, ℕ, ◌<◌, ◌≤◌, ◌==◌, nat_lt, Bool, true, false, cond, List, [], ◌∷◌, ◌++◌, length, Option}
use Rattle.std.proofs.Common.{Some, None, refl, sym, ap, ◌∙◌, subst, inl, inr, eqb-true, eq-eqb, ltb-true, ltb-false, arith, zero-add, set}
use Rattle.std.proofs.lemmas.List.{length-set, set-set}
use Rattle.std.proofs.lemmas.List.FromFn.{get_or-map-range_with_len, length-map-range_with_len}
use Rattle.std.proofs.lemmas.Bool.{false≢true}
use Rattle.std.proofs.Math.ListN.{get_or-eq_default}
use Rattle.swap_base.specs.Lists.{IsElement}
use Rattle.swap_base.proofs.Lists.{from_append}
use Rattle.swap_digraph.specs.declared.deal.Deal.{Deal}
use Rattle.hashkey_path.specs.declared.hashkey.Hashkey.{Hashkey}
use Rattle.ledger_core.specs.declared.entry.Call.{Call}
use Rattle.ledger_core.specs.declared.entry.Call.TheVariants.{Publish, Unlock, Claim, Refund, Transfer}
use Rattle.ledger_core.specs.declared.entry.Sender.{Sender}
use Rattle.ledger_core.specs.declared.entry.What.{What}
use Rattle.ledger_core.specs.declared.entry.Entry.{Entry}
use Rattle.ledger_core.specs.History.{is_sender, IsLegal}
use Rattle.ledger_core.specs.Book.{Histories, history, IsLegalBook}
use Rattle.swap_job.specs.Fitting.{is_near}
use Rattle.swap_rules.specs.Accepted.{IsAccepted}
use Rattle.swap_rules.specs.Due.{Wallet, Action, due}
use Rattle.swap_rules.specs.Machine.{Knows, IsWallet, IsSound, noted}
use Rattle.swap_rules.proofs.Prefixes.{same_or_not}
use Rattle.ledger_core.proofs.History.{not-true}
use Rattle.swap_rules.proofs.Machines.{learn_sound, call_sound}
use Rattle.swap_rules.proofs.Due.{IsDue, is_due}
use Rattle.swap_rules.proofs.Conducting.{Next, Still, Pushed, history_same, history_other, knows_all}
use Rattle.ledger_core.specs.Ledger.{after_call}
use Rattle.party_wallet.specs.Value.{signed_hashkey}
use Rattle.swap_run.specs.Run.{Notes, signed_through_call, notes_with_ledger}

-- The hashkeys that a call signs, in a list and as a function.

pub signed_below : (signed : List (Option Hashkey)) (c : Call) (i : ℕ) → i < length signed → signed_hashkey (signed_through_call signed c) i ≡ noted (signed_hashkey signed) c i
signed_below signed c i lt = get_or-map-range_with_len (noted (signed_hashkey signed) c) 0 (length signed) i i None lt (zero-add i)

pub signed_length : (signed : List (Option Hashkey)) (c : Call) → length (signed_through_call signed c) ≡ length signed
signed_length signed c = length-map-range_with_len (noted (signed_hashkey signed) c) 0 (length signed)

none_above : (signed : List (Option Hashkey)) (c : Call) → ((key : Hashkey) → c ≡ Unlock key → key.lock < length signed) → (i : ℕ) → length signed ≤ i
    → noted (signed_hashkey signed) c i ≡ None
none_above signed (Publish t) below i le = get_or-eq_default signed None le
none_above signed (Unlock key) below i le =
    let lt : key.lock < length signed = below key refl in
    let apart : i ≢ key.lock = λ q. absurd (omega (arith, q, lt, le)) in
    ap (λ b. cond b (Some key) (signed_hashkey signed i)) (not-true (i == key.lock) (λ t. apart (eqb-true i key.lock t))) ∙ get_or-eq_default signed None le
none_above signed Claim below i le = get_or-eq_default signed None le
none_above signed Refund below i le = get_or-eq_default signed None le
none_above signed (Transfer to units) below i le = get_or-eq_default signed None le

signed_at : (signed : List (Option Hashkey)) (c : Call) → ((key : Hashkey) → c ≡ Unlock key → key.lock < length signed) → (i : ℕ)
    → signed_hashkey (signed_through_call signed c) i ≡ noted (signed_hashkey signed) c i
signed_at signed c below i = go (nat_lt i (length signed)) refl
  where
    go : (b : Bool) → nat_lt i (length signed) ≡ b → signed_hashkey (signed_through_call signed c) i ≡ noted (signed_hashkey signed) c i
    go true e = signed_below signed c i (ltb-true i (length signed) e)
    go false e =
        let le : length signed ≤ i = ltb-false i (length signed) e in
        get_or-eq_default (signed_through_call signed c) None (subst (λ m. m ≤ i) (sym (signed_length signed c)) le) ∙ sym (none_above signed c below i le)

pub signed_is : (signed : List (Option Hashkey)) (c : Call) → ((key : Hashkey) → c ≡ Unlock key → key.lock < length signed)
    → signed_hashkey (signed_through_call signed c) ≡ noted (signed_hashkey signed) c
signed_is signed c below = λ j i. signed_at signed c below i j

-- Notes of v that are right over a book.
pub record Holds (d : Deal) (b : Histories) (n : Notes) (v : ℕ) : Type 0 where
  pub one_each : length n.known ≡ length d.graph.arcs
  pub places : length n.signed ≡ length d.leaders
  pub knows : (a : ℕ) → Knows v (history n.known a) (history b a)
  pub far : (a : ℕ) → a < length d.graph.arcs → is_near d v a ≡ false → history n.known a ≡ []
  pub sound : IsSound d n.known (signed_hashkey n.signed) v

-- Entries of others.

pub knows_on : (d : Deal) (v a : ℕ) (k h g : List Entry) (s : Sender) (w : What) → Knows v k h → Next d a h g s w → is_sender v s ≡ false → Knows v k g
knows_on d v a k h g s w kn (Still e) other = subst (Knows v k) (sym e) kn
knows_on d v a k h g s w kn (Pushed e q es ew le) other = record {
  rest = kn.rest ++ e ∷ [];
  whole = q ∙ (ap (λ l. l ++ e ∷ []) kn.whole ∙ append_assoc k kn.rest (e ∷ []));
  others = λ x i. at x (from_append kn.rest (e ∷ []) x i);
}
  where
    at : (x : Entry) → IsElement x kn.rest ⊎ IsElement x (e ∷ []) → is_sender v x.sender ≡ false
    at x (inl j) = kn.others x j
    at x (inr (inl z)) = ap (λ y. is_sender v y.sender) z ∙ (ap (is_sender v) es ∙ other)
    at x (inr (inr z)) = absurd z

pub hold_other : (d : Deal) (b : Histories) (n : Notes) (v a : ℕ) (k : List Entry) (s : Sender) (w : What) → a < length b → Next d a (history b a) k s w
    → is_sender v s ≡ false → Holds d b n v → Holds d (set b a k) n v
hold_other d b n v a k s w below next other h = record {
  one_each = h.one_each;
  places = h.places;
  knows = λ c. at c (same_or_not c a);
  far = h.far;
  sound = h.sound;
}
  where
    at : (c : ℕ) → (c ≡ a) ⊎ (c ≢ a) → Knows v (history n.known c) (history (set b a k) c)
    at c (inl e) =
        subst (λ z. Knows v (history n.known z) (history (set b a k) z)) (sym e)
        (subst (Knows v (history n.known a)) (sym (history_same b a k below))
        (knows_on d v a (history n.known a) (history b a) k s w (h.knows a) next other))
    at c (inr e) = subst (Knows v (history n.known c)) (sym (history_other b a c k e)) (h.knows c)

-- A look.

-- v knows the ledger of arc a up to its end, and the others as before
knows_end : (v : ℕ) (b known c : Histories) (a : ℕ) (h : List Entry) → a < length known → history c a ≡ h
    → ((z : ℕ) → z ≢ a → Knows v (history known z) (history c z)) → (z : ℕ) → Knows v (history (set known a h) z) (history c z)
knows_end v b known c a h below whole others z = go (same_or_not z a)
  where
    go : (z ≡ a) ⊎ (z ≢ a) → Knows v (history (set known a h) z) (history c z)
    go (inl e) =
        subst (λ y. Knows v (history (set known a h) y) (history c y)) (sym e)
        (subst (λ l. Knows v l (history c a)) (sym (history_same known a h below)) (subst (Knows v h) (sym whole) (knows_all v h)))
    go (inr e) = subst (λ l. Knows v l (history c z)) (sym (history_other known a z h e)) (others z e)

-- of ledgers that don't touch v nothing is known, where one that does is known up to its end
still_far : (d : Deal) (n : Notes) (v a : ℕ) (k : List Entry) → is_near d v a ≡ true
    → ((z : ℕ) → z < length d.graph.arcs → is_near d v z ≡ false → history n.known z ≡ [])
    → (z : ℕ) → z < length d.graph.arcs → is_near d v z ≡ false → history (set n.known a k) z ≡ []
still_far d n v a k near none z lz far = away (same_or_not z a)
  where
    away : (z ≡ a) ⊎ (z ≢ a) → history (set n.known a k) z ≡ []
    away (inl q) = absurd (false≢true (sym far ∙ (ap (is_near d v) q ∙ near)))
    away (inr apart) = history_other n.known a z k apart ∙ none z lz far

pub hold_look : (d : Deal) (b : Histories) (n : Notes) (v a : ℕ) → a < length d.graph.arcs → is_near d v a ≡ true → IsLegalBook d b → Holds d b n v
    → Holds d b (notes_with_ledger n a (history b a)) v
hold_look d b n v a below near legal h =
    let kn = h.knows a in
    let here : a < length n.known = subst (λ m. a < m) (sym h.one_each) below in
    let there : a < length b = subst (λ m. a < m) (sym legal.one_each) below in
    record {
      one_each = length-set n.known a (history b a) ∙ h.one_each;
      places = h.places;
      knows = knows_end v b n.known b a (history b a) here refl (λ z e. h.knows z);
      far = still_far d n v a (history b a) near h.far;
      sound =
          subst (λ l. IsSound d (set n.known a l) (signed_hashkey n.signed) v) (sym kn.whole)
          (learn_sound d n.known (signed_hashkey n.signed) v a kn.rest here kn.others (subst (IsLegal d a) kn.whole (legal.legal a there)) h.sound);
    }

-- A due call.

pub due_now : (d : Deal) (b : Histories) (n : Notes) (v : ℕ) (w : Wallet) (x : Action) → IsWallet d v w → IsAccepted d
    → IsElement x (due d v w (signed_hashkey n.signed) n.known) → Holds d b n v → IsDue d v w (signed_hashkey n.signed) n.known n.known x.arc x.call
due_now d b n v w x wallet accepted i h =
    is_due d v w (signed_hashkey n.signed) n.known n.known h.sound.legal h.sound.rules (λ a. knows_all v (history n.known a)) wallet accepted x i

-- the lock of a due unlock is one of those for which hashkeys are kept
pub low_lock : (d : Deal) (b : Histories) (n : Notes) (v : ℕ) (w : Wallet) (x : Action) → Holds d b n v
    → IsDue d v w (signed_hashkey n.signed) n.known n.known x.arc x.call → (key : Hashkey) → x.call ≡ Unlock key → key.lock < length n.signed
low_lock d b n v w x h is key e =
    let has : noted (signed_hashkey n.signed) x.call key.lock ≡ Some key =
    ap (λ c. noted (signed_hashkey n.signed) c key.lock) e
    ∙ ap (λ z. cond z (Some key) (signed_hashkey n.signed key.lock)) (eq-eqb key.lock key.lock refl) in
    subst (λ m. key.lock < m) (sym h.places) (is.keys key.lock key has).below

pub hold_act : (d : Deal) (b : Histories) (n : Notes) (v : ℕ) (w : Wallet) (x : Action) → IsWallet d v w → IsAccepted d → IsLegalBook d b
    → IsElement x (due d v w (signed_hashkey n.signed) n.known) → Holds d b n v
    → Holds d (set b x.arc (after_call d x.arc v x.call (history b x.arc))) (record {
      known =
          set n.known x.arc (after_call d x.arc v x.call (history b x.arc));
      signed = signed_through_call n.signed x.call;
    }) v
hold_act d b n v w x wallet accepted legal i h =
    let is = due_now d b n v w x wallet accepted i h in
    let kn = h.knows x.arc in
    let here : x.arc < length n.known = subst (λ m. x.arc < m) (sym h.one_each) is.below in
    let there : x.arc < length b = subst (λ m. x.arc < m) (sym legal.one_each) is.below in
    let sound =
    call_sound d v w n.known (signed_hashkey n.signed) x kn.rest wallet accepted i here kn.others
    (subst (IsLegal d x.arc) kn.whole (legal.legal x.arc there)) h.sound in
    let one : IsSound d (set n.known x.arc (after_call d x.arc v x.call (history n.known x.arc ++ kn.rest))) (noted (signed_hashkey n.signed) x.call) v =
    subst (λ l. IsSound d l (noted (signed_hashkey n.signed) x.call) v)
    (set-set n.known x.arc (history n.known x.arc ++ kn.rest) (after_call d x.arc v x.call (history n.known x.arc ++ kn.rest))) sound in
    let two : IsSound d (set n.known x.arc (after_call d x.arc v x.call (history b x.arc))) (noted (signed_hashkey n.signed) x.call) v =
    subst (λ l. IsSound d (set n.known x.arc (after_call d x.arc v x.call l)) (noted (signed_hashkey n.signed) x.call) v) (sym kn.whole) one in
    record {
      one_each = length-set n.known x.arc (after_call d x.arc v x.call (history b x.arc)) ∙ h.one_each;
      places = signed_length n.signed x.call ∙ h.places;
      knows =
          knows_end v b n.known (set b x.arc (after_call d x.arc v x.call (history b x.arc))) x.arc (after_call d x.arc v x.call (history b x.arc)) here
          (history_same b x.arc (after_call d x.arc v x.call (history b x.arc)) there)
          (λ z e. subst (Knows v (history n.known z)) (sym (history_other b x.arc z (after_call d x.arc v x.call (history b x.arc)) e)) (h.knows z));
      far = still_far d n v x.arc (after_call d x.arc v x.call (history b x.arc)) is.of_the_two h.far;
      sound = subst (λ f. IsSound d (set n.known x.arc (after_call d x.arc v x.call (history b x.arc))) f v) (sym (signed_is n.signed x.call (low_lock d b n v w x h is))) two;
    }
