-- What is asked of the hashkeys that a party sent.
use Rattle.std.proofs.Common.{◌≡◌, ℕ, ◌+◌, ◌<◌, ◌==◌, Bool, true, false, cond, ◌||◌, List, [], ◌∷◌, ◌++◌, length, take, get_or, Option, Some, None}
use Rattle.std.proofs.Common.{refl, sym, ap, ◌∙◌, append-nil, append_assoc}
use denote.Ref.{Bor}
use Rattle.std.specs.List.{list_any, flat_map, cons_option}
use Rattle.std.proofs.lemmas.List.{take_more, map_push}
use Rattle.std.proofs.lemmas.List.Elements.{filter_map-append}
use Rattle.swap_base.specs.Lists.{or_else, first_given_answer}
use Rattle.swap_base.proofs.Lists.{first_given_answer-append}
use Rattle.hashkey_path.specs.declared.hashkey.Hashkey.{Hashkey}
use Rattle.ledger_core.specs.declared.entry.Call.{Call}
use Rattle.ledger_core.specs.declared.entry.Call.TheVariants.{Publish, Unlock, Claim, Refund, Transfer}
use Rattle.ledger_core.specs.declared.entry.What.TheVariants.{Tick}
use Rattle.ledger_core.specs.declared.entry.Entry.{Entry}
use Rattle.ledger_core.specs.History.{is_sender, made_call}
use Rattle.ledger_core.specs.Book.{Histories}
use Rattle.swap_rules.specs.Party.{pick_call, unlock_hashkey, first_key}
use Rattle.history_index.specs.declared.made.Made.{Made}
use Rattle.history_index.specs.Made.{history_calls}
use Rattle.history_index.proofs.Calls.{filter_map_made}
use Rattle.conduct_check.specs.Sent.{unlock_key, lock_unlocks, unlocks_made, party_unlocks, shown}

abbrev pub if_lock : ℕ → Hashkey → Option Hashkey
if_lock i key = cond (key.lock == i) (Some key) None

abbrev pub for_lock : ℕ → Bor Hashkey → Option Hashkey
for_lock i r = if_lock i r.now

-- The walk that collects them.

pub sent_more : (old now new : List (Bor Hashkey)) (ms : List Made) (v i : ℕ) (x : Made) → i < length ms → x ≡ get_or ms i x
    → shown now ≡ shown old ++ unlocks_made (take i ms) v → shown new ≡ shown now ++ cons_option (unlock_key (pick_call v x.entry)) []
    → shown new ≡ shown old ++ unlocks_made (take (i + 1) ms) v
sent_more old now new ms v i x l is e k =
    let one : unlocks_made (take (i + 1) ms) v ≡ unlocks_made (take i ms) v ++ cons_option (unlock_key (pick_call v x.entry)) [] =
    ap (λ z. unlocks_made z v) (take_more ms i x l ∙ ap (λ z. take i ms ++ z ∷ []) (sym is))
    ∙ filter_map-append (λ (m : Made). unlock_key (pick_call v m.entry)) (take i ms) (x ∷ []) in
    k ∙ (ap (λ z. z ++ cons_option (unlock_key (pick_call v x.entry)) []) e
    ∙ (append_assoc (shown old) (unlocks_made (take i ms) v) (cons_option (unlock_key (pick_call v x.entry)) []) ∙ ap (λ z. shown old ++ z) (sym one)))

pub sent_one : (now new : List (Bor Hashkey)) (r : Bor Hashkey) (o : Option Hashkey) → new ≡ now ++ r ∷ [] → Some r.now ≡ o
    → shown new ≡ shown now ++ cons_option o []
sent_one now new r o e k = ap shown e ∙ (map_push (λ (z : Bor Hashkey). z.now) now r ∙ ap (λ z. shown now ++ cons_option z []) k)

pub sent_none : (now new : List (Bor Hashkey)) (o : Option Hashkey) → new ≡ now → None ≡ o → shown new ≡ shown now ++ cons_option o []
sent_none now new o e k = ap shown e ∙ (sym (append-nil (shown now)) ∙ ap (λ z. shown now ++ cons_option z []) k)

-- The calls alone hold the unlocks.

pub sent_of_tick : (v : ℕ) (e : Entry) (k : ℕ) → e.what ≡ Tick k → pick_call v e ≡ None
sent_of_tick v e k is = ap (λ w. cond (is_sender v e.sender) (made_call w) None) is ∙ none_either (is_sender v e.sender)
  where
    none_either : (b : Bool) → ◌≡◌ {A = Option Call} (cond b None None) None
    none_either true = refl
    none_either false = refl

pub made_unlocks : (v : ℕ) (h : List Entry) → unlocks_made (history_calls h) v ≡ lock_unlocks h v
made_unlocks v h = sym (filter_map_made (λ e. unlock_key (pick_call v e)) h (λ e k is. ap unlock_key (sent_of_tick v e k is)))

-- The first for a lock.

first_refs : {A B : Type 0} (f : A → Option B) (rs : List (Bor A)) → first_given_answer (λ r. f r.now) rs ≡ first_given_answer f (shown rs)
first_refs f [] = refl
first_refs f (r ∷ rs) = ap (or_else (f r.now)) (first_refs f rs)

first_head : (i : ℕ) (o : Option Call) (r : Option Hashkey) (ks : List Hashkey) → r ≡ first_given_answer (if_lock i) ks
    → or_else (unlock_hashkey i o) r ≡ first_given_answer (if_lock i) (cons_option (unlock_key o) ks)
first_head i None r ks e = e
first_head i (Some (Publish t)) r ks e = e
first_head i (Some (Unlock key)) r ks e = ap (or_else (if_lock i key)) e
first_head i (Some Claim) r ks e = e
first_head i (Some Refund) r ks e = e
first_head i (Some (Transfer to units)) r ks e = e

first_unlock : (i v : ℕ) (h : List Entry) → first_given_answer (λ e. unlock_hashkey i (pick_call v e)) h ≡ first_given_answer (if_lock i) (lock_unlocks h v)
first_unlock i v [] = refl
first_unlock i v (e ∷ h) = first_head i (pick_call v e) (first_given_answer (λ e. unlock_hashkey i (pick_call v e)) h) (lock_unlocks h v) (first_unlock i v h)

first_in_book : (i v : ℕ) (b : Histories) → first_given_answer (λ e. unlock_hashkey i (pick_call v e)) (flat_map (λ h. h) b) ≡ first_given_answer (if_lock i) (party_unlocks b v)
first_in_book i v [] = refl
first_in_book i v (h ∷ b) =
    first_given_answer-append (λ e. unlock_hashkey i (pick_call v e)) h (flat_map (λ h. h) b)
    ∙ (ap (λ o. or_else o (first_given_answer (λ e. unlock_hashkey i (pick_call v e)) (flat_map (λ h. h) b))) (first_unlock i v h)
    ∙ (ap (or_else (first_given_answer (if_lock i) (lock_unlocks h v))) (first_in_book i v b) ∙ sym (first_given_answer-append (if_lock i) (lock_unlocks h v) (party_unlocks b v))))

-- the first hashkey for a lock is found among those that were sent
pub first_sent : (i v : ℕ) (b : Histories) (rs : List (Bor Hashkey)) → shown rs ≡ party_unlocks b v → first_given_answer (for_lock i) rs ≡ first_key b v i
unfolding first_key
first_sent i v b rs e = first_refs (if_lock i) rs ∙ (ap (first_given_answer (if_lock i)) e ∙ sym (first_in_book i v b))

-- Tests of all.

any_refs : {A : Type 0} (p : A → Bool) (rs : List (Bor A)) → list_any (λ r. p r.now) rs ≡ list_any p (shown rs)
any_refs p [] = refl
any_refs p (r ∷ rs) = ap (λ b. p r.now || b) (any_refs p rs)

or_shift : (a b c : Bool) → (a || (b || c)) ≡ ((a || b) || c)
or_shift true b c = refl
or_shift false b c = refl

any_append : {A : Type 0} (p : A → Bool) (xs ys : List A) → list_any p (xs ++ ys) ≡ (list_any p xs || list_any p ys)
any_append p [] ys = refl
any_append p (x ∷ xs) ys = ap (λ b. p x || b) (any_append p xs ys) ∙ or_shift (p x) (list_any p xs) (list_any p ys)

-- a test of calls that only unlocks pass
pub record OfUnlocks (test : Option Call → Bool) (p : Hashkey → Bool) : Type 0 where
  pub none : test None ≡ false
  pub publish : (t : _) → test (Some (Publish t)) ≡ false
  pub unlock : (key : Hashkey) → test (Some (Unlock key)) ≡ p key
  pub claim : test (Some Claim) ≡ false
  pub refund : test (Some Refund) ≡ false
  pub transfer : (to units : ℕ) → test (Some (Transfer to units)) ≡ false

module _ (test : Option Call → Bool) (p : Hashkey → Bool) (u : OfUnlocks test p) where
  any_head : (o : Option Call) (r : Bool) (ks : List Hashkey) → r ≡ list_any p ks → (test o || r) ≡ list_any p (cons_option (unlock_key o) ks)
  any_head None r ks e = ap (λ b. b || r) u.none ∙ e
  any_head (Some (Publish t)) r ks e = ap (λ b. b || r) (u.publish t) ∙ e
  any_head (Some (Unlock key)) r ks e = ap (λ b. b || r) (u.unlock key) ∙ ap (λ b. p key || b) e
  any_head (Some Claim) r ks e = ap (λ b. b || r) u.claim ∙ e
  any_head (Some Refund) r ks e = ap (λ b. b || r) u.refund ∙ e
  any_head (Some (Transfer to units)) r ks e = ap (λ b. b || r) (u.transfer to units) ∙ e

  any_unlock : (v : ℕ) (h : List Entry) → list_any (λ e. test (pick_call v e)) h ≡ list_any p (lock_unlocks h v)
  any_unlock v [] = refl
  any_unlock v (e ∷ h) = any_head (pick_call v e) (list_any (λ e. test (pick_call v e)) h) (lock_unlocks h v) (any_unlock v h)

  any_in_book : (v : ℕ) (b : Histories) → list_any (λ e. test (pick_call v e)) (flat_map (λ h. h) b) ≡ list_any p (party_unlocks b v)
  any_in_book v [] = refl
  any_in_book v (h ∷ b) =
      any_append (λ e. test (pick_call v e)) h (flat_map (λ h. h) b)
      ∙ (ap (λ x. x || list_any (λ e. test (pick_call v e)) (flat_map (λ h. h) b)) (any_unlock v h)
      ∙ (ap (λ x. list_any p (lock_unlocks h v) || x) (any_in_book v b) ∙ sym (any_append p (lock_unlocks h v) (party_unlocks b v))))

  -- whether some call passes is told by the hashkeys that were sent
  pub any_sent : (v : ℕ) (b : Histories) (rs : List (Bor Hashkey)) → shown rs ≡ party_unlocks b v
      → list_any (λ e. test (pick_call v e)) (flat_map (λ h. h) b) ≡ list_any (λ r. p r.now) rs
  any_sent v b rs e = any_in_book v b ∙ (ap (list_any p) (sym e) ∙ sym (any_refs p rs))
