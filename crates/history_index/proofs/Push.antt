-- What is kept beside a list of entries stays what its scans give, entry by entry.
use Rattle.std.proofs.Common.{◌≡◌, ℕ, ◌+◌, ◌-◌, ◌<◌, ◌≤◌, ◌==◌, nat_lt, Bool, true, false, cond, not, ◌&&◌, ◌||◌, IsTrue, List, [], ◌∷◌, ◌++◌, length}
use Rattle.std.proofs.Common.{Option, Some, None, is_some, option_map, slice_set, slice_index_or, refl, sym, ap, ap₂, ◌∙◌, subst, arith, eqb-true}
use Rattle.std.proofs.Common.{eq-eqb, ltb-true, length-append}
use Rattle.std.specs.Prelude.{position}
use Rattle.std.specs.List.{list_all, position_or_len}
use Rattle.std.proofs.lemmas.Bool.{false≢true}
use Rattle.std.proofs.lemmas.List.{append-nil, get_or-set_same, get_or-set_other}
use Rattle.std.proofs.lemmas.Grind.{flat_map-append}
use Rattle.std.proofs.Math.ListN.{length-set}
use Rattle.std.proofs.lemmas.List.Folds.{list_any-append, list_all-append, position_or_len_push}
use Rattle.std.proofs.lemmas.List.Sums.{prefix_len-le-length}
use Rattle.swap_base.specs.Lists.{or_else, first_given_answer}
use Rattle.swap_base.proofs.Lists.{first_given_answer-append, and_parts, or_else-none, or-false, or-true}
use Rattle.hashkey_path.specs.declared.hashkey.Hashkey.{Hashkey}
use Rattle.escrow_core.specs.declared.terms.Terms.{Terms}
use Rattle.escrow_core.specs.declared.reply.Reply.{Reply}
use Rattle.escrow_core.specs.declared.reply.Reply.TheVariants.{Accepted}
use Rattle.ledger_core.specs.declared.entry.Call.{Call}
use Rattle.ledger_core.specs.declared.entry.Call.TheVariants as calls
use Rattle.ledger_core.specs.declared.entry.Sender.{Sender}
use Rattle.ledger_core.specs.declared.entry.Sender.TheVariants.{Party, Clock}
use Rattle.ledger_core.specs.declared.entry.What.{What}
use Rattle.ledger_core.specs.declared.entry.What.TheVariants.{Call as Made, Tick}
use Rattle.ledger_core.specs.declared.entry.Entry.{Entry}
use Rattle.ledger_core.specs.declared.facts.CallKind.{CallKind}
use Rattle.ledger_core.specs.declared.facts.CallKind.TheVariants.{Publish, Unlock, Claim, Refund}
use Rattle.ledger_core.specs.History.{entry_ticks, accepted_call, accepted, publication, Opening, opening, settling, is_sender}
use Rattle.ledger_core.specs.Facts.{checked_publication, is_of_kind, has_call}
use Rattle.ledger_core.specs.declared.runs.Item.{Item}
use Rattle.ledger_core.specs.Runs.{ledger_entries, expand}
use Rattle.ledger_core.proofs.Bounds.{height-push}
use Rattle.history_index.specs.declared.kinds.Kinds.{Kinds}
use Rattle.history_index.specs.declared.answers.Answers.{Answers}
use Rattle.history_index.specs.declared.made.Made as made
use Rattle.history_index.specs.Numbers.{sender_numbers, call_numbers, has_right_sender, names_lock, IsIndexable}
use Rattle.ledger_core.specs.Facts.{is_call}
use Rattle.history_index.specs.Made.{numbered_calls, history_calls, updated_calls}
use Rattle.history_index.specs.Kept.{has_kind, with_call, updated_numbers, updated_kinds, with_opening, updated_answers, AreAnswers, AreCalls}

-- The numbers of a party's entries.

abbrev number_where : Bool → ℕ → List ℕ
number_where b n = cond b (n ∷ []) []

cond_front : (b : Bool) (n : ℕ) (xs ys zs : List ℕ) → xs ≡ ys ++ zs → cond b (n ∷ xs) xs ≡ cond b (n ∷ ys) ys ++ zs
cond_front true n xs ys zs e = ap (λ l. n ∷ l) e
cond_front false n xs ys zs e = e

pub numbers_push : (n p : ℕ) (h : List Entry) (e : Entry)
    → sender_numbers n p (h ++ e ∷ []) ≡ sender_numbers n p h ++ number_where (is_sender p e.sender) (n + length h)
numbers_push n p [] e = go (is_sender p e.sender)
  where
    go : (b : Bool) → cond b (n ∷ []) [] ≡ number_where b (n + 0)
    go true = ap (λ k. k ∷ []) (omega arith)
    go false = refl
numbers_push n p (x ∷ h) e =
    let rest = numbers_push (n + 1) p h e in
    let k : n + 1 + length h ≡ n + length (x ∷ h) = omega arith in
    cond_front (is_sender p x.sender) n _ _ _ (rest ∙ ap (λ m. sender_numbers (n + 1) p h ++ number_where (is_sender p e.sender) m) k)

pub call_numbers_push : (p : ℕ) (h : List Entry) (e : Entry) → call_numbers p (h ++ e ∷ []) ≡ call_numbers p h ++ number_where (is_sender p e.sender) (length h)
call_numbers_push p h e =
    let k : 0 + length h ≡ length h = omega arith in
    numbers_push 0 p h e ∙ ap (λ m. call_numbers p h ++ number_where (is_sender p e.sender) m) k

-- The kinds of call.

has_call_push : (p : ℕ) (k : CallKind) (h : List Entry) (e : Entry)
    → has_call p k (h ++ e ∷ []) ≡ (has_call p k h || cond (is_sender p e.sender) (is_of_kind k e.what) false)
has_call_push p k h e =
    list_any-append (λ x. cond (is_sender p x.sender) (is_of_kind k x.what) false) h (e ∷ [])
    ∙ ap (λ b. has_call p k h || b) (or-false (cond (is_sender p e.sender) (is_of_kind k e.what) false))

lock_set : (xs : List Bool) (l i : ℕ) → l < length xs → slice_index_or (slice_set xs l true) i false ≡ (slice_index_or xs i false || (l == i))
lock_set xs l i lt = go (l == i) refl
  where
    go : (b : Bool) → (l == i) ≡ b → slice_index_or (slice_set xs l true) i false ≡ (slice_index_or xs i false || b)
    go true e =
        subst (λ j. slice_index_or (slice_set xs l true) j false ≡ (slice_index_or xs j false || true)) (eqb-true l i e)
        (get_or-set_same xs l true false lt ∙ sym (or-true (slice_index_or xs l false)))
    go false e = get_or-set_other xs l i true false (λ k. false≢true (sym e ∙ eq-eqb l i (sym k))) ∙ sym (or-false (slice_index_or xs i false))

kind_set : (ks : Kinds) (w : What) (k : CallKind) → length ks.unlock ≡ 8 → IsTrue (names_lock w)
    → has_kind (with_call ks w) k ≡ (has_kind ks k || is_of_kind k w)
kind_set ks (Made (calls.Publish t)) Publish n l = sym (or-true ks.publish)
kind_set ks (Made (calls.Unlock key)) (Unlock i) n l = let lt : key.lock < 8 = ltb-true key.lock 8 l in lock_set ks.unlock key.lock i (omega arith)
kind_set ks (Made calls.Claim) Claim n l = sym (or-true ks.claim)
kind_set ks (Made calls.Refund) Refund n l = sym (or-true ks.refund)
kind_set ks (Made (calls.Publish t)) k n l = sym (or-false (has_kind ks k))
kind_set ks (Made (calls.Unlock key)) k n l = sym (or-false (has_kind ks k))
kind_set ks (Made calls.Claim) k n l = sym (or-false (has_kind ks k))
kind_set ks (Made calls.Refund) k n l = sym (or-false (has_kind ks k))
kind_set ks (Made (calls.Transfer to units)) Publish n l = sym (or-false ks.publish)
kind_set ks (Made (calls.Transfer to units)) (Unlock i) n l = sym (or-false (slice_index_or ks.unlock i false))
kind_set ks (Made (calls.Transfer to units)) Claim n l = sym (or-false ks.claim)
kind_set ks (Made (calls.Transfer to units)) Refund n l = sym (or-false ks.refund)
kind_set ks (Tick m) k n l = sym (or-false (has_kind ks k))

places_set : (ks : Kinds) (w : What) → length (with_call ks w).unlock ≡ length ks.unlock
places_set ks (Made (calls.Unlock key)) = length-set ks.unlock key.lock true
places_set ks (Made (calls.Publish t)) = refl
places_set ks (Made calls.Claim) = refl
places_set ks (Made calls.Refund) = refl
places_set ks (Made (calls.Transfer to units)) = refl
places_set ks (Tick m) = refl

pub calls_push : (p : ℕ) (h : List Entry) (e : Entry) (ns : List ℕ) (ks : Kinds) → IsTrue (names_lock e.what) → AreCalls p h ns ks
    → AreCalls p (h ++ e ∷ []) (updated_numbers (length h) p e ns) (updated_kinds p e ks)
calls_push p h e ns ks l a = go (is_sender p e.sender) refl
  where
    go : (b : Bool) → is_sender p e.sender ≡ b → AreCalls p (h ++ e ∷ []) (cond b (ns ++ length h ∷ []) ns) (cond b (with_call ks e.what) ks)
    go true s = record {
      numbers = ap (λ xs. xs ++ length h ∷ []) a.numbers ∙ sym (call_numbers_push p h e ∙ ap (λ b. call_numbers p h ++ number_where b (length h)) s);
      places = places_set ks e.what ∙ a.places;
      kinds =
          λ k. kind_set ks e.what k a.places l ∙ (ap (λ b. b || is_of_kind k e.what) (a.kinds k)
          ∙ sym (has_call_push p k h e ∙ ap (λ b. has_call p k h || cond b (is_of_kind k e.what) false) s));
    }
    go false s = record {
      numbers = a.numbers ∙ sym (call_numbers_push p h e ∙ (ap (λ b. call_numbers p h ++ number_where b (length h)) s ∙ append-nil (call_numbers p h)));
      places = a.places;
      kinds = λ k. a.kinds k ∙ sym (has_call_push p k h e ∙ (ap (λ b. has_call p k h || cond b (is_of_kind k e.what) false) s ∙ or-false (has_call p k h)));
    }

-- The answers.

first_push : {B : Type 0} (f : Entry → Option B) (h : List Entry) (e : Entry) → first_given_answer f (h ++ e ∷ []) ≡ or_else (first_given_answer f h) (f e)
first_push f h e = first_given_answer-append f h (e ∷ []) ∙ ap (or_else (first_given_answer f h)) (or_else-none (f e))

map_or_else : {B C : Type 0} (g : B → C) (o r : Option B) → option_map g (or_else o r) ≡ or_else (option_map g o) (option_map g r)
map_or_else g None r = refl
map_or_else g (Some x) r = refl

place_push : (n len : ℕ) (b : Bool) → n ≤ len
    → cond (nat_lt (cond (n == len) (len + cond b 0 1) n) (len + 1)) (Some (cond (n == len) (len + cond b 0 1) n)) None
    ≡ or_else (cond (nat_lt n len) (Some n) None) (cond b (Some len) None)
place_push n len b le = grind arith

position_push : {X : Type 0} (p : X → Bool) (xs : List X) (y : X) → position p (xs ++ y ∷ []) ≡ or_else (position p xs) (cond (p y) (Some (length xs)) None)
position_push p xs y =
    ap₂ (λ n len. cond (nat_lt n len) (Some n) None) (position_or_len_push p xs y) (length-append xs (y ∷ []))
    ∙ place_push (position_or_len p xs) (length xs) (p y) (prefix_len-le-length (λ x. not (p x)) xs)

accepted_lock : (w : What) (r : Reply) (key : Hashkey) → IsTrue (names_lock w) → accepted_call w r ≡ Some (calls.Unlock key) → key.lock < 8
accepted_lock (Made (calls.Unlock k)) Accepted key l e = let same : k ≡ key = cc in subst (λ x. x.lock < 8) same (ltb-true k.lock 8 l)
accepted_lock (Made c) Accepted key l e = absurd (cc e)
accepted_lock _ _ key l e = absurd (cc e)

opening_set : (us : List (Option ℕ)) (n i t : ℕ) (o : Option Call) → ((key : Hashkey) → o ≡ Some (calls.Unlock key) → key.lock < length us)
    → slice_index_or (with_opening us n o) i None ≡ or_else (slice_index_or us i None) (cond (is_some (opening i t o)) (Some n) None)
opening_set us n i t (Some (calls.Unlock key)) lt = go (key.lock == i) refl
  where
    go : (b : Bool) → (key.lock == i) ≡ b → slice_index_or (slice_set us key.lock (or_else (slice_index_or us key.lock None) (Some n))) i None
        ≡ or_else (slice_index_or us i None) (cond (is_some {T = Opening} (cond b (Some (record { height = t; key = key })) None)) (Some n) None)
    go true e =
        subst (λ j. slice_index_or (slice_set us key.lock (or_else (slice_index_or us key.lock None) (Some n))) j None
        ≡ or_else (slice_index_or us j None) (Some n)) (eqb-true key.lock i e)
        (get_or-set_same us key.lock (or_else (slice_index_or us key.lock None) (Some n)) None (lt key refl))
    go false e =
        get_or-set_other us key.lock i (or_else (slice_index_or us key.lock None) (Some n)) None (λ k. false≢true (sym e ∙ eq-eqb key.lock i (sym k)))
        ∙ sym (or_else-none (slice_index_or us i None))
opening_set us n i t _ lt = sym (or_else-none (slice_index_or us i None))

places_opening : (us : List (Option ℕ)) (n : ℕ) (o : Option Call) → length (with_opening us n o) ≡ length us
places_opening us n (Some (calls.Unlock key)) = length-set us key.lock (or_else (slice_index_or us key.lock None) (Some n))
places_opening us n _ = refl

pub answers_push : (t : Terms) (h : List Entry) (e : Entry) (a : Answers) → IsTrue (names_lock e.what) → AreAnswers t h a
    → AreAnswers t (h ++ e ∷ []) (updated_answers t (length h) e a)
answers_push t h e a l k = record {
  height = ap (λ n. n + entry_ticks e.what) k.height ∙ sym (height-push h e);
  published =
      ap (λ o. or_else o (option_map (checked_publication t) (publication e.height (accepted e)))) k.published
      ∙ sym (ap (option_map (checked_publication t)) (first_push (λ x. publication x.height (accepted x)) h e) ∙ map_or_else (checked_publication t) _ _);
  number =
      ap (λ o. or_else o (cond (is_some (publication e.height (accepted e))) (Some (length h)) None)) k.number
      ∙ sym (position_push (λ x. is_some (publication x.height (accepted x))) h e);
  places = places_opening a.unlocked (length h) (accepted e) ∙ k.places;
  unlocked = λ i.
      opening_set a.unlocked (length h) i e.height (accepted e) (λ key s. let lt = accepted_lock e.what e.reply key l s in let places = k.places in omega arith)
      ∙ (ap (λ o. or_else o (cond (is_some (opening i e.height (accepted e))) (Some (length h)) None)) (k.unlocked i)
      ∙ sym (position_push (λ x. is_some (opening i x.height (accepted x))) h e));
  settled = ap (λ o. or_else o (settling (accepted e))) k.settled ∙ sym (first_push (λ x. settling (accepted x)) h e);
}

-- The calls.

call_front : (b : Bool) (m : made.Made) (xs ys zs : List made.Made) → xs ≡ ys ++ zs → cond b (m ∷ xs) xs ≡ cond b (m ∷ ys) ys ++ zs
call_front true m xs ys zs e = ap (λ l. m ∷ l) e
call_front false m xs ys zs e = e

made_last : ℕ → Entry → List made.Made
made_last n e = cond (is_call e.what) (record { number = n; entry = e } ∷ []) []

made_push : (n : ℕ) (h : List Entry) (e : Entry) → numbered_calls n (h ++ e ∷ []) ≡ numbered_calls n h ++ made_last (n + length h) e
unfolding made_last
made_push n [] e = ap (λ k. made_last k e) (omega arith)
made_push n (x ∷ h) e =
    let rest = made_push (n + 1) h e in
    let k : n + 1 + length h ≡ n + length (x ∷ h) = omega arith in
    call_front (is_call x.what) (record { number = n; entry = x }) _ _ _ (rest ∙ ap (λ m. numbered_calls (n + 1) h ++ made_last m e) k)

last_or_not : {A : Type 0} (b : Bool) (xs ys : List A) → cond b (xs ++ ys) xs ≡ xs ++ cond b ys []
last_or_not true xs ys = refl
last_or_not false xs ys = sym (append-nil xs)

pub made_in_push : (h : List Entry) (e : Entry) → updated_calls (length h) e (history_calls h) ≡ history_calls (h ++ e ∷ [])
unfolding made_last
made_in_push h e =
    let k : length h ≡ 0 + length h = omega arith in
    last_or_not (is_call e.what) (history_calls h) (record { number = length h; entry = e } ∷ []) ∙ ap (λ n. history_calls h ++ made_last n e) k ∙ sym (made_push 0 h e)

-- Who sent what.

sent_of_two : (from to : ℕ) (s : Sender) (w : What) → has_right_sender from to s w ≡ true → is_call w ≡ true → (is_sender from s || is_sender to s) ≡ true
sent_of_two from to (Party p) (Made c) a k = a
sent_of_two from to (Party p) (Tick n) a k = absurd (false≢true a)
sent_of_two from to Clock (Made c) a k = absurd (false≢true a)
sent_of_two from to Clock (Tick n) a k = absurd (false≢true k)

sent_call : (from to p : ℕ) (s : Sender) (w : What) → has_right_sender from to s w ≡ true → is_sender p s ≡ true → is_call w ≡ true
sent_call from to p (Party q) (Made c) a k = refl
sent_call from to p (Party q) (Tick n) a k = absurd (false≢true a)
sent_call from to p Clock w a k = absurd (false≢true k)

few_more : (c f t : Bool) (m : made.Made) (n : ℕ) (ms : List made.Made) (xs ys : List ℕ) → (c ≡ true → (f || t) ≡ true)
    → length ms ≤ length xs + length ys → length (cond c (m ∷ ms) ms) ≤ length (cond f (n ∷ xs) xs) + length (cond t (n ∷ ys) ys)
few_more true true true m n ms xs ys h l = omega arith
few_more true true false m n ms xs ys h l = omega arith
few_more true false true m n ms xs ys h l = omega arith
few_more true false false m n ms xs ys h l = absurd (false≢true (h refl))
few_more false true true m n ms xs ys h l = omega arith
few_more false true false m n ms xs ys h l = omega arith
few_more false false true m n ms xs ys h l = omega arith
few_more false false false m n ms xs ys h l = l

made_few : (from to n : ℕ) (h : List Entry) → IsTrue (list_all (λ e. has_right_sender from to e.sender e.what) h)
    → length (numbered_calls n h) ≤ length (sender_numbers n from h) + length (sender_numbers n to h)
made_few from to n [] a = omega arith
made_few from to n (e ∷ h) a =
    let parts = and_parts (has_right_sender from to e.sender e.what) (list_all (λ x. has_right_sender from to x.sender x.what) h) a in
    few_more (is_call e.what) (is_sender from e.sender) (is_sender to e.sender) (record {
      number = n;
      entry =
          e;
    }) n _ _ _ (sent_of_two from to e.sender e.what parts.0) (made_few from to (n + 1) h parts.1)

-- there are at most 64 calls
pub few_made : (from to : ℕ) (h : List Entry) (ms : List made.Made) → IsIndexable from to h → ms ≡ history_calls h → length ms ≤ 64
few_made from to h ms i e =
    let n : length ms ≡ length (history_calls h) = ap length e in
    let few = made_few from to 0 h i.senders in
    let from_few = i.from_few in
    let to_few = i.to_few in
    omega arith

not_sent : (from to p : ℕ) (s : Sender) (w : What) → has_right_sender from to s w ≡ true → (p ≡ from → ⊥) → (p ≡ to → ⊥) → is_sender p s ≡ false
not_sent from to p (Party q) (Made c) h nf nt = go (q == p) (q == from) (q == to) refl refl refl h
  where
    go : (b x y : Bool) → (q == p) ≡ b → (q == from) ≡ x → (q == to) ≡ y → (x || y) ≡ true → (q == p) ≡ false
    go false x y e k m o = e
    go true true y e k m o = absurd (nf (sym (eqb-true q p e) ∙ eqb-true q from k))
    go true false y e k m o = absurd (nt (sym (eqb-true q p e) ∙ eqb-true q to (m ∙ o)))
not_sent from to p (Party q) (Tick k) h nf nt = absurd (false≢true h)
not_sent from to p Clock w h nf nt = refl

-- a party that sent nothing made no call
pub nothing_called : (from to p : ℕ) (k : CallKind) (h : List Entry) → IsTrue (list_all (λ e. has_right_sender from to e.sender e.what) h) → (p ≡ from → ⊥)
    → (p ≡ to → ⊥) → has_call p k h ≡ false
nothing_called from to p k [] a nf nt = refl
nothing_called from to p k (e ∷ h) a nf nt =
    let parts = and_parts (has_right_sender from to e.sender e.what) (list_all (λ x. has_right_sender from to x.sender x.what) h) a in
    ap (λ b. cond b (is_of_kind k e.what) false || has_call p k h) (not_sent from to p e.sender e.what parts.0 nf nt)
    ∙ nothing_called from to p k h parts.1 nf nt

-- Room.

last_passes : (f : Entry → Bool) (h : List Entry) (e : Entry) → IsTrue (list_all f (h ++ e ∷ [])) → IsTrue (f e)
last_passes f h e a =
    let both = and_parts (list_all f h) (f e && true) (sym (list_all-append f h (e ∷ [])) ∙ a) in
    (and_parts (f e) true both.1).0

pub last_lock : (from to : ℕ) (h : List Entry) (e : Entry) → IsIndexable from to (h ++ e ∷ []) → IsTrue (names_lock e.what)
last_lock from to h e i = last_passes (λ x. names_lock x.what) h e i.locks

pub last_sent : (from to p : ℕ) (h : List Entry) (e : Entry) → IsIndexable from to (h ++ e ∷ []) → is_sender p e.sender ≡ true → is_call e.what ≡ true
last_sent from to p h e i = sent_call from to p e.sender e.what (last_passes (λ x. has_right_sender from to x.sender x.what) h e i.senders)

-- room for further elements after one more; the element takes a place if s holds, and room was set
-- aside for it if b holds
pub room_kept : {A : Type 0} (b s : Bool) (x : A) (xs xs' : List A) (room room' cap cap' : ℕ) → xs' ≡ cond s (xs ++ x ∷ []) xs → (s ≡ true → b ≡ true)
    → (IsTrue b → 0 < room) → room' ≡ room - cond b 1 0 → length xs + room ≤ cap → cap ≤ cap' → length xs' + room' ≤ cap'
room_kept true true x xs xs' room room' cap cap' e h r k l m =
    let n : length xs' ≡ length xs + 1 = ap length e ∙ length-append xs (x ∷ []) in
    let some = r refl in
    omega arith
room_kept true false x xs xs' room room' cap cap' e h r k l m = let n : length xs' ≡ length xs = ap length e in omega arith
room_kept false true x xs xs' room room' cap cap' e h r k l m = absurd (false≢true (h refl))
room_kept false false x xs xs' room room' cap cap' e h r k l m = let n : length xs' ≡ length xs = ap length e in omega arith

-- What is kept after a push: the entries xs are h and e, which has number n, and what is marked is
-- what was kept, with e.

pub expand_push : (items : List Item) (x : Item) → expand (items ++ x ∷ []) ≡ expand items ++ ledger_entries x
expand_push items x = flat_map-append ledger_entries items (x ∷ []) ∙ ap (λ l. expand items ++ l) (append-nil (ledger_entries x))

pub answers_kept : (t : Terms) (h xs : List Entry) (e : Entry) (n : ℕ) (a a' : Answers) → xs ≡ h ++ e ∷ [] → n ≡ length h → a' ≡ updated_answers t n e a
    → IsTrue (names_lock e.what) → AreAnswers t h a → AreAnswers t xs a'
answers_kept t h xs e n a a' ex en ea l k =
    subst (λ ys. AreAnswers t ys a') (sym ex) (subst (AreAnswers t (h ++ e ∷ [])) (sym (ea ∙ ap (λ m. updated_answers t m e a) en)) (answers_push t h e a l k))

pub calls_kept : (p p' : ℕ) (h xs : List Entry) (e : Entry) (n : ℕ) (ns ns' : List ℕ) (ks ks' : Kinds) → p' ≡ p → xs ≡ h ++ e ∷ [] → n ≡ length h
    → ns' ≡ updated_numbers n p e ns → ks' ≡ updated_kinds p e ks → IsTrue (names_lock e.what) → AreCalls p h ns ks → AreCalls p' xs ns' ks'
calls_kept p p' h xs e n ns ns' ks ks' ep ex en ens eks l k =
    subst (λ q. AreCalls q xs ns' ks') (sym ep)
    (subst (λ ys. AreCalls p ys ns' ks') (sym ex)
    (subst (λ ms. AreCalls p (h ++ e ∷ []) ms ks') (sym (ens ∙ ap (λ m. updated_numbers m p e ns) en))
    (subst (λ ms. AreCalls p (h ++ e ∷ []) (updated_numbers (length h) p e ns) ms) (sym eks) (calls_push p h e ns ks l k))))

pub made_kept : (h xs : List Entry) (e : Entry) (n : ℕ) (ms ms' : List made.Made) → xs ≡ h ++ e ∷ [] → n ≡ length h → ms' ≡ updated_calls n e ms
    → ms ≡ history_calls h → ms' ≡ history_calls xs
made_kept h xs e n ms ms' ex en em k =
    em ∙ (ap (λ m. updated_calls m e ms) en ∙ (ap (λ l. updated_calls (length h) e l) k ∙ (made_in_push h e ∙ ap history_calls (sym ex))))

pub indexable_kept : (from to from' to' : ℕ) (h xs : List Entry) → from' ≡ from → to' ≡ to → xs ≡ h → IsIndexable from to h → IsIndexable from' to' xs
indexable_kept from to from' to' h xs ef et ex k =
    subst (λ p. IsIndexable p to' xs) (sym ef) (subst (λ p. IsIndexable from p xs) (sym et) (subst (IsIndexable from to) (sym ex) k))
