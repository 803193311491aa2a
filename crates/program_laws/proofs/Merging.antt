-- Ticks that are merged as they are read.
use Rattle.std.proofs.Common.{◌≡◌, ◌&&◌, ◌||◌, ◌==◌, ◌+◌, ◌≤◌, ℕ, Bool, true, false, cond, List, [], ◌∷◌, ◌++◌, not, filter, Option, None, is_none, refl, sym, ap, ◌∙◌, subst, inl, inr, arith, eqb-true}
use Rattle.std.proofs.lemmas.Bool.{false≢true}
use Rattle.swap_base.specs.Lists.{IsElement}
use Rattle.swap_base.proofs.Lists.{from_filter}
use Rattle.escrow_core.specs.declared.reply.Reply.TheVariants.{Accepted}
use Rattle.ledger_core.specs.declared.entry.What.{What}
use Rattle.ledger_core.specs.declared.entry.What.TheVariants.{Call as Made, Tick}
use Rattle.ledger_core.specs.declared.entry.Call.{Call}
use Rattle.ledger_core.specs.declared.entry.Entry.{Entry}
use Rattle.ledger_core.specs.History.{accepted, entry_ticks, height, is_clock_full, is_sender, made_call}
use Rattle.ledger_core.specs.Ledger.{tick_entry}
use Rattle.swap_rules.specs.Rest.{is_ticking}
use Rattle.swap_rules.specs.Counted as counts
use Rattle.swap_rules.specs.Counted.{counted, may_repeat}
use Rattle.wallet_promise.specs.WithoutNoise.{as_one, join, merged, telling, SaysTheSame}
use Rattle.wallet_promise.proofs.Merged.{says_merged, says_on}
use Rattle.wallet_promise.proofs.Noise.{refused_is_noise}
use Rattle.told_ledgers.specs.Ledger.{with_ticks}

-- ---- one more entry

-- the last entry with one more, as one where both are ticks
abbrev add : List Entry → Entry → List Entry
add [] t = t ∷ []
add (u ∷ []) t = join u (t ∷ [])
add (u ∷ f ∷ h) t = u ∷ add (f ∷ h) t

ticks_together : (x f t : Entry) → as_one x (as_one f t) ≡ as_one (as_one x f) t
ticks_together x f t =
    ap (λ (n : ℕ). record t { what = Tick n })
    (let e : ◌≡◌ {A = ℕ} (entry_ticks x.what + (entry_ticks f.what + entry_ticks t.what)) ((entry_ticks x.what + entry_ticks f.what) + entry_ticks t.what) = omega arith in e)

join_two : (x f t : Entry) (a b c : Bool) → is_ticking x.what ≡ a → is_ticking f.what ≡ b → is_ticking t.what ≡ c
    → join x (cond (b && c) (as_one f t ∷ []) (f ∷ t ∷ [])) ≡ add (cond (a && b) (as_one x f ∷ []) (x ∷ f ∷ [])) t
join_two x f t true true true ea eb ec =
    ap (λ z. cond (z && true) (as_one x (as_one f t) ∷ []) (x ∷ as_one f t ∷ [])) ea
    ∙ ap (λ (e : Entry). e ∷ []) (ticks_together x f t)
    ∙ sym (ap (λ z. cond (true && z) (as_one (as_one x f) t ∷ []) (as_one x f ∷ t ∷ [])) ec)
join_two x f t true true false ea eb ec =
    ap (λ z. cond (z && is_ticking f.what) (as_one x f ∷ t ∷ []) (x ∷ f ∷ t ∷ [])) ea
    ∙ ap (λ z. cond (true && z) (as_one x f ∷ t ∷ []) (x ∷ f ∷ t ∷ [])) eb
    ∙ sym (ap (λ z. cond (true && z) (as_one (as_one x f) t ∷ []) (as_one x f ∷ t ∷ [])) ec)
join_two x f t true false c ea eb ec =
    ap (λ z. cond (z && is_ticking f.what) (as_one x f ∷ t ∷ []) (x ∷ f ∷ t ∷ [])) ea
    ∙ ap (λ z. cond (true && z) (as_one x f ∷ t ∷ []) (x ∷ f ∷ t ∷ [])) eb
    ∙ sym (ap (λ z. x ∷ cond (z && is_ticking t.what) (as_one f t ∷ []) (f ∷ t ∷ [])) eb)
join_two x f t false true true ea eb ec =
    ap (λ z. cond (z && true) (as_one x (as_one f t) ∷ []) (x ∷ as_one f t ∷ [])) ea
    ∙ sym (ap (λ z. x ∷ cond (z && is_ticking t.what) (as_one f t ∷ []) (f ∷ t ∷ [])) eb
    ∙ ap (λ z. x ∷ cond (true && z) (as_one f t ∷ []) (f ∷ t ∷ [])) ec)
join_two x f t false true false ea eb ec =
    ap (λ z. cond (z && is_ticking f.what) (as_one x f ∷ t ∷ []) (x ∷ f ∷ t ∷ [])) ea
    ∙ sym (ap (λ z. x ∷ cond (z && is_ticking t.what) (as_one f t ∷ []) (f ∷ t ∷ [])) eb
    ∙ ap (λ z. x ∷ cond (true && z) (as_one f t ∷ []) (f ∷ t ∷ [])) ec)
join_two x f t false false c ea eb ec =
    ap (λ z. cond (z && is_ticking f.what) (as_one x f ∷ t ∷ []) (x ∷ f ∷ t ∷ [])) ea
    ∙ sym (ap (λ z. x ∷ cond (z && is_ticking t.what) (as_one f t ∷ []) (f ∷ t ∷ [])) eb)

join_many : (x f g t : Entry) (h : List Entry) (a : Bool) → (is_ticking x.what && is_ticking f.what) ≡ a
    → join x (add (f ∷ g ∷ h) t) ≡ add (join x (f ∷ g ∷ h)) t
join_many x f g t h true e =
    ap (λ z. cond z (as_one x f ∷ add (g ∷ h) t) (x ∷ f ∷ add (g ∷ h) t)) e
    ∙ sym (ap (λ z. add (cond z (as_one x f ∷ g ∷ h) (x ∷ f ∷ g ∷ h)) t) e)
join_many x f g t h false e =
    ap (λ z. cond z (as_one x f ∷ add (g ∷ h) t) (x ∷ f ∷ add (g ∷ h) t)) e
    ∙ sym (ap (λ z. add (cond z (as_one x f ∷ g ∷ h) (x ∷ f ∷ g ∷ h)) t) e)

join_add : (x t : Entry) (ys : List Entry) → join x (add ys t) ≡ add (join x ys) t
join_add x t [] = refl
join_add x t (f ∷ []) = join_two x f t (is_ticking x.what) (is_ticking f.what) (is_ticking t.what) refl refl refl
join_add x t (f ∷ g ∷ h) = join_many x f g t h (is_ticking x.what && is_ticking f.what) refl

pub merged_more : (xs : List Entry) (t : Entry) → merged (xs ++ t ∷ []) ≡ add (merged xs) t
merged_more [] t = refl
merged_more (x ∷ xs) t = ap (join x) (merged_more xs t) ∙ join_add x t (merged xs)

-- behind some entries
add_last : (p : List Entry) (u t : Entry) → add (p ++ u ∷ []) t ≡ p ++ join u (t ∷ [])
add_last [] u t = refl
add_last (x ∷ []) u t = refl
add_last (x ∷ y ∷ p) u t = ap (λ l. x ∷ l) (add_last (y ∷ p) u t)

apart : (u t : Entry) (a b : Bool) → is_ticking u.what ≡ a → is_ticking t.what ≡ b → (a && b) ≡ false → join u (t ∷ []) ≡ u ∷ t ∷ []
apart u t a b ea eb none =
    ap (λ z. cond (z && is_ticking t.what) (as_one u t ∷ []) (u ∷ t ∷ [])) ea ∙ ap (λ z. cond (a && z) (as_one u t ∷ []) (u ∷ t ∷ [])) eb
    ∙ ap (λ z. cond z (as_one u t ∷ []) (u ∷ t ∷ [])) none

together : (u t : Entry) → is_ticking u.what ≡ true → is_ticking t.what ≡ true → join u (t ∷ []) ≡ as_one u t ∷ []
together u t ea eb =
    ap (λ z. cond (z && is_ticking t.what) (as_one u t ∷ []) (u ∷ t ∷ [])) ea ∙ ap (λ z. cond z (as_one u t ∷ []) (u ∷ t ∷ [])) eb

-- Entries whose last one is no tick.
pub data EndsWithCall (p : List Entry) : Type 0 where
  Empty : p ≡ [] → EndsWithCall p
  Ends : (q : List Entry) (e : Entry) → p ≡ q ++ e ∷ [] → is_ticking e.what ≡ false → EndsWithCall p

add_behind_call : (p : List Entry) (t : Entry) → EndsWithCall p → add p t ≡ p ++ t ∷ []
add_behind_call p t (Empty e) = subst (λ l. add l t ≡ l ++ t ∷ []) (sym e) refl
add_behind_call p t (Ends q e is no_tick) =
    subst (λ l. add l t ≡ l ++ t ∷ []) (sym is)
    (add_last q e t ∙ ap (λ l. q ++ l) (apart e t false (is_ticking t.what) no_tick refl refl) ∙ append_two q e t)
  where
    append_two : (q : List Entry) (e t : Entry) → q ++ (e ∷ t ∷ []) ≡ (q ++ e ∷ []) ++ t ∷ []
    append_two [] e t = refl
    append_two (x ∷ q) e t = ap (λ l. x ∷ l) (append_two q e t)

and_false : (x : Bool) → (x && false) ≡ false
and_false true = refl
and_false false = refl

-- a call behind others
add_call : (p : List Entry) (e : Entry) → is_ticking e.what ≡ false → add p e ≡ p ++ e ∷ []
add_call [] e k = refl
add_call (x ∷ []) e k = apart x e (is_ticking x.what) false refl k (and_false (is_ticking x.what))
add_call (x ∷ y ∷ p) e k = ap (λ l. x ∷ l) (add_call (y ∷ p) e k)

pub merged_call : (xs : List Entry) (e : Entry) → is_ticking e.what ≡ false → merged (xs ++ e ∷ []) ≡ merged xs ++ e ∷ []
merged_call xs e k = merged_more xs e ∙ add_call (merged xs) e k

-- ---- what was read, with ticks that wait

-- The entries p, behind which k heights wait, are the list m.
pub data Stands (p : List Entry) (k : ℕ) (m : List Entry) : Type 0 where
  Settled : k ≡ 0 → m ≡ p → Stands p k m
  Waits : 1 ≤ k → is_clock_full p k ≡ false → m ≡ p ++ tick_entry k (height p + k) Accepted ∷ [] → Stands p k m

some : (k : ℕ) → 1 ≤ k → (k == 0) ≡ false
some k le = by (k == 0) refl
  where
    by : (b : Bool) → (k == 0) ≡ b → (k == 0) ≡ false
    by false q = q
    by true q = absurd (let z = eqb-true k 0 q in omega (arith, z))

pub stands_is : (p : List Entry) (k : ℕ) (m : List Entry) → Stands p k m → with_ticks p k ≡ m
stands_is p k m (Settled none is) = ap (with_ticks p) none ∙ sym is
stands_is p k m (Waits le room is) =
    ap (λ b. cond (b || is_clock_full p k) p (p ++ tick_entry k (height p + k) Accepted ∷ [])) (some k le)
    ∙ ap (λ b. cond b p (p ++ tick_entry k (height p + k) Accepted ∷ [])) room ∙ sym is

-- with one more tick
pub merged_tick : (p xs : List Entry) (k j : ℕ) → EndsWithCall p → Stands p k (merged xs)
    → merged (xs ++ tick_entry j (height p + k + j) Accepted ∷ []) ≡ p ++ tick_entry (k + j) (height p + (k + j)) Accepted ∷ []
merged_tick p xs k j ends (Settled none is) =
    merged_more xs _ ∙ ap (λ l. add l (tick_entry j (height p + k + j) Accepted)) is ∙ add_behind_call p _ ends
    ∙ ap (λ (n : ℕ). p ++ tick_entry n (height p + k + j) Accepted ∷ []) (let e : ◌≡◌ {A = ℕ} j (k + j) = omega arith in e)
    ∙ ap (λ (n : ℕ). p ++ tick_entry (k + j) n Accepted ∷ []) (let e : ◌≡◌ {A = ℕ} (height p + k + j) (height p + (k + j)) = omega arith in e)
merged_tick p xs k j ends (Waits some_k full is) =
    merged_more xs _ ∙ ap (λ l. add l (tick_entry j (height p + k + j) Accepted)) is
    ∙ add_last p (tick_entry k (height p + k) Accepted) (tick_entry j (height p + k + j) Accepted)
    ∙ ap (λ l. p ++ l) (together (tick_entry k (height p + k) Accepted) (tick_entry j (height p + k + j) Accepted) refl refl)
    ∙ ap (λ (n : ℕ). p ++ tick_entry (k + j) n Accepted ∷ []) (let e : ◌≡◌ {A = ℕ} (height p + k + j) (height p + (k + j)) = omega arith in e)

pub stands_tick : (p xs : List Entry) (k j : ℕ) → EndsWithCall p → Stands p k (merged xs) → 1 ≤ j → is_clock_full p (k + j) ≡ false
    → Stands p (k + j) (merged (xs ++ tick_entry j (height p + k + j) Accepted ∷ []))
stands_tick p xs k j ends stands some_j room = Waits (omega arith) room (merged_tick p xs k j ends stands)

-- ---- what counts of what is merged

pub all_stay : {A : Type 0} (p : A → Bool) (xs : List A) → ((x : A) → IsElement x xs → p x ≡ true) → filter p xs ≡ xs
all_stay p [] h = refl
all_stay p (x ∷ xs) h = ap (λ b. cond b (x ∷ filter p xs) (filter p xs)) (h x (inl refl)) ∙ ap (λ l. x ∷ l) (all_stay p xs (λ y i. h y (inr i)))

-- a tick counts
tick_counts : (v : ℕ) (e : Entry) (w : What) → e.what ≡ w → is_ticking w ≡ true → counts.is_passed v e ≡ false
tick_counts v e (Tick k) ew t = ap (λ (o : Option Call). may_repeat o && is_none (accepted e)) (ap (λ (w : What). cond (is_sender v e.sender) (made_call w) None) ew ∙ by (is_sender v e.sender))
  where
    by : (b : Bool) → ◌≡◌ {A = Option Call} (cond b None None) None
    by true = refl
    by false = refl
tick_counts v e (Made c) ew t = absurd (false≢true t)

module _ (v : ℕ) where
  abbrev AllCount : List Entry → Type 0
  AllCount xs = (x : Entry) → IsElement x xs → counts.is_passed v x ≡ false

  joined : (e f : Entry) (h : List Entry) (b : Bool) → (is_ticking e.what && is_ticking f.what) ≡ b → counts.is_passed v e ≡ false → AllCount (f ∷ h)
      → AllCount (cond b (as_one e f ∷ h) (e ∷ f ∷ h))
  joined e f h true q c all x (inl s) = subst (λ (y : Entry). counts.is_passed v y ≡ false) (sym s) (tick_counts v (as_one e f) _ refl refl)
  joined e f h true q c all x (inr i) = all x (inr i)
  joined e f h false q c all x (inl s) = subst (λ (y : Entry). counts.is_passed v y ≡ false) (sym s) c
  joined e f h false q c all x (inr i) = all x i

  join_counts : (e : Entry) (ys : List Entry) → counts.is_passed v e ≡ false → AllCount ys → AllCount (join e ys)
  join_counts e [] c all x (inl s) = subst (λ (y : Entry). counts.is_passed v y ≡ false) (sym s) c
  join_counts e [] c all x (inr i) = absurd i
  join_counts e (f ∷ h) c all x i = joined e f h (is_ticking e.what && is_ticking f.what) refl c all x i

  merged_counts : (xs : List Entry) → AllCount xs → AllCount (merged xs)
  merged_counts [] all = all
  merged_counts (e ∷ h) all = join_counts e (merged h) (all e (inl refl)) (merged_counts h (λ x i. all x (inr i)))

  -- what counts of what was told, merged, says the same as what counts of the history
  pub says_counted : (h : List Entry) → SaysTheSame v (counted v (merged (counted v (telling v h)))) (counted v h)
  says_counted h =
      let k = counted v (telling v h) in
      let counted_all : AllCount k = λ x i. not_passed (counts.is_passed v x) (from_filter (λ y. not (counts.is_passed v y)) x (telling v h) i).1 in
      let whole : counted v (merged k) ≡ merged k = all_stay (λ y. not (counts.is_passed v y)) (merged k) (λ x i. ap not (merged_counts k counted_all x i)) in
      let once : counted v k ≡ k = all_stay (λ y. not (counts.is_passed v y)) k (λ x i. ap not (counted_all x i)) in
      says_on v (counted v (merged k)) k (counted v h) (subst (λ z. SaysTheSame v z k) (sym whole) (says_merged v k))
      (subst (λ z. SaysTheSame v z (counted v h)) once (refused_is_noise v h))
    where
      not_passed : (b : Bool) → not b ≡ true → b ≡ false
      not_passed true e = absurd (false≢true e)
      not_passed false e = refl
