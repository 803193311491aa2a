-- What may be asked of the calls of a list of entries in place of all its entries.
use Rattle.std.proofs.Common.{◌≡◌, ℕ, zero, suc, ◌+◌, nat_lt, max, Bool, true, false, cond, not, ◌||◌, List, [], ◌∷◌, ◌++◌, length, take, count_by}
use Rattle.std.proofs.Common.{Option, Some, None, is_some, option_map, refl, sym, ap, ◌∙◌, arith, length-append}
use Rattle.std.proofs.lemmas.List.{append_assoc}
use Rattle.std.proofs.lemmas.List.Sums.{sum_by-cons}
use Rattle.std.specs.Prelude.{position, filter_map}
use Rattle.std.specs.List.{list_any, prefix_len, cons_option}
use Rattle.swap_base.specs.Lists.{or_else, first_given_answer, greatest, Moment, moments_after_past, moments}
use Rattle.swap_base.proofs.Lists.{none_of}
use Rattle.ledger_core.specs.declared.entry.What.{What}
use Rattle.ledger_core.specs.declared.entry.What.TheVariants.{Call, Tick}
use Rattle.ledger_core.specs.declared.entry.Entry.{Entry}
use Rattle.ledger_core.specs.History.{publication, published, opening, opened, accepted, is_open}
use Rattle.ledger_core.specs.Facts.{opened_number}
use Rattle.history_index.specs.declared.made.Made.{Made}
use Rattle.history_index.specs.Numbers.{published_number, comes_earlier}
use Rattle.ledger_core.specs.Facts.{is_call}
use Rattle.history_index.specs.Made.{numbered_calls, history_calls}

-- The number of the first answer says which prefixes hold it.

place_head : (b : Bool) (k len : ℕ) → cond (nat_lt (cond (not b) (1 + k) 0) (suc len)) (Some (cond (not b) (1 + k) 0)) None
    ≡ cond b (Some 0) (option_map (λ i. suc i) (cond (nat_lt k len) (Some k) None))
place_head true k len = grind arith
place_head false k len = go (nat_lt k len) refl
  where
    go : (c : Bool) → nat_lt k len ≡ c → cond (nat_lt (1 + k) (suc len)) (Some (1 + k)) None ≡ option_map (λ i. suc i) (cond c (Some k) None)
    go true e = grind arith
    go false e = grind arith

position_head : {A : Type 0} (p : A → Bool) (x : A) (xs : List A) → position p (x ∷ xs) ≡ cond (p x) (Some 0) (option_map (λ i. suc i) (position p xs))
position_head p x xs = place_head (p x) (prefix_len (λ y. not (p y)) xs) (length xs)

before_next : (o : Option ℕ) (n : ℕ) → comes_earlier (option_map (λ i. suc i) o) (suc n) ≡ comes_earlier o n
before_next None n = refl
before_next (Some k) n = grind arith

before_none : (o : Option ℕ) → comes_earlier o 0 ≡ false
before_none None = refl
before_none (Some k) = grind arith

before_head : {B : Type 0} (o r : Option B) (k : Option ℕ) (n : ℕ) → is_some r ≡ comes_earlier k n
    → is_some (or_else o r) ≡ comes_earlier (cond (is_some o) (Some 0) (option_map (λ i. suc i) k)) (suc n)
before_head None r k n h = h ∙ sym (before_next k n)
before_head (Some x) r k n h = grind arith

pub some_before : {A B : Type 0} (f : A → Option B) (xs : List A) (n : ℕ)
    → is_some (first_given_answer f (take n xs)) ≡ comes_earlier (position (λ x. is_some (f x)) xs) n
some_before f xs zero = sym (before_none (position (λ x. is_some (f x)) xs))
some_before f [] (suc n) = refl
some_before f (x ∷ xs) (suc n) =
    before_head (f x) (first_given_answer f (take n xs)) (position (λ y. is_some (f y)) xs) n (some_before f xs n)
    ∙ ap (λ o. comes_earlier o (suc n)) (sym (position_head (λ y. is_some (f y)) x xs))

-- a prefix holds the accepted publish where its number is below the prefix's length
pub published_before : (h : List Entry) (n : ℕ) → is_some (published (take n h)) ≡ comes_earlier (published_number h) n
published_before h n = some_before (λ e. publication e.height (accepted e)) h n

-- a prefix holds the accepted unlock for a lock where its number is below the prefix's length
pub open_before : (h : List Entry) (i n : ℕ) → is_open (take n h) i ≡ comes_earlier (opened_number h i) n
open_before h i n = some_before (λ e. opening i e.height (accepted e)) h n

some_head : {B : Type 0} (o r : Option B) (k : Option ℕ) → is_some r ≡ is_some k
    → is_some (or_else o r) ≡ is_some (cond (is_some o) (Some 0) (option_map (λ i. suc i) k))
some_head None r None h = h
some_head None r (Some k) h = h
some_head (Some x) r k h = refl

pub some_position : {A B : Type 0} (f : A → Option B) (xs : List A) → is_some (first_given_answer f xs) ≡ is_some (position (λ x. is_some (f x)) xs)
some_position f [] = refl
some_position f (x ∷ xs) =
    some_head (f x) (first_given_answer f xs) (position (λ y. is_some (f y)) xs) (some_position f xs) ∙ ap is_some (sym (position_head (λ y. is_some (f y)) x xs))

-- Whatever says nothing of ticks is asked of the calls alone.

-- f gives d at each tick
abbrev pub SaysNothing : {B : Type 0} → B → (Entry → B) → Type 0
SaysNothing d f = (e : Entry) (k : ℕ) → e.what ≡ Tick k → f e ≡ d

-- a step of a recursion over the entries, which a tick leaves as it is
step_made : {B : Type 0} (w : What) (m : Made) (n : ℕ) (h : List Entry) (g : List Made → B) (all rest : B) → ((k : ℕ) → w ≡ Tick k → all ≡ rest)
    → rest ≡ g (numbered_calls n h) → (all ≡ g (m ∷ numbered_calls n h)) → all ≡ g (cond (is_call w) (m ∷ numbered_calls n h) (numbered_calls n h))
step_made (Call c) m n h g all rest tick e call = call
step_made (Tick k) m n h g all rest tick e call = tick k refl ∙ e

any_from : (f : Entry → Bool) (n : ℕ) (h : List Entry) → SaysNothing false f → list_any f h ≡ list_any (λ m. f m.entry) (numbered_calls n h)
any_from f n [] s = refl
any_from f n (e ∷ h) s =
    let rest = any_from f (n + 1) h s in
    step_made e.what (record { number = n; entry = e }) (n + 1) h (λ ms. list_any (λ m. f m.entry) ms) _ _ (λ k w.
    ap (λ b. b || list_any f h) (s e k w)) rest (ap (λ b. f e || b) rest)

pub any_made : (f : Entry → Bool) (h : List Entry) → SaysNothing false f → list_any f h ≡ list_any (λ m. f m.entry) (history_calls h)
any_made f h s = any_from f 0 h s

first_from : {B : Type 0} (f : Entry → Option B) (n : ℕ) (h : List Entry) → SaysNothing None f → first_given_answer f h ≡ first_given_answer (λ m. f m.entry) (numbered_calls n h)
first_from f n [] s = refl
first_from f n (e ∷ h) s =
    let rest = first_from f (n + 1) h s in
    step_made e.what (record { number = n; entry = e }) (n + 1) h (λ ms. first_given_answer (λ m. f m.entry) ms) _ _ (λ k w.
    ap (λ o. or_else o (first_given_answer f h)) (s e k w)) rest (ap (λ o. or_else (f e) o) rest)

pub first_made : {B : Type 0} (f : Entry → Option B) (h : List Entry) → SaysNothing None f → first_given_answer f h ≡ first_given_answer (λ m. f m.entry) (history_calls h)
first_made f h s = first_from f 0 h s

count_from : (f : Entry → Bool) (n : ℕ) (h : List Entry) → SaysNothing false f → count_by f h ≡ count_by (λ m. f m.entry) (numbered_calls n h)
count_from f n [] s = refl
count_from f n (e ∷ h) s =
    let rest = count_from f (n + 1) h s in
    let head : count_by f (e ∷ h) ≡ cond (f e) 1 0 + count_by f h = sum_by-cons (λ x. cond (f x) 1 0) e h in
    let m : Made = record { number = n; entry = e } in
    let ms = numbered_calls (n + 1) h in
    step_made e.what m (n + 1) h (λ xs. count_by (λ x. f x.entry) xs) _ _
    (λ k w. head ∙ (ap (λ b. cond b 1 0 + count_by f h) (s e k w) ∙ omega arith))
    rest
    (head ∙ (ap (λ c. cond (f e) 1 0 + c) rest ∙ sym (sum_by-cons (λ x. cond (f x.entry) 1 0) m ms)))

pub count_made : (f : Entry → Bool) (h : List Entry) → SaysNothing false f → count_by f h ≡ count_by (λ m. f m.entry) (history_calls h)
count_made f h s = count_from f 0 h s

greatest_from : (f : Entry → ℕ) (n : ℕ) (h : List Entry) → SaysNothing 0 f → greatest f h ≡ greatest (λ m. f m.entry) (numbered_calls n h)
greatest_from f n [] s = refl
greatest_from f n (e ∷ h) s =
    let rest = greatest_from f (n + 1) h s in
    step_made e.what (record { number = n; entry = e }) (n + 1) h (λ ms. greatest (λ m. f m.entry) ms) _ _ (λ k w.
    ap (λ z. max z (greatest f h)) (s e k w) ∙ omega arith) rest (ap (λ z. max (f e) z) rest)

pub greatest_made : (f : Entry → ℕ) (h : List Entry) → SaysNothing 0 f → greatest f h ≡ greatest (λ m. f m.entry) (history_calls h)
greatest_made f h s = greatest_from f 0 h s

filter_map_from : {B : Type 0} (f : Entry → Option B) (n : ℕ) (h : List Entry) → SaysNothing None f
    → filter_map f h ≡ filter_map (λ m. f m.entry) (numbered_calls n h)
filter_map_from f n [] s = refl
filter_map_from f n (e ∷ h) s =
    let rest = filter_map_from f (n + 1) h s in
    step_made e.what (record { number = n; entry = e }) (n + 1) h (λ ms. filter_map (λ m. f m.entry) ms) _ _ (λ k w.
    ap (λ o. cons_option o (filter_map f h)) (s e k w)) rest (ap (λ l. cons_option (f e) l) rest)

pub filter_map_made : {B : Type 0} (f : Entry → Option B) (h : List Entry) → SaysNothing None f → filter_map f h ≡ filter_map (λ m. f m.entry) (history_calls h)
filter_map_made f h s = filter_map_from f 0 h s

-- Moments.

-- the moment of a call that stands in h
abbrev pub moment_of : List Entry → Made → Moment Entry
moment_of h m = record { past = take m.number h; now = m.entry }

take_past : (past : List Entry) (h : List Entry) → take (length past) (past ++ h) ≡ past
take_past [] h = refl
take_past (x ∷ past) h = ap (λ l. x ∷ l) (take_past past h)

failing_from : {B : Type 0} (test : Moment Entry → Bool) (say : ℕ → B) (whole past h : List Entry) (n : ℕ)
    → ((m : Moment Entry) (k : ℕ) → m.now.what ≡ Tick k → test m ≡ true) → whole ≡ past ++ h → n ≡ length past
    → filter_map (λ m. cond (test m) None (Some (say (length m.past)))) (moments_after_past past h)
    ≡ filter_map (λ m. cond (test (moment_of whole m)) None (Some (say m.number))) (numbered_calls n h)
failing_from test say whole past [] n s ew en = refl
failing_from test say whole past (e ∷ h) n s ew en =
    let m : Made = record { number = n; entry = e } in
    let now : Moment Entry = record { past = past; now = e } in
    let next : whole ≡ past ++ e ∷ [] ++ h = ew ∙ sym (append_assoc past (e ∷ []) h) in
    let more : length (past ++ e ∷ []) ≡ length past + 1 = length-append past (e ∷ []) in
    let rest = failing_from test say whole (past ++ e ∷ []) h (n + 1) s next (omega arith) in
    let before : take n whole ≡ past = ap (λ k. take k whole) en ∙ (ap (take (length past)) ew ∙ take_past past (e ∷ h)) in
    let here : cond (test now) None (Some (say (length past))) ≡ cond (test (moment_of whole m)) None (Some (say n)) =
    ap (λ k. cond (test now) None (Some (say k))) (sym en) ∙ ap (λ p. cond (test (record { past = p; now = e })) None (Some (say n))) (sym before) in
    step_made e.what m (n + 1) h (λ ms. filter_map (λ x. cond (test (moment_of whole x)) None (Some (say x.number))) ms) _ _
    (λ k w. ap (λ b. cons_option (cond b None (Some (say (length past))))
    (filter_map (λ x. cond (test x) None (Some (say (length x.past)))) (moments_after_past (past ++ e ∷ []) h))) (s now k w))
    rest
    (ap (λ o. cons_option o (filter_map (λ x. cond (test x) None (Some (say (length x.past)))) (moments_after_past (past ++ e ∷ []) h))) here
    ∙ ap (λ l. cons_option (cond (test (moment_of whole m)) None (Some (say n))) l) rest)

-- where a test passes at every tick, what is said of each entry that fails it is said of calls
pub failing_made : {B : Type 0} (test : Moment Entry → Bool) (say : ℕ → B) (h : List Entry) → ((m : Moment Entry) (k : ℕ) → m.now.what ≡ Tick k → test m ≡ true)
    → filter_map (λ m. cond (test m) None (Some (say (length m.past)))) (moments h)
    ≡ filter_map (λ m. cond (test (moment_of h m)) None (Some (say m.number))) (history_calls h)
failing_made test say h s = failing_from test say h [] h 0 s refl refl

-- The accepted unlock.

opening_ticks : (i : ℕ) → SaysNothing None (λ e. opening i e.height (accepted e))
opening_ticks i e k w = rw w refl

pub opened_made : (h : List Entry) (i : ℕ) → opened h i ≡ first_given_answer (λ m. opening i m.entry.height (accepted m.entry)) (history_calls h)
opened_made h i = first_made (λ e. opening i e.height (accepted e)) h (opening_ticks i)

pub not_opened : (h : List Entry) (i : ℕ) → is_some (opened_number h i) ≡ false → opened h i ≡ None
not_opened h i e = none_of (opened h i) (some_position (λ x. opening i x.height (accepted x)) h ∙ e)
