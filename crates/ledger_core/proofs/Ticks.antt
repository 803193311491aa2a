-- Entries of items and of runs of ticks.
use Rattle.std.proofs.Common.{◌≡◌, ℕ, zero, suc, ◌+◌, ◌-◌, ◌*◌, ◌^◌, ◌<◌, ◌≤◌, cond, List, [], ◌∷◌, ◌++◌, length, take, drop, get_or, count_by, refl, sym}
use Rattle.std.proofs.Common.{ap, ap₂, ◌∙◌, subst, arith, append_assoc, append-nil, length-append}
use Rattle.std.specs.List.{AllByRecursion}
use Rattle.std.proofs.Math.ListN.{drop_of_length-le}
use Rattle.std.proofs.Math.Nat.{mul-le-mul_left}
use Rattle.std.proofs.Math.Seq.{drop-append-add}
use Rattle.std.proofs.lemmas.Grind.{flat_map-append}
use Rattle.std.proofs.lemmas.List.{drop-append-le, drop_more, length-drop, take_all, take_more, take-append-drop}
use Rattle.std.proofs.lemmas.List.Concat.{flat_map-cons}
use Rattle.std.proofs.lemmas.List.Sums.{sum_by-append, sum_by_push}
use Rattle.ledger_core.proofs.History.{height_append}
use Rattle.swap_digraph.specs.declared.deal.Deal.{Deal}
use Rattle.escrow_core.specs.declared.reply.Reply.TheVariants.{Accepted}
use Rattle.ledger_core.specs.declared.entry.Entry.{Entry}
use Rattle.ledger_core.specs.declared.runs.Run.{Run}
use Rattle.ledger_core.specs.declared.runs.Item.{Item}
use Rattle.ledger_core.specs.Facts.{is_call}
use Rattle.ledger_core.specs.History.{height, accounts}
use Rattle.ledger_core.specs.Ledger.{tick_entry}
use Rattle.ledger_core.specs.Runs.{ticks_above, run_ticks, ledger_entries, expand, IsRight, IsRightRun}
use Rattle.ledger_core.proofs.Bounds.{height-push}
use Rattle.ledger_core.proofs.Units.{accounts-push}

-- Ticks.

pub length_ticks : (at k n : ℕ) → length (ticks_above at k n) ≡ n
length_ticks at k zero = refl
length_ticks at k (suc n) =
    let h : length (ticks_above at k n) ≡ n = length_ticks at k n in
    let e : length (ticks_above at k (suc n)) ≡ length (ticks_above at k n) + 1 = length-append (ticks_above at k n) _ in
    omega arith

pub drop_ticks : (at k s n m : ℕ) → m ≡ s + n → drop s (ticks_above at k m) ≡ ticks_above (at + k * s) k n
drop_ticks at k s zero m e = drop_of_length-le (ticks_above at k m) (omega (arith, length_ticks at k m))
drop_ticks at k s (suc n) zero e = absurd (omega arith)
drop_ticks at k s (suc n) (suc m) e =
    drop-append-le s (ticks_above at k m) _ (omega (arith, length_ticks at k m))
    ∙ ap₂ (λ xs h. xs ++ tick_entry k h Accepted ∷ []) (drop_ticks at k s n m (omega arith))
    (let f : at + k * suc m ≡ at + k * (s + suc n) = ap (λ z. at + k * z) e in f ∙ omega arith)

-- the last n ticks of a run
pub last_ticks : (r : Run) (n : ℕ) → n ≤ r.count → ticks_above (r.above + r.by * (r.count - n)) r.by n ≡ drop (r.count - n) (run_ticks r)
last_ticks r n l = sym (drop_ticks r.above r.by (r.count - n) n r.count (omega arith))

-- they end where it ends
pub last_right : (r : Run) (n : ℕ) → n ≤ r.count → IsRightRun r → r.above + r.by * (r.count - n) + r.by * n < 2 ^ 32
last_right r n l e =
    let f : r.by * r.count ≡ r.by * ((r.count - n) + n) = ap (λ z. r.by * z) (omega arith) in
    omega arith

-- the heights of a run's ticks are numbers of 32 bits
pub next_right : (r : Run) (i : ℕ) → i < r.count → IsRightRun r → r.above + r.by * i + r.by < 2 ^ 32
next_right r i l e = let f : r.by * suc i ≤ r.by * r.count = mul-le-mul_left r.by l in omega arith

-- two runs of ticks are one where the second goes on from the first
pub ticks_join : (at k m n all next : ℕ) → all ≡ m + n → next ≡ at + k * m → ticks_above at k all ≡ ticks_above at k m ++ ticks_above next k n
ticks_join at k m zero all next s e =
    let h : all ≡ m = omega arith in
    ap (ticks_above at k) h ∙ sym (append-nil (ticks_above at k m))
ticks_join at k m (suc n) zero next s e = absurd (omega arith)
ticks_join at k m (suc n) (suc all) next s e =
    let f : at + k * suc all ≡ at + k * (m + suc n) = ap (λ z. at + k * z) s in
    let h : at + k * suc all ≡ next + k * suc n = f ∙ omega arith in
    ap₂ (λ xs y. xs ++ tick_entry k y Accepted ∷ []) (ticks_join at k m n all next (omega arith) e) h
    ∙ append_assoc (ticks_above at k m) (ticks_above next k n) (tick_entry k (next + k * suc n) Accepted ∷ [])

-- one more tick of a run
pub put_tick : (start out out' : List Entry) (r : Run) (n high : ℕ) → out ≡ start ++ ticks_above r.above r.by n → high ≡ r.above + r.by * n
    → out' ≡ out ++ tick_entry r.by (high + r.by) Accepted ∷ [] → out' ≡ start ++ ticks_above r.above r.by (n + 1)
put_tick start out out' r n high so_far at put =
    let next : high + r.by ≡ r.above + r.by * suc n = omega arith in
    let more : suc n ≡ n + 1 = omega arith in
    put ∙ ap₂ (λ z h. z ++ tick_entry r.by h Accepted ∷ []) so_far next
    ∙ append_assoc start (ticks_above r.above r.by n) (tick_entry r.by (r.above + r.by * suc n) Accepted ∷ [])
    ∙ ap (λ z. start ++ ticks_above r.above r.by z) more

pub height_ticks : (at k n : ℕ) → height (ticks_above at k n) ≡ k * n
height_ticks at k zero = omega arith
height_ticks at k (suc n) =
    let h : height (ticks_above at k n) ≡ k * n = height_ticks at k n in
    let e : height (ticks_above at k (suc n)) ≡ height (ticks_above at k n) + k = height-push (ticks_above at k n) (tick_entry k (at + k * suc n) Accepted) in
    omega arith

calls-push : (h : List Entry) (e : Entry) → count_by (λ e. is_call e.what) (h ++ e ∷ []) ≡ count_by (λ e. is_call e.what) h + cond (is_call e.what) 1 0
calls-push h e = sum_by_push (λ x. cond (is_call x.what) 1 0) h e

pub calls_ticks : (at k n : ℕ) → count_by (λ e. is_call e.what) (ticks_above at k n) ≡ 0
calls_ticks at k zero = refl
calls_ticks at k (suc n) =
    let h : count_by (λ e. is_call e.what) (ticks_above at k n) ≡ 0 = calls_ticks at k n in
    let e : count_by (λ e. is_call e.what) (ticks_above at k (suc n)) ≡ count_by (λ e. is_call e.what) (ticks_above at k n) + 0 =
    calls-push (ticks_above at k n) (tick_entry k (at + k * suc n) Accepted) in
    omega arith

-- ticks move no units
pub accounts_ticks : (d : Deal) (a : ℕ) (h : List Entry) (at k n : ℕ) → accounts d a (h ++ ticks_above at k n) ≡ accounts d a h
accounts_ticks d a h at k zero = ap (accounts d a) (append-nil h)
accounts_ticks d a h at k (suc n) =
    ap (accounts d a) (sym (append_assoc h (ticks_above at k n) (tick_entry k (at + k * suc n) Accepted ∷ [])))
    ∙ accounts-push d a (h ++ ticks_above at k n) (tick_entry k (at + k * suc n) Accepted)
    ∙ accounts_ticks d a h at k n

-- Items.

pub expand_append : (xs ys : List Item) → expand (xs ++ ys) ≡ expand xs ++ expand ys
expand_append xs ys = flat_map-append ledger_entries xs ys

pub expand_cons : (x : Item) (xs : List Item) → expand (x ∷ xs) ≡ ledger_entries x ++ expand xs
expand_cons x xs = flat_map-cons ledger_entries x xs

pub expand_push : (xs : List Item) (x : Item) → expand (xs ++ x ∷ []) ≡ expand xs ++ ledger_entries x
expand_push xs x = expand_append xs (x ∷ []) ∙ ap (λ ys. expand xs ++ ys) (expand_cons x [] ∙ append-nil (ledger_entries x))

pub right_push : (xs : List Item) (x : Item) → AllByRecursion IsRight xs → IsRight x → AllByRecursion IsRight (xs ++ x ∷ [])
right_push [] x h k = (k, tt)
right_push (y ∷ ys) x h k = (h.0, right_push ys x h.1 k)

pub right_drop : (i : ℕ) (xs : List Item) → AllByRecursion IsRight xs → AllByRecursion IsRight (drop i xs)
right_drop zero xs h = h
right_drop (suc i) [] h = tt
right_drop (suc i) (x ∷ xs) h = right_drop i xs h.1

pub right_at : (xs : List Item) (i : ℕ) (x : Item) → AllByRecursion IsRight xs → i < length xs → x ≡ get_or xs i x → IsRight x
right_at [] i x h l e = absurd (omega arith)
right_at (y ∷ ys) zero x h l e = subst IsRight (sym e) h.0
right_at (y ∷ ys) (suc i) x h l e = right_at ys i x h.1 (omega arith) e

-- one more item
pub expand_more : (xs : List Item) (i : ℕ) (x : Item) → i < length xs → x ≡ get_or xs i x → expand (take (i + 1) xs) ≡ expand (take i xs) ++ ledger_entries x
expand_more xs i x l e = ap expand (take_more xs i x l ∙ ap (λ z. take i xs ++ z ∷ []) (sym e)) ∙ expand_push (take i xs) x

-- those before an item, its own, and those after it
pub expand_split : (xs : List Item) (i : ℕ) (x : Item) → i < length xs → x ≡ get_or xs i x
    → expand xs ≡ expand (take i xs) ++ (ledger_entries x ++ expand (drop (i + 1) xs))
expand_split xs i x l e =
    ap expand (sym (take-append-drop i xs)) ∙ expand_append (take i xs) (drop i xs)
    ∙ ap (λ ys. expand (take i xs) ++ ys) (ap expand (drop_more xs i x l ∙ ap (λ z. z ∷ drop (i + 1) xs) (sym e)) ∙ expand_cons x (drop (i + 1) xs))

-- the entries of the items so far were put, and then those of one more item
pub put_more : (start out out' : List Entry) (xs : List Item) (i : ℕ) (x : Item) → i < length xs → x ≡ get_or xs i x
    → out ≡ start ++ expand (take i xs) → out' ≡ out ++ ledger_entries x → out' ≡ start ++ expand (take (i + 1) xs)
put_more start out out' xs i x l e so_far put =
    put ∙ ap (λ z. z ++ ledger_entries x) so_far ∙ append_assoc start (expand (take i xs)) (ledger_entries x)
    ∙ ap (λ z. start ++ z) (sym (expand_more xs i x l e))

pub put_all : (start out : List Entry) (xs : List Item) (i : ℕ) → length xs ≤ i → out ≡ start ++ expand (take i xs) → out ≡ start ++ expand xs
put_all start out xs i l so_far = so_far ∙ ap (λ z. start ++ expand z) (take_all i xs l)

-- what an item raises the height to is at most what all items do
pub height_to : (xs : List Item) (i : ℕ) (x : Item) → i < length xs → x ≡ get_or xs i x
    → height (expand (take i xs)) + height (ledger_entries x) ≤ height (expand xs)
height_to xs i x l e =
    let after = expand (drop (i + 1) xs) in
    let a : height (expand xs) ≡ height (expand (take i xs)) + height (ledger_entries x ++ after) =
    ap height (expand_split xs i x l e) ∙ height_append (expand (take i xs)) (ledger_entries x ++ after) in
    let b : height (ledger_entries x ++ after) ≡ height (ledger_entries x) + height after = height_append (ledger_entries x) after in
    omega arith

pub calls_append : (xs ys : List Entry) → count_by (λ e. is_call e.what) (xs ++ ys) ≡ count_by (λ e. is_call e.what) xs + count_by (λ e. is_call e.what) ys
calls_append xs ys = sum_by-append (λ e. cond (is_call e.what) 1 0) xs ys

-- The last entries.

pub drop_middle : (xs ys zs : List Entry) (m n : ℕ) → m ≤ length ys → m + length zs ≡ n
    → drop (length (xs ++ (ys ++ zs)) - n) (xs ++ (ys ++ zs)) ≡ drop (length ys - m) ys ++ zs
drop_middle xs ys zs m n l e =
    let a : length (xs ++ (ys ++ zs)) ≡ length xs + length (ys ++ zs) = length-append xs (ys ++ zs) in
    let b : length (ys ++ zs) ≡ length ys + length zs = length-append ys zs in
    let c : length (xs ++ (ys ++ zs)) - n ≡ length xs + (length ys - m) = omega arith in
    ap (λ z. drop z (xs ++ (ys ++ zs))) c ∙ drop-append-add xs (ys ++ zs) (length ys - m) ∙ drop-append-le (length ys - m) ys zs (omega arith)

pub next_some : (xs : List Item) (j m n : ℕ) → 0 < m → m + length (expand (drop j xs)) ≡ n → n ≤ length (expand xs) → 0 < j
next_some xs zero m n s e l = absurd (omega arith)
next_some xs (suc j) m n s e l = omega arith

-- the last n entries begin m entries before the end of an item
pub last_from : (xs : List Item) (j m n : ℕ) (x : Item) → 0 < j → j ≤ length xs → x ≡ get_or xs (j - 1) x → m ≤ length (ledger_entries x)
    → m + length (expand (drop j xs)) ≡ n → drop (length (ledger_entries x) - m) (ledger_entries x) ++ expand (drop j xs)
    ≡ drop (length (expand xs) - n) (expand xs)
last_from xs j m n x some l k b e =
    let after : ℕ → List Entry = λ i. expand (drop i xs) in
    let i : j - 1 + 1 ≡ j = omega arith in
    let split : expand xs ≡ expand (take (j - 1) xs) ++ (ledger_entries x ++ after j) =
    expand_split xs (j - 1) x (omega arith) k ∙ ap (λ z. expand (take (j - 1) xs) ++ (ledger_entries x ++ after z)) i in
    sym (ap (λ z. drop (length z - n) z) split ∙ drop_middle (expand (take (j - 1) xs)) (ledger_entries x) (after j) m n b e)

-- what is left after k entries lies in the second list
pub drop_within : (xs ys : List Entry) (k n : ℕ) → n ≤ length ys → k + n ≡ length (xs ++ ys) → drop k (xs ++ ys) ≡ drop (length ys - n) ys
drop_within xs ys k n l e =
    let a : length (xs ++ ys) ≡ length xs + length ys = length-append xs ys in
    let b : k ≡ length xs + (length ys - n) = omega arith in
    ap (λ z. drop z (xs ++ ys)) b ∙ drop-append-add xs ys (length ys - n)

-- what is left after k entries begins in the first list
pub drop_before : (xs ys : List Entry) (k n : ℕ) → length ys ≤ n → k + n ≡ length (xs ++ ys) → drop k (xs ++ ys) ≡ drop (length xs - (n - length ys)) xs ++ ys
drop_before xs ys k n l e =
    let a : length (xs ++ ys) ≡ length xs + length ys = length-append xs ys in
    let b : k ≡ length xs - (n - length ys) = omega arith in
    drop-append-le k xs ys (omega arith) ∙ ap (λ z. drop z xs ++ ys) b

pub length_left : (xs : List Entry) (k n : ℕ) → k + n ≡ length xs → length (drop k xs) ≡ n
length_left xs k n e = let a : length (drop k xs) ≡ length xs - k = length-drop k xs in omega arith
