-- Sums over a book's histories, one after another.
use Rattle.std.proofs.Common.{◌≡◌, ℕ, ◌+◌, ◌<◌, ◌≤◌, List, [], length, take, get_or, count_by, ap, ◌∙◌, arith}
use Rattle.std.specs.List.{sum_by}
use Rattle.std.proofs.lemmas.List.{get_or_default}
use Rattle.std.proofs.lemmas.List.Sums.{sum_by_more, count_by-le-length}
use Rattle.ledger_core.specs.declared.entry.Entry.{Entry}
use Rattle.ledger_core.specs.Book.{Histories, history}
use Rattle.made_jobs.specs.Counts.{is_refused}

pub item_is : (b : Histories) (i : ℕ) (h : List Entry) → i < length b → h ≡ get_or b i h → h ≡ history b i
item_is b i h lt is = is ∙ get_or_default b i h [] lt

pub sum_more : (f : List Entry → ℕ) (b : Histories) (i sum w : ℕ) (h : List Entry) → i < length b → h ≡ get_or b i h → w ≡ f h → sum ≡ sum_by f (take i b)
    → sum + w ≡ sum_by f (take (i + 1) b)
sum_more f b i sum w h lt is value so_far =
    let e : f h ≡ f (get_or b i []) = ap f (item_is b i h lt is) in
    let s : sum_by f (take (i + 1) b) ≡ sum_by f (take i b) + f (get_or b i []) = sum_by_more f b i [] lt in
    omega (arith, value, so_far, e, s)

pub item_short : (b : Histories) (i : ℕ) (h : List Entry) → i < length b → h ≡ get_or b i h → ((a : ℕ) → a < length b → length (history b a) ≤ 20064)
    → length h ≤ 20064
item_short b i h lt is short = let e : length h ≡ length (history b i) = ap length (item_is b i h lt is) in let m = short i lt in omega (arith, e, m)

pub refused_short : (b : Histories) (i w : ℕ) (h : List Entry) → i < length b → h ≡ get_or b i h → w ≡ count_by is_refused h
    → ((a : ℕ) → a < length b → length (history b a) ≤ 20064) → w ≤ 20064
refused_short b i w h lt is value short = let m = item_short b i h lt is short in let le = count_by-le-length is_refused h in omega (arith, value, m, le)
