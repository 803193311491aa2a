-- What the lines of a ledger say of its entries.
use Rattle.std.proofs.Common.{◌≡◌, ℕ, suc, ◌<◌, ◌==◌, Bool, true, false, List, [], ◌∷◌, ◌++◌, length, refl, sym, ap, ◌∙◌, arith}
use Rattle.std.proofs.Common.{if◌then◌else◌}
use Rattle.std.specs.List.{AllByRecursion}
use mathlib.Core.List.{IsPrefix}
use Rattle.turn_lock.specs.SeatHistory.{author_entries, Covers, HaveAuthorsBelow}
use Rattle.swap_digraph.specs.declared.deal.Deal.{Deal}
use Rattle.swap_digraph.specs.Deal.{party, counterparty}
use Rattle.ledger_core.specs.declared.entry.Entry.{Entry}
use Rattle.ledger_core.specs.declared.entry.Sender.{Sender}
use Rattle.ledger_core.specs.declared.entry.Sender.TheVariants.{Party, Clock}
use Rattle.ledger_shared.specs.declared.shelf.Line.{Line}
use Rattle.ledger_shared.specs.declared.shelf.Line.TheVariants.{Head, Made}
use Rattle.ledger_shared.specs.Lines.{sender_side, side_entries, made_lines, entry_lines, line_author, line_entries, head_arc, head_deal}

pub unmade_append : (d : Deal) (a : ℕ) (h : List Entry) (ls : List Line) → line_entries (made_lines d a h ++ ls) ≡ h ++ line_entries ls
unmade_append d a [] ls = refl
unmade_append d a (e ∷ h) ls = ap (λ w. e ∷ w) (unmade_append d a h ls)

pub unmade : (d : Deal) (a : ℕ) (h : List Entry) → line_entries (entry_lines d a h) ≡ h
unmade d a [] = refl
unmade d a (e ∷ h) = ap (λ w. e ∷ w) (unmade d a h)

pub made_append : (d : Deal) (a : ℕ) (h k : List Entry) → made_lines d a (h ++ k) ≡ made_lines d a h ++ made_lines d a k
made_append d a [] k = refl
made_append d a (e ∷ h) k = ap (λ w. Made (sender_side d a e.sender) e ∷ w) (made_append d a h k)

pub length_made : (d : Deal) (a : ℕ) (h : List Entry) → length (made_lines d a h) ≡ length h
length_made d a [] = refl
length_made d a (e ∷ h) = ap (λ n. suc n) (length_made d a h)

both : (b : Bool) (k : ℕ) (e : Entry) (ls : List Line) (h : List Entry) → line_entries ls ≡ h
    → line_entries (if b then Made k e ∷ ls else ls) ≡ (if b then e ∷ h else h)
both true k e ls h is = ap (λ w. e ∷ w) is
both false k e ls h is = is

headed : (b : Bool) (d : Deal) (a : ℕ) (ls : List Line) → line_entries (if b then Head d a ∷ ls else ls) ≡ line_entries ls
headed true d a ls = refl
headed false d a ls = refl

unmade_by : (k : ℕ) (d : Deal) (a : ℕ) (h : List Entry) → line_entries (author_entries line_author k (made_lines d a h)) ≡ side_entries d a k h
unmade_by k d a [] = refl
unmade_by k d a (e ∷ h) = both (sender_side d a e.sender == k) (sender_side d a e.sender) e (author_entries line_author k (made_lines d a h)) (side_entries d a k h)
    (unmade_by k d a h)

lines_by : (k : ℕ) (d : Deal) (a : ℕ) (h : List Entry) → line_entries (author_entries line_author k (entry_lines d a h)) ≡ side_entries d a k h
lines_by k d a h = headed (2 == k) d a (author_entries line_author k (made_lines d a h)) ∙ unmade_by k d a h

pub same_deal : (k : ℕ) (d c : Deal) (a b : ℕ) (h s : List Entry) → Covers line_author (entry_lines d a h) (k, entry_lines c b s) → d ≡ c
same_deal k d c a b h s v = sym (ap head_deal v.0.1)

pub same_arc : (k : ℕ) (d c : Deal) (a b : ℕ) (h s : List Entry) → Covers line_author (entry_lines d a h) (k, entry_lines c b s) → a ≡ b
same_arc k d c a b h s v = sym (ap head_arc v.0.1)

pub goes_longer : (k : ℕ) (d c : Deal) (a b : ℕ) (h s : List Entry) → Covers line_author (entry_lines d a h) (k, entry_lines c b s) → IsPrefix s h
goes_longer k d c a b h s v = (line_entries v.0.0, sym (unmade_append c b s v.0.0) ∙ (ap line_entries v.0.1 ∙ unmade d a h))

pub goes_on : (k : ℕ) (d c : Deal) (a b : ℕ) (h s : List Entry) → Covers line_author (entry_lines d a h) (k, entry_lines c b s) → side_entries d a k h ≡ side_entries c b k s
goes_on k d c a b h s v = sym (lines_by k d a h) ∙ (ap line_entries v.1 ∙ lines_by k c b s)

pub all_made : (d : Deal) (a k : ℕ) (rest : List Entry) → AllByRecursion (λ e. sender_side d a e.sender ≡ k) rest
    → AllByRecursion (λ l. line_author l ≡ k) (made_lines d a rest)
all_made d a k [] all = tt
all_made d a k (e ∷ es) all = (all.0, all_made d a k es all.1)

three_ways : (b c : Bool) → (if b then 0 else (if c then 1 else 2)) < 3
three_ways true c = omega arith
three_ways false true = omega arith
three_ways false false = omega arith

side_below : (d : Deal) (a : ℕ) (s : Sender) → sender_side d a s < 3
side_below d a (Party p) = three_ways (p == party d a) (p == counterparty d a)
side_below d a Clock = omega arith

made_below : (d : Deal) (a : ℕ) (h : List Entry) → HaveAuthorsBelow line_author 3 (made_lines d a h)
made_below d a [] = tt
made_below d a (e ∷ h) = (side_below d a e.sender, made_below d a h)

pub lines_below : (d : Deal) (a : ℕ) (h : List Entry) → HaveAuthorsBelow line_author 3 (entry_lines d a h)
lines_below d a h = (omega arith, made_below d a h)
