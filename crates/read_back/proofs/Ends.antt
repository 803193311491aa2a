-- A text of lines that are each ended falls into them.
use Rattle.std.proofs.Common.{◌≡◌, ◌==◌, ◌+◌, ◌-◌, ℕ, Bool, true, false, cond, List, [], ◌∷◌, ◌++◌, length, take, not, Result, Ok, Err, refl, sym, ap, ◌∙◌, arith}
use Rattle.std.proofs.Common.{◌≤◌, nat_le, append_assoc, append-nil, eqb-true}
use Rattle.std.specs.Prelude.{slice_index_or}
use Rattle.std.specs.List.{list_all, AllByRecursion}
use Rattle.std.proofs.Math.Seq.{take-append_seam}
use Rattle.std.proofs.lemmas.List.{get_or_push, length-append}
use Rattle.std.proofs.lemmas.Bool.{leb-true}
use Rattle.swap_base.proofs.Lists.{and_both, and_parts}
use Rattle.command_input.specs.declared.refusal.Refusal.{Refusal}
use Rattle.command_input.specs.declared.reason.Reason.TheVariants.{CutShort}
use Rattle.transcript_book.specs.Between.{between, fed_lines, longer_first, separated_parts}
use Rattle.transcript_book.proofs.SeparatedParts.{IsHigh}
use Rattle.party_rows.specs.Lines.{ended_lines, is_ended, nameless}

-- no byte is a line feed
abbrev pub HasNoFeed : List ℕ → Type 0
HasNoFeed w = list_all (λ x. not (x == 10)) w ≡ true

-- no byte below a space is no line feed
pub no_feed : (w : List ℕ) → IsHigh 32 w → HasNoFeed w
no_feed [] h = refl
no_feed (x ∷ w) h =
    let k = and_parts (nat_le 32 x) (list_all (λ y. nat_le 32 y) w) h in
    and_both (not (x == 10)) (list_all (λ y. not (y == 10)) w) (by (x == 10) refl k.0) (no_feed w k.1)
  where
    by : (t : Bool) → (x == 10) ≡ t → nat_le 32 x ≡ true → not (x == 10) ≡ true
    by true e low = let same : x ≡ 10 = eqb-true x 10 e in let le : 32 ≤ x = leb-true 32 x low in absurd (omega arith)
    by false e low = ap not e

is_false : (b : Bool) → not b ≡ true → b ≡ false
is_false true h = absurd (cc h)
is_false false h = refl

first_part : (w rest : List ℕ) → HasNoFeed w → separated_parts 10 (w ++ 10 ∷ rest) ≡ w ∷ separated_parts 10 rest
first_part [] rest h = refl
first_part (x ∷ w) rest h =
    let k = and_parts (not (x == 10)) (list_all (λ y. not (y == 10)) w) h in
    let more = separated_parts 10 (w ++ 10 ∷ rest) in
    ap (λ t. cond t ([] ∷ more) (longer_first x more)) (is_false (x == 10) k.0) ∙ ap (longer_first x) (first_part w rest k.1)

only_part : (w : List ℕ) → HasNoFeed w → separated_parts 10 w ≡ w ∷ []
only_part [] h = refl
only_part (x ∷ w) h =
    let k = and_parts (not (x == 10)) (list_all (λ y. not (y == 10)) w) h in
    ap (λ t. cond t ([] ∷ separated_parts 10 w) (longer_first x (separated_parts 10 w))) (is_false (x == 10) k.0) ∙ ap (longer_first x) (only_part w k.1)

all_parts : (l : List ℕ) (ls : List (List ℕ)) → HasNoFeed l → AllByRecursion HasNoFeed ls → separated_parts 10 (between 10 (l ∷ ls)) ≡ l ∷ ls
all_parts l [] h k = only_part l h
all_parts l (m ∷ ms) h k = first_part l (between 10 (m ∷ ms)) h ∙ ap (λ r. l ∷ r) (all_parts m ms k.0 k.1)

abbrev feed : List ℕ
feed = 10 ∷ []

pub ended_is : (l : List ℕ) (ls : List (List ℕ)) → fed_lines (l ∷ ls) ≡ between 10 (l ∷ ls) ++ 10 ∷ []
ended_is l [] = append-nil (l ++ feed)
ended_is l (m ∷ ms) =
    ap (λ t. (l ++ feed) ++ t) (ended_is m ms) ∙ append_assoc l feed (between 10 (m ∷ ms) ++ feed)
    ∙ sym (append_assoc l (10 ∷ between 10 (m ∷ ms)) feed)

last_place : (b : List ℕ) → length (b ++ feed) - 1 ≡ length b
last_place b = let n : length (b ++ feed) ≡ length b + 1 = length-append b feed in omega (arith, n)

is_ended_text : (b : List ℕ) → is_ended (b ++ feed) ≡ true
is_ended_text b =
    ap (λ n. slice_index_or (b ++ feed) n 0 == 10) (last_place b) ∙ ap (λ x. x == 10) (get_or_push b 10 0 (length b) refl)

pub ended_back : (l : List ℕ) (ls : List (List ℕ)) → HasNoFeed l → AllByRecursion HasNoFeed ls → ended_lines (fed_lines (l ∷ ls)) ≡ Ok (l ∷ ls)
unfolding ended_lines
ended_back l ls h k =
    let b = between 10 (l ∷ ls) in
    let none : Result (List (List ℕ)) Refusal = Err (nameless CutShort) in
    ap ended_lines (ended_is l ls)
    ∙ ap (λ t. cond t (Ok (separated_parts 10 (take (length (b ++ feed) - 1) (b ++ feed)))) none) (is_ended_text b)
    ∙ ap (λ n. Ok (separated_parts 10 (take n (b ++ feed)))) (last_place b) ∙ ap (λ t. Ok (separated_parts 10 t)) (take-append_seam b feed)
    ∙ ap Ok (all_parts l ls h k)
