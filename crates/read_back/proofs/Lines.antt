-- The lines of a text that is made of lines.
use Rattle.std.proofs.Common.{◌≡◌, ◌==◌, ◌+◌, ℕ, Bool, true, false, not, cond, List, [], ◌∷◌, ◌++◌, map, fold, refl, sym, ap, ◌∙◌, append_assoc, append-nil}
use Rattle.std.specs.Prelude.{codes}
use Rattle.std.specs.List.{list_all, AllByRecursion}
use Rattle.std.proofs.lemmas.List.Elements.{All-head, All-tail}
use Rattle.swap_base.proofs.Lists.{and_both, and_parts}
use Rattle.command_input.specs.Lines.{filled_lines, is_blank, collect_lines, with_first}
use Rattle.made_jobs.specs.Making.{with_copied_line}
use Rattle.transcript_book.specs.Between.{fed_lines}
use Rattle.read_back.specs.Made.{numbered_lines, IsOneLine, TextHasOneStory, TextIsItsLines}

pub not_is : (b : Bool) → not b ≡ true → b ≡ false
not_is true e = absurd (cc e)
not_is false e = refl

-- a line comes first
line_first : (l rest : List ℕ) → IsOneLine l → collect_lines ((l ++ codes "\n") ++ rest) ≡ l ∷ collect_lines rest
unfolding collect_lines
line_first [] rest h = refl
line_first (b ∷ l) rest h =
    let p = and_parts (not (b == 10)) (list_all (λ x. not (x == 10)) l) h in
    rw (not_is (b == 10) p.0) (ap (with_first b) (line_first l rest p.1))

pub text_is_its_lines : TextIsItsLines
unfolding collect_lines
text_is_its_lines [] h = refl
text_is_its_lines (l ∷ ls) h =
    line_first l (fed_lines ls) (All-head IsOneLine l ls h) ∙ ap (λ (m : List (List ℕ)). l ∷ m) (text_is_its_lines ls (All-tail IsOneLine l ls h))

pub text_has_one_story : TextHasOneStory
text_has_one_story ls ms h k e = sym (text_is_its_lines ls h) ∙ ap collect_lines e ∙ text_is_its_lines ms k

-- lines that are ended one by one are collected as they were
pub ended_lines : (ls : List (List ℕ)) → AllByRecursion IsOneLine ls → collect_lines (fed_lines ls) ≡ ls
unfolding collect_lines
ended_lines [] h = refl
ended_lines (l ∷ ls) h = line_first l (fed_lines ls) h.0 ∙ ap (λ (m : List (List ℕ)). l ∷ m) (ended_lines ls h.1)

-- ---- lines that aren't blank

-- each is one line, and isn't blank
abbrev pub AreLines : List (List ℕ) → Type 0
AreLines [] = Unit {0}
AreLines (l ∷ ls) = IsOneLine l × (is_blank l ≡ false) × AreLines ls

pub lines_back : (ls : List (List ℕ)) → AreLines ls → collect_lines (fed_lines ls) ≡ ls
unfolding collect_lines
lines_back [] h = refl
lines_back (l ∷ ls) h = line_first l (fed_lines ls) h.0 ∙ ap (λ (m : List (List ℕ)). l ∷ m) (lines_back ls h.2)

pub all_filled : (n : ℕ) (ls : List (List ℕ)) → AreLines ls → filled_lines n ls ≡ numbered_lines n ls
unfolding filled_lines
all_filled n [] h = refl
all_filled n (l ∷ ls) h = rw (h.1) (ap (λ (m : List (ℕ × List ℕ)). (n, l) ∷ m) (all_filled (n + 1) ls h.2))

-- the lines of a text

abbrev AreOneLines : List (List ℕ) → Type 0
AreOneLines [] = Unit {0}
AreOneLines (l ∷ ls) = IsOneLine l × AreOneLines ls

one_longer : (b : ℕ) (ls : List (List ℕ)) → (b == 10) ≡ false → AreOneLines ls → AreOneLines (with_first b ls)
one_longer b [] e h = (and_both (not (b == 10)) true (ap not e) refl, tt)
one_longer b (l ∷ ls) e h = (and_both (not (b == 10)) (list_all (λ x. not (x == 10)) l) (ap not e) h.0, h.1)

by_feed : (b : ℕ) (t : Bool) (ls : List (List ℕ)) → (b == 10) ≡ t → AreOneLines ls → AreOneLines (cond t ([] ∷ ls) (with_first b ls))
by_feed b true ls e h = (refl, h)
by_feed b false ls e h = one_longer b ls e h

are_one_lines : (bs : List ℕ) → AreOneLines (collect_lines bs)
unfolding collect_lines
are_one_lines [] = tt
are_one_lines (b ∷ bs) = by_feed b (b == 10) (collect_lines bs) refl (are_one_lines bs)

by_blank : (n : ℕ) (l : List ℕ) (t : Bool) (ls : List (ℕ × List ℕ)) → is_blank l ≡ t → IsOneLine l → AreLines (map (λ x. x.1) ls)
    → AreLines (map (λ x. x.1) (cond t ls ((n, l) ∷ ls)))
by_blank n l true ls e one h = h
by_blank n l false ls e one h = (one, e, h)

are_filled : (n : ℕ) (ls : List (List ℕ)) → AreOneLines ls → AreLines (map (λ x. x.1) (filled_lines n ls))
unfolding filled_lines
are_filled n [] h = tt
are_filled n (l ∷ ls) h = by_blank n l (is_blank l) (filled_lines (n + 1) ls) refl h.0 (are_filled (n + 1) ls h.1)

-- those of an input that aren't blank
pub input_lines : (bs : List ℕ) → AreLines (map (λ x. x.1) (filled_lines 1 (collect_lines bs)))
input_lines bs = are_filled 1 (collect_lines bs) (are_one_lines bs)

-- ---- what is written line by line

pub written_lines : (text : List ℕ) (ls : List (ℕ × List ℕ)) → fold with_copied_line text ls ≡ text ++ fed_lines (map (λ x. x.1) ls)
written_lines text [] = sym (append-nil text)
written_lines text (l ∷ ls) =
    written_lines (with_copied_line text l) ls ∙ append_assoc text (l.1 ++ codes "\n") (fed_lines (map (λ x. x.1) ls))
