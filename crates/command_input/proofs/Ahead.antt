-- The lines of an input that comes piece by piece.
use Rattle.std.proofs.Common.{◌≡◌, ◌==◌, ◌<◌, ◌≤◌, ◌+◌, ◌-◌, ℕ, suc, Bool, true, false, not, cond, eqb, IsTrue, ◌⊎◌, inl, inr, List, [], ◌∷◌, ◌++◌}
use Rattle.std.proofs.Common.{length}
use Rattle.std.proofs.Common.{Result, Ok, Err, drop, ◌↔◌, refl, sym, ap, ap₂, ◌∙◌, subst, arith, append_assoc, append-nil, length-append}
use Rattle.std.proofs.lemmas.Bool.{and_parts}
use Rattle.std.proofs.lemmas.List.{length-drop}
use Rattle.swap_io.specs.Tape.{IsAtEnd, Tape}
use Rattle.swap_io.specs.Causes.{Rose}
use Rattle.swap_io.specs.Lines.{IsNext, Reading, TookSome, feeds, lacks_feed}
use Rattle.swap_io.specs.declared.fault.LineFault.{LineFault}
use Rattle.swap_io.specs.declared.fault.LineFault.TheVariants as line
use Rattle.swap_io.specs.declared.line_end.LineEnd.{LineEnd}
use Rattle.swap_io.specs.declared.line_end.LineEnd.TheVariants.{Ended, Rest, End}
use Rattle.swap_io.proofs.Feeds.{calm_after, not_past, took_none, took_on}
use Rattle.command_input.specs.declared.fault.InputFault.{InputFault}
use Rattle.command_input.specs.declared.fault.InputFault.TheVariants.{Refused, ReadFault, TooLong, NoMemory}
use Rattle.command_input.specs.Faults.{of_line, retold}
use Rattle.command_input.specs.Lines.{collect_lines, with_first, filled_lines, is_blank}
use Rattle.command_input.proofs.Filled.{one_more}
use Rattle.swap_io.specs.declared.fault.DrainFault.{DrainFault}
use Rattle.swap_io.specs.declared.fault.DrainFault.TheVariants as drained
use Rattle.command_input.specs.Input.{InputProgress, Breaks, CanBeLeft, Desk, Faulted, Fits, GivesNoLine, HasFailed, HasNoNewFault, IsLast, IsLine, TookPart, IsTooLong}
use Rattle.command_input.specs.Input.{Stands, CountsLine, ahead, desk, is_over, limit, counted_lines, past_empty, to_go}

not_feed : (t : Bool) → not t ≡ true → t ≡ false
not_feed true e = absurd (cc e)
not_feed false e = refl

by_test : (b : ℕ) (t : Bool) (bs : List ℕ) (line : List ℕ) (rest : List (List ℕ)) → t ≡ false → collect_lines bs ≡ line ∷ rest
    → cond t ([] ∷ collect_lines bs) (with_first b (collect_lines bs)) ≡ (b ∷ line) ∷ rest
by_test b t bs line rest f e = rw (f, e) refl

-- a line that a line feed ends is the first
pub feed_first : (line rest : List ℕ) → IsTrue (lacks_feed line) → collect_lines (line ++ (10 ∷ rest)) ≡ line ∷ collect_lines rest
unfolding collect_lines
feed_first [] rest one = refl
feed_first (b ∷ line) rest one =
    let p = and_parts (not (b == 10)) (lacks_feed line) one in
    by_test b (eqb b 10) (line ++ (10 ∷ rest)) line (collect_lines rest) (not_feed (b == 10) p.0) (feed_first line rest p.1)

-- bytes that no line feed ends are the last
pub no_feed_last : (b : ℕ) (line : List ℕ) → IsTrue (lacks_feed (b ∷ line)) → collect_lines (b ∷ line) ≡ (b ∷ line) ∷ []
unfolding collect_lines
no_feed_last b [] one = rw (not_feed (b == 10) (and_parts (not (b == 10)) true one).0) refl
no_feed_last b (c ∷ line) one =
    let p = and_parts (not (b == 10)) (lacks_feed (c ∷ line)) one in
    by_test b (eqb b 10) (c ∷ line) (c ∷ line) [] (not_feed (b == 10) p.0) (no_feed_last c line p.1)

pub last_line : (line : List ℕ) → 0 < length line → IsTrue (lacks_feed line) → collect_lines line ≡ line ∷ []
last_line [] some one = absurd (omega arith)
last_line (b ∷ line) some one = no_feed_last b line one

-- what was kept and what was taken is a line with its line feed and what is kept now, whatever
-- comes after it
pub ended_ahead : (kept bytes line kept' rest : List ℕ) → kept ++ bytes ≡ line ++ ((10 ∷ []) ++ kept') → IsTrue (lacks_feed line)
    → collect_lines (kept ++ (bytes ++ rest)) ≡ line ∷ collect_lines (kept' ++ rest)
ended_ahead kept bytes line kept' rest parts one =
    let e : kept ++ (bytes ++ rest) ≡ line ++ (10 ∷ (kept' ++ rest)) = sym (append_assoc kept bytes rest) ∙ ap (λ (xs : List ℕ). xs ++ rest) parts
    ∙ append_assoc line (10 ∷ kept') rest in
    ap collect_lines e ∙ feed_first line (kept' ++ rest) one

pub rest_ahead : (kept bytes line : List ℕ) → kept ++ bytes ≡ line ++ ([] ++ []) → 0 < length line → IsTrue (lacks_feed line)
    → collect_lines (kept ++ (bytes ++ [])) ≡ line ∷ collect_lines ([] ++ [])
unfolding collect_lines
rest_ahead kept bytes line parts some one = ap (λ (xs : List ℕ). collect_lines (kept ++ xs)) (append-nil bytes) ∙ ap collect_lines (parts ∙ append-nil line)
    ∙ last_line line some one

-- a blank line is passed over, another is given
pub blank_ahead : (n : ℕ) (line : List ℕ) (ls rest : List (List ℕ)) → ls ≡ line ∷ rest → is_blank line ≡ true
    → filled_lines (n + 1) ls ≡ filled_lines ((n + 1) + 1) rest
blank_ahead n line ls rest e blank = ap (filled_lines (n + 1)) e ∙ one_more (n + 1) line rest
    ∙ ap (λ t. cond t (filled_lines ((n + 1) + 1) rest) ((n + 1, line) ∷ filled_lines ((n + 1) + 1) rest)) blank

pub line_ahead : (n : ℕ) (line : List ℕ) (ls rest : List (List ℕ)) → ls ≡ line ∷ rest → is_blank line ≡ false
    → filled_lines (n + 1) ls ≡ (n + 1, line) ∷ filled_lines ((n + 1) + 1) rest
line_ahead n line ls rest e blank = ap (filled_lines (n + 1)) e ∙ one_more (n + 1) line rest
    ∙ ap (λ t. cond t (filled_lines ((n + 1) + 1) rest) ((n + 1, line) ∷ filled_lines ((n + 1) + 1) rest)) blank

-- The causes and the counts of one line.

-- no more was taken than may be, where the fault is another one
pub other_fault : {T E : Type 0} (e past : E) (result : Result T E) (most taken : ℕ) → ¬ (e ≡ past) → result ≡ Err e
    → ((result ≡ Err past) ↔ (most < taken)) → taken ≤ most
other_fault e past result most taken differs is long =
    let no : most < taken → ⊥ = λ lt. differs (cc (sym is ∙ long.1 lt)) in
    omega arith

is_part : (s t : Desk) (took : TookSome s.left t.left s.at.reading t.at.reading) → t.at.reading.taken ≤ t.at.reading.limit → s.at.reading.limit ≡ limit
    → TookPart s t
is_part s t took low lim = (took, omega (arith, low, took.1.limit, lim))

too_long : (s t : Desk) (took : TookSome s.left t.left s.at.reading t.at.reading) → t.at.reading.limit < t.at.reading.taken
    → t.at.reading.taken ≤ t.at.reading.limit + 1 → s.at.reading.limit ≡ limit → IsTooLong s t
too_long s t took past most lim = (took, omega (arith, past, most, took.1.limit, lim))

pub next_fails : {T : Type 0} (s t : Desk) (e : LineFault) (result : Result T LineFault) → result ≡ Err e
    → TookSome s.left t.left s.at.reading t.at.reading → ((result ≡ Err line.TooLong) ↔ (t.at.reading.limit < t.at.reading.taken))
    → t.at.reading.taken ≤ t.at.reading.limit + 1 → s.at.reading.limit ≡ limit → (result ≡ Err line.ReadFault → HasFailed s t)
    → (¬ (result ≡ Err line.ReadFault) → HasNoNewFault s t) → GivesNoLine s t e
next_fails s t line.ReadFault result is took long most lim rose calm = (
  rose is,
  is_part s t took (other_fault line.ReadFault line.TooLong result t.at.reading.limit t.at.reading.taken (λ e. absurd (cc e)) is long) lim,
)
next_fails s t line.TooLong result is took long most lim rose calm =
    (calm (λ e. absurd (cc (sym is ∙ e))), too_long s t took (long.0 is) most lim)
next_fails s t line.NoMemory result is took long most lim rose calm = (
  calm (λ e. absurd (cc (sym is ∙ e))),
  is_part s t took (other_fault line.NoMemory line.TooLong result t.at.reading.limit t.at.reading.taken (λ e. absurd (cc e)) is long) lim,
)

-- a fault while the rest of the input is dropped is what Breaks says of it
pub drain_breaks : {T : Type 0} (s t : Desk) (e : DrainFault) (result : Result T DrainFault) → result ≡ Err e
    → TookSome s.left t.left s.at.reading t.at.reading → ((result ≡ Err drained.TooLong) ↔ (t.at.reading.limit < t.at.reading.taken))
    → t.at.reading.taken ≤ t.at.reading.limit + 1 → s.at.reading.limit ≡ limit → (result ≡ Err drained.ReadFault → HasFailed s t)
    → (¬ (result ≡ Err drained.ReadFault) → HasNoNewFault s t) → Breaks s t e
drain_breaks s t drained.ReadFault result is took long most lim rose calm = (
  rose is,
  is_part s t took (other_fault drained.ReadFault drained.TooLong result t.at.reading.limit t.at.reading.taken (λ e. absurd (cc e)) is long) lim,
)
drain_breaks s t drained.TooLong result is took long most lim rose calm =
    (calm (λ e. absurd (cc (sym is ∙ e))), too_long s t took (long.0 is) most lim)

-- no more lines are counted than bytes were taken
pub counts : (end : LineEnd) (a b : Tape) (s t : Reading) (line : List ℕ) (n : ℕ) → IsNext a b s t line end → n + length s.kept ≤ s.taken
    → counted_lines end n + length t.kept ≤ t.taken
counts Ended a b s t line n p le =
    omega (arith, le, p.took.counted, length-append s.kept p.bytes, length-append line (10 ∷ t.kept), ap length p.parts)
counts Rest a b s t line n p le =
    omega (arith, le, p.ends.0, p.took.counted, length-append s.kept p.bytes, length-append line t.kept, ap length p.parts)
counts End a b s t line n p le = omega (arith, le, p.took.counted, length-append s.kept p.bytes, length-append line t.kept, ap length p.parts)

-- The steps of an input.

-- how much may still come gets less
fewer : (end : LineEnd) (s t : Desk) → s.at.over ≡ false → s.at.reading.limit ≡ limit → t.at.reading.taken ≤ limit
    → IsNext s.left t.left s.at.reading t.at.reading t.at.text end → t.at.over ≡ is_over end → to_go t.at < to_go s.at
fewer Ended s t going lim within p over =
    rw (over, going) (omega (arith, within, p.took.counted, length-append s.at.reading.kept p.bytes, length-append t.at.text (10 ∷ t.at.reading.kept), ap length p.parts))
fewer Rest s t going lim within p over = rw (over, going) (omega arith)
fewer End s t going lim within p over = rw (over, going) (omega arith)

-- what the next line of the source, found to be x, makes of the input
pub takes : (end x : LineEnd) (s t : Desk) → x ≡ end → IsNext s.left t.left s.at.reading t.at.reading t.at.text x
    → (◌≡◌ {A = Result LineEnd LineFault} (Ok x) (Err line.TooLong) ↔ (t.at.reading.limit < t.at.reading.taken))
    → (¬ ◌≡◌ {A = Result LineEnd LineFault} (Ok x) (Err line.ReadFault) → HasNoNewFault s t) → s.at.over ≡ false → s.at.reading.limit ≡ limit
    → s.at.number + length s.at.reading.kept ≤ s.at.reading.taken → t.at.number ≡ counted_lines end s.at.number → t.at.over ≡ is_over end → CountsLine end s t
takes end x s t is next long calm going lim few number over =
    let p : IsNext s.left t.left s.at.reading t.at.reading t.at.text end = rw is at next in
    let same : t.at.reading.limit ≡ limit = p.took.limit ∙ lim in
    let within : t.at.reading.taken ≤ limit = rw same at (not_past x line.TooLong t.at.reading.limit t.at.reading.taken long) in
    record {
      next = p;
      calm = calm_after x line.ReadFault s.faults t.faults calm;
      within = within;
      number = number;
      few = omega (arith, number, within, counts end s.left t.left s.at.reading t.at.reading t.at.text s.at.number p few);
      over = over;
      fewer = fewer end s t going lim within p over;
    }

-- A line, blank or not: whatever comes after it, the lines ahead were it and those ahead of it.
pub record ReadsLine (old new : Desk) : Type 0 where
  pub bytes : List ℕ
  pub stands : Stands old new bytes
  pub first : (rest : List ℕ) → CanBeLeft new.at rest
      → collect_lines (old.at.reading.kept ++ (bytes ++ rest)) ≡ new.at.text ∷ collect_lines (new.at.reading.kept ++ rest)
  pub counted : new.at.number ≡ old.at.number + 1

-- No line came, and the end was met.
pub record ReadsNone (old new : Desk) : Type 0 where
  pub bytes : List ℕ
  pub stands : Stands old new bytes
  pub none : collect_lines (old.at.reading.kept ++ bytes) ≡ []
  pub number : new.at.number ≡ old.at.number
  pub kept : new.at.reading.kept ≡ []
  pub met : new.at.over ≡ true

-- what stands after a line
line_stands : (end : LineEnd) (s t : Desk) (p : CountsLine end s t) → (t.at.over ≡ true → IsAtEnd t.left) → Stands s t p.next.bytes
line_stands end s t p ended = record { took = p.next.took; calm = p.calm; fits = record { within = p.within; ended = ended } }

-- a line that a line feed ends, or bytes at the end that none ends
pub reads_line : (end : LineEnd) (s t : Desk) → (end ≡ Ended) ⊎ (end ≡ Rest) → CountsLine end s t → ReadsLine s t
reads_line Ended s t some p = record {
  bytes = p.next.bytes;
  stands = line_stands Ended s t p (λ over. absurd (cc (sym p.over ∙ over)));
  first = λ rest can. ended_ahead s.at.reading.kept p.next.bytes t.at.text t.at.reading.kept rest p.next.parts p.next.one;
  counted = p.number;
}
reads_line Rest s t some p = record {
  bytes = p.next.bytes;
  stands = line_stands Rest s t p (λ over. p.next.ends.1.none_left);
  first = λ rest can.
      let kept : t.at.reading.kept ≡ [] = p.next.ends.1.kept in
      let none : rest ≡ [] = can p.over in
      let parts : s.at.reading.kept ++ p.next.bytes ≡ t.at.text ++ ([] ++ []) = p.next.parts ∙ ap (λ (xs : List ℕ). t.at.text ++ ([] ++ xs)) kept in
      ap (λ (xs : List ℕ). collect_lines (s.at.reading.kept ++ (p.next.bytes ++ xs))) none
      ∙ rest_ahead s.at.reading.kept p.next.bytes t.at.text parts p.next.ends.0 p.next.one
      ∙ ap₂ (λ (xs ys : List ℕ). t.at.text ∷ collect_lines (xs ++ ys)) (sym kept) (sym none);
  counted = p.number;
}
reads_line End s t (inl is) p = absurd (cc is)
reads_line End s t (inr is) p = absurd (cc is)

pub reads_none : (s t : Desk) → CountsLine End s t → ReadsNone s t
unfolding collect_lines
reads_none s t p = record {
  bytes = p.next.bytes;
  stands = line_stands End s t p (λ over. p.next.ends.1.none_left);
  none = ap collect_lines (p.next.parts ∙ ap₂ (λ (xs ys : List ℕ). xs ++ ([] ++ ys)) p.next.ends.0 p.next.ends.1.kept);
  number = p.number;
  kept = p.next.ends.1.kept;
  met = p.over;
}

-- What stands after two calls.

pub stands_none : (s : Desk) → Fits s.left s.at → Stands s s []
stands_none s fits = record { took = took_none s.left s.at.reading s.at.reading refl refl; calm = refl; fits = fits }

pub stands_on : (r s t : Desk) (xs ys : List ℕ) → Stands r s xs → Stands s t ys → Stands r t (xs ++ ys)
stands_on r s t xs ys p q = record {
  took = took_on r.left s.left t.left r.at.reading s.at.reading t.at.reading xs ys p.took q.took;
  calm = q.calm ∙ p.calm;
  fits = q.fits;
}

-- a part behind what was taken
part_on : (r s t : Desk) (xs : List ℕ) → Stands r s xs → TookPart s t → TookPart r t
part_on r s t xs p q = ((xs ++ q.0.0, took_on r.left s.left t.left r.at.reading s.at.reading t.at.reading xs q.0.0 p.took q.0.1), q.1)

too_long_on : (r s t : Desk) (xs : List ℕ) → Stands r s xs → IsTooLong s t → IsTooLong r t
too_long_on r s t xs p q = ((xs ++ q.0.0, took_on r.left s.left t.left r.at.reading s.at.reading t.at.reading xs q.0.0 p.took q.0.1), q.1)

-- a fault behind what was taken, of a reading that tells its refusals by other values
pub faulted_on : {R E : Type 0} (Q : R → Type 0) (P : E → Type 0) (r s t : Desk) (xs : List ℕ) → Stands r s xs → (said : R → E)
    → ((x : R) → Q x → P (said x)) → (f : InputFault R) → Faulted Q s t f → Faulted P r t (retold said f)
faulted_on Q P r s t xs p said says (Refused x) h = says x h
faulted_on Q P r s t xs p said says ReadFault h = (subst (λ (n : ℕ). Rose n t.faults) p.calm h.0, part_on r s t xs p h.1)
faulted_on Q P r s t xs p said says TooLong h = (h.0 ∙ p.calm, too_long_on r s t xs p h.1)
faulted_on Q P r s t xs p said says NoMemory h = (h.0 ∙ p.calm, part_on r s t xs p h.1)

-- a fault of a line
pub line_faults : {R : Type 0} (P : R → Type 0) (r s t : Desk) (xs : List ℕ) → Stands r s xs → (e : LineFault) → GivesNoLine s t e → Faulted P r t (of_line e)
line_faults P r s t xs p line.ReadFault h = (subst (λ (n : ℕ). Rose n t.faults) p.calm h.0, part_on r s t xs p h.1)
line_faults P r s t xs p line.TooLong h = (h.0 ∙ p.calm, too_long_on r s t xs p h.1)
line_faults P r s t xs p line.NoMemory h = (h.0 ∙ p.calm, part_on r s t xs p h.1)

-- Blank lines are passed over.

-- What was read so far are blank lines, whatever comes after them.
pub record Passed (first now : Desk) : Type 0 where
  pub bytes : List ℕ
  pub stands : Stands first now bytes
  pub can : CanBeLeft first.at bytes
  pub stays : first.at.over ≡ true → now.at.over ≡ true
  pub blank : (rest : List ℕ) → CanBeLeft now.at rest → ahead first.at (bytes ++ rest) ≡ ahead now.at rest
  pub later : first.at.number ≤ now.at.number

pub passed_none : (first : Desk) → Fits first.left first.at → Passed first first
passed_none first fits = record {
  bytes = [];
  stands = stands_none first fits;
  can = λ over. refl;
  stays = λ over. over;
  blank =
      λ rest can. refl;
  later = omega arith;
}

not_over : (s : Desk) → s.at.over ≡ false → ¬ (s.at.over ≡ true)
not_over s f e = absurd (cc (sym f ∙ e))

pub passed_on : (first s t : Desk) → Passed first s → s.at.over ≡ false → ReadsLine s t → is_blank t.at.text ≡ true → Passed first t
passed_on first s t p going q blank = record {
  bytes = p.bytes ++ q.bytes;
  stands = stands_on first s t p.bytes q.bytes p.stands q.stands;
  can = λ over. absurd (not_over s going (p.stays over));
  stays = λ over. absurd (not_over s going (p.stays over));
  blank = λ rest can.
      ap (ahead first.at) (append_assoc p.bytes q.bytes rest) ∙ p.blank (q.bytes ++ rest) (λ over. absurd (not_over s going over))
      ∙ blank_ahead s.at.number t.at.text (collect_lines (s.at.reading.kept ++ (q.bytes ++ rest))) (collect_lines (t.at.reading.kept ++ rest))
      (q.first rest can) blank
      ∙ ap (λ n. filled_lines (n + 1) (collect_lines (t.at.reading.kept ++ rest))) (sym q.counted);
  later = omega (arith, p.later, q.counted);
}

pub is_line : (first s t : Desk) → Passed first s → s.at.over ≡ false → ReadsLine s t → is_blank t.at.text ≡ false → t.at.number ≤ limit → IsLine first t
is_line first s t p going q some few = record {
  bytes = p.bytes ++ q.bytes;
  stands = stands_on first s t p.bytes q.bytes p.stands q.stands;
  open_yet = still first.at.over (λ over. not_over s going (p.stays over));
  first = λ rest can.
      ap (ahead first.at) (append_assoc p.bytes q.bytes rest) ∙ p.blank (q.bytes ++ rest) (λ over. absurd (not_over s going over))
      ∙ line_ahead s.at.number t.at.text (collect_lines (s.at.reading.kept ++ (q.bytes ++ rest))) (collect_lines (t.at.reading.kept ++ rest))
      (q.first rest can) some
      ∙ ap (λ n. (n, t.at.text) ∷ filled_lines (n + 1) (collect_lines (t.at.reading.kept ++ rest))) (sym q.counted);
  counted = omega (arith, p.later, q.counted);
  few = few;
}
  where
    still : (b : Bool) → ¬ (b ≡ true) → b ≡ false
    still true h = absurd (h refl)
    still false h = refl

-- the end was met behind blank lines
pub passed_end : (first s t : Desk) → Passed first s → s.at.over ≡ false → ReadsNone s t → Passed first t
unfolding collect_lines filled_lines
passed_end first s t p going q = record {
  bytes = p.bytes ++ q.bytes;
  stands = stands_on first s t p.bytes q.bytes p.stands q.stands;
  can = λ over. absurd (not_over s going (p.stays over));
  stays = λ over. absurd (not_over s going (p.stays over));
  blank = λ rest can.
      let none : rest ≡ [] = can q.met in
      ap (ahead first.at) (append_assoc p.bytes q.bytes rest) ∙ p.blank (q.bytes ++ rest) (λ over. absurd (not_over s going over))
      ∙ ap (λ (xs : List ℕ). filled_lines (s.at.number + 1) (collect_lines (s.at.reading.kept ++ (q.bytes ++ xs)))) none
      ∙ ap (λ (xs : List ℕ). filled_lines (s.at.number + 1) (collect_lines (s.at.reading.kept ++ xs))) (append-nil q.bytes)
      ∙ ap (filled_lines (s.at.number + 1)) q.none
      ∙ sym (ap₂ (λ (xs ys : List ℕ). filled_lines (t.at.number + 1) (collect_lines (xs ++ ys))) q.kept none);
  later = omega (arith, p.later, q.number);
}

-- a line feed at the front is a line that is passed over
past_one : (t : Bool) (n b : ℕ) (bs rest : List ℕ)
    → collect_lines (b ∷ (bs ++ rest)) ≡ cond t ([] ∷ collect_lines (bs ++ rest)) (with_first b (collect_lines (bs ++ rest)))
    → filled_lines ((n + 1) + 1) (collect_lines (bs ++ rest)) ≡ filled_lines (((n + 1) + feeds bs) + 1) (collect_lines (drop (feeds bs) bs ++ rest))
    → filled_lines (n + 1) (collect_lines (b ∷ (bs ++ rest)))
    ≡ filled_lines ((n + cond t (suc (feeds bs)) 0) + 1) (collect_lines (drop (cond t (suc (feeds bs)) 0) (b ∷ bs) ++ rest))
past_one true n b bs rest e others =
    let same : ◌≡◌ {A = ℕ} ((n + 1) + feeds bs) (n + suc (feeds bs)) = omega arith in
    blank_ahead n [] (collect_lines (b ∷ (bs ++ rest))) (collect_lines (bs ++ rest)) e refl ∙ others
    ∙ ap (λ (k : ℕ). filled_lines (k + 1) (collect_lines (drop (feeds bs) bs ++ rest))) same
past_one false n b bs rest e others =
    let same : ◌≡◌ {A = ℕ} n (n + 0) = omega arith in
    ap (λ (k : ℕ). filled_lines (k + 1) (collect_lines (b ∷ (bs ++ rest)))) same

past_ahead : (n : ℕ) (kept rest : List ℕ)
    → filled_lines (n + 1) (collect_lines (kept ++ rest)) ≡ filled_lines ((n + feeds kept) + 1) (collect_lines (drop (feeds kept) kept ++ rest))
unfolding collect_lines
past_ahead n [] rest =
    let same : ◌≡◌ {A = ℕ} n (n + 0) = omega arith in
    ap (λ (k : ℕ). filled_lines (k + 1) (collect_lines rest)) same
past_ahead n (b ∷ bs) rest = past_one (eqb b 10) n b bs rest refl (past_ahead (n + 1) bs rest)

-- empty lines are passed over
pub passed_past : (first : Desk) (left : Tape) (faults : ℕ) (s : InputProgress) → Passed first (desk left faults s)
    → Passed first (desk left faults (past_empty s))
passed_past first left faults s p = record {
  bytes = p.bytes;
  stands = record {
    took = record { consumed = p.stands.took.consumed; counted = p.stands.took.counted; limit = p.stands.took.limit };
    calm = p.stands.calm;
    fits = record { within = p.stands.fits.within; ended = p.stands.fits.ended };
  };
  can = p.can;
  stays = p.stays;
  blank = λ rest can. p.blank rest can ∙ past_ahead s.number s.reading.kept rest;
  later = omega (arith, p.later);
}

still_less : (over : Bool) (n m k : ℕ) → m ≤ k → cond over 0 (n + m) ≤ cond over 0 (n + k)
still_less true n m k le = omega arith
still_less false n m k le = omega (arith, le)

pub past_less : (s : InputProgress) → to_go (past_empty s) ≤ to_go s
past_less s = still_less s.over (limit + 2 - s.reading.taken) (length (drop (feeds s.reading.kept) s.reading.kept)) (length s.reading.kept)
    (omega (arith, length-drop (feeds s.reading.kept) s.reading.kept))

-- no line is ahead
pub is_last : (first s : Desk) → Passed first s → s.at.over ≡ true → s.at.reading.kept ≡ [] → IsLast first s
unfolding collect_lines filled_lines
is_last first s p over kept = record {
  bytes = p.bytes;
  stands = p.stands;
  can = p.can;
  none = ap (ahead first.at) (sym (append-nil p.bytes)) ∙ p.blank [] (λ over. refl)
      ∙ ap (λ (xs : List ℕ). filled_lines (s.at.number + 1) (collect_lines (xs ++ []))) kept;
  met = over;
}
