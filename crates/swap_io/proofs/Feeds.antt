-- The first line feed of some bytes, and the steps of reading a line.
use Rattle.std.proofs.Common.{◌≡◌, ◌==◌, ◌<◌, ◌≤◌, ◌+◌, ℕ, zero, suc, Bool, true, false, not, IsTrue, List, [], ◌∷◌, ◌++◌, length, take, drop, get_or}
use Rattle.std.proofs.Common.{slice_index, Option, None, Some, IfSome, ◌↔◌, Result, Ok, Err, refl, sym, ap, ◌∙◌, subst, arith, append_assoc}
use Rattle.std.proofs.Common.{length-append, drop-cons, add-one}
use Rattle.std.proofs.lemmas.Bool.{and_from, and_parts}
use Rattle.std.proofs.lemmas.Bool.Decides.{nat_tests}
use Rattle.std.proofs.lemmas.List.{take-append-drop}
use Rattle.swap_io.proofs.ByteLaws.{Consumes-nil, Consumes-trans}
use Rattle.swap_io.specs.Tape.{Tape}
use Rattle.std.specs.Io.KnownBytes as known
use Rattle.memchr.specs.Find.{Nowhere, NoneBefore, Passes, is_byte}
use Rattle.swap_io.specs.Lines.{Reading, lacks_feed, TookFromSource, IsNext, IsCutAtFeed, TakesLine, IsFilled, line_end_bytes, HasLineEnd}
use Rattle.swap_io.specs.declared.line_end.LineEnd.{LineEnd}
use Rattle.swap_io.specs.declared.line_end.LineEnd.TheVariants.{Ended, Rest, End}

-- The first line feed.

no_feed : (t : Bool) → ¬ (t ≡ true) → not t ≡ true
no_feed true h = absurd (h refl)
no_feed false h = refl

pub none_lacks : (xs : List ℕ) → ((k : ℕ) → k < length xs → ¬ ((slice_index xs k == 10) ≡ true)) → IsTrue (lacks_feed xs)
none_lacks [] h = refl
none_lacks (x ∷ xs) h = and_from (not (x == 10)) (lacks_feed xs) (no_feed (x == 10) (h 0 (omega arith))) (none_lacks xs (λ k lt. h (suc k) (omega arith)))

first_lacks : (xs : List ℕ) (k : ℕ) → k < length xs → ((j : ℕ) → j < k → ¬ ((slice_index xs j == 10) ≡ true)) → IsTrue (lacks_feed (take k xs))
first_lacks [] k lt h = absurd (omega arith)
first_lacks (x ∷ xs) zero lt h = refl
first_lacks (x ∷ xs) (suc k) lt h = and_from (not (x == 10)) (lacks_feed (take k xs)) (no_feed (x == 10) (h 0 (omega arith)))
    (first_lacks xs k (omega arith) (λ j below. h (suc j) (omega arith)))

ten : (b : ℕ) → (b == 10) ≡ true → b ≡ 10
ten b e = grind (arith, nat_tests)

pub cut_some : (xs : List ℕ) (k : ℕ) → NoneBefore (Passes (is_byte 10) xs) 0 (length xs) k → Passes (is_byte 10) xs k
    → IsCutAtFeed xs (take k xs) (drop (k + 1) xs)
cut_some xs k none is =
    let at : drop k xs ≡ 10 ∷ drop (k + 1) xs = rw (add-one, drop-cons xs k 0 none.high) (ap (λ (b : ℕ). b ∷ drop (suc k) xs) (ten (get_or xs k 0) is)) in
    record {
      parts = sym (take-append-drop k xs) ∙ ap (λ (ys : List ℕ). take k xs ++ ys) at;
      one = first_lacks xs k none.high (λ j below. none.before j (omega arith) below);
    }

pub cut_none : (xs : List ℕ) → Nowhere (Passes (is_byte 10) xs) 0 (length xs) → IsTrue (lacks_feed xs)
cut_none xs none = none_lacks xs (λ k lt. none k (omega arith) lt)

pub both_lack : (xs ys : List ℕ) → IsTrue (lacks_feed xs) → IsTrue (lacks_feed ys) → IsTrue (lacks_feed (xs ++ ys))
both_lack [] ys p q = q
both_lack (x ∷ xs) ys p q =
    let both = and_parts (not (x == 10)) (lacks_feed xs) p in
    and_from (not (x == 10)) (lacks_feed (xs ++ ys)) both.0 (both_lack xs ys both.1 q)

-- What was taken.

pub took_none : (left : Tape) (s t : Reading) → t.taken ≡ s.taken → t.limit ≡ s.limit → TookFromSource left left s t []
took_none left s t taken limit = record { consumed = Consumes-nil left; counted = omega (arith, taken); limit = limit }

pub took_on : (a b c : Tape) (s t u : Reading) (xs ys : List ℕ) → TookFromSource a b s t xs → TookFromSource b c t u ys → TookFromSource a c s u (xs ++ ys)
took_on a b c s t u xs ys p q = record {
  consumed = Consumes-trans a b c xs ys p.consumed q.consumed;
  counted = rw length-append (omega (arith, p.counted, q.counted));
  limit = q.limit ∙ p.limit;
}

-- only what is kept has changed
pub took_same : (a b : Tape) (s t u : Reading) (xs : List ℕ) → TookFromSource a b s t xs → u.taken ≡ t.taken → u.limit ≡ t.limit → TookFromSource a b s u xs
took_same a b s t u xs p taken limit = record { consumed = p.consumed; counted = taken ∙ p.counted; limit = limit ∙ p.limit }

-- an answer that is no fault of reading, and no call that failed
pub calm_after : {T E : Type 0} (x : T) (e : E) (n m : ℕ) → (¬ ◌≡◌ {A = Result T E} (Ok x) (Err e) → m ≡ n) → m ≡ n
calm_after x e n m h = h (λ is. absurd (cc is))

-- no more was taken than may be
pub not_past : {T E : Type 0} (x : T) (e : E) (limit taken : ℕ) → (◌≡◌ {A = Result T E} (Ok x) (Err e) ↔ (limit < taken)) → taken ≤ limit
not_past x e limit taken h =
    let no : limit < taken → ⊥ = λ lt. absurd (cc (h.1 lt)) in
    omega arith

-- The line so far.

pub up_to_feed : (first bytes line line' kept kept' more : List ℕ) → first ++ bytes ≡ line ++ kept → kept ≡ more ++ 10 ∷ kept' → line' ≡ line ++ more
    → first ++ bytes ≡ line' ++ ((10 ∷ []) ++ kept')
up_to_feed first bytes line line' kept kept' more so_far is wrote = so_far ∙ ap (λ (xs : List ℕ). line ++ xs) is ∙ sym (append_assoc line more (10 ∷ kept'))
    ∙ ap (λ (xs : List ℕ). xs ++ 10 ∷ kept') (sym wrote)

pub all_of_it : (first bytes line line' kept more : List ℕ) → first ++ bytes ≡ line ++ kept → line' ≡ line ++ kept → first ++ (bytes ++ more) ≡ line' ++ more
all_of_it first bytes line line' kept more so_far wrote = sym (append_assoc first bytes more) ∙ ap (λ (xs : List ℕ). xs ++ more) (so_far ∙ sym wrote)

-- A line that its line feed ends.
pub is_ended : (a b : Tape) (r s t : Reading) (bytes line line' : List ℕ) (ended : Bool) → ended ≡ true → TookFromSource a b r s bytes
    → r.kept ++ bytes ≡ line ++ s.kept → IsTrue (lacks_feed line) → TakesLine ended s t line line'
    → t.taken ≡ s.taken → t.limit ≡ s.limit → IsNext a b r t line' Ended
is_ended a b r s t bytes line line' false e took parts one cut taken limit = absurd (cc e)
is_ended a b r s t bytes line line' true e took parts one cut taken limit = record {
  bytes = bytes;
  took = took_same a b r s t bytes took taken limit;
  parts = up_to_feed r.kept bytes line line' s.kept t.kept cut.0 parts cut.1.parts cut.2;
  one = rw cut.2 (both_lack line cut.0 one cut.1.one);
  ends = tt;
}

-- The line goes on in what is read next.
pub more_taken : (a b c : Tape) (r s t u : Reading) (bytes line line' : List ℕ) (ended more : Bool) → ended ≡ false → more ≡ true
    → TookFromSource a b r s bytes → r.kept ++ bytes ≡ line ++ s.kept → TakesLine ended s t line line'
    → t.taken ≡ s.taken → t.limit ≡ s.limit → IsFilled more b c t u → (xs : List ℕ) × TookFromSource a c r u xs × (r.kept ++ xs ≡ line' ++ u.kept)
more_taken a b c r s t u bytes line line' true more e f took parts moved taken limit filled = absurd (cc e)
more_taken a b c r s t u bytes line line' false false e f took parts moved taken limit filled = absurd (cc f)
more_taken a b c r s t u bytes line line' false true e f took parts moved taken limit filled = (
  bytes ++ u.kept,
  took_on a b c r t u bytes u.kept (took_same a b r s t bytes took taken limit) filled.0,
  all_of_it r.kept bytes line line' s.kept u.kept parts moved.2,
)

pub still_lacks : (s t : Reading) (line line' : List ℕ) (ended : Bool) → ended ≡ false → IsTrue (lacks_feed line) → TakesLine ended s t line line'
    → IsTrue (lacks_feed line')
still_lacks s t line line' true e one moved = absurd (cc e)
still_lacks s t line line' false e one moved = rw moved.2 (both_lack line s.kept one moved.1)

-- The rest of the input, which no line feed ends.
pub is_rest : (a b c : Tape) (r s t u : Reading) (bytes line line' : List ℕ) (ended more : Bool) → ended ≡ false → more ≡ false
    → TookFromSource a b r s bytes → r.kept ++ bytes ≡ line ++ s.kept → IsTrue (lacks_feed line) → TakesLine ended s t line line'
    → t.taken ≡ s.taken → t.limit ≡ s.limit → IsFilled more b c t u → 0 < length line' → IsNext a c r u line' Rest
is_rest a b c r s t u bytes line line' true more e f took parts one moved taken limit filled some = absurd (cc e)
is_rest a b c r s t u bytes line line' false true e f took parts one moved taken limit filled some = absurd (cc f)
is_rest a b c r s t u bytes line line' false false e f took parts one moved taken limit filled some = record {
  bytes = bytes ++ [];
  took = took_on a b c r t u bytes [] (took_same a b r s t bytes took taken limit) filled.0;
  parts = all_of_it r.kept bytes line line' s.kept [] parts moved.2 ∙ ap (λ (xs : List ℕ). line' ++ xs) (sym filled.1.kept);
  one = still_lacks s t line line' false e one moved;
  ends = (some, filled.1);
}

-- The end of the input.

nothing : (xs ys : List ℕ) → xs ++ ys ≡ [] → (xs ≡ []) × (ys ≡ [])
nothing [] ys e = (refl, e)
nothing (x ∷ xs) ys e = absurd (cc e)

-- the end, where these bytes were left and those are left now
at_end : (xs ys : List ℕ) (s t : Reading) (line bytes : List ℕ) (end : LineEnd) (left : Tape) → left.ahead ≡ Some ys → xs ≡ bytes ++ ys
    → s.kept ++ bytes ≡ line ++ (line_end_bytes end ++ t.kept) → HasLineEnd end line left t → (end ≡ End) ↔ ((s.kept ≡ []) × (xs ≡ []))
at_end xs ys s t line bytes Ended left is told parts ends = (
  λ e. absurd (cc e),
  λ none.
      let bs = nothing bytes ys (sym told ∙ none.1) in
      absurd (omega (arith, length-append line (10 ∷ t.kept), length-append s.kept bytes, ap length bs.0, ap length none.0, ap length parts)),
)
at_end xs ys s t line bytes Rest left is told parts ends = (
  λ e. absurd (cc e),
  λ none.
      let bs = nothing bytes ys (sym told ∙ none.1) in
      absurd (omega (arith, ends.0, length-append line t.kept, length-append s.kept bytes, ap length bs.0, ap length none.0, ap length parts)),
)
at_end xs ys s t line bytes End left is told parts ends = (
  λ e.
      let all : s.kept ++ bytes ≡ [] = parts ∙ ap (λ (zs : List ℕ). zs ++ t.kept) ends.0 ∙ ends.1.kept in
      let both = nothing s.kept bytes all in
      let none : ys ≡ [] = subst (λ (o : Option (List ℕ)). known.IsAtEnd o) is ends.1.none_left.known in
      (both.0, told ∙ ap (λ (zs : List ℕ). zs ++ ys) both.1 ∙ none),
  λ none. refl,
)

known_end : (o o' : Option (List ℕ)) (left' : Tape) (s t : Reading) (line bytes : List ℕ) (end : LineEnd) → left'.ahead ≡ o' → known.Consumes o o' bytes
    → s.kept ++ bytes ≡ line ++ (line_end_bytes end ++ t.kept) → HasLineEnd end line left' t → IfSome o (λ xs. (end ≡ End) ↔ ((s.kept ≡ []) × (xs ≡ [])))
known_end None o' left' s t line bytes end is told parts ends = tt
known_end (Some xs) None left' s t line bytes end is told parts ends = absurd told
known_end (Some xs) (Some ys) left' s t line bytes end is told parts ends = at_end xs ys s t line bytes end left' is told parts ends

pub is_end : (left left' : Tape) (s t : Reading) (line : List ℕ) (end : LineEnd) → IsNext left left' s t line end
    → IfSome left.ahead (λ xs. (end ≡ End) ↔ ((s.kept ≡ []) × (xs ≡ [])))
is_end left left' s t line end p = known_end left.ahead left'.ahead left' s t line p.bytes end refl p.took.consumed.known p.parts p.ends
