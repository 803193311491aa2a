-- Laws of known bytes.
use Rattle.std.proofs.Common.{◌≡◌, ◌==◌, ℕ, ◌+◌, ◌≤◌, List, [], ◌++◌, length, take, drop, Option, None, Some, inl, inr, refl, sym, ap, ◌∙◌, subst, append_assoc, append-nil, arith, ◌-◌}
use Rattle.std.proofs.KnownBytes.{Appends-trans}
use Rattle.std.proofs.KnownBytes as laws
use Rattle.std.proofs.lemmas.Grind.{common_steps}
use Rattle.std.proofs.Math.Seq.{take-add}
use Rattle.std.proofs.lemmas.List.{append_cancel_left, drop-drop, nil_from_length, take-append-drop, take_at, length-take, length-drop, length-append}
use Rattle.std.specs.Io.KnownBytes.{Appends}
use Rattle.std.specs.Io.KnownBytes as known
use Rattle.swap_io.specs.Tape.{Tape, Consumes, IsAtEnd, IsInput}
use Rattle.swap_io.specs.Causes.{ConsumesAtMost, next_count}
use Rattle.swap_io.specs.Supply.{Supply}

pub whole : (at : ℕ) (bytes : List ℕ) → take (length bytes - at) (drop at bytes) ≡ drop at bytes
whole at bytes = grind (arith, common_steps)

-- at bytes were appended, and then n more
pub goes_on : (a b c : Option (List ℕ)) (at n : ℕ) (bytes : List ℕ) → Appends a b (take at bytes)
    → Appends b c (take n (take (length bytes - at) (drop at bytes))) → Appends a c (take (at + n) bytes)
goes_on a b c at n bytes p q =
    let e = ap (λ (xs : List ℕ). take n xs) (whole at bytes) in
    rw take-add (Appends-trans a b c (take at bytes) (take n (drop at bytes)) p (rw e at q))

-- what was copied to the front of a buffer is what the source lost
pub copied : (bytes filled tail : List ℕ) (at n : ℕ) → at ≤ length bytes → n ≤ length bytes - at
    → filled ≡ take n (take (length bytes - at) (drop at bytes)) → drop at bytes ≡ take n (filled ++ tail) ++ drop (at + n) bytes
copied bytes filled tail at n inside fits e =
    let len : length filled ≡ n = rw (e, whole at bytes) (omega (arith, length-take n (drop at bytes), length-drop at bytes)) in
    let front : take n (filled ++ tail) ≡ filled = take_at filled tail n len in
    rw (front, e, whole at bytes, ← drop-drop n at bytes) (sym (take-append-drop n (drop at bytes)))

pub take_more : (at n : ℕ) (bytes : List ℕ) → take (at + n) bytes ≡ take at bytes ++ take n (drop at bytes)
take_more at n bytes = rw take-add refl

-- what was copied to the front of a buffer stands behind what the source gave before
pub given_on : (bytes filled tail : List ℕ) (at n : ℕ) → at ≤ length bytes → n ≤ length bytes - at
    → filled ≡ take n (take (length bytes - at) (drop at bytes)) → take (at + n) bytes ≡ take at bytes ++ take n (filled ++ tail)
given_on bytes filled tail at n inside fits e =
    let len : length filled ≡ n = rw (e, whole at bytes) (omega (arith, length-take n (drop at bytes), length-drop at bytes)) in
    let front : take n (filled ++ tail) ≡ filled = take_at filled tail n len in
    take_more at n bytes ∙ ap (λ (l : List ℕ). take at bytes ++ l) (sym (front ∙ e ∙ ap (λ (l : List ℕ). take n l) (whole at bytes)))

-- Bytes of a source.

pub Consumes-nil : (a : Tape) → Consumes a a []
Consumes-nil a = record { known = laws.Consumes-nil a.ahead; gave = sym (append-nil a.given) }

pub Consumes-trans : (a b c : Tape) (xs ys : List ℕ) → Consumes a b xs → Consumes b c ys → Consumes a c (xs ++ ys)
Consumes-trans a b c xs ys p q = record {
  known = laws.Consumes-trans a.ahead b.ahead c.ahead xs ys p.known q.known;
  gave = q.gave ∙ ap (λ (l : List ℕ). l ++ ys) p.gave ∙ append_assoc a.given xs ys;
}

-- a call gave nothing behind what was given
pub Consumes-kept : (a b c : Tape) (xs : List ℕ) → Consumes a b xs → Consumes b c [] → Consumes a c xs
Consumes-kept a b c xs p q = subst (λ (l : List ℕ). Consumes a c l) (append-nil xs) (Consumes-trans a b c xs [] p q)

all_given : (o p : Option (List ℕ)) (xs bytes : List ℕ) → o ≡ Some xs → known.Consumes o p bytes → known.IsAtEnd p → bytes ≡ xs
all_given None p xs bytes e h k = absurd (cc e)
all_given (Some ys) None xs bytes e h k = absurd h
all_given (Some ys) (Some zs) xs bytes e h k = sym (append-nil bytes) ∙ ap (λ (l : List ℕ). bytes ++ l) (sym k) ∙ sym h ∙ cc e

-- a source that knows what is left and is at its end gave all of it
pub Consumes-all : (a b : Tape) (xs bytes : List ℕ) → a.ahead ≡ Some xs → Consumes a b bytes → IsAtEnd b → bytes ≡ xs
Consumes-all a b xs bytes told p q = all_given a.ahead b.ahead xs bytes told p.known q.known

no_longer : (o p : Option (List ℕ)) (xs bytes : List ℕ) → o ≡ Some xs → known.Consumes o p bytes → length bytes ≤ length xs
no_longer None p xs bytes e h = absurd (cc e)
no_longer (Some ys) None xs bytes e h = absurd h
no_longer (Some ys) (Some zs) xs bytes e h =
    let same : ys ≡ xs = cc e in
    omega (arith, ap length same, ap length h, length-append bytes zs)

-- a source that knows what is left gave no more
pub Consumes-few : (a b : Tape) (xs bytes : List ℕ) → a.ahead ≡ Some xs → Consumes a b bytes → length bytes ≤ length xs
Consumes-few a b xs bytes told p = no_longer a.ahead b.ahead xs bytes told p.known

-- a source in memory is at its end where nothing is left
pub none_left : (left gave : List ℕ) → length left ≡ 0 → IsAtEnd (record { ahead = Some left; given = gave; ended = length left == 0 })
none_left left gave e = record { known = nil_from_length left e; met = rw e refl }

-- a source in memory after a call that gave n bytes
pub after_ok : (bytes failing : List ℕ) (at n per calls calls' faults : ℕ) → calls' ≡ next_count calls
    → ◌≡◌ {A = Supply}
    (record { left = drop (at + n) bytes; gave = take (at + n) bytes; per_call = per; failing = failing; calls = calls'; faults = faults })
    (record { left = drop n (drop at bytes); gave = take at bytes ++ take n (drop at bytes); per_call = per; failing = failing; calls = next_count calls; faults = faults })
after_ok bytes failing at n per calls calls' faults e = rw (e, take-add, drop-drop n at bytes) refl

-- what the same calls gave is the same
pub Consumes-one : (a b : Tape) (xs ys : List ℕ) → Consumes a b xs → Consumes a b ys → ys ≡ xs
Consumes-one a b xs ys p q = append_cancel_left a.given ys xs (sym q.gave ∙ p.gave)

-- all that was given up to the end is the input
pub input_read : (a b : Tape) (input bytes : List ℕ) → IsInput a b input → Consumes a b bytes → IsAtEnd b → bytes ≡ input
input_read a b input bytes (inl told) p q = Consumes-all a b input bytes told p q
input_read a b input bytes (inr r) p q = Consumes-one a b input bytes r.0 p

-- no more is given than the input
pub input_bounds : (a b : Tape) (input bytes : List ℕ) → IsInput a b input → Consumes a b bytes → length bytes ≤ length input
input_bounds a b input bytes (inl told) p = Consumes-few a b input bytes told p
input_bounds a b input bytes (inr r) p = omega (arith, ap length (Consumes-one a b input bytes r.0 p))

-- some bytes were consumed, and then more, together at most n
pub consumed : (a b c : Tape) (first more : List ℕ) (n : ℕ) → length first + length more ≤ n → Consumes a b first → Consumes b c more
    → ConsumesAtMost a c n
consumed a b c first more n fits p q = (first ++ more, rw length-append fits, Consumes-trans a b c first more p q)
