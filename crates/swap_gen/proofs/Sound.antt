-- Lists of arcs that are a digraph, and in which no arc leads from a follower down to another.
use Rattle.std.proofs.Common.{◌≡◌, ◌≢◌, ◌⊎◌, ℕ, ◌+◌, ◌-◌, ◌<◌, ◌≤◌, true, false, List, [], ◌∷◌, ◌++◌}
use Rattle.std.proofs.Common.{length, get_or, Option, Some, None, position, refl, sym, ap, ◌∙◌, subst, inl, inr, arith, append-nil, append_assoc}
use Rattle.std.proofs.Common.{eq-eqb, lt-ltb, length-append}
use Rattle.std.specs.List.{list_any}
use Rattle.std.proofs.lemmas.Bool.{false≢true, ne_eqb, cases_lt}
use Rattle.std.proofs.lemmas.List.{get_or_append_left, get_or-append_right}
use Rattle.std.proofs.lemmas.List.Quantifiers.{position-Some}
use Rattle.swap_base.specs.Lists.{IsElement}
use Rattle.swap_base.proofs.Lists.{list_any-in, from_append, in_place, none_both}
use Rattle.swap_digraph.specs.Arcs.{arc_fault, first_fault, next_arc_fault, same_ends}
use Rattle.swap_digraph.specs.declared.arc_ends.ArcEnds.{ArcEnds}
use Rattle.swap_digraph.specs.declared.deal.Version.TheVariants.{One}
use Rattle.swap_gen.proofs.Places.{no_arc}

-- An arc leads from one party to another, and not from a follower down to another.
pub record IsRising (leaders n : ℕ) (a : ArcEnds) : Type 0 where
  pub from : a.from < n
  pub to : a.to < n
  pub apart : a.from ≢ a.to
  pub rises : leaders ≤ a.from → leaders ≤ a.to → a.from < a.to

-- no two places have the same arc
abbrev pub AreApart : List ArcEnds → Type 0
AreApart xs = (i j : ℕ) → i < length xs → j < length xs → get_or xs i no_arc ≡ get_or xs j no_arc → i ≡ j

pub record AreSound (leaders n : ℕ) (xs : List ArcEnds) : Type 0 where
  pub each : (a : ArcEnds) → IsElement a xs → IsRising leaders n a
  pub apart : AreApart xs
  pub faultless : first_fault n One xs ≡ None

-- Places of a list with one more.

place_before : (xs : List ArcEnds) (a : ArcEnds) (i : ℕ) → i < length xs → get_or (xs ++ a ∷ []) i no_arc ≡ get_or xs i no_arc
place_before xs a i lt = get_or_append_left xs (a ∷ []) no_arc i lt

place_last : (xs : List ArcEnds) (a : ArcEnds) (i : ℕ) → i < length (xs ++ a ∷ []) → length xs ≤ i → (i ≡ length xs) × (get_or (xs ++ a ∷ []) i no_arc ≡ a)
place_last xs a i lt le =
    let n : length (xs ++ a ∷ []) ≡ length xs + 1 = length-append xs (a ∷ []) in
    let e : i ≡ length xs = omega (arith, n) in
    let z : length xs - length xs ≡ 0 = omega arith in (
      e,
      ap (λ k. get_or (xs ++ a ∷ []) k no_arc) e ∙ get_or-append_right xs (a ∷ []) (length xs) (length xs) no_arc refl (omega arith)
          ∙ ap (λ k. get_or (a ∷ []) k no_arc) z,
    )

same_itself : (a b : ArcEnds) → b ≡ a → same_ends a b ≡ true
same_itself a b e = rw e (rw (eq-eqb a.from a.from refl, eq-eqb a.to a.to refl) refl)

-- an arc that isn't there differs from each that is
not_there : (xs : List ArcEnds) (a : ArcEnds) (i : ℕ) → list_any (same_ends a) xs ≡ false → i < length xs → get_or xs i no_arc ≡ a → ⊥
not_there xs a i fresh lt e = false≢true (sym fresh ∙ list_any-in (same_ends a) xs (get_or xs i no_arc) (same_itself a (get_or xs i no_arc) e)
    (in_place xs i no_arc lt))

apart_more : (xs : List ArcEnds) (a : ArcEnds) → AreApart xs → list_any (same_ends a) xs ≡ false → AreApart (xs ++ a ∷ [])
apart_more xs a h fresh i j li lj e = go (cases_lt i (length xs)) (cases_lt j (length xs))
  where
    go : (i < length xs) ⊎ (length xs ≤ i) → (j < length xs) ⊎ (length xs ≤ j) → i ≡ j
    go (inl p) (inl q) = h i j p q (sym (place_before xs a i p) ∙ e ∙ place_before xs a j q)
    go (inl p) (inr q) = absurd (not_there xs a i fresh p (sym (place_before xs a i p) ∙ e ∙ (place_last xs a j lj q).1))
    go (inr p) (inl q) = absurd (not_there xs a j fresh q (sym (place_before xs a j q) ∙ sym e ∙ (place_last xs a i li p).1))
    go (inr p) (inr q) = (place_last xs a i li p).0 ∙ sym (place_last xs a j lj q).0

-- The first fault.

no_position : (xs : List ArcEnds) (a : ArcEnds) → list_any (same_ends a) xs ≡ false → position (same_ends a) xs ≡ None
no_position xs a fresh = go (position (same_ends a) xs) refl
  where
    go : (o : Option ℕ) → position (same_ends a) xs ≡ o → o ≡ None
    go None e = refl
    go (Some i) e =
        let r = position-Some (same_ends a) xs i no_arc e in
        absurd (false≢true (sym fresh ∙ list_any-in (same_ends a) xs (get_or xs i no_arc) r.1 (in_place xs i no_arc r.0)))

no_fault_at : (n : ℕ) (xs : List ArcEnds) (k : ℕ) (a : ArcEnds) → a.from < n → a.to < n → a.from ≢ a.to → list_any (same_ends a) xs ≡ false
    → arc_fault n One xs k a ≡ None
unfolding arc_fault
no_fault_at n xs k a from to apart fresh = rw (lt-ltb a.from n from, lt-ltb a.to n to, ne_eqb a.from a.to apart, no_position xs a fresh) refl

fault_last : (n : ℕ) (before xs : List ArcEnds) (a : ArcEnds) → next_arc_fault n One before xs ≡ None
    → arc_fault n One (before ++ xs) (length (before ++ xs)) a ≡ None → next_arc_fault n One before (xs ++ a ∷ []) ≡ None
fault_last n before [] a h k = rw (subst (λ (ys : List ArcEnds). arc_fault n One ys (length ys) a ≡ None) (append-nil before) k) refl
fault_last n before (x ∷ xs) a h k =
    let t = none_both (arc_fault n One before (length before) x) (next_arc_fault n One (before ++ x ∷ []) xs) h in
    let m : arc_fault n One ((before ++ x ∷ []) ++ xs) (length ((before ++ x ∷ []) ++ xs)) a ≡ None =
    subst (λ (ys : List ArcEnds). arc_fault n One ys (length ys) a ≡ None) (sym (append_assoc before (x ∷ []) xs)) k in
    rw t.0 (fault_last n (before ++ x ∷ []) xs a t.1 m)

faultless_more : (n : ℕ) (xs : List ArcEnds) (a : ArcEnds) → first_fault n One xs ≡ None → arc_fault n One xs (length xs) a ≡ None
    → first_fault n One (xs ++ a ∷ []) ≡ None
unfolding first_fault
faultless_more n xs a h k = fault_last n [] xs a h k

faultless_none : (n : ℕ) → first_fault n One [] ≡ None
unfolding first_fault
faultless_none n = refl

-- One more arc.

pub sound_none : (leaders n : ℕ) → AreSound leaders n []
sound_none leaders n = record { each = λ a i. absurd i; apart = λ i j li lj e. absurd (omega arith); faultless = faultless_none n }

pub sound_more : (leaders n : ℕ) (xs : List ArcEnds) (a : ArcEnds) → AreSound leaders n xs → IsRising leaders n a → list_any (same_ends a) xs ≡ false
    → AreSound leaders n (xs ++ a ∷ [])
sound_more leaders n xs a h r fresh = record {
  each = λ b i. go b (from_append xs (a ∷ []) b i);
  apart = apart_more xs a h.apart fresh;
  faultless = faultless_more n xs a h.faultless (no_fault_at n xs (length xs) a r.from r.to r.apart fresh);
}
  where
    go : (b : ArcEnds) → IsElement b xs ⊎ IsElement b (a ∷ []) → IsRising leaders n b
    go b (inl i) = h.each b i
    go b (inr (inl e)) = subst (IsRising leaders n) (sym e) r
    go b (inr (inr i)) = absurd i
