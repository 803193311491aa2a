-- In version 1 arcs without a fault have distinct ends.
use Rattle.std.proofs.Common.{◌≡◌, ℕ, zero, suc, ◌+◌, ◌<◌, Bool, true, false, cond, not, ◌&&◌, ◌==◌, nat_lt, List, [], ◌∷◌, ◌++◌, length, get_or}
use Rattle.std.proofs.Common.{get_or-take, take, Option, Some, None}
use Rattle.std.proofs.Common.{refl, sym, ap, subst, ◌∙◌, arith, append_assoc, append-nil, eq-eqb, ltb-true, ltb-false, position}
use Rattle.std.proofs.lemmas.List.{length-take}
use Rattle.std.proofs.lemmas.Bool.{false≢true}
use Rattle.std.specs.List.{position_from}
use Rattle.std.proofs.lemmas.Iterator.Adapters.{position_from-zero}
use Rattle.swap_base.proofs.Lists.{none_both}
use Rattle.swap_digraph.specs.Graph.{resolve_all_ends, HasDistinctEnds}
use Rattle.swap_digraph.specs.Arcs.{arc_fault, first_fault, next_arc_fault, parallel, same_ends}
use Rattle.swap_digraph.specs.declared.arc_ends.ArcEnds.{ArcEnds}
use Rattle.swap_digraph.specs.declared.fault.ArcFault.TheVariants.{OutOfRange, SelfArc}
use Rattle.swap_digraph.specs.declared.deal.Version.{Version}
use Rattle.swap_digraph.specs.declared.deal.Version.TheVariants.{One}

none_after : (n : ℕ) (before xs : List ArcEnds) (i : ℕ) (d : ArcEnds) → next_arc_fault n One before xs ≡ None → i < length xs
    → (k : ℕ) × (arc_fault n One (before ++ take i xs) k (get_or xs i d) ≡ None)
none_after n before [] i d e lt = absurd (omega arith)
none_after n before (x ∷ xs) zero d e lt =
    (length before, subst (λ ys. arc_fault n One ys (length before) x ≡ None) (sym (append-nil before)) (none_both _ _ e).0)
none_after n before (x ∷ xs) (suc i) d e lt =
    let r = none_after n (before ++ x ∷ []) xs i d (none_both _ _ e).1 (omega arith) in
    (r.0, subst (λ ys. arc_fault n One ys r.0 (get_or xs i d) ≡ None) (append_assoc before (x ∷ []) (take i xs)) r.1)

no_parallel : (n k : ℕ) (before : List ArcEnds) (a : ArcEnds) → arc_fault n One before k a ≡ None → position (same_ends a) before ≡ None
unfolding arc_fault
no_parallel n k before a e = go (nat_lt a.from n && nat_lt a.to n) (a.from == a.to) (position (same_ends a) before) e
  where
    go : (w s : Bool) (o : Option ℕ) → cond (not w) (Some (OutOfRange k)) (cond s (Some (SelfArc k)) (parallel One k o)) ≡ None → o ≡ None
    go true false None h = refl
    go true false (Some j) h = absurd (cc h)
    go true true o h = absurd (cc h)
    go false s o h = absurd (cc h)

not_there : (f : ArcEnds → Bool) (from : ℕ) (xs : List ArcEnds) (j : ℕ) (d : ArcEnds) → position_from f from xs ≡ None → j < length xs
    → f (get_or xs j d) ≡ false
not_there f from [] j d e lt = absurd (omega arith)
not_there f from (x ∷ xs) j d e lt = go (f x) refl j e lt (λ i. not_there f (from + 1) xs i d)
  where
    go : (t : Bool) → f x ≡ t → (i : ℕ) → cond t (Some from) (position_from f (from + 1) xs) ≡ None → i < suc (length xs)
        → ((i : ℕ) → position_from f (from + 1) xs ≡ None → i < length xs → f (get_or xs i d) ≡ false) → f (get_or (x ∷ xs) i d) ≡ false
    go true h i k l rest = absurd (cc k)
    go false h zero k l rest = h
    go false h (suc i) k l rest = rest i k (omega arith)

same_itself : (a : ArcEnds) → same_ends a a ≡ true
same_itself a = rw (eq-eqb a.from a.from refl, eq-eqb a.to a.to refl) refl

earlier : (n : ℕ) (xs : List ArcEnds) (i j : ℕ) → first_fault n One xs ≡ None → i < length xs → j < i → resolve_all_ends xs j ≡ resolve_all_ends xs i → ⊥
unfolding first_fault
earlier n xs i j e lt less same =
    let r = none_after n [] xs i (record { from = 0; to = 0 }) e lt in
    let p = no_parallel n r.0 (take i xs) (resolve_all_ends xs i) r.1 in
    let m : j < length (take i xs) = omega (arith, length-take i xs) in
    let f =
    not_there (same_ends (resolve_all_ends xs i)) 0 (take i xs) j (record {
      from = 0;
      to =
          0;
    }) (sym (position_from-zero (same_ends (resolve_all_ends xs i)) (take i xs)) ∙ p) m in
    let q : resolve_all_ends (take i xs) j ≡ resolve_all_ends xs i = get_or-take i xs j (record { from = 0; to = 0 }) less ∙ same in
    absurd (false≢true (sym f ∙ ap (same_ends (resolve_all_ends xs i)) q ∙ same_itself (resolve_all_ends xs i)))

-- version 1 has no two arcs with the same ends
pub distinct : (n : ℕ) (xs : List ArcEnds) → first_fault n One xs ≡ None → HasDistinctEnds (record { n = n; arcs = xs })
distinct n xs e a b la lb same = go (nat_lt a b) (nat_lt b a) refl refl
  where
    go : (s t : Bool) → nat_lt a b ≡ s → nat_lt b a ≡ t → a ≡ b
    go true t h k = absurd (earlier n xs b a e lb (ltb-true a b h) same)
    go false true h k = absurd (earlier n xs a b e la (ltb-true b a k) (sym same))
    go false false h k = let p = ltb-false a b h in let q = ltb-false b a k in omega (arith, p, q)

pub has_distinct_ends : (n : ℕ) (v : Version) (arcs : List ArcEnds) → None ≡ first_fault n v arcs → v ≡ One → HasDistinctEnds (record { n = n; arcs = arcs })
has_distinct_ends n v arcs e one = distinct n arcs (ap (λ (w : Version). first_fault n w arcs) (sym one) ∙ sym e)
