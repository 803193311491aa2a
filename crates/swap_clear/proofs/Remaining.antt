-- The leaders that remain.
use Rattle.std.proofs.Common.{◌≡◌, ◌⊎◌, ℕ, zero, suc, ◌+◌, ◌<◌, ◌≤◌, ◌==◌, Bool, true, false, not, cond, List, [], ◌∷◌, ◌++◌, length}
use Rattle.std.proofs.Common.{filter, flat_map, Option, Some, None, is_some, refl, sym, ap, ◌∙◌, subst, inl, inr, arith, eqb-true, eq-eqb}
use Rattle.std.proofs.lemmas.List.Kept.{IsStrictlyIncreasing-filter}
use Rattle.std.specs.List.{range_with_len}
use Rattle.std.specs.List.Sorted.{IsStrictlyIncreasing}
use Rattle.swap_base.specs.Lists.{IsElement}
use Rattle.swap_base.proofs.Lists.{and_parts, from_filter, in_filter, from_range, from_range_from, in_range, in_flat_map, from_append, list_all-in}
use Rattle.swap_base.proofs.Lists.{list_all-from}
use Rattle.swap_base.proofs.Lists.{none_of, not-mono, length-range}
use Rattle.swap_digraph.specs.Value.{Graph}
use Rattle.swap_digraph.specs.Graph.{parties, arcs, ends, has_arc, is_listed, are_followers, HasEnds, IsFeedback}
use Rattle.swap_digraph.proofs.Paths.{is_listed-true, in-is_listed, path_below}
use Rattle.leader_check.specs.Cycles.{follower_cycle, traced_cycle}
use Rattle.leader_check.proofs.Walks.{none_feedback, feedback_none, none_meets}
use Rattle.swap_clear.specs.Leaders.{touching_count, touched_arcs, order, other_leaders, breaks, tried, remaining}
use Rattle.swap_clear.specs.Led.{IsTriedEarlier, IsInOrder, IsOrder, Remain}
use Rattle.swap_clear.proofs.Cyclic.{true_false, not_it, never}

pub filter_short : (p : ℕ → Bool) (xs : List ℕ) → length (filter p xs) ≤ length xs
filter_short p [] = omega arith
filter_short p (x ∷ xs) = go (p x) (filter_short p xs)
  where
    go : (b : Bool) → length (filter p xs) ≤ length xs → length (cond b (x ∷ filter p xs) (filter p xs)) ≤ length (x ∷ xs)
    go true r = omega (arith, r)
    go false r = omega (arith, r)

-- where nothing passes both of two tests, a list holds at least what passes the one or the other
two_filters : (p q : ℕ → Bool) (xs : List ℕ) → ((x : ℕ) → IsElement x xs → p x ≡ true → q x ≡ true → ⊥) → length (filter p xs) + length (filter q xs) ≤ length xs
two_filters p q [] h = omega arith
two_filters p q (x ∷ xs) h = go (p x) (q x) refl refl (two_filters p q xs (λ y i. h y (inr i)))
  where
    go : (a b : Bool) → p x ≡ a → q x ≡ b → length (filter p xs) + length (filter q xs) ≤ length xs
        → length (cond a (x ∷ filter p xs) (filter p xs)) + length (cond b (x ∷ filter q xs) (filter q xs)) ≤ length (x ∷ xs)
    go true true e f r = absurd (h x (inl refl) e f)
    go true false e f r = omega (arith, r)
    go false true e f r = omega (arith, r)
    go false false e f r = omega (arith, r)

from_flat : (f : ℕ → List ℕ) (xs : List ℕ) (y : ℕ) → IsElement y (flat_map f xs) → (x : ℕ) × IsElement x xs × IsElement y (f x)
from_flat f [] y i = absurd i
from_flat f (x ∷ xs) y i = go (from_append (f x) (flat_map f xs) y i) (from_flat f xs y)
  where
    go : IsElement y (f x) ⊎ IsElement y (flat_map f xs) → (IsElement y (flat_map f xs) → (z : ℕ) × IsElement z xs × IsElement y (f z)) → (z : ℕ) × IsElement z (x ∷ xs) × IsElement y (f z)
    go (inl j) rest = (x, inl refl, j)
    go (inr j) rest = let r = rest j in (r.0, inr r.1, r.2)

module _ (g : Graph) where
  -- The order of trying.

  touched_rises : (k a n : ℕ) → IsInOrder g (filter (λ v. touching_count g v == k) (range_with_len a n))
  touched_rises k a zero = tt
  touched_rises k a (suc n) = go (touching_count g a == k) refl (touched_rises k (a + 1) n)
    where
      rest : List ℕ
      rest = filter (λ v. touching_count g v == k) (range_with_len (a + 1) n)

      go : (b : Bool) → (touching_count g a == k) ≡ b → IsInOrder g (filter (λ v. touching_count g v == k) (range_with_len (a + 1) n))
          → IsInOrder g (cond b (a ∷ filter (λ v. touching_count g v == k) (range_with_len (a + 1) n)) (filter (λ v. touching_count g v == k) (range_with_len (a + 1) n)))
      go false e r = r
      go true e r = (
        λ v i.
            let f = from_filter (λ w. touching_count g w == k) v (range_with_len (a + 1) n) i in
            let m = from_range_from (a + 1) v n f.0 in
            let l = m.0 in
            let above : a < v = omega (arith, l) in
            inr (eqb-true (touching_count g a) k e ∙ sym (eqb-true (touching_count g v) k f.1), above),
        r,
      )

  order_append : (xs ys : List ℕ) → IsInOrder g xs → IsInOrder g ys → ((x y : ℕ) → IsElement x xs → IsElement y ys → IsTriedEarlier g x y) → IsInOrder g (xs ++ ys)
  order_append [] ys a b h = b
  order_append (x ∷ xs) ys a b h = (
    λ v i. elim (from_append xs ys v i) [ inl j ↦ a.0 v j | inr j ↦ h x v (inl refl) j ],
    order_append xs ys a.1 b (λ y z i j. h y z (inr i) j),
  )

  in_order_of : (k m : ℕ) → IsInOrder g (flat_map (touched_arcs g) (range_with_len k m))
  in_order_of k zero = tt
  in_order_of k (suc m) =
      order_append (touched_arcs g k) (flat_map (touched_arcs g) (range_with_len (k + 1) m)) (touched_rises k 0 g.n) (in_order_of (k + 1) m) (λ x y i j.
      let f = from_filter (λ w. touching_count g w == k) x (parties g) i in
      let n = from_flat (touched_arcs g) (range_with_len (k + 1) m) y j in
      let r = from_range_from (k + 1) n.0 m n.1 in
      let h = from_filter (λ w. touching_count g w == n.0) y (parties g) n.2 in
      let mine = eqb-true (touching_count g x) k f.1 in
      let other = eqb-true (touching_count g y) n.0 h.1 in
      let low = r.0 in
      inl (omega (arith, mine, other, low)))

  touching_few : HasEnds g → (v : ℕ) → touching_count g v ≤ length g.arcs
  touching_few has v =
      let t = two_filters (λ a. (ends g a).to == v) (λ a. (ends g a).from == v) (arcs g) (λ a i e f.
      has.apart a (from_range a (length g.arcs) i) (eqb-true (ends g a).from v f ∙ sym (eqb-true (ends g a).to v e))) in
      let l = length-range 0 (length g.arcs) in
      omega (arith, t, l)

  pub is_order : HasEnds g → IsOrder g (order g)
  unfolding order
  is_order has = record {
    parties = λ v. (
      λ i.
          let m = from_flat (touched_arcs g) (range_with_len 0 (length g.arcs + 1)) v (is_listed-true v (order g) i) in
          from_range v g.n (from_filter (λ w. touching_count g w == m.0) v (parties g) m.2).0,
      λ lt.
          let few = touching_few has v in
          in-is_listed v (order g) (in_flat_map (touched_arcs g) (range_with_len 0 (length g.arcs + 1)) (touching_count g v) v
          (in_range (touching_count g v) (length g.arcs + 1) (omega (arith, few)))
          (in_filter (λ w. touching_count g w == touching_count g v) v (parties g) (in_range v g.n lt) (eq-eqb (touching_count g v) (touching_count g v) refl))),
    );
    in_order = in_order_of 0 (length g.arcs + 1);
  }

  -- Feedback.

  pub breaks_feedback : (ls : List ℕ) → breaks g ls ≡ true → IsFeedback g ls
  breaks_feedback ls e = none_feedback g ls (none_of (follower_cycle g ls) (never (is_some (follower_cycle g ls)) (not_it (is_some (follower_cycle g ls)) e)))

  pub feedback_breaks : (ls : List ℕ) → IsFeedback g ls → breaks g ls ≡ true
  feedback_breaks ls f = ap (λ (o : Option (List ℕ)). not (is_some o)) (feedback_none g ls f)

  pub more_lead : (xs ys : List ℕ) → ((x : ℕ) → IsElement x xs → IsElement x ys) → IsFeedback g xs → IsFeedback g ys
  more_lead xs ys within f u v p b o =
      f u v p b (list_all-from (λ x. not (is_listed x xs)) p (λ x i.
      not-mono (is_listed x xs) (is_listed x ys) (λ e. in-is_listed x ys (within x (is_listed-true x xs e))) (list_all-in (λ y. not (is_listed y ys)) p x o i)))

  pub all_lead : IsFeedback g (parties g)
  all_lead u v [] b o = absurd (cc b.0)
  all_lead u v (x ∷ p) b o =
      let k = and_parts (not (is_listed x (parties g))) (are_followers (parties g) p) o in
      absurd (not_it (is_listed x (parties g)) k.0 (in-is_listed x (parties g) (in_range x g.n (path_below g (x ∷ p) x b.0 (inl refl)))))

  -- What remains.

  tried_by : (P : List ℕ → Type 0) (ls : List ℕ) (v : ℕ) → P ls → (breaks g (other_leaders v ls) ≡ true → P (other_leaders v ls)) → P (tried g ls v)
  tried_by P ls v stays goes = go (breaks g (other_leaders v ls)) refl
    where
      go : (b : Bool) → breaks g (other_leaders v ls) ≡ b → P (cond b (other_leaders v ls) ls)
      go true e = goes e
      go false e = stays

  pub remaining_in : (order ls : List ℕ) (x : ℕ) → IsElement x (remaining g ls order) → IsElement x ls
  unfolding remaining
  remaining_in [] ls x i = i
  remaining_in (v ∷ order) ls x i =
      tried_by (λ xs. IsElement x xs → IsElement x ls) ls v (λ j. j) (λ e j. (from_filter (λ w. not (w == v)) x ls j).0) (remaining_in order (tried g ls v) x i)

  pub remaining_rises : (order ls : List ℕ) → IsStrictlyIncreasing ls → IsStrictlyIncreasing (remaining g ls order)
  unfolding remaining
  remaining_rises [] ls up = up
  remaining_rises (v ∷ order) ls up =
      remaining_rises order (tried g ls v)
      (tried_by (λ xs. IsStrictlyIncreasing xs) ls v up (λ e. IsStrictlyIncreasing-filter (λ w. not (w == v)) ls up))

  pub remaining_short : (order ls : List ℕ) → length (remaining g ls order) ≤ length ls
  unfolding remaining
  remaining_short [] ls = omega arith
  remaining_short (v ∷ order) ls =
      let r = remaining_short order (tried g ls v) in
      let t : length (tried g ls v) ≤ length ls =
      tried_by (λ xs. length xs ≤ length ls) ls v (omega arith) (λ e. filter_short (λ w. not (w == v)) ls) in
      omega (arith, r, t)

  pub remaining_feedback : (order ls : List ℕ) → IsFeedback g ls → IsFeedback g (remaining g ls order)
  unfolding remaining
  remaining_feedback [] ls f = f
  remaining_feedback (v ∷ order) ls f =
      remaining_feedback order (tried g ls v) (tried_by (λ xs. IsFeedback g xs) ls v f (breaks_feedback (other_leaders v ls)))

  pub remain_of : (order ls : List ℕ) → Remain g ls order (remaining g ls order)
  unfolding remaining
  remain_of [] ls = refl
  remain_of (v ∷ order) ls = go (breaks g (other_leaders v ls)) refl (remain_of order)
    where
      go : (b : Bool) → breaks g (other_leaders v ls) ≡ b → ((xs : List ℕ) → Remain g xs order (remaining g xs order))
          → (IsFeedback g (other_leaders v ls) × Remain g (other_leaders v ls) order (remaining g (cond b (other_leaders v ls) ls) order))
          ⊎ ((IsFeedback g (other_leaders v ls) → ⊥) × Remain g ls order (remaining g (cond b (other_leaders v ls) ls) order))
      go true e rest = inl (breaks_feedback (other_leaders v ls) e, rest (other_leaders v ls))
      go false e rest = inr (λ f. true_false (breaks g (other_leaders v ls)) (feedback_breaks (other_leaders v ls) f) e, rest ls)

  -- None of those that remain could be dropped.

  gone : (v : ℕ) (ls : List ℕ) → IsElement v (other_leaders v ls) → ⊥
  gone v ls i = not_it (v == v) (from_filter (λ w. not (w == v)) v ls i).1 (eq-eqb v v refl)

  pub needed : (order ls : List ℕ) (v : ℕ) → IsElement v order → IsElement v (remaining g ls order) → IsFeedback g (other_leaders v (remaining g ls order)) → ⊥
  unfolding remaining
  needed [] ls v i r f = i
  needed (x ∷ order) ls v (inr i) r f = needed order (tried g ls x) v i r f
  needed (x ∷ order) ls v (inl s) r f = go (breaks g (other_leaders x ls)) refl (remaining_in order (tried g ls x))
    where
      read_rest : ((y : ℕ) → IsElement y (remaining g (tried g ls x) order) → IsElement y ls) → (y : ℕ)
          → IsElement y (other_leaders v (remaining g (tried g ls x) order)) → IsElement y (other_leaders x ls)
      read_rest within y j =
          let k = from_filter (λ w. not (w == v)) y (remaining g (tried g ls x) order) j in
          subst (λ (z : ℕ). IsElement y (other_leaders z ls)) s (in_filter (λ w. not (w == v)) y ls (within y k.0) k.1)

      go : (b : Bool) → breaks g (other_leaders x ls) ≡ b
          → ((y : ℕ) → IsElement y (remaining g (tried g ls x) order) → IsElement y (cond (breaks g (other_leaders x ls)) (other_leaders x ls) ls)) → ⊥
      go true e within =
          gone x ls (subst (λ (z : ℕ). IsElement z (other_leaders x ls)) s (subst (λ (b : Bool). IsElement v (cond b (other_leaders x ls) ls)) e (within v r)))
      go false e within =
          true_false (breaks g (other_leaders x ls)) (feedback_breaks (other_leaders x ls) (more_lead (other_leaders v (remaining g (tried g ls x) order)) (other_leaders x ls)
          (read_rest (λ y j. subst (λ (b : Bool). IsElement y (cond b (other_leaders x ls) ls)) e (within y j))) f)) e

  -- A leader that is needed has a cycle.

  fewer : (v : ℕ) (ls p : List ℕ) → are_followers (other_leaders v ls) p ≡ true → (IsElement v p → ⊥) → are_followers ls p ≡ true
  fewer v ls p o out =
      list_all-from (λ x. not (is_listed x ls)) p (λ x i.
      ap not (never (is_listed x ls) (λ e.
      not_it (is_listed x (other_leaders v ls)) (list_all-in (λ y. not (is_listed y (other_leaders v ls))) p x o i)
      (in-is_listed x (other_leaders v ls) (in_filter (λ w. not (w == v)) x ls (is_listed-true x ls e)
      (ap not (never (x == v) (λ s. out (subst (λ (z : ℕ). IsElement z p) (eqb-true x v s) i)))))))))

  pub has_cycle : (v : ℕ) (ls : List ℕ) → IsFeedback g ls → (IsFeedback g (other_leaders v ls) → ⊥) → (c : List ℕ) × (traced_cycle g (other_leaders v ls) v ≡ Some c)
  has_cycle v ls f need = go (traced_cycle g (other_leaders v ls) v) refl
    where
      go : (o : Option (List ℕ)) → traced_cycle g (other_leaders v ls) v ≡ o → (c : List ℕ) × (traced_cycle g (other_leaders v ls) v ≡ Some c)
      go (Some c) e = (c, e)
      go None e =
          absurd (need (λ u w p b o. never (has_arc g w u) (λ a.
          true_false (has_arc g w u) a (f u w p b (fewer v ls p o (λ i. none_meets g (other_leaders v ls) v u w p e b o a i))))))
