-- What is left out are the arcs that lie on no cycle.
use Rattle.std.proofs.Common.{◌≡◌, ℕ, suc, ◌<◌, Bool, true, false, not, List, [], ◌∷◌, length, filter, map, refl, sym, ap, ◌∙◌, subst, inl, inr}
use Rattle.std.specs.List.Sorted.{IsStrictlyIncreasing}
use Rattle.swap_base.specs.Lists.{IsElement}
use Rattle.swap_base.proofs.Lists.{from_filter, from_range}
use Rattle.swap_digraph.specs.Value.{Graph}
use Rattle.swap_digraph.specs.Graph.{arcs, ends, is_listed, HasEnds}
use Rattle.digraph_check.specs.Reach.{reaches}
use Rattle.digraph_check.proofs.ListTests.{among_where, where_among, where_ascends}
use Rattle.digraph_check.proofs.Paths.{reaches_path, path_reaches, walk_reaches}
use Rattle.digraph_check.proofs.Walks.{snoc, two_walks, arc_json}
use Rattle.swap_clear.specs.declared.answer.LeftOut.{LeftOut}
use Rattle.swap_clear.specs.Groups.{is_cyclic, left_out, all_left_out, reachable_parties}
use Rattle.swap_clear.specs.Cyclic.{Reaches, IsCyclic, IsLeftOut, TellsLeftOut}

pub true_false : (b : Bool) → b ≡ true → b ≡ false → ⊥
true_false true t f = cc f
true_false false t f = cc t

pub not_it : (b : Bool) → not b ≡ true → b ≡ true → ⊥
not_it true n t = cc n
not_it false n t = cc t

-- a test that can't be true is false
pub never : (b : Bool) → (b ≡ true → ⊥) → b ≡ false
never true h = absurd (h refl)
never false h = refl

-- Reaching is by paths.

pub path_there : (g : Graph) (u v : ℕ) → u < g.n → reaches g u v ≡ true → Reaches g u v
path_there g u v lt e = let r = reaches_path g u v lt e in (r.vertices, r.between)

pub there_path : (g : Graph) (u v : ℕ) → Reaches g u v → reaches g u v ≡ true
there_path g u v p = path_reaches g u v p.0 p.1

pub on_to : (g : Graph) (u v w : ℕ) → u < g.n → reaches g u v ≡ true → reaches g v w ≡ true → reaches g u w ≡ true
unfolding reaches
on_to g u v w lt e f = let r = two_walks g g.n g.n u v w e f in walk_reaches g r.most u w lt r.walk

pub arc_on : (g : Graph) (u b : ℕ) → HasEnds g → u < g.n → b < length g.arcs → reaches g u (ends g b).from ≡ true → reaches g u (ends g b).to ≡ true
unfolding reaches
arc_on g u b has lt lb e =
    walk_reaches g (suc g.n) u (ends g b).to lt (snoc g g.n u (ends g b).from (ends g b).to (has.to b lb) (arc_json g.arcs b lb) e)

-- Lists made for each.

pub from_map : {A B : Type 0} (f : A → B) (xs : List A) (y : B) → IsElement y (map f xs) → (x : A) × IsElement x xs × (y ≡ f x)
from_map f [] y i = absurd i
from_map f (x ∷ xs) y (inl e) = (x, inl refl, e)
from_map f (x ∷ xs) y (inr i) = let r = from_map f xs y i in (r.0, inr r.1, r.2)

pub map_back : {A B : Type 0} (f : A → B) (h : B → A) (xs : List A) → ((x : A) → IsElement x xs → h (f x) ≡ x) → map h (map f xs) ≡ xs
map_back f h [] e = refl
map_back {A = A} f h (x ∷ xs) e =
    ap (λ (y : A). y ∷ map h (map f xs)) (e x (inl refl)) ∙ ap (λ (ys : List A). x ∷ ys) (map_back f h xs (λ y i. e y (inr i)))

module _ (g : Graph) (has : HasEnds g) where
  cyclic_so : (a : ℕ) → a < length g.arcs → (not (is_cyclic g a) ≡ true) → IsCyclic g a → ⊥
  cyclic_so a lt e c = not_it (is_cyclic g a) e (there_path g (ends g a).to (ends g a).from c)

  is_left_out : (a : ℕ) → a < length g.arcs → (not (is_cyclic g a) ≡ true) → IsLeftOut g (left_out g a)
  is_left_out a lt e =
      let to = has.to a lt in
      record {
        arc = lt;
        not_cyclic = cyclic_so a lt e;
        ascending = where_ascends (λ w. reaches g (ends g a).to w) g.n;
        parties = λ v i. (where_among (λ w. reaches g (ends g a).to w) g.n v i).0;
        reached = λ v lv. (
          λ i. path_there g (ends g a).to v to (where_among (λ w. reaches g (ends g a).to w) g.n v i).1,
          λ p. among_where (λ w. reaches g (ends g a).to w) g.n v lv (there_path g (ends g a).to v p),
        );
        closed = λ b lb i.
            among_where (λ w. reaches g (ends g a).to w) g.n (ends g b).to (has.to b lb)
            (arc_on g (ends g a).to b has to lb (where_among (λ w. reaches g (ends g a).to w) g.n (ends g b).from i).1);
        lacks =
            never (is_listed (ends g a).from (reachable_parties g (ends g a).to))
            (λ i. not_it (is_cyclic g a) e (where_among (λ w. reaches g (ends g a).to w) g.n (ends g a).from i).1);
      }

  arcs_back : map (λ (l : LeftOut). l.arc) (all_left_out g) ≡ filter (λ a. not (is_cyclic g a)) (arcs g)
  arcs_back = map_back (left_out g) (λ (l : LeftOut). l.arc) (filter (λ a. not (is_cyclic g a)) (arcs g)) (λ x i. refl)

  pub tells_left_out : TellsLeftOut g (all_left_out g)
  tells_left_out = record {
    ascending = subst (λ (xs : List ℕ). IsStrictlyIncreasing xs) (sym arcs_back) (where_ascends (λ a. not (is_cyclic g a)) (length g.arcs));
    each = λ l i.
        let m = from_map (left_out g) (filter (λ a. not (is_cyclic g a)) (arcs g)) l i in
        let f = from_filter (λ a. not (is_cyclic g a)) m.0 (arcs g) m.1 in
        subst (λ (x : LeftOut). IsLeftOut g x) (sym m.2) (is_left_out m.0 (from_range m.0 (length g.arcs) f.0) f.1);
    all = λ a lt none.
        subst (λ (xs : List ℕ). is_listed a xs ≡ true) (sym arcs_back)
        (among_where (λ b. not (is_cyclic g b)) (length g.arcs) a lt
        (ap not (never (is_cyclic g a) (λ e. none (path_there g (ends g a).to (ends g a).from (has.to a lt) e)))));
  }
