-- A walk is shortened to a path of distinct parties, which is no longer than there are parties.
use Rattle.std.proofs.Common.{◌≡◌, ◌⊎◌, ℕ, zero, suc, ◌<◌, ◌≤◌, ◌==◌, nat_lt, Bool, true, false, not, ◌&&◌, List, [], ◌∷◌, length, refl, sym}
use Rattle.std.proofs.Common.{ap, subst, inl, inr, arith, eqb-true, eq-eqb, ltb-true}
use Rattle.std.proofs.lemmas.Bool.{lt-ltb}
use Rattle.swap_base.proofs.Lists.{and_parts, and_both}
use Rattle.swap_digraph.specs.Value.{Graph}
use Rattle.swap_digraph.specs.Graph.{has_arc, is_path, first_is, last_is, is_listed, IsConnectingPath}
use Rattle.swap_digraph.proofs.Paths.{path_length}
use Rattle.digraph_check.specs.Reach.{reaches_in_arcs, reaches}
use Rattle.digraph_check.proofs.ListTests.{or_split}
use Rattle.digraph_check.proofs.Walks.{Along, goes_on, is_there, at_once, along, at_most}

pub record PathBetween (g : Graph) (u v : ℕ) : Type 0 where
  pub vertices : List ℕ
  pub between : IsConnectingPath g u v vertices

-- From a walk to a path.

-- the part of a path from u on
suffix_head : (g : Graph) (u v x y : ℕ) (p : List ℕ) → is_path g (x ∷ y ∷ p) ≡ true → last_is v (y ∷ p) ≡ true
    → ((x == u) ≡ true) ⊎ (is_listed u (y ∷ p) ≡ true) → (is_listed u (y ∷ p) ≡ true → PathBetween g u v) → PathBetween g u v
suffix_head g u v x y p path last (inl e) rest = record { vertices = x ∷ y ∷ p; between = (path, e, last) }
suffix_head g u v x y p path last (inr e) rest = rest e

suffix : (g : Graph) (u v : ℕ) (p : List ℕ) → is_path g p ≡ true → last_is v p ≡ true → is_listed u p ≡ true → PathBetween g u v
suffix g u v [] path last among = absurd (cc path)
suffix g u v (x ∷ []) path last among = record { vertices = x ∷ []; between = (path, only (or_split (x == u) false among), last) }
  where
    only : ((x == u) ≡ true) ⊎ (false ≡ true) → (x == u) ≡ true
    only (inl e) = e
    only (inr e) = absurd (cc e)
suffix g u v (x ∷ y ∷ p) path last among =
    suffix_head g u v x y p path last (or_split (x == u) (is_listed u (y ∷ p)) among)
    (suffix g u v (y ∷ p) (and_parts (nat_lt x g.n && not (is_listed x (y ∷ p)) && has_arc g x y) (is_path g (y ∷ p)) path).1 last)

put_first : (g : Graph) (u w v : ℕ) (p : List ℕ) (b : Bool) → u < g.n → has_arc g u w ≡ true → is_path g p ≡ true → first_is w p ≡ true
    → last_is v p ≡ true → is_listed u p ≡ b → PathBetween g u v
put_first g u w v [] b lt arc path first last e = absurd (cc path)
put_first g u w v (x ∷ p) true lt arc path first last e = suffix g u v (x ∷ p) path last e
put_first g u w v (x ∷ p) false lt arc path first last e =
    record {
      vertices = u ∷ x ∷ p;
      between = (
        and_both (nat_lt u g.n && not (is_listed u (x ∷ p)) && has_arc g u x) (is_path g (x ∷ p))
            (and_both (nat_lt u g.n && not (is_listed u (x ∷ p))) (has_arc g u x)
            (and_both (nat_lt u g.n) (not (is_listed u (x ∷ p))) (lt-ltb u g.n lt) (ap not e))
            (subst (λ (y : ℕ). has_arc g u y ≡ true) (sym (eqb-true x w first)) arc)) path,
        eq-eqb u u refl,
        last,
      );
    }

path_here : (g : Graph) (u v : ℕ) → u < g.n → u ≡ v → PathBetween g u v
path_here g u v lt e = record { vertices = u ∷ []; between = (lt-ltb u g.n lt, eq-eqb u u refl, eq-eqb u v e) }

path_on : (g : Graph) (k u v : ℕ) → u < g.n → (u ≡ v) ⊎ Along g k u v → ((w : ℕ) → w < g.n → reaches_in_arcs g k w v ≡ true → PathBetween g w v) → PathBetween g u v
path_on g k u v lt (inl e) rest = path_here g u v lt e
path_on g k u v lt (inr a) rest =
    let r = rest a.next a.party a.rest in
    put_first g u a.next v r.vertices (is_listed u r.vertices) lt a.arc r.between.0 r.between.1 r.between.2 refl

pub make_path : (g : Graph) (k u v : ℕ) → u < g.n → reaches_in_arcs g k u v ≡ true → PathBetween g u v
make_path g zero u v lt h = path_here g u v lt (at_once g u v h)
make_path g (suc k) u v lt h = path_on g k u v lt (goes_on g k u v h) (λ w l r. make_path g k w v l r)

-- From a path to a walk.

head_below : (g : Graph) (w : ℕ) (p : List ℕ) → is_path g (w ∷ p) ≡ true → w < g.n
head_below g w [] h = ltb-true w g.n h
head_below g w (x ∷ p) h =
    let a = and_parts (nat_lt w g.n && not (is_listed w (x ∷ p)) && has_arc g w x) (is_path g (x ∷ p)) h in
    let b = and_parts (nat_lt w g.n && not (is_listed w (x ∷ p))) (has_arc g w x) a.0 in
    ltb-true w g.n (and_parts (nat_lt w g.n) (not (is_listed w (x ∷ p))) b.0).0

along_path : (g : Graph) (u v : ℕ) (p : List ℕ) → is_path g (u ∷ p) ≡ true → last_is v (u ∷ p) ≡ true → reaches_in_arcs g (length p) u v ≡ true
along_path g u v [] path last = is_there g 0 u v (eqb-true u v last)
along_path g u v (w ∷ p) path last =
    let a = and_parts (nat_lt u g.n && not (is_listed u (w ∷ p)) && has_arc g u w) (is_path g (w ∷ p)) path in
    along g (length p) u w v (head_below g w p a.1) (and_parts (nat_lt u g.n && not (is_listed u (w ∷ p))) (has_arc g u w) a.0).1 (along_path g w v p a.1 last)

-- The law.

path_walk : (g : Graph) (u v : ℕ) (p : List ℕ) → is_path g p ≡ true → first_is u p ≡ true → last_is v p ≡ true → reaches_in_arcs g g.n u v ≡ true
path_walk g u v [] path first last = absurd (cc path)
path_walk g u v (x ∷ p) path first last =
    let le : length (x ∷ p) ≤ g.n = path_length g (x ∷ p) path in
    subst (λ (y : ℕ). reaches_in_arcs g g.n y v ≡ true) (eqb-true x u first) (at_most g (length p) g.n x v (omega arith) (along_path g x v p path last))

pub path_reaches : (g : Graph) (u v : ℕ) (p : List ℕ) → IsConnectingPath g u v p → reaches g u v ≡ true
unfolding reaches
path_reaches g u v p h = path_walk g u v p h.0 h.1 h.2

pub reaches_path : (g : Graph) (u v : ℕ) → u < g.n → reaches g u v ≡ true → PathBetween g u v
unfolding reaches
reaches_path g u v lt h = make_path g g.n u v lt h

-- a walk of any length will do
pub walk_reaches : (g : Graph) (k u v : ℕ) → u < g.n → reaches_in_arcs g k u v ≡ true → reaches g u v ≡ true
walk_reaches g k u v lt h = let r = make_path g k u v lt h in path_reaches g u v r.vertices r.between
