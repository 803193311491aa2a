-- A tree that grows by an arc from a party that it enters to one that it doesn't.
use Rattle.std.proofs.Common.{◌≡◌, ◌≢◌, ◌⊎◌, ℕ, zero, suc, ◌+◌, ◌-◌, ◌<◌, ◌≤◌, ◌==◌, Bool, true, false, ◌||◌, List, [], ◌∷◌, length, replicate, set}
use Rattle.std.proofs.Common.{Option, Some, None, is_some, refl, sym, ap, ◌∙◌, subst, inl, inr, arith, eqb-true, length-set, get_or-set_same}
use Rattle.std.proofs.Common.{get_or-set_other}
use Rattle.std.proofs.lemmas.Bool.{eqb-false, both_ways, ne_eqb}
use Rattle.std.proofs.lemmas.List.{length-replicate}
use Rattle.std.specs.List.{range_with_len}
use Rattle.swap_base.proofs.Lists.{list_all-in, in_range, or_neither}
use Rattle.swap_digraph.specs.Value.{Graph}
use Rattle.swap_digraph.specs.Graph.{ends, has_arc, HasEnds}
use Rattle.digraph_check.specs.Reach.{reaches_in_arcs, reaches}
use Rattle.digraph_check.specs.Tree.{tree_arc, is_entered, all_entered, tree_parent, walked_back, IsCrossing, IsTree, IsSearch}
use Rattle.digraph_check.proofs.ListTests.{or_split, same_test}
use Rattle.digraph_check.proofs.Walks.{Along, goes_on, is_there, at_once, snoc, at_most, more, arc_json, arc_number}

-- how many parties have no arc
pub open_count : List (Option ℕ) → ℕ
open_count [] = 0
open_count (None ∷ tree) = suc (open_count tree)
open_count (Some a ∷ tree) = open_count tree

-- some number of steps leads from v back to party 0, at most the number of arcs that were put into
-- the tree
pub record StepsBack (g : Graph) (tree : List (Option ℕ)) (v : ℕ) : Type 0 where
  pub steps : ℕ
  pub few : steps + open_count tree ≤ g.n
  pub ends : walked_back g tree steps v ≡ 0

pub record IsGrown (g : Graph) (tree : List (Option ℕ)) : Type 0 where
  pub entries : length tree ≡ g.n
  pub root : tree_arc tree 0 ≡ None
  pub arc : (v a : ℕ) → tree_arc tree v ≡ Some a → (a < length g.arcs) × ((ends g a).to ≡ v)
  pub back : (v : ℕ) → v < g.n → is_entered tree v ≡ true → StepsBack g tree v

-- The first tree is empty.

none_in : (n v : ℕ) → tree_arc (replicate n None) v ≡ None
none_in zero v = refl
none_in (suc n) zero = refl
none_in (suc n) (suc v) = none_in n v

all_open : (n : ℕ) → open_count (replicate n None) ≡ n
unfolding open_count
all_open zero = refl
all_open (suc n) = ap suc (all_open n)

root_only : (n v : ℕ) → is_entered (replicate n None) v ≡ true → v ≡ 0
root_only n v h = by_cases (or_split (v == 0) (is_some (tree_arc (replicate n None) v)) h)
  where
    by_cases : ((v == 0) ≡ true) ⊎ (is_some (tree_arc (replicate n None) v) ≡ true) → v ≡ 0
    by_cases (inl e) = eqb-true v 0 e
    by_cases (inr e) = absurd (both_ways (is_some (tree_arc (replicate n None) v)) (ap is_some (none_in n v)) e)

steps_none : (g : Graph) (tree : List (Option ℕ)) (v : ℕ) → v ≡ 0 → walked_back g tree 0 v ≡ 0
unfolding walked_back
steps_none g tree v e = e

pub grown_first : (g : Graph) (tree : List (Option ℕ)) → tree ≡ replicate g.n None → IsGrown g tree
grown_first g tree is = subst (λ (t : List (Option ℕ)). IsGrown g t) (sym is) (record {
  entries = length-replicate g.n None;
  root = none_in g.n 0;
  arc = λ v a e. absurd (let k : None ≡ Some a = sym (none_in g.n v) ∙ e in cc k);
  back =
      λ v lt h. record {
        steps = 0;
        few = (let c : open_count (replicate g.n None) ≡ g.n = all_open g.n in omega arith);
        ends =
            steps_none g (replicate g.n None) v (root_only g.n v h);
      };
})

-- One more arc.

pub not_entered : (tree : List (Option ℕ)) (v : ℕ) → is_entered tree v ≡ false → (v ≢ 0) × (tree_arc tree v ≡ None)
not_entered tree v h =
    let t = or_neither (v == 0) (is_some (tree_arc tree v)) h in
    (eqb-false v 0 t.0, no_entry (tree_arc tree v) t.1)
  where
    no_entry : (o : Option ℕ) → is_some o ≡ false → o ≡ None
    no_entry None e = refl
    no_entry (Some a) e = absurd (cc e)

open_set : (tree : List (Option ℕ)) (w a : ℕ) → w < length tree → tree_arc tree w ≡ None → suc (open_count (set tree w (Some a))) ≡ open_count tree
unfolding open_count
open_set [] w a lt e = absurd (omega arith)
open_set (None ∷ tree) zero a lt e = refl
open_set (Some b ∷ tree) zero a lt e = absurd (cc e)
open_set (None ∷ tree) (suc w) a lt e = ap suc (open_set tree w a (omega arith) e)
open_set (Some b ∷ tree) (suc w) a lt e = open_set tree w a (omega arith) e

-- a walk back stands still where there is no arc
stuck : (g : Graph) (tree : List (Option ℕ)) (k w : ℕ) → tree_arc tree w ≡ None → walked_back g tree k w ≡ w
unfolding walked_back
stuck g tree zero w e = refl
stuck g tree (suc k) w e = ap (λ (o : Option ℕ). walked_back g tree k (tree_parent g w o)) e ∙ stuck g tree k w e

-- an arc at a party that no walk to 0 passes leaves those walks as they were
kept_at : (g : Graph) (tree : List (Option ℕ)) (k w a v : ℕ) (b : Bool) → (v == w) ≡ b → w ≢ 0 → tree_arc tree w ≡ None → walked_back g tree (suc k) v ≡ 0
    → ((u : ℕ) → walked_back g tree k u ≡ 0 → walked_back g (set tree w (Some a)) k u ≡ 0) → walked_back g (set tree w (Some a)) (suc k) v ≡ 0
unfolding walked_back
kept_at g tree k w a v true e apart none h rest =
    let same : v ≡ w = eqb-true v w e in
    absurd (apart (sym (stuck g tree (suc k) w none) ∙ subst (λ (u : ℕ). walked_back g tree (suc k) u ≡ 0) same h))
kept_at g tree k w a v false e apart none h rest =
    ap (λ (o : Option ℕ). walked_back g (set tree w (Some a)) k (tree_parent g v o)) (get_or-set_other tree w v (Some a) None (eqb-false v w e))
    ∙ rest (tree_parent g v (tree_arc tree v)) h

kept : (g : Graph) (tree : List (Option ℕ)) (k w a v : ℕ) → w ≢ 0 → tree_arc tree w ≡ None → walked_back g tree k v ≡ 0
    → walked_back g (set tree w (Some a)) k v ≡ 0
unfolding walked_back
kept g tree zero w a v apart none h = h
kept g tree (suc k) w a v apart none h = kept_at g tree k w a v (v == w) refl apart none h (λ u r. kept g tree k w a u apart none r)

step_back : (g : Graph) (tree : List (Option ℕ)) (k a v : ℕ) → tree_arc tree v ≡ Some a → walked_back g tree k (ends g a).from ≡ 0
    → walked_back g tree (suc k) v ≡ 0
unfolding walked_back
step_back g tree k a v e h = ap (λ (o : Option ℕ). walked_back g tree k (tree_parent g v o)) e ∙ h

some_is : (a b : ℕ) → Some a ≡ Some b → a ≡ b
some_is a b e = cc e

arc_kept : (g : Graph) (tree : List (Option ℕ)) (w a : ℕ) → IsGrown g tree → w < length tree → a < length g.arcs → (ends g a).to ≡ w
    → (v b : ℕ) (t : Bool) → (v == w) ≡ t → tree_arc (set tree w (Some a)) v ≡ Some b → (b < length g.arcs) × ((ends g b).to ≡ v)
arc_kept g tree w a grown within lt to v b true e h =
    let same : v ≡ w = eqb-true v w e in
    let is : a ≡ b = some_is a b (sym (get_or-set_same tree w (Some a) None within) ∙ subst (λ (u : ℕ). tree_arc (set tree w (Some a)) u ≡ Some b) same h) in
    (omega arith, subst (λ (c : ℕ). (ends g c).to ≡ v) is (to ∙ sym same))
arc_kept g tree w a grown within lt to v b false e h = grown.arc v b (sym (get_or-set_other tree w v (Some a) None (eqb-false v w e)) ∙ h)

back_kept : (g : Graph) (tree : List (Option ℕ)) (w a : ℕ) → IsGrown g tree → HasEnds g → w < length tree → a < length g.arcs → w ≢ 0
    → tree_arc tree w ≡ None → is_entered tree (ends g a).from ≡ true
    → (v : ℕ) (t : Bool) → (v == w) ≡ t → v < g.n → is_entered (set tree w (Some a)) v ≡ true → StepsBack g (set tree w (Some a)) v
back_kept g tree w a grown has within lt apart none from v true e below h =
    let same : v ≡ w = eqb-true v w e in
    let r = grown.back (ends g a).from (has.from a lt) from in
    let few : r.steps + open_count tree ≤ g.n = r.few in
    let c : suc (open_count (set tree w (Some a))) ≡ open_count tree = open_set tree w a within none in
    record {
      steps = suc r.steps;
      few = omega arith;
      ends =
          step_back g (set tree w (Some a)) r.steps a v (ap (tree_arc (set tree w (Some a))) same
          ∙ get_or-set_same tree w (Some a) None within) (kept g tree r.steps w a (ends g a).from apart none r.ends);
    }
back_kept g tree w a grown has within lt apart none from v false e below h =
    let r = grown.back v below (ap (λ (o : Option ℕ). (v == 0) || is_some o) (sym (get_or-set_other tree w v (Some a) None (eqb-false v w e))) ∙ h) in
    let few : r.steps + open_count tree ≤ g.n = r.few in
    let c : suc (open_count (set tree w (Some a))) ≡ open_count tree = open_set tree w a within none in
    record { steps = r.steps; few = omega arith; ends = kept g tree r.steps w a v apart none r.ends }

pub grown_more : (g : Graph) (tree new : List (Option ℕ)) (a : ℕ) → HasEnds g → IsGrown g tree → a < length g.arcs → IsCrossing g.arcs tree a
    → new ≡ set tree (ends g a).to (Some a) → IsGrown g new
grown_more g tree new a has grown lt crossing is =
    let t = not_entered tree (ends g a).to crossing.1 in
    let size : length tree ≡ g.n = grown.entries in
    let to : (ends g a).to < g.n = has.to a lt in
    let within : (ends g a).to < length tree = omega arith in
    subst (λ (s : List (Option ℕ)). IsGrown g s) (sym is) (record {
      entries = length-set tree (ends g a).to (Some a) ∙ size;
      root = get_or-set_other tree (ends g a).to 0 (Some a) None (λ e. t.0 (sym e)) ∙ grown.root;
      arc = λ v b h. arc_kept g tree (ends g a).to a grown within lt refl v b (v == (ends g a).to) refl h;
      back = λ v below h. back_kept g tree (ends g a).to a grown has within lt t.0 t.1 crossing.0 v (v == (ends g a).to) refl below h;
    })

pub grown_smaller : (g : Graph) (tree new : List (Option ℕ)) (a : ℕ) → HasEnds g → IsGrown g tree → a < length g.arcs → IsCrossing g.arcs tree a
    → new ≡ set tree (ends g a).to (Some a) → open_count new < open_count tree
grown_smaller g tree new a has grown lt crossing is =
    let t = not_entered tree (ends g a).to crossing.1 in
    let size : length tree ≡ g.n = grown.entries in
    let to : (ends g a).to < g.n = has.to a lt in
    let c : suc (open_count (set tree (ends g a).to (Some a))) ≡ open_count tree = open_set tree (ends g a).to a (omega arith) t.1 in
    let e : open_count new ≡ open_count (set tree (ends g a).to (Some a)) = ap open_count is in
    omega arith

-- The last tree enters what party 0 reaches.

by_entry : (g : Graph) (tree : List (Option ℕ)) (k v : ℕ) → HasEnds g → IsGrown g tree → v < g.n → (o : Option ℕ) → tree_arc tree v ≡ o
    → walked_back g tree k (tree_parent g v o) ≡ 0 → ((u : ℕ) → u < g.n → walked_back g tree k u ≡ 0 → reaches_in_arcs g k 0 u ≡ true)
    → reaches_in_arcs g (suc k) 0 v ≡ true
by_entry g tree k v has grown lt None e h rest = more g k 0 v (rest v lt h)
by_entry g tree k v has grown lt (Some a) e h rest =
    let t = grown.arc v a e in
    snoc g k 0 (ends g a).from v lt (subst (λ (w : ℕ). has_arc g (ends g a).from w
    ≡ true) t.1 (arc_json g.arcs a t.0)) (rest (ends g a).from (has.from a t.0) h)

walk_of_steps : (g : Graph) (tree : List (Option ℕ)) (k v : ℕ) → HasEnds g → IsGrown g tree → v < g.n → walked_back g tree k v ≡ 0 → reaches_in_arcs g k 0 v ≡ true
unfolding walked_back
walk_of_steps g tree zero v has grown lt h = is_there g 0 0 v (sym h)
walk_of_steps g tree (suc k) v has grown lt h = by_entry g tree k v has grown lt (tree_arc tree v) refl h (λ u l r. walk_of_steps g tree k u has grown l r)

enters_next : (g : Graph) (tree : List (Option ℕ)) (u w : ℕ) → ((a : ℕ) → a < length g.arcs → IsCrossing g.arcs tree a → ⊥) → has_arc g u w ≡ true
    → is_entered tree u ≡ true → (b : Bool) → is_entered tree w ≡ b → b ≡ true
enters_next g tree u w none arc h true e = refl
enters_next g tree u w none arc h false e =
    let r = arc_number g.arcs u w arc in
    absurd (none r.number r.stands (ap (is_entered tree) r.from ∙ h, ap (is_entered tree) r.to ∙ e))

enters_on : (g : Graph) (tree : List (Option ℕ)) (k u v : ℕ) → ((a : ℕ) → a < length g.arcs → IsCrossing g.arcs tree a → ⊥) → is_entered tree u ≡ true
    → (u ≡ v) ⊎ Along g k u v → ((w : ℕ) → is_entered tree w ≡ true → reaches_in_arcs g k w v ≡ true → is_entered tree v ≡ true) → is_entered tree v ≡ true
enters_on g tree k u v none h (inl e) rest = subst (λ (w : ℕ). is_entered tree w ≡ true) e h
enters_on g tree k u v none h (inr a) rest = rest a.next (enters_next g tree u a.next none a.arc h (is_entered tree a.next) refl) a.rest

enters : (g : Graph) (tree : List (Option ℕ)) (k u v : ℕ) → ((a : ℕ) → a < length g.arcs → IsCrossing g.arcs tree a → ⊥) → is_entered tree u ≡ true
    → reaches_in_arcs g k u v ≡ true → is_entered tree v ≡ true
enters g tree zero u v none h r = subst (λ (w : ℕ). is_entered tree w ≡ true) (at_once g u v r) h
enters g tree (suc k) u v none h r = enters_on g tree k u v none h (goes_on g k u v r) (λ w i s. enters g tree k w v none i s)

still_back : (g : Graph) (tree : List (Option ℕ)) (k v : ℕ) → tree_arc tree 0 ≡ None → walked_back g tree k v ≡ 0 → walked_back g tree (suc k) v ≡ 0
unfolding walked_back
still_back g tree zero v root h = ap (λ (u : ℕ). tree_parent g u (tree_arc tree u)) h ∙ ap (tree_parent g 0) root
still_back g tree (suc k) v root h = still_back g tree k (tree_parent g v (tree_arc tree v)) root h

back_by : (g : Graph) (tree : List (Option ℕ)) (j k n v : ℕ) → j + k ≡ n → tree_arc tree 0 ≡ None → walked_back g tree k v ≡ 0 → walked_back g tree n v ≡ 0
back_by g tree zero k n v e root h = let same : k ≡ n = omega arith in subst (λ (m : ℕ). walked_back g tree m v ≡ 0) same h
back_by g tree (suc j) k n v e root h = back_by g tree j (suc k) n v (omega arith) root (still_back g tree k v root h)

entered_arc : (g : Graph) (tree : List (Option ℕ)) (v : ℕ) → IsGrown g tree → v ≢ 0 → (o : Option ℕ) → tree_arc tree v ≡ o → is_entered tree v ≡ true
    → (a : ℕ) × (tree_arc tree v ≡ Some a) × (a < length g.arcs) × ((ends g a).to ≡ v)
entered_arc g tree v grown apart (Some a) e h = let t = grown.arc v a e in (a, e, t.0, t.1)
entered_arc g tree v grown apart None e h = absurd (both_ways ((v == 0) || is_some (tree_arc tree v)) (rw (e, ne_eqb v 0 apart) refl) h)

spans : (g : Graph) (tree : List (Option ℕ)) → IsGrown g tree → all_entered tree ≡ true → IsTree g tree
spans g tree grown all =
    let size : length tree ≡ g.n = grown.entries in
    let each : (v : ℕ) → v < g.n → is_entered tree v ≡ true =
    λ v lt. list_all-in (λ w. is_entered tree w) (range_with_len 0 (length tree)) v all (in_range v (length tree) (omega arith)) in
    record {
      entries = grown.entries;
      root = grown.root;
      entered = λ v lt apart. entered_arc g tree v grown apart (tree_arc tree v) refl (each v lt);
      back = λ v lt. by_steps v (grown.back v lt (each v lt));
    }
  where
    by_steps : (v : ℕ) → StepsBack g tree v → walked_back g tree g.n v ≡ 0
    by_steps v r =
        let few : r.steps + open_count tree ≤ g.n = r.few in
        back_by g tree (g.n - r.steps) r.steps g.n v (omega arith) grown.root r.ends

pub searched : (g : Graph) (tree : List (Option ℕ)) → HasEnds g → IsGrown g tree → ((a : ℕ) → a < length g.arcs → IsCrossing g.arcs tree a → ⊥)
    → IsSearch g tree
unfolding reaches
searched g tree has grown none = record {
  entries = grown.entries;
  reached = λ v lt. same_test (is_entered tree v) (reaches_in_arcs g g.n 0 v) (λ h. by_steps v lt (grown.back v lt h)) (λ h. enters g tree g.n 0 v none refl h);
  spanning = λ all. spans g tree grown all;
}
  where
    by_steps : (v : ℕ) → v < g.n → StepsBack g tree v → reaches_in_arcs g g.n 0 v ≡ true
    by_steps v lt r =
        let few : r.steps + open_count tree ≤ g.n = r.few in
        at_most g r.steps g.n 0 v (omega arith) (walk_of_steps g tree r.steps v has grown lt r.ends)
