-- The groups that a walk over the parties gathers.
use Rattle.std.proofs.Common.{◌≡◌, ℕ, ◌≤◌, ◌==◌, Bool, true, false, not, cond, ◌&&◌, nat_lt, List, [], ◌∷◌, ◌++◌, length, filter, map, Option, Some, None}
use Rattle.std.proofs.Common.{Result, Ok, Err, refl, sym, ap, ◌∙◌, subst, inl, inr, append_assoc, append-nil}
use Rattle.std.proofs.lemmas.Bool.{ltb-false}
use Rattle.swap_base.specs.Lists.{IsElement}
use Rattle.swap_base.specs.Fault.{◌>>=◌, steps}
use Rattle.swap_digraph.specs.Value.{Graph}
use Rattle.swap_digraph.specs.Graph.{parties, first_is}
use Rattle.swap_clear.specs.declared.answer.Group.{Group}
use Rattle.swap_clear.specs.declared.fault.ClearReason.{ClearReason}
use Rattle.swap_clear.specs.declared.fault.ClearReason.TheVariants.{TooManyLeaders}
use Rattle.swap_clear.specs.Groups.{strong_component, inner_arcs, own_graph}
use Rattle.swap_clear.specs.Leaders.{choose_leaders}
use Rattle.swap_clear.specs.Clearing.{led_group, make_group, some_group, next_group, with_group, add_group, cleared_components}

-- the arcs of the group of v, and its own digraph
abbrev pub arcs_with : Graph → ℕ → List ℕ
arcs_with g v = inner_arcs g (strong_component g v)

abbrev pub own_with : Graph → ℕ → Graph
own_with g v = own_graph g (strong_component g v) (arcs_with g v)

abbrev pub the_group : Graph → ℕ → Group
the_group g v = led_group (strong_component g v) (arcs_with g v) (own_with g v) (choose_leaders (own_with g v))

-- v is the least party of a group that has arcs
abbrev pub is_head : Graph → ℕ → Bool
is_head g v = first_is v (strong_component g v) && not (length (arcs_with g v) == 0)

abbrev pub many : Graph → ℕ → Bool
many g v = nat_lt 8 (length (choose_leaders (own_with g v)))

next_by : (g : Graph) (k v : ℕ) (first none : Bool) → first_is v (strong_component g v) ≡ first → (length (arcs_with g v) == 0) ≡ none
    → next_group g k v ≡ cond (first && not none) (some_group (make_group k (strong_component g v) (arcs_with g v) (own_with g v))) (Ok None)
unfolding next_group
next_by g k v false none f e = rw f refl
next_by g k v true true f e = rw (f, e) refl
next_by g k v true false f e = rw (f, e) refl

next_is : (g : Graph) (k v : ℕ)
    → next_group g k v ≡ cond (is_head g v) (some_group (make_group k (strong_component g v) (arcs_with g v) (own_with g v))) (Ok None)
next_is g k v = next_by g k v (first_is v (strong_component g v)) (length (arcs_with g v) == 0) refl refl

few_is : (g : Graph) (k v : ℕ) → many g v ≡ false → make_group k (strong_component g v) (arcs_with g v) (own_with g v) ≡ Ok (the_group g v)
unfolding make_group
few_is g k v e = rw e refl

many_is : (g : Graph) (k v : ℕ) → many g v ≡ true
    → make_group k (strong_component g v) (arcs_with g v) (own_with g v) ≡ Err (TooManyLeaders k (length (choose_leaders (own_with g v))))
unfolding make_group
many_is g k v e = rw e refl

pub record Gathered (g : Graph) (before : List Group) (vs : List ℕ) (groups : List Group) : Type 0 where
  pub list : groups ≡ before ++ map (the_group g) (filter (is_head g) vs)
  pub few : (v : ℕ) → IsElement v vs → is_head g v ≡ true → length (choose_leaders (own_with g v)) ≤ 8

one_more : (g : Graph) (before : List Group) (v : ℕ) (vs : List ℕ) (groups : List Group) (head : Bool) → is_head g v ≡ head
    → (head ≡ true → length (choose_leaders (own_with g v)) ≤ 8)
    → Gathered g (with_group before (cond head (Some (the_group g v)) None)) vs groups → Gathered g before (v ∷ vs) groups
one_more g before v vs groups true e few rest =
    record {
      list =
          rest.list ∙ append_assoc before (the_group g v ∷ []) (map (the_group g) (filter (is_head g) vs))
          ∙ sym (ap (λ (b : Bool). before ++ map (the_group g) (cond b (v ∷ filter (is_head g) vs) (filter (is_head g) vs))) e);
      few = λ w i h. elim i [ inl s ↦ subst (λ (x : ℕ). length (choose_leaders (own_with g x)) ≤ 8) (sym s) (few refl) | inr j ↦ rest.few w j h ];
    }
one_more g before v vs groups false e few rest =
    record {
      list = rest.list ∙ sym (ap (λ (b : Bool). before ++ map (the_group g) (cond b (v ∷ filter (is_head g) vs) (filter (is_head g) vs))) e);
      few = λ w i h. elim i [ inl s ↦ absurd (differ w s h) | inr j ↦ rest.few w j h ];
    }
  where
    differ : (w : ℕ) → w ≡ v → is_head g w ≡ true → ⊥
    differ w s h = let t = sym (ap (is_head g) s) ∙ h in cc (t, e)

add_is : (g : Graph) (before : List Group) (v : ℕ) (next : Result (Option Group) ClearReason) → next_group g (length before) v ≡ next
    → add_group g before v ≡ next >>= λ o. Ok (with_group before o)
unfolding add_group
add_is g before v next e = rw e refl

pub add_none : (g : Graph) (before : List Group) (v : ℕ) → is_head g v ≡ false → add_group g before v ≡ Ok before
add_none g before v h =
    add_is g before v (Ok None) (next_is g (length before) v
    ∙ ap (λ (b : Bool). cond b (some_group (make_group (length before) (strong_component g v) (arcs_with g v) (own_with g v))) (Ok None)) h)

pub add_one : (g : Graph) (before : List Group) (v : ℕ) → is_head g v ≡ true → many g v ≡ false → add_group g before v ≡ Ok (before ++ the_group g v ∷ [])
add_one g before v h m =
    add_is g before v (Ok (Some (the_group g v))) (next_is g (length before) v
    ∙ ap (λ (b : Bool). cond b (some_group (make_group (length before) (strong_component g v) (arcs_with g v) (own_with g v))) (Ok None)) h
    ∙ ap (λ (r : Result Group ClearReason). some_group r) (few_is g (length before) v m))

pub add_many : (g : Graph) (before : List Group) (v : ℕ) → is_head g v ≡ true → many g v ≡ true
    → add_group g before v ≡ Err (TooManyLeaders (length before) (length (choose_leaders (own_with g v))))
add_many g before v h m =
    add_is g before v (Err (TooManyLeaders (length before) (length (choose_leaders (own_with g v))))) (next_is g (length before) v
    ∙ ap (λ (b : Bool). cond b (some_group (make_group (length before) (strong_component g v) (arcs_with g v) (own_with g v))) (Ok None)) h
    ∙ ap (λ (r : Result Group ClearReason). some_group r) (many_is g (length before) v m))

pub gathered : (g : Graph) (vs : List ℕ) (before groups : List Group) → steps (add_group g) before vs ≡ Ok groups → Gathered g before vs groups
unfolding steps
gathered g [] before groups e = record { list = sym (cc e) ∙ sym (append-nil before); few = λ v i h. absurd i }
gathered g (v ∷ vs) before groups e =
    by_tests (is_head g v) (many g v) refl refl (gathered g vs before groups) (gathered g vs (before ++ the_group g v ∷ []) groups)
  where
    onward : (r : Result (List Group) ClearReason) → add_group g before v ≡ r → r >>= (λ t. steps (add_group g) t vs) ≡ Ok groups
    onward r a = ap (λ (x : Result (List Group) ClearReason). x >>= λ t. steps (add_group g) t vs) (sym a) ∙ e

    by_tests : (head lots : Bool) → is_head g v ≡ head → many g v ≡ lots
        → (steps (add_group g) before vs ≡ Ok groups → Gathered g before vs groups)
        → (steps (add_group g) (before ++ the_group g v ∷ []) vs ≡ Ok groups → Gathered g (before ++ the_group g v ∷ []) vs groups)
        → Gathered g before (v ∷ vs) groups
    by_tests false lots h m rest more =
        one_more g before v vs groups false h (λ t. absurd (cc t)) (rest (onward (Ok before) (add_none g before v h)))
    by_tests true false h m rest more =
        one_more g before v vs groups true h (λ t. ltb-false 8 (length (choose_leaders (own_with g v))) m)
        (more (onward (Ok (before ++ the_group g v ∷ [])) (add_one g before v h m)))
    by_tests true true h m rest more =
        absurd (cc (onward (Err (TooManyLeaders (length before) (length (choose_leaders (own_with g v))))) (add_many g before v h m)))

pub groups_gathered : (g : Graph) (groups : List Group) → cleared_components g ≡ Ok groups → Gathered g [] (parties g) groups
unfolding cleared_components
groups_gathered g groups e = gathered g (parties g) [] groups e
