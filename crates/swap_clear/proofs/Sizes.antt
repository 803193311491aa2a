-- What the code asks of a group before it is made.
use Rattle.std.proofs.Common.{◌≡◌, ℕ, zero, suc, ◌+◌, ◌-◌, get_or, ◌<◌, ◌≤◌, ◌==◌, true, false, not, ◌&&◌, List, [], ◌∷◌, length, Option, Some, None}
use Rattle.std.proofs.Common.{Result, Ok, refl, sym, ap, ◌∙◌}
use Rattle.std.proofs.Common.{subst, arith, ne_eqb, unwrap_or}
use Rattle.swap_base.specs.Lists.{IsElement}
use Rattle.swap_base.specs.Fault.{◌>>=◌, Fails, steps}
use Rattle.swap_base.specs.declared.fault.Fault.{Fault}
use Rattle.swap_base.specs.declared.fault.Fault.TheVariants.{Refused, NoMemory}
use Rattle.swap_base.proofs.Lists.{from_filter, from_range, length-range, range-next, range-none}
use Rattle.std.specs.List.{range_with_len}
use Rattle.swap_digraph.specs.Value.{Graph}
use Rattle.swap_digraph.specs.Graph.{parties, arcs, first_is, HasEnds}
use Rattle.swap_digraph.proofs.Paths.{is_listed-true, path_below}
use Rattle.leader_check.specs.Cycles.{traced_cycle}
use Rattle.leader_check.proofs.Walks.{through}
use Rattle.swap_clear.specs.declared.answer.Group.{Group}
use Rattle.swap_clear.specs.declared.fault.ClearReason.{ClearReason}
use Rattle.swap_clear.specs.Groups.{strong_component, inner_arcs, own_graph}
use Rattle.swap_clear.specs.Leaders.{order, other_leaders, choose_leaders, party_cycle}
use Rattle.swap_clear.specs.Clearing.{make_group, some_group, next_group, with_group, add_group}
use Rattle.swap_clear.proofs.Gathered.{arcs_with, own_with}
use Rattle.swap_clear.proofs.Together.{is_with, is_inside, in_group, with_itself}
use Rattle.swap_clear.proofs.Places.{own_has_ends, own_reaches, arcs_length}
use Rattle.swap_clear.proofs.Remaining.{filter_short, remaining_short}
use Rattle.swap_clear.proofs.Leading.{some_lead}

pub set_few : (g : Graph) (v : ℕ) (set : List ℕ) → set ≡ strong_component g v → length set ≤ g.n
set_few g v set e = let f = filter_short (is_with g v) (parties g) in let l = length-range 0 g.n in let s = ap length e in omega (arith, f, l, s)

pub arcs_few : (g : Graph) (set numbers : List ℕ) → numbers ≡ inner_arcs g set → length numbers ≤ length g.arcs
arcs_few g set numbers e =
    let f = filter_short (is_inside g set) (arcs g) in let l = length-range 0 (length g.arcs) in let s = ap length e in omega (arith, f, l, s)

pub parse_arcs : (g : Graph) (set numbers : List ℕ) → numbers ≡ inner_arcs g set → (a : ℕ) → IsElement a numbers → a < length g.arcs
parse_arcs g set numbers e a i = from_range a (length g.arcs) (from_filter (is_inside g set) a (arcs g) (subst (λ (xs : List ℕ). IsElement a xs) e i)).0

pub set_some : (g : Graph) (v : ℕ) (set : List ℕ) → set ≡ strong_component g v → v < g.n → 1 ≤ length set
set_some g v set e lt = go set (subst (λ (xs : List ℕ). IsElement v xs) (sym e) (is_listed-true v (strong_component g v) (in_group g v v lt (with_itself g v))))
  where
    go : (xs : List ℕ) → IsElement v xs → 1 ≤ length xs
    go [] i = absurd i
    go (x ∷ xs) i = omega arith

pub own_ends_hold : (g : Graph) → HasEnds g → (v : ℕ) → v < g.n → (set numbers : List ℕ) → set ≡ strong_component g v → numbers ≡ inner_arcs g set
    → HasEnds (own_graph g set numbers)
own_ends_hold g has v lt set numbers e f =
    subst (λ (xs : List ℕ). HasEnds (own_graph g set xs)) (sym f)
    (subst (λ (s : List ℕ). HasEnds (own_graph g s (inner_arcs g s))) (sym e) (own_has_ends g has v lt))

pub own_led : (g : Graph) → HasEnds g → (v : ℕ) → v < g.n → (set numbers : List ℕ) → set ≡ strong_component g v → numbers ≡ inner_arcs g set
    → (length numbers == 0) ≡ false → 1 ≤ length (choose_leaders (own_graph g set numbers))
own_led g has v lt set numbers e f some =
    subst (λ (xs : List ℕ). 1 ≤ length (choose_leaders (own_graph g set xs))) (sym f)
    (subst (λ (s : List ℕ). 1 ≤ length (choose_leaders (own_graph g s (inner_arcs g s)))) (sym e)
    (some_lead (own_with g v) (own_has_ends g has v lt) (own_reaches g has v lt) arcs_there))
  where
    same : numbers ≡ arcs_with g v
    same = f ∙ ap (inner_arcs g) e

    not_zero : (n : ℕ) → (n == 0) ≡ false → length (own_with g v).arcs ≡ n → 0 < length (own_with g v).arcs
    not_zero zero h s = cc h
    not_zero (suc n) h s = omega (arith, s)

    arcs_there : 0 < length (own_with g v).arcs
    arcs_there = let l = arcs_length g has v lt in not_zero (length numbers) some (l ∙ sym (ap length same))

pub leaders_few : (g : Graph) → length (choose_leaders g) ≤ g.n
unfolding choose_leaders
leaders_few g = let r = remaining_short g (order g) (parties g) in let l = length-range 0 g.n in omega (arith, r, l)

pub cycle_in : (g : Graph) (ls : List ℕ) (v x : ℕ) → IsElement x (party_cycle g ls v) → x < g.n
cycle_in g ls v x i = go (traced_cycle g (other_leaders v ls) v) refl i
  where
    go : (o : Option (List ℕ)) → traced_cycle g (other_leaders v ls) v ≡ o → IsElement x (unwrap_or o []) → x < g.n
    go None e j = absurd j
    go (Some c) e j = path_below g c x (through g (other_leaders v ls) v c e).path.0 j

pub begins : (v : ℕ) (xs : List ℕ) → first_is v xs ≡ (not (length xs == 0) && (get_or xs 0 0 == v))
begins v [] = refl
begins v (x ∷ xs) = let e = ne_eqb (length (x ∷ xs)) 0 (λ h. absurd (omega (arith, h))) in rw e refl

-- The next group.

next_action : (g : Graph) (k v : ℕ) (set numbers : List ℕ) → set ≡ strong_component g v → numbers ≡ inner_arcs g set → first_is v set ≡ true
    → (length numbers == 0) ≡ false → next_group g k v ≡ some_group (make_group k set numbers (own_graph g set numbers))
unfolding next_group
next_action g k v set numbers e f first some = rw (← e, ← f, first, some) refl

pub next_none : (g : Graph) (k v : ℕ) (set : List ℕ) → set ≡ strong_component g v → first_is v set ≡ false → next_group g k v ≡ Ok None
unfolding next_group
next_none g k v set e first = rw (← e, first) refl

pub next_empty : (g : Graph) (k v : ℕ) (set numbers : List ℕ) → set ≡ strong_component g v → numbers ≡ inner_arcs g set → first_is v set ≡ true
    → (length numbers == 0) ≡ true → next_group g k v ≡ Ok None
unfolding next_group
next_empty g k v set numbers e f first none = rw (← e, ← f, first, none) refl

pub next_some : (g : Graph) (k v : ℕ) (set numbers : List ℕ) (own : Graph) (group : Group) → set ≡ strong_component g v → numbers ≡ inner_arcs g set
    → own ≡ own_graph g set numbers → first_is v set ≡ true → (length numbers == 0) ≡ false → make_group k set numbers own ≡ Ok group
    → next_group g k v ≡ Ok (Some group)
next_some g k v set numbers own group e f o first some made =
    next_action g k v set numbers e f first some
    ∙ ap (λ (r : Result Group ClearReason). some_group r) (ap (make_group k set numbers) (sym o) ∙ made)

pub next_fails : (fault : Fault ClearReason) (g : Graph) (k v : ℕ) (set numbers : List ℕ) (own : Graph) → set ≡ strong_component g v
    → numbers ≡ inner_arcs g set → own ≡ own_graph g set numbers → first_is v set ≡ true → (length numbers == 0) ≡ false
    → Fails fault (make_group k set numbers own) → Fails fault (next_group g k v)
next_fails NoMemory g k v set numbers own e f o first some made = tt
next_fails (Refused reason) g k v set numbers own e f o first some made =
    next_action g k v set numbers e f first some
    ∙ ap (λ (r : Result Group ClearReason). some_group r) (ap (make_group k set numbers) (sym o) ∙ made)

-- The groups.

pub groups_on : (g : Graph) (before after : List Group) (v n : ℕ) (next : Option Group) (total : Result (List Group) ClearReason) → v < n
    → next_group g (length before) v ≡ Ok next → after ≡ with_group before next
    → steps (add_group g) before (range_with_len v (n - v)) ≡ total → steps (add_group g) after (range_with_len (v + 1) (n - (v + 1))) ≡ total
unfolding steps add_group
groups_on g before after v n next total lt made is so_far =
    ap (λ (xs : List Group). steps (add_group g) xs (range_with_len (v + 1) (n - (v + 1)))) is
    ∙ sym (ap (steps (add_group g) before) (range-next v n lt)
    ∙ ap (λ (r : Result (Option Group) ClearReason). (r >>= λ o. Ok (with_group before o))
    >>= λ t. steps (add_group g) t (range_with_len (v + 1) (n - (v + 1)))) made)
    ∙ so_far

pub groups_fail : (fault : Fault ClearReason) (g : Graph) (before : List Group) (v n : ℕ) (total : Result (List Group) ClearReason) → v < n
    → Fails fault (next_group g (length before) v) → steps (add_group g) before (range_with_len v (n - v)) ≡ total → Fails fault total
unfolding steps add_group
groups_fail NoMemory g before v n total lt made so_far = tt
groups_fail (Refused reason) g before v n total lt made so_far =
    sym so_far ∙ ap (steps (add_group g) before) (range-next v n lt)
    ∙ ap (λ (r : Result (Option Group) ClearReason). (r >>= λ o. Ok (with_group before o))
    >>= λ t. steps (add_group g) t (range_with_len (v + 1) (n - (v + 1)))) made

pub groups_end : (g : Graph) (groups : List Group) (v n : ℕ) (total : Result (List Group) ClearReason) → n ≤ v
    → steps (add_group g) groups (range_with_len v (n - v)) ≡ total → total ≡ Ok groups
unfolding steps
groups_end g groups v n total le so_far = sym so_far ∙ ap (steps (add_group g) groups) (range-none v n le)
