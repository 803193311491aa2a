-- What one pass over the arcs makes of a row, where each arc changes the place of one of its ends.
use Rattle.std.proofs.Common.{◌≡◌, ◌≢◌, ℕ, ◌+◌, ◌*◌, ◌%◌, ◌^◌, ◌<◌, ◌≤◌, ◌==◌, max, Bool, true, false, cond, ◌&&◌, ◌||◌, List, length, get_or, set}
use Rattle.std.proofs.Common.{drop, refl, sym, ap, ◌∙◌, arith, eqb-true, eq-eqb}
use Rattle.std.specs.Int.{bit_at, w32}
use Rattle.std.specs.Int.Bits.{bit_or}
use Rattle.std.specs.List.{list_any}
use Rattle.std.proofs.lemmas.List.{get_or-set_same, get_or-set_other}
use Rattle.std.proofs.lemmas.Nat.Bits.{bit_at-zero, bit_at_or, bit_at-lt, bit_at_set_same, bit_at_set_other}
use Rattle.swap_base.specs.Lists.{greatest}
use Rattle.swap_base.proofs.Lists.{or-false, or-true}
use Rattle.swap_digraph.specs.declared.arc_ends.ArcEnds.{ArcEnds}
use Rattle.swap_digraph.specs.Value.{Graph}
use Rattle.swap_digraph.specs.Graph.{HasEnds}
use Rattle.leader_check.specs.Cycles.{has_bit}
use Rattle.leader_check.proofs.Loops.{greatest_goes_on, drop-next, drop-none}

other : (k v : ℕ) → (k == v) ≡ false → v ≢ k
other k v e q = no (k == v) e (eq-eqb k v (sym q))
  where
    no : (b : Bool) → b ≡ false → b ≡ true → ⊥
    no true h i = cc h
    no false h i = cc i

-- The greatest value.

raised : (old : List ℕ) (k x y v : ℕ) → k < length old → x ≡ max (get_or old k 0) y → get_or (set old k x) v 0 ≡ max (get_or old v 0) (cond (k == v) y 0)
raised old k x y v lt e = go (k == v) refl
  where
    go : (b : Bool) → (k == v) ≡ b → get_or (set old k x) v 0 ≡ max (get_or old v 0) (cond b y 0)
    go true t = let q : k ≡ v =
        eqb-true k v t in ap (λ (j : ℕ). get_or (set old k x) j 0) (sym q) ∙ get_or-set_same old k x 0 lt ∙ e ∙ ap (λ (j : ℕ). max (get_or old j 0) y) q
    go false t = let s = get_or-set_other old k v x 0 (other k v t) in omega (arith, s)

pub raise : (p f : ArcEnds → ℕ) (xs : List ArcEnds) (i : ℕ) (d : ArcEnds) (old : List ℕ) (x v total : ℕ) → i < length xs
    → p (get_or xs i d) < length old → x ≡ max (get_or old (p (get_or xs i d)) 0) (f (get_or xs i d))
    → max (get_or old v 0) (greatest (λ a. cond (p a == v) (f a) 0) (drop i xs)) ≡ total
    → max (get_or (set old (p (get_or xs i d)) x) v 0) (greatest (λ a. cond (p a == v) (f a) 0) (drop (i + 1) xs)) ≡ total
raise p f xs i d old x v total lt place e so_far =
    greatest_goes_on (λ a. cond (p a == v) (f a) 0) xs i d (get_or old v 0) (get_or (set old (p (get_or xs i d)) x) v 0) total lt
    (raised old (p (get_or xs i d)) x (f (get_or xs i d)) v place e) so_far

-- Bits.

or_one : (m n : ℕ) → m < 2 → n < 2 → (max m n == 1) ≡ ((m == 1) || (n == 1))
or_one m n a b = grind arith

pub bit_of_or : (a b i : ℕ) → (bit_at (bit_or a b) i == 1) ≡ ((bit_at a i == 1) || (bit_at b i == 1))
bit_of_or a b i = ap (λ (x : ℕ). x == 1) (bit_at_or a b i) ∙ or_one (bit_at a i) (bit_at b i) (bit_at-lt a i) (bit_at-lt b i)

or-assoc : (a b c : Bool) → ((a || b) || c) ≡ (a || (b || c))
or-assoc true b c = refl
or-assoc false b c = refl

united : (old : List ℕ) (k x y v u : ℕ) → k < length old → x ≡ bit_or (get_or old k 0) y
    → has_bit (set old k x) v u ≡ (has_bit old v u || ((k == u) && (bit_at y v == 1)))
united old k x y v u lt e = go (k == u) refl
  where
    go : (b : Bool) → (k == u) ≡ b → has_bit (set old k x) v u ≡ (has_bit old v u || (b && (bit_at y v == 1)))
    go true t =
        let q : k ≡ u = eqb-true k u t in
        ap (λ (j : ℕ). bit_at (get_or (set old k x) j 0) v == 1) (sym q) ∙ ap (λ (n : ℕ). bit_at n v == 1) (get_or-set_same old k x 0 lt ∙ e)
        ∙ bit_of_or (get_or old k 0) y v ∙ ap (λ (j : ℕ). (bit_at (get_or old j 0) v == 1) || (bit_at y v == 1)) q
    go false t = ap (λ (n : ℕ). bit_at n v == 1) (get_or-set_other old k u x 0 (other k u t)) ∙ sym (or-false (has_bit old v u))

any_rest : (p : ArcEnds → Bool) (xs : List ArcEnds) (i : ℕ) (d : ArcEnds) (old new total : Bool) → i < length xs → new ≡ (old || p (get_or xs i d))
    → (old || list_any p (drop i xs)) ≡ total → (new || list_any p (drop (i + 1) xs)) ≡ total
any_rest p xs i d old new total lt e so_far =
    ap (λ (b : Bool). b || list_any p (drop (i + 1) xs)) e ∙ or-assoc old (p (get_or xs i d)) (list_any p (drop (i + 1) xs))
    ∙ ap (λ (ys : List ArcEnds). old || list_any p ys) (sym (drop-next xs i d lt)) ∙ so_far

pub unite : (p f : ArcEnds → ℕ) (xs : List ArcEnds) (i : ℕ) (d : ArcEnds) (old : List ℕ) (x v u : ℕ) (total : Bool) → i < length xs
    → p (get_or xs i d) < length old → x ≡ bit_or (get_or old (p (get_or xs i d)) 0) (f (get_or xs i d))
    → (has_bit old v u || list_any (λ a. (p a == u) && (bit_at (f a) v == 1)) (drop i xs)) ≡ total
    → (has_bit (set old (p (get_or xs i d)) x) v u || list_any (λ a. (p a == u) && (bit_at (f a) v == 1)) (drop (i + 1) xs)) ≡ total
unite p f xs i d old x v u total lt place e so_far =
    any_rest (λ a. (p a == u) && (bit_at (f a) v == 1)) xs i d (has_bit old v u) (has_bit (set old (p (get_or xs i d)) x) v u) total lt
    (united old (p (get_or xs i d)) x (f (get_or xs i d)) v u place e) so_far

set_bit : (n k w : ℕ) → k < 32 → (bit_at (bit_or n (1 * 2 ^ k % 2 ^ 32)) w == 1) ≡ ((bit_at n w == 1) || (k == w))
set_bit n k w lt = go (k == w) refl
  where
    go : (b : Bool) → (k == w) ≡ b → (bit_at (bit_or n (1 * 2 ^ k % 2 ^ 32)) w == 1) ≡ ((bit_at n w == 1) || b)
    go true t = let q : k ≡ w =
        eqb-true k w t in ap (λ (j : ℕ). bit_at (bit_or n (1 * 2 ^ k % 2 ^ 32)) j == 1) (sym q) ∙ ap (λ (x : ℕ). x == 1) (bit_at_set_same w32 n k lt)
        ∙ sym (or-true (bit_at n w == 1))
    go false t = ap (λ (x : ℕ). x == 1) (bit_at_set_other w32 n k lt w (other k w t)) ∙ sym (or-false (bit_at n w == 1))

pub one_bit : (k w : ℕ) → k < 32 → (bit_at (1 * 2 ^ k % 2 ^ 32) w == 1) ≡ (k == w)
one_bit k w lt = set_bit 0 k w lt ∙ ap (λ (x : ℕ). (x == 1) || (k == w)) (bit_at-zero w)

-- a head more, or an arc that begins elsewhere
pub head_on : (xs : List ArcEnds) (i : ℕ) (d : ArcEnds) (u n w : ℕ) (total : Bool) → i < length xs → (get_or xs i d).to < 32 → (get_or xs i d).from ≡ u
    → ((bit_at n w == 1) || list_any (λ a. (a.from == u) && (a.to == w)) (drop i xs)) ≡ total
    → ((bit_at (bit_or n (1 * 2 ^ (get_or xs i d).to % 2 ^ 32)) w == 1) || list_any (λ a. (a.from == u) && (a.to == w)) (drop (i + 1) xs)) ≡ total
head_on xs i d u n w total lt small same so_far =
    any_rest (λ a. (a.from == u) && (a.to == w)) xs i d (bit_at n w == 1) _ total lt (set_bit n (get_or xs i d).to w small
    ∙ ap (λ (b : Bool). (bit_at n w == 1) || (b && ((get_or xs i d).to == w))) (sym (eq-eqb (get_or xs i d).from u same))) so_far

pub head_off : (xs : List ArcEnds) (i : ℕ) (d : ArcEnds) (u n w : ℕ) (total : Bool) → i < length xs → ((get_or xs i d).from == u) ≡ false
    → ((bit_at n w == 1) || list_any (λ a. (a.from == u) && (a.to == w)) (drop i xs)) ≡ total
    → ((bit_at n w == 1) || list_any (λ a. (a.from == u) && (a.to == w)) (drop (i + 1) xs)) ≡ total
head_off xs i d u n w total lt off so_far =
    any_rest (λ a. (a.from == u) && (a.to == w)) xs i d (bit_at n w == 1) (bit_at n w == 1) total lt
    (sym (ap (λ (b : Bool). (bit_at n w == 1) || (b && ((get_or xs i d).to == w))) off ∙ or-false (bit_at n w == 1))) so_far

pub any_ends : (p : ArcEnds → Bool) (xs : List ArcEnds) (i : ℕ) (old total : Bool) → length xs ≤ i → (old || list_any p (drop i xs)) ≡ total → old ≡ total
any_ends p xs i old total le so_far = sym (ap (λ (ys : List ArcEnds). old || list_any p ys) (drop-none xs i le) ∙ or-false old) ∙ so_far

-- The ends of the arcs of a digraph.

pub from_below : (g : Graph) (xs : List ArcEnds) (i : ℕ) → HasEnds g → xs ≡ g.arcs → i < length xs → (get_or xs i (record { from = 0; to = 0 })).from < g.n
from_below g xs i ends e lt = let a = ends.from i (rw (sym e) lt) in rw (sym e) at a

pub to_below : (g : Graph) (xs : List ArcEnds) (i : ℕ) → HasEnds g → xs ≡ g.arcs → i < length xs → (get_or xs i (record { from = 0; to = 0 })).to < g.n
to_below g xs i ends e lt = let a = ends.to i (rw (sym e) lt) in rw (sym e) at a
