-- What the program's strategies answer may be made.
use Rattle.std.proofs.Common.{◌≡◌, ◌⊎◌, ℕ, zero, suc, ◌%◌, ◌^◌, ◌<◌, ◌≤◌, ◌==◌, ◌||◌, ◌&&◌, nat_le, Bool, true, false, List, [], ◌∷◌, length}
use Rattle.std.proofs.Common.{get_or, Option, Some, None, option_map, refl, sym, ap, subst, inl, inr, arith, eq-eqb, eqb-true}
use Rattle.std.specs.Prelude.{IsTrue, slice_index, Result, Ok, Err, IfOk}
use Rattle.std.specs.List.{flat_map}
use Rattle.std.proofs.lemmas.Bool.{le-leb}
use Rattle.std.proofs.lemmas.Option.{same_Some}
use Rattle.swap_base.specs.Lists.{IsElement}
use Rattle.swap_base.proofs.Lists.{from_append, from_filter, from_range, moment_from_in, or-right}
use Rattle.swap_digraph.specs.declared.deal.Deal.{Deal}
use Rattle.swap_digraph.specs.Graph.{ends, arcs, entering, leaving}
use Rattle.swap_digraph.specs.Deal.{party, counterparty, amount, IsWellSized}
use Rattle.hashkey_path.specs.declared.hashkey.Hashkey.{Hashkey}
use Rattle.ledger_core.specs.declared.entry.Call.{Call}
use Rattle.ledger_core.specs.declared.entry.Call.TheVariants.{Publish, Unlock, Claim}
use Rattle.ledger_core.specs.History.{accepted, fit, IsLegal}
use Rattle.ledger_core.specs.Book.{Histories, IsLegalBook}
use Rattle.ledger_core.proofs.History.{clear_at}
use Rattle.swap_run.specs.Rules.{item_in_turn, greedy, replayer, spoiler, spoiled_terms, call_keys, keys_known, make_unlock}
use Rattle.swap_run.specs.View.{IsPartyAnswer, MayAnswer}
use Rattle.swap_job.specs.Fitting.{is_near}

in_get : {A : Type 0} (xs : List A) (i : ℕ) (d : A) → i < length xs → IsElement (get_or xs i d) xs
in_get [] i d l = absurd (omega arith)
in_get (x ∷ xs) zero d l = inl refl
in_get (x ∷ xs) (suc i) d l = inr (in_get xs i d (omega arith))

-- what is picked is a member
pub around_in : {A : Type 0} (xs : List A) (t : ℕ) (x : A) → item_in_turn xs t ≡ Some x → IsElement x xs
around_in [] t x e = absurd (cc e)
around_in (y ∷ xs) t x e = subst (λ z. IsElement z (y ∷ xs)) (same_Some _ x e) (in_get (y ∷ xs) (t % length (y ∷ xs)) y (below (length xs) t))
  where
    below : (n t : ℕ) → t % suc n < suc n
    below n t = omega arith

or_first : (a b : Bool) → a ≡ true → (a || b) ≡ true
or_first true b e = refl
or_first false b e = absurd (cc e)

pub enters : (d : Deal) (v a : ℕ) → IsElement a (entering d.graph v) → (a < length d.graph.arcs) × (is_near d v a ≡ true)
enters d v a i =
    let k = from_filter (λ a. (ends d.graph a).to == v) a (arcs d.graph) i in (
      from_range a (length d.graph.arcs) k.0,
      or-right (v == party d a) (v == counterparty d a)
          (eq-eqb v (counterparty d a) (sym (eqb-true (ends d.graph a).to v k.1))),
    )

pub leaves : (d : Deal) (v a : ℕ) → IsElement a (leaving d.graph v) → (a < length d.graph.arcs) × (is_near d v a ≡ true)
leaves d v a i =
    let k = from_filter (λ a. (ends d.graph a).from == v) a (arcs d.graph) i in (
      from_range a (length d.graph.arcs) k.0,
      or_first (v == party d a) (v == counterparty d a)
          (eq-eqb v (party d a) (sym (eqb-true (ends d.graph a).from v k.1))),
    )

on_arc : (d : Deal) (v : ℕ) (f : ℕ → Call) (o : Option ℕ) → ((a : ℕ) → o ≡ Some a → IsPartyAnswer d v (a, f a)) → MayAnswer d v (option_map (λ a. (a, f a)) o)
on_arc d v f None h = λ x q. absurd (cc q)
on_arc d v f (Some a) h = λ x q. subst (IsPartyAnswer d v) (same_Some (a, f a) x q) (h a refl)

pub greedy_may : (d : Deal) (v t : ℕ) (k : Histories) → MayAnswer d v (greedy d v t k)
greedy_may d v t k =
    on_arc d v (λ a. Claim) (item_in_turn (entering d.graph v) t) (λ a e. let i = enters d v a (around_in (entering d.graph v) t a e) in
    record { arc = i.0; near = i.1; fits = refl })

six : (a b c e f g : Bool) → a ≡ true → b ≡ true → c ≡ true → e ≡ true → f ≡ true → g ≡ true → (a && b && c && e && f && g) ≡ true
six a b c e f g ha hb hc he hf hg = rw (ha, hb, hc, he, hf, hg) refl

spoiled_fit : (d : Deal) (a : ℕ) → IsWellSized d → a < length d.graph.arcs → IsTrue (fit d a (Publish (spoiled_terms d a)))
spoiled_fit d a k l =
    let s : d.start ≤ 1000 = k.start in
    let x : d.delta ≤ 100 = k.delta in
    let m : amount d a ≤ 10 ^ 12 = k.amount a l in
    let t : slice_index d.timelocks a ≤ 1000000 = k.timelock a l in
    six (length d.hashlocks == length d.leaders) (nat_le d.start 1000000) (nat_le d.delta 1000000) (nat_le 0 1000000)
    (nat_le (slice_index d.timelocks a) 1000000) (nat_le (amount d a) 1000000000000)
    (eq-eqb (length d.hashlocks) (length d.leaders) k.hashlocks) (le-leb d.start 1000000 (omega arith)) (le-leb d.delta 1000000 (omega arith))
    (le-leb 0 1000000 (omega arith)) (le-leb (slice_index d.timelocks a) 1000000 t) (le-leb (amount d a) 1000000000000 m)

pub spoiler_may : (d : Deal) (v t : ℕ) (k : Histories) → IsWellSized d → MayAnswer d v (spoiler d v t k)
spoiler_may d v t k sized =
    on_arc d v (λ a. Publish (spoiled_terms d a)) (item_in_turn (leaving d.graph v) t) (λ a e. let i = leaves d v a (around_in (leaving d.graph v) t a e) in
    record { arc = i.0; near = i.1; fits = spoiled_fit d a sized i.0 })

-- Hashkeys that are known.

from_flat : {A B : Type 0} (f : A → List B) (xs : List A) (y : B) → IsElement y (flat_map f xs) → (x : A) × IsElement x xs × IsElement y (f x)
from_flat f [] y i = absurd i
from_flat {A = A} f (x ∷ xs) y i = pick (λ j. from_flat f xs y j) (from_append (f x) (flat_map f xs) y i)
  where
    pick : (IsElement y (flat_map f xs) → (z : A) × IsElement z xs × IsElement y (f z)) → IsElement y (f x) ⊎ IsElement y (flat_map f xs) → (z : A) × IsElement z (x ∷ xs) × IsElement y (f z)
    pick rest (inl j) = (x, inl refl, j)
    pick rest (inr j) = let r = rest j in (r.0, inr r.1, r.2)

place : {A : Type 0} (xs : List A) (x d : A) → IsElement x xs → (i : ℕ) × (i < length xs) × (x ≡ get_or xs i d)
place [] x d i = absurd i
place (y ∷ xs) x d (inl e) = (0, omega arith, e)
place (y ∷ xs) x d (inr i) = let r = place xs x d i in (suc r.0, (let l = r.1 in omega arith), r.2)

key_of : (o : Option Call) (key : Hashkey) → IsElement key (call_keys o) → o ≡ Some (Unlock key)
key_of None key i = absurd i
key_of (Some (Unlock k)) key (inl e) = ap (λ x. Some (Unlock x)) (sym e)
key_of (Some (Unlock k)) key (inr i) = absurd i
key_of (Some _) key i = absurd i

known_fits : (d : Deal) (k : Histories) (key : Hashkey) → IsLegalBook d k → IsElement key (keys_known k) → IsTrue (fit d 0 (Unlock key))
known_fits d k key legal i =
    let h = from_flat (λ h. flat_map (λ e. call_keys (accepted e)) h) k key i in
    let e = from_flat (λ e. call_keys (accepted e)) h.0 key h.2 in
    let at = place k h.0 [] h.1 in
    let m = moment_from_in h.0 e.0 e.1 in
    (clear_at d at.0 h.0 m.0 e.0 (Unlock key) (subst (IsLegal d at.0) (sym at.2) (legal.legal at.0 at.1)) m.1 (key_of (accepted e.0) key e.2)).0.fits

pub unlock_may : (d : Deal) (v : ℕ) (oa : Option ℕ) (ok : Option Hashkey) → ((a : ℕ) → oa ≡ Some a → (a < length d.graph.arcs) × (is_near d v a ≡ true))
    → ((key : Hashkey) → ok ≡ Some key → IsTrue (fit d 0 (Unlock key)))
    → MayAnswer d v (make_unlock oa ok)
unlock_may d v None ok ha hk = λ x q. absurd (cc q)
unlock_may d v (Some a) None ha hk = λ x q. absurd (cc q)
unlock_may d v (Some a) (Some key) ha hk =
    λ x q. subst (IsPartyAnswer d v) (same_Some (a, Unlock key) x q) (record { arc = (ha a refl).0; near = (ha a refl).1; fits = hk key refl })

pub replayer_may : (d : Deal) (v t : ℕ) (k : Histories) → IsLegalBook d k → MayAnswer d v (replayer d v t k)
replayer_may d v t k legal =
    unlock_may d v (item_in_turn (entering d.graph v) t) (item_in_turn (keys_known k) t) (λ a e. enters d v a (around_in (entering d.graph v) t a e)) (λ key e.
    known_fits d k key legal (around_in (keys_known k) t key e))

-- an answer that is what a rule gives
pub as_given : {E : Type 0} (d : Deal) (v : ℕ) (given : Option (ℕ × Call)) → MayAnswer d v given → (r : Result (Option (ℕ × Call)) E)
    → IfOk r (λ o. o ≡ given) → IfOk r (MayAnswer d v)
as_given d v given may (Ok o) e = subst (MayAnswer d v) (sym e) may
as_given d v given may (Err e) h = tt
