-- The first of what is due on some arcs is the call on the first arc that passes the test.
use Rattle.std.proofs.Common.{◌≡◌, ◌==◌, ℕ, ◌<◌, Bool, true, false, cond, List, [], ◌∷◌, ◌++◌, length, option_map, Option, Some, None, refl, sym, ap}
use Rattle.std.proofs.Common.{◌∙◌, inl, inr}
use Rattle.std.specs.Prelude.{IfSome}
use Rattle.std.specs.List.{find, flat_map}
use Rattle.swap_base.specs.Lists.{IsElement}
use Rattle.swap_base.proofs.Lists.{from_filter, from_range}
use Rattle.swap_digraph.specs.declared.arc_ends.ArcEnds.{ArcEnds}
use Rattle.swap_digraph.specs.Graph.{resolve_all_ends, entering_numbers, leaving_numbers}
use Rattle.ledger_core.specs.declared.entry.Call.{Call}
use Rattle.swap_rules.specs.Due.{Action, when_due, first}

-- the call on arc a
abbrev pub call_on : (ℕ → Call) → ℕ → Action
call_on call a = record { arc = a; call = call a }

first_when : (call : ℕ → Call) (test : Bool) (x : ℕ) (rest : List Action) (o : Option ℕ) → first rest ≡ option_map (call_on call) o
    → first (when_due test x (call x) ++ rest) ≡ option_map (call_on call) (cond test (Some x) o)
first_when call true x rest o e = refl
first_when call false x rest o e = e

pub first_find : (call : ℕ → Call) (test : ℕ → Bool) (xs : List ℕ)
    → first (flat_map (λ a. when_due (test a) a (call a)) xs) ≡ option_map (call_on call) (find test xs)
first_find call test [] = refl
first_find call test (x ∷ xs) = first_when call (test x) x (flat_map (λ a. when_due (test a) a (call a)) xs) (find test xs) (first_find call test xs)

-- nothing passes a test that always fails
pub find_none : {A : Type 0} (test : A → Bool) (xs : List A) → ((x : A) → test x ≡ false) → find test xs ≡ None
find_none test [] h = refl
find_none test (x ∷ xs) h = ap (λ b. cond b (Some x) (find test xs)) (h x) ∙ find_none test xs h

by_test : {A : Type 0} (b : Bool) (x y : A) (xs : List A) (o : Option A) → (o ≡ Some y → IsElement y xs) → cond b (Some x) o ≡ Some y → IsElement y (x ∷ xs)
by_test true x y xs o h e = inl (cc e)
by_test false x y xs o h e = inr (h e)

pub find_in : {A : Type 0} (test : A → Bool) (xs : List A) (y : A) → find test xs ≡ Some y → IsElement y xs
find_in test [] y e = absurd (cc e)
find_in test (x ∷ xs) y e = by_test (test x) x y xs (find test xs) (find_in test xs y) e

some_below : (n : ℕ) (o : Option ℕ) → ((a : ℕ) → o ≡ Some a → a < n) → IfSome o (λ a. a < n)
some_below n None h = tt
some_below n (Some a) h = h a refl

-- an arc that is found is an arc of the digraph
pub leaving_below : (test : ℕ → Bool) (arcs : List ArcEnds) (v : ℕ) (o : Option ℕ) → o ≡ find test (leaving_numbers arcs v) → IfSome o (λ a. a < length arcs)
leaving_below test arcs v o e =
    some_below (length arcs) o (λ a h. from_range a (length arcs)
    (from_filter (λ a. (resolve_all_ends arcs a).from == v) a _ (find_in test (leaving_numbers arcs v) a (sym e ∙ h))).0)

pub entering_below : (test : ℕ → Bool) (arcs : List ArcEnds) (v : ℕ) (o : Option ℕ) → o ≡ find test (entering_numbers arcs v) → IfSome o (λ a. a < length arcs)
entering_below test arcs v o e =
    some_below (length arcs) o (λ a h. from_range a (length arcs)
    (from_filter (λ a. (resolve_all_ends arcs a).to == v) a _ (find_in test (entering_numbers arcs v) a (sym e ∙ h))).0)
