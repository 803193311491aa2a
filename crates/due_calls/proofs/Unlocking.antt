-- The first due unlock, by lock and arc.
use Rattle.std.proofs.Common.{◌≡◌, ℕ, Bool, true, false, cond, ◌&&◌, List, [], ◌∷◌, ◌++◌, Option, Some, None, option_map, refl, sym, ap, ap₂, ◌∙◌, subst}
use Rattle.std.specs.Prelude.{IfSome}
use Rattle.std.specs.List.{find, flat_map}
use Rattle.swap_base.specs.Lists.{or_else, first_given_answer}
use Rattle.swap_digraph.specs.declared.deal.Deal.{Deal}
use Rattle.swap_digraph.specs.Graph.{entering}
use Rattle.swap_digraph.specs.Deal.{locks}
use Rattle.hashkey_path.specs.declared.hashkey.Hashkey.{Hashkey}
use Rattle.ledger_core.specs.declared.entry.Call.TheVariants.{Unlock}
use Rattle.ledger_core.specs.Book.{Histories}
use Rattle.swap_rules.specs.Party.{is_ready}
use Rattle.swap_rules.specs.Due.{Wallet, Action, due_key, due_arc_unlock, due_unlocks, presented, first}
use Rattle.due_calls.proofs.First.{call_on, first_find}
use Rattle.due_calls.specs.Unlocks.{make_due_key, IsFirstUnlock}
use Rattle.due_calls.specs.DueUnlock.{not_called, due_base, first_closed, unlock_due, next_due_unlock}
use Rattle.due_calls.specs.declared.unlock_due.Base.{Base}
use Rattle.due_calls.specs.declared.unlock_due.UnlockDue.{UnlockDue}
use Rattle.due_calls.proofs.Keys.{ComesFrom, comes_from}

-- the due unlock stands for the action
abbrev Means : Wallet → (ℕ → Option Hashkey) → Histories → Option UnlockDue → Option Action → Type 0
Means w signed k None o = o ≡ None
Means w signed k (Some u) o = (key : Hashkey) × (make_due_key w signed k u.lock u.base ≡ Some key) × (o ≡ Some (record { arc = u.arc; call = Unlock key }))

-- On the arcs of one lock.

empty_flat : {A : Type 0} (f : A → List Action) (xs : List A) → ((x : A) → f x ≡ []) → flat_map f xs ≡ []
empty_flat f [] h = refl
empty_flat f (x ∷ xs) h = ap₂ (λ ys zs. ys ++ zs) (h x) (empty_flat f xs h)

same_branches : {A : Type 0} (b : Bool) (x : A) → cond b x x ≡ x
same_branches true x = refl
same_branches false x = refl

-- the unlock on the arc with the hashkey, where there are both
abbrev make_unlock : Option Hashkey → Option ℕ → Option Action
make_unlock None a = None
make_unlock (Some key) a = option_map (call_on (λ a. Unlock key)) a

first_present : (test : ℕ → Bool) (key : Option Hashkey) (xs : List ℕ)
    → first (flat_map (λ a. cond (test a) (presented a key) []) xs) ≡ make_unlock key (find test xs)
first_present test None xs = ap first (empty_flat (λ a. cond (test a) [] []) xs (λ a. same_branches (test a) []))
first_present test (Some key) xs = first_find (λ a. Unlock key) test xs

no_arc : (key : Option Hashkey) → make_unlock key None ≡ None
no_arc None = refl
no_arc (Some key) = refl

on_arc : (w : Wallet) (signed : ℕ → Option Hashkey) (k : Histories) (i : ℕ) (a : Option ℕ) (base : Option Base) (key : Option Hashkey)
    → ComesFrom w signed k i base key → Means w signed k (unlock_due i a base) (make_unlock key a)
on_arc w signed k i None base key h = no_arc key
on_arc w signed k i (Some a) None key h = ap (λ o. make_unlock o (Some a)) h
on_arc w signed k i (Some a) (Some b) key h = (h.0, h.1, ap (λ o. make_unlock o (Some a)) h.2)

on_lock : (d : Deal) (v : ℕ) (w : Wallet) (signed : ℕ → Option Hashkey) (k : Histories) → is_ready d k v ≡ true → (i : ℕ)
    → Means w signed k (next_due_unlock d v signed k i) (first (flat_map (due_arc_unlock d v w (signed i) k i) (entering d.graph v)))
unfolding next_due_unlock due_arc_unlock
on_lock d v w signed k ready i =
    let key = due_key d v w (signed i) k i in
    let same : first (flat_map (due_arc_unlock d v w (signed i) k i) (entering d.graph v)) ≡ make_unlock key (first_closed d v k i) =
    ap (λ b. first (flat_map (λ a. cond (b && not_called v k i a) (presented a key) []) (entering d.graph v))) ready
    ∙ first_present (not_called v k i) key (entering d.graph v) in
    subst (Means w signed k (next_due_unlock d v signed k i)) (sym same)
    (on_arc w signed k i (first_closed d v k i) (due_base d v (signed i) k i) key (comes_from d v w signed k i))

-- On all locks.

first_append : (xs ys : List Action) → first (xs ++ ys) ≡ or_else (first xs) (first ys)
first_append [] ys = refl
first_append (x ∷ xs) ys = refl

either : (w : Wallet) (signed : ℕ → Option Hashkey) (k : Histories) (r s : Option UnlockDue) (o p : Option Action) → Means w signed k r o
    → Means w signed k s p → Means w signed k (or_else r s) (or_else o p)
either w signed k None s o p m n = subst (λ z. Means w signed k s (or_else z p)) (sym m) n
either w signed k (Some u) s o p m n = (m.0, m.1, ap (λ z. or_else z p) m.2)

on_locks : (w : Wallet) (signed : ℕ → Option Hashkey) (k : Histories) (r : ℕ → Option UnlockDue) (f : ℕ → List Action)
    → ((i : ℕ) → Means w signed k (r i) (first (f i))) → (xs : List ℕ) → Means w signed k (first_given_answer r xs) (first (flat_map f xs))
on_locks w signed k r f h [] = refl
on_locks w signed k r f h (x ∷ xs) =
    subst (Means w signed k (or_else (r x) (first_given_answer r xs))) (sym (first_append (f x) (flat_map f xs)))
    (either w signed k (r x) (first_given_answer r xs) (first (f x)) (first (flat_map f xs)) (h x) (on_locks w signed k r f h xs))

-- What the first due unlock stands for.

first_means : (d : Deal) (v : ℕ) (signed : ℕ → Option Hashkey) (k : Histories) (r : Option UnlockDue) → is_ready d k v ≡ true
    → r ≡ first_given_answer (next_due_unlock d v signed k) (locks d) → (w : Wallet) → Means w signed k r (first (due_unlocks d v w signed k))
first_means d v signed k r ready e w =
    subst (λ r. Means w signed k r (first (due_unlocks d v w signed k))) (sym e)
    (on_locks w signed k (next_due_unlock d v signed k) (λ i. flat_map (due_arc_unlock d v w (signed i) k i) (entering d.graph v))
    (on_lock d v w signed k ready) (locks d))

some_means : (d : Deal) (v : ℕ) (signed : ℕ → Option Hashkey) (k : Histories) (r : Option UnlockDue)
    → ((w : Wallet) → Means w signed k r (first (due_unlocks d v w signed k))) → IfSome r (λ u. (w : Wallet) → IsFirstUnlock d v signed k u w)
some_means d v signed k None h = tt
some_means d v signed k (Some u) h = λ w. let m = h w in record { key = m.0; from = m.1; call = m.2 }

pub some : (d : Deal) (v : ℕ) (signed : ℕ → Option Hashkey) (k : Histories) (r : Option UnlockDue) → is_ready d k v ≡ true
    → r ≡ first_given_answer (next_due_unlock d v signed k) (locks d) → IfSome r (λ u. (w : Wallet) → IsFirstUnlock d v signed k u w)
some d v signed k r ready e = some_means d v signed k r (first_means d v signed k r ready e)

empty_of : (xs : List Action) → first xs ≡ None → xs ≡ []
empty_of [] e = refl
empty_of (x ∷ xs) e = absurd (cc e)

pub none : (d : Deal) (v : ℕ) (signed : ℕ → Option Hashkey) (k : Histories) (r : Option UnlockDue) → is_ready d k v ≡ true
    → r ≡ first_given_answer (next_due_unlock d v signed k) (locks d) → r ≡ None → (w : Wallet) → due_unlocks d v w signed k ≡ []
none d v signed k r ready e n w =
    empty_of (due_unlocks d v w signed k) (subst (λ r. Means w signed k r (first (due_unlocks d v w signed k))) n
    (first_means d v signed k r ready e w))

-- nothing is due before the party is ready
pub not_ready : (d : Deal) (v : ℕ) (w : Wallet) (signed : ℕ → Option Hashkey) (k : Histories) → is_ready d k v ≡ false → due_unlocks d v w signed k ≡ []
unfolding due_arc_unlock
not_ready d v w signed k e =
    empty_flat (λ i. flat_map (due_arc_unlock d v w (signed i) k i) (entering d.graph v)) (locks d)
    (λ i. empty_flat (due_arc_unlock d v w (signed i) k i) (entering d.graph v) (λ a.
    ap (λ b. cond (b && not_called v k i a) (presented a (due_key d v w (signed i) k i)) []) e))
