-- What a walk of steps over a list that gave a value says of each step.
use Rattle.std.proofs.Common.{◌≡◌, suc, ◌+◌, length, List, [], ◌∷◌, Result, Ok, ap, subst, arith}
use Rattle.std.specs.List.{All}
use Rattle.std.proofs.lemmas.List.Elements.{All-nil, All-cons}
use Rattle.swap_base.specs.Fault.{steps}
use Rattle.offer_moves.proofs.Chains.{went}

steps_cons : {S A R : Type 0} (f : S → A → Result S R) (s : S) (x : A) (xs : List A) (t : S) → steps f s (x ∷ xs) ≡ Ok t
    → (u : S) × (f s x ≡ Ok u) × (steps f u xs ≡ Ok t)
unfolding steps
steps_cons f s x xs t h = went (f s x) (λ u. steps f u xs) t h

steps_none : {S A R : Type 0} (f : S → A → Result S R) (s t : S) → steps f s [] ≡ Ok t → s ≡ t
unfolding steps
steps_none f s t h = cc h

-- what each step keeps holds in the end
pub steps_keep : {S A R : Type 0} (P : S → Type 0) (f : S → A → Result S R) → ((s : S) (x : A) (t : S) → P s → f s x ≡ Ok t → P t)
    → (s : S) (xs : List A) (t : S) → P s → steps f s xs ≡ Ok t → P t
steps_keep P f keep s [] t p h = subst P (steps_none f s t h) p
steps_keep P f keep s (x ∷ xs) t p h = let r = steps_cons f s x xs t h in steps_keep P f keep r.0 xs t (keep s x r.0 p r.1) r.2

pub steps_length : {B A R : Type 0} (f : List B → A → Result (List B) R) → ((s : List B) (x : A) (t : List B) → f s x ≡ Ok t → length t ≡ suc (length s))
    → (s : List B) (xs : List A) (t : List B) → steps f s xs ≡ Ok t → length t ≡ length s + length xs
steps_length f one s [] t h = let e : s ≡ t = steps_none f s t h in let k : length s ≡ length t = ap length e in omega arith
steps_length f one s (x ∷ xs) t h =
    let r = steps_cons f s x xs t h in
    let a : length r.0 ≡ suc (length s) = one s x r.0 r.1 in
    let b : length t ≡ length r.0 + length xs = steps_length f one r.0 xs t r.2 in
    omega arith

-- what a step that went well says of its element holds of each
pub steps_each : {S A R : Type 0} (P : A → Type 0) (f : S → A → Result S R) → ((s : S) (x : A) (t : S) → f s x ≡ Ok t → P x)
    → (s : S) (xs : List A) (t : S) → steps f s xs ≡ Ok t → All P xs
steps_each P f says s [] t h = All-nil P
steps_each P f says s (x ∷ xs) t h =
    let r = steps_cons f s x xs t h in All-cons P x xs (says s x r.0 r.1) (steps_each P f says r.0 xs t r.2)
