-- Reasons that show neither a set nor a cycle, and readings that give no other.
use Rattle.std.proofs.Common.{◌≡◌, Bool, true, false, cond, List, [], ◌∷◌, Result, Ok, Err, refl, subst}
use Rattle.swap_base.specs.Fault.{◌>>=◌, steps}
use Rattle.command_input.specs.declared.reason.Reason.{Reason}
use Rattle.command_input.specs.declared.reason.Reason.TheVariants.{NotFeedback, NotStrong}
use Rattle.offer_moves.specs.Lists.{collected_results}

-- the reason shows neither
abbrev pub IsBare : Reason → Type 0
IsBare (NotStrong set) = ⊥
IsBare (NotFeedback cycle) = ⊥
IsBare _ = Unit {0}

-- whatever reason a reading gives shows neither
abbrev pub Bare : {A : Type 0} → Result A Reason → Type 0
Bare {A = A} m = (r : Reason) → ◌≡◌ {A = Result A Reason} m (Err r) → IsBare r

err_is : {A : Type 0} (x y : Reason) → ◌≡◌ {A = Result A Reason} (Err x) (Err y) → x ≡ y
err_is x y e = cc e

pub landed : {A : Type 0} (x : A) → Bare {A = A} (Ok x)
landed x r e = absurd (cc e)

pub refused : {A : Type 0} (k : Reason) → IsBare k → Bare {A = A} (Err k)
refused {A = A} k b r e = subst IsBare (err_is {A = A} k r e) b

pub onward : {A B : Type 0} (m : Result A Reason) (f : A → Result B Reason) → Bare m → ((x : A) → Bare (f x)) → Bare (m >>= f)
onward (Ok x) f b h = h x
onward {A = A} {B = B} (Err k) f b h = λ r e. subst IsBare (err_is {A = B} k r e) (b k refl)

pub choose : {A : Type 0} (t : Bool) (a b : Result A Reason) → Bare a → Bare b → Bare (cond t a b)
choose true a b p q = p
choose false a b p q = q

pub each_of_bare : {A B : Type 0} (f : A → Result B Reason) → ((x : A) → Bare (f x)) → (xs : List A) → Bare (collected_results f xs)
unfolding collected_results
each_of_bare f h [] = landed []
each_of_bare f h (x ∷ xs) = onward (f x) _ (h x) (λ y. onward (collected_results f xs) _ (each_of_bare f h xs) (λ ys. landed _))

pub steps_bare : {S A : Type 0} (f : S → A → Result S Reason) → ((s : S) (x : A) → Bare (f s x)) → (s : S) (xs : List A) → Bare (steps f s xs)
unfolding steps
steps_bare f h s [] = landed s
steps_bare f h s (x ∷ xs) = onward (f s x) _ (h s x) (λ t. steps_bare f h t xs)
