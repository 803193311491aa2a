-- A reader answers what its definition answers, unless memory runs out.
use Rattle.std.specs.Prelude.{◌≡◌, Result, Ok, Err, List, [], ◌∷◌}
use Rattle.swap_base.specs.declared.fault.Fault.{Fault}
use Rattle.swap_base.specs.declared.fault.Fault.TheVariants.{Refused, NoMemory}

infixl 10 ◌>>=◌
abbrev pub ◌>>=◌ : {A B R : Type 0} → Result A R → (A → Result B R) → Result B R
(Ok x) >>= f = f x
(Err e) >>= f = Err e

abbrev pub IsNoMemory : {R : Type 0} → Fault R → Type 0
IsNoMemory e = e ≡ NoMemory

-- the fault is this reason, or want of memory
abbrev pub Is : {R : Type 0} → Fault R → R → Type 0
Is NoMemory reason = Unit {0}
Is (Refused given) reason = given ≡ reason

abbrev pub Fails : {Y R : Type 0} → Fault R → Result Y R → Type 0
Fails NoMemory read = Unit {0}
Fails (Refused reason) read = read ≡ Err reason

abbrev pub Gives : {X Y R : Type 0} → (X → Y) → Result X (Fault R) → Result Y R → Type 0
Gives view (Ok x) read = read ≡ Ok (view x)
Gives view (Err e) read = Fails e read

-- one step for each of the list, up to the first that is refused
unfoldable pub steps : {S A R : Type 0} → (S → A → Result S R) → S → List A → Result S R
steps f s [] = Ok s
steps f s (x ∷ xs) = f s x >>= λ t. steps f t xs
