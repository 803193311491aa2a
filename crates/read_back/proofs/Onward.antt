-- What holds of whatever a chain of steps gives.
use Rattle.std.proofs.Common.{◌≡◌, Result, Ok, Err, refl, subst}
use Rattle.swap_base.specs.Fault.{◌>>=◌}
use Rattle.command_input.specs.declared.reason.Reason.{Reason}

-- what holds of every answer of the steps after the first holds of the chain's
pub onward : {A B : Type 0} (m : Result A Reason) (f : A → Result B Reason) (P : B → Type 0) → ((x : A) → m ≡ Ok x → (y : B) → f x ≡ Ok y → P y)
    → (y : B) → (m >>= f) ≡ Ok y → P y
onward (Ok x) f P h y e = h x refl y e
onward (Err r) f P h y e = absurd (cc e)

pub ok_is : {A : Type 0} (x y : A) → ◌≡◌ {A = Result A Reason} (Ok x) (Ok y) → x ≡ y
ok_is x y e = cc e

-- the end of a chain
pub landed : {A : Type 0} (x : A) (P : A → Type 0) → P x → (y : A) → ◌≡◌ {A = Result A Reason} (Ok x) (Ok y) → P y
landed x P p y e = subst P (ok_is x y e) p
