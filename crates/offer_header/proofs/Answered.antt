-- What holds of whatever a chain of steps gives.
use Rattle.std.proofs.Common.{◌≡◌, Result, Ok, Err, refl, subst}
use Rattle.std.specs.Prelude.{IfOk}
use Rattle.swap_base.specs.Fault.{◌>>=◌, Gives}
use Rattle.swap_base.specs.declared.fault.Fault.{Fault}
use Rattle.command_input.specs.declared.reason.Reason.{Reason}

-- what holds of whatever the steps after the first give holds of what the chain gives
pub after : {A B : Type 0} (m : Result A Reason) (f : A → Result B Reason) (P : B → Type 0) → ((x : A) → m ≡ Ok x → IfOk (f x) P) → IfOk (m >>= f) P
after (Ok x) f P h = h x refl
after (Err r) f P h = tt

ok_is : {A : Type 0} (x y : A) → ◌≡◌ {A = Result A Reason} (Ok x) (Ok y) → x ≡ y
ok_is x y e = cc e

along : {A : Type 0} (x y : A) (P : A → Type 0) → x ≡ y → P x → P y
along x y P e p = subst P e p

pub by_value : {A : Type 0} (x : A) (m : Result A Reason) (P : A → Type 0) → m ≡ Ok x → IfOk m P → P x
by_value x (Ok y) P e p = along y x P (ok_is y x e) p
by_value x (Err r) P e p = absurd (cc e)

-- what holds of what a chain gives holds of the answer of a function that gives it
pub answered : {A : Type 0} (r : Result A (Fault Reason)) (m : Result A Reason) (P : A → Type 0) → Gives (λ x. x) r m → IfOk m P → IfOk r P
answered (Ok x) m P e p = by_value x m P e p
answered (Err f) m P e p = tt
