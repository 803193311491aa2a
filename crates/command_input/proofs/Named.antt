-- A reader that fails still fails with the names.
use Rattle.std.proofs.Common.{◌≡◌, ℕ, List, Result, Ok, Err, refl, sym, ap}
use Rattle.swap_base.specs.Fault.{Fails}
use Rattle.swap_base.specs.declared.fault.Fault.{Fault}
use Rattle.swap_base.specs.declared.fault.Fault.TheVariants.{Refused, NoMemory}
use Rattle.command_input.specs.declared.reason.Reason.{Reason}
use Rattle.command_input.specs.Refusal.{fault_with_names, named_result, refusal}
use Rattle.command_input.specs.declared.refusal.Refusal.{Refusal}

pub fails : {A : Type 0} (names : List (List ℕ)) (fault : Fault Reason) (read : Result A Reason) → Fails fault read
    → Fails (fault_with_names names fault) (named_result names read)
fails names NoMemory read e = tt
fails names (Refused reason) read e = rw e refl

-- what was read, by what was read with the names
pub named_ok : {A : Type 0} (names : List (List ℕ)) (read : Result A Reason) (x : A) → named_result names read ≡ Ok x → read ≡ Ok x
named_ok {A = A} names (Ok y) x e =
    let same : y ≡ x = cc e in
    ap (λ (z : A). let o : Result A Reason = Ok z in o) same
named_ok names (Err reason) x e = absurd (cc e)

-- the reason and the names, by what was read with the names
pub named_err : {A : Type 0} (names : List (List ℕ)) (read : Result A Reason) (r : Refusal) → named_result names read ≡ Err r
    → (read ≡ Err r.reason) × (r.names ≡ names)
named_err names (Ok x) r e = absurd (cc e)
named_err {A = A} names (Err reason) r e =
    let same : refusal names reason ≡ r = cc e in
    (ap (λ (q : Refusal). let o : Result A Reason = Err q.reason in o) same, ap (λ (q : Refusal). q.names) (sym same))
