-- Calls that hand on one text after another.
use Rattle.std.proofs.Common.{◌≡◌, ◌≤◌, ℕ, List, ◌++◌, Option, Result, Ok, Err, refl, subst, arith}
use Rattle.swap_io.specs.Handed.{Handed, Hands, Lost}
use Rattle.swap_io.specs.declared.fault.TextFault.{TextFault}
use Rattle.swap_io.specs.declared.fault.TextFault.TheVariants.{NoMemory}
use Rattle.swap_io.proofs.Handing.{handed_on, hands_err, hands_ok, lost_on, lost_then, lost_was, lost_with, rose_before, rose_was}

-- one more text, whatever the answer to it
pub hands_then : {T : Type 0} (a b c : Option (List ℕ)) (n m k : ℕ) (w y z text more total : List ℕ) (result : Result T TextFault) → Handed a w b y text
    → text ++ more ≡ total → n ≤ m → Hands b c m k y z more result → Hands a c n k w z total result
hands_then a b c n m k w y z text more total (Ok x) p e le h =
    hands_ok x a c n k w z total (Ok x) refl (subst (λ (t : List ℕ). Handed a w c z t) e (handed_on a b c w y z text more p h.all)) (omega (arith, le, h.later))
hands_then a b c n m k w y z text more total (Err f) p e le h =
    hands_err f a c n k w z total (Err f) refl (subst (λ (t : List ℕ). Lost f a w c t) e (lost_on f a b c w y text more p h.lost))
    (omega (arith, le, h.later)) (λ is. rose_before n m k le (h.failed (rw is refl)))

-- one more text was lost in part, and with it the rest
pub hands_failed : {T U : Type 0} (e : TextFault) (a b c : Option (List ℕ)) (n m k : ℕ) (w y z out text more rest total : List ℕ) (first : Result T TextFault)
    (result : Result U TextFault) → first ≡ Err e → result ≡ Err e → Handed a w b y text → (text ++ more) ++ rest ≡ total → n ≤ m
    → Hands b c m k y z more first → Hands a c n k w out total result
hands_failed e a b c n m k w y z out text more rest total first result was is p parts le h =
    hands_err e a c n k w out total result is (lost_with e a b c w y text more rest total p (lost_was e b c m k y z more first was h) parts)
    (omega (arith, le, h.later)) (λ q. rose_before n m k le (rose_was e b c m k y z more first was h q))

-- memory ran out after a text
pub hands_short : {U : Type 0} (a b : Option (List ℕ)) (n m : ℕ) (w y out text rest total : List ℕ) (result : Result U TextFault) → result ≡ Err NoMemory
    → Handed a w b y text → text ++ rest ≡ total → n ≤ m → Hands a b n m w out total result
hands_short a b n m w y out text rest total result is p parts le =
    hands_err NoMemory a b n m w out total result is (lost_then a b w y text rest total p parts) le (λ q. absurd (cc q))
