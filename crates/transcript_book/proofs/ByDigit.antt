-- A number is read digit by digit.
use Rattle.std.proofs.Common.{◌≡◌, ◌&&◌, ◌+◌, ◌-◌, ◌*◌, ◌^◌, ℕ, nat_le, nat_lt, Bool, true, false, cond, List, [], ◌∷◌, Ok, refl}
use Rattle.swap_base.specs.Fault.{◌>>=◌, steps}
use Rattle.transcript_book.specs.Reading.{misspelt, continue_reading}
use Rattle.transcript_book.specs.Taking.{append_digit}

pub read_by_steps : (n : ℕ) (bs : List ℕ) → steps append_digit n bs ≡ continue_reading n bs
unfolding steps
read_by_steps n [] = refl
read_by_steps n (b ∷ bs) = by (nat_le 48 b && nat_le b 57 && nat_lt (n * 10 + (b - 48)) (2 ^ 64)) (read_by_steps (n * 10 + (b - 48)) bs)
  where
    by : (t : Bool) → steps append_digit (n * 10 + (b - 48)) bs ≡ continue_reading (n * 10 + (b - 48)) bs
        → (cond t (Ok (n * 10 + (b - 48))) misspelt >>= λ m. steps append_digit m bs) ≡ cond t (continue_reading (n * 10 + (b - 48)) bs) misspelt
    by true e = e
    by false e = refl
