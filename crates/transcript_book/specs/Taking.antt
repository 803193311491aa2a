-- What a call takes of the parts that are to come.
use Rattle.std.specs.Prelude.{◌≡◌, ◌&&◌, ◌+◌, ◌-◌, ◌*◌, ◌^◌, ℕ, nat_le, nat_lt, List, Result, Ok, Err, if◌then◌else◌}
use Rattle.swap_base.specs.Fault.{Fails}
use Rattle.swap_base.specs.declared.fault.Fault.{Fault}
use Rattle.transcript_book.specs.declared.said.Misspelling.{Misspelling}
use Rattle.transcript_book.specs.Reading.{misspelt}

-- what is read of the first parts, and the parts that are then to come
abbrev pub Takes : {X Y : Type 0} → (X → Y) → Result X (Fault Misspelling) → List (List ℕ) → Result (Y × List (List ℕ)) Misspelling → Type 0
Takes view (Ok x) rest read = read ≡ Ok (view x, rest)
Takes view (Err e) rest read = Fails e read

-- one more digit, where the number stays below 2 ^ 64
abbrev pub append_digit : ℕ → ℕ → Result ℕ Misspelling
append_digit n b = if nat_le 48 b && nat_le b 57 && nat_lt (n * 10 + (b - 48)) (2 ^ 64) then Ok (n * 10 + (b - 48)) else misspelt
