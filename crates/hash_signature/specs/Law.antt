-- The law of the checksum.
use Rattle.std.specs.Prelude.{◌≡◌, ◌≢◌, ℕ, ◌<◌, List, length, All}
use Rattle.hash_signature.specs.Signature.{digit}

-- a message is 32 bytes
pub record IsMessage (m : List ℕ) : Type 0 where
  pub length_is : length m ≡ 32
  pub bytes : All (λ b. b < 256) m

-- two different messages have a chain at which the first's digit is lower
abbrev pub ChecksumLaw : Type 0
ChecksumLaw = (m n : List ℕ) → IsMessage m → IsMessage n → m ≢ n → (j : ℕ) × (j < 67) × (digit m j < digit n j)
