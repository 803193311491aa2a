-- Signatures of a hashkey that are known to be valid, so that nobody need verify them again.
use Rattle.std.specs.Prelude.{ℕ, zero, suc, ◌-◌, Bool, true, List, length, drop}
use Rattle.swap_digraph.specs.declared.deal.Deal.{Deal}
use Rattle.hash_signature.specs.declared.sig.Sig.{Sig}
use Rattle.hashkey_path.specs.declared.hashkey.Hashkey.{Hashkey}
use Rattle.hashkey_path.specs.Hashkey.{are_signed}

-- each of the last n signatures, or each if there are fewer, is that of its vertex over the suffix
-- from there
abbrev pub are_last_signed : ℕ → Deal → ℕ → List ℕ → List ℕ → List Sig → Bool
are_last_signed zero d lock secret path sigs = true
are_last_signed (suc n) d lock secret path sigs = are_signed d lock secret (drop (length sigs - suc n) path) (drop (length sigs - suc n) sigs)

-- each of a hashkey's last n signatures, or each if there are fewer, is that of its vertex; nothing
-- is said where n is 0
abbrev pub is_last_signed : ℕ → Deal → Hashkey → Bool
is_last_signed n d key = are_last_signed n d key.lock key.secret key.path key.sigs
