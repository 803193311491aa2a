use Rattle.std.proofs.Common.{◌≡◌, map}
use Rattle.std.specs.List.{range_with_len}
use Rattle.hash_signature.specs.Signature.{derive_public_key}
use Rattle.party_rows.proofs.row.public_keys.Given as goal

abbrev pub invariant-locks : goal.invariant-locks
invariant-locks l = l.keys.items ≡ map (derive_public_key l.seed l.party) (range_with_len 0 l.lock)
