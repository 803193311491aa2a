-- Hashkeys that parties make together. Each party signs with a key that is made from its seed at
-- every signature.
use Rattle.std.specs.Prelude.{ℕ, ◌+◌, nat_le, List, [], length, fold, reverse, slice_index_or, unwrap_or, Option, Some, None, if◌then◌else◌}
use Rattle.swap_digraph.specs.declared.deal.Deal.{Deal}
use Rattle.swap_digraph.specs.Deal.{path_limit}
use Rattle.hashkey_path.specs.declared.hashkey.Hashkey.{Hashkey}
use Rattle.party_wallet.specs.Keys.{own_key, onto_key}

-- the seed of each party, where it is there
abbrev pub Seeds : Type 0
Seeds = List (Option (List ℕ))

-- the seed of party v
abbrev pub make_seed : Seeds → ℕ → List ℕ
make_seed seeds v = unwrap_or (slice_index_or seeds v None) []

-- what v makes of a hashkey for lock i: the same with v put before its path; its own hashkey, where
-- there is none
abbrev pub prepend_party : Deal → Seeds → ℕ → Option Hashkey → ℕ → Hashkey
prepend_party d seeds i None v = own_key d.mode d v (make_seed seeds v) i
prepend_party d seeds i (Some key) v = onto_key d.mode d v (make_seed seeds v) key

-- what the parties make of it, from the last to the first
abbrev pub crafted : Deal → Seeds → ℕ → Option Hashkey → List ℕ → Option Hashkey
crafted d seeds i start via = fold (λ made v. Some (prepend_party d seeds i made v)) start (reverse via)

-- what they make of a hashkey that opened the lock: nothing, where there is none or the path would
-- be too long
abbrev pub crafted_within_limit : Deal → Seeds → ℕ → Option Hashkey → List ℕ → Option Hashkey
crafted_within_limit d seeds i None via = None
crafted_within_limit d seeds i (Some key) via = if nat_le (length via + length key.path) (path_limit d) then crafted d seeds i (Some key) via else None
