-- The digest that names a deal, and the bytes that it is taken of. Numbers of several bytes have
-- the highest byte first.
use Rattle.std.specs.Prelude.{ℕ, List, [], ◌∷◌, ◌++◌, length, slice_index}
use Rattle.std.specs.Int.{w32, w64, to_be_bytes}
use Rattle.std.specs.List.{flat_map}
use Rattle.sha2.specs.Hashers.{Holds256}
use Rattle.sha2.specs.Sha256.{sha256}
use Rattle.sha2.specs.declared.Sha256.{Sha256}
use Rattle.swap_base.specs.Text.{joined}
use Rattle.swap_digraph.specs.Deal.{party, counterparty, amount}
use Rattle.swap_digraph.specs.Graph.{arcs}
use Rattle.swap_digraph.specs.declared.deal.Deal.{Deal}
use Rattle.swap_digraph.specs.declared.deal.Mode.{Mode}
use Rattle.swap_digraph.specs.declared.deal.Mode.TheVariants.{Timelocks, Hashkeys}
use Rattle.swap_digraph.specs.declared.deal.Version.{Version}
use Rattle.swap_digraph.specs.declared.deal.Version.TheVariants.{One, Two}

abbrev pub version_byte : Version → ℕ
version_byte One = 1
version_byte Two = 2

abbrev pub mode_byte : Mode → ℕ
mode_byte Timelocks = 0
mode_byte Hashkeys = 1

-- the version, the mode and the numbers of parties and of arcs
abbrev pub head_bytes : Deal → List ℕ
head_bytes d = version_byte d.version ∷ mode_byte d.mode ∷ d.graph.n ∷ length d.graph.arcs ∷ []

-- the ends of an arc, its units in 8 bytes and its timelock in 4
abbrev pub arc_bytes : Deal → ℕ → List ℕ
arc_bytes d a = party d a ∷ counterparty d a ∷ to_be_bytes w64 (amount d a) ++ to_be_bytes w32 (slice_index d.timelocks a)

-- the number of leaders, and the leaders
abbrev pub leader_bytes : Deal → List ℕ
leader_bytes d = length d.leaders ∷ d.leaders

-- start, delta and bound, each in 4 bytes
abbrev pub time_bytes : Deal → List ℕ
time_bytes d = to_be_bytes w32 d.start ++ to_be_bytes w32 d.delta ++ to_be_bytes w32 d.bound

-- in hashkeys mode the public keys, by party and then by lock
abbrev pub key_bytes : Mode → List (List (List ℕ)) → List ℕ
key_bytes Timelocks keys = []
key_bytes Hashkeys keys = flat_map joined keys

-- what a deal says, but for its id
unfoldable pub deal_bytes : Deal → List ℕ
deal_bytes d = head_bytes d ++ flat_map (arc_bytes d) (arcs d.graph) ++ leader_bytes d ++ time_bytes d ++ joined d.hashlocks ++ key_bytes d.mode d.keys

-- the digest that names the deal
unfoldable pub deal_id : Deal → List ℕ
deal_id d = sha256 (6 ∷ deal_bytes d)

-- The hasher was fed these bytes.
abbrev pub Feeds : Sha256 → Sha256 → List ℕ → Type 0
Feeds old new bytes = (m : List ℕ) → Holds256 old m → Holds256 new (m ++ bytes)
