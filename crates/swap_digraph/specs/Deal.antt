-- Words on a deal, and the sizes of its parts.
use Rattle.std.specs.Prelude.{◌≡◌, ◌==◌, ◌||◌, ◌<◌, ◌≤◌, ◌^◌, ℕ, Bool, List, [], length, slice_index, slice_index_or}
use Rattle.std.specs.List.{range_with_len}
use Rattle.swap_digraph.specs.Graph.{ends, HasEnds}
use Rattle.swap_digraph.specs.declared.deal.Deal.{Deal}
use Rattle.swap_digraph.specs.declared.deal.Mode.{Mode}
use Rattle.swap_digraph.specs.declared.deal.Mode.TheVariants.{Timelocks, Hashkeys}
use Rattle.swap_digraph.specs.declared.deal.Version.{Version}
use Rattle.swap_digraph.specs.declared.deal.Version.TheVariants.{One, Two}

-- the party of arc a, which it leaves
abbrev pub party : Deal → ℕ → ℕ
party d a = (ends d.graph a).from

-- the counterparty of arc a, which it enters
abbrev pub counterparty : Deal → ℕ → ℕ
counterparty d a = (ends d.graph a).to

-- v is one of the two parties of arc a
abbrev pub touches : Deal → ℕ → ℕ → Bool
touches d v a = (v == party d a) || (v == counterparty d a)

-- the units of arc a
abbrev pub amount : Deal → ℕ → ℕ
amount d a = slice_index d.amounts a

-- the locks, by number
abbrev pub locks : Deal → List ℕ
locks d = range_with_len 0 (length d.leaders)

-- whether v leads lock i
abbrev pub leads : Deal → ℕ → ℕ → Bool
leads d v i = slice_index_or d.leaders i d.graph.n == v

-- the leader of lock i
abbrev pub lock_leader : Deal → ℕ → ℕ
lock_leader d i = slice_index d.leaders i

-- the hashlock of lock i
abbrev pub lock_hashlock : Deal → ℕ → List ℕ
lock_hashlock d i = slice_index_or d.hashlocks i []

abbrev pub version_path_limit : Version → ℕ
version_path_limit One = 24
version_path_limit Two = 32

-- the most vertices of a hashkey's path
abbrev pub path_limit : Deal → ℕ
path_limit d = version_path_limit d.version

-- the most parties
abbrev pub most_parties : Version → ℕ
most_parties One = 24
most_parties Two = 32

-- the most arcs
abbrev pub most_arcs : Version → ℕ
most_arcs One = 96
most_arcs Two = 128

-- The keys have a row per party and a key per lock in hashkeys mode, and are none in timelocks
-- mode.
abbrev pub HasKeys : Mode → Deal → Type 0
HasKeys Timelocks d = d.keys ≡ []
HasKeys Hashkeys d = (length d.keys ≡ d.graph.n) × ((p : ℕ) → p < d.graph.n → length (slice_index_or d.keys p []) ≡ length d.leaders)

-- The lists of a deal are as long as its digraph and its leaders ask, and its numbers are in their
-- ranges.
pub record IsWellSized (d : Deal) : Type 0 where
  pub ends : HasEnds d.graph
  pub parties : (2 ≤ d.graph.n) × (d.graph.n ≤ most_parties d.version)
  pub arcs : (2 ≤ length d.graph.arcs) × (length d.graph.arcs ≤ most_arcs d.version)
  pub leaders : (1 ≤ length d.leaders) × (length d.leaders ≤ 8)
  pub leader : (i : ℕ) → i < length d.leaders → lock_leader d i < d.graph.n
  pub start : d.start ≤ 1000
  pub delta : d.delta ≤ 100
  pub bound : d.bound ≤ 64
  pub amounts : length d.amounts ≡ length d.graph.arcs
  pub amount : (a : ℕ) → a < length d.graph.arcs → amount d a ≤ 10 ^ 12
  pub hashlocks : length d.hashlocks ≡ length d.leaders
  pub keys : HasKeys d.mode d
  pub timelocks : length d.timelocks ≡ length d.graph.arcs
  pub timelock : (a : ℕ) → a < length d.graph.arcs → slice_index d.timelocks a ≤ 1000000

-- a deal of nobody, where nothing else says which deal is meant
abbrev pub no_deal : Deal
no_deal =
    record {
      version = One;
      graph = record { n = 0; arcs = [] };
      leaders = [];
      start = 0;
      delta = 0;
      bound = 0;
      mode = Timelocks;
      amounts = [];
      hashlocks = [];
      keys = [];
      timelocks = [];
      id = [];
    }
