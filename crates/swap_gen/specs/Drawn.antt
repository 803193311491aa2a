-- The job that a number gives: a ring of n parties with further arcs that are drawn.
use Rattle.std.specs.Prelude.{ℕ, zero, suc, ◌+◌, ◌-◌, ◌*◌, ◌%◌, min, Bool, true, not, ◌==◌, ◌&&◌, ◌||◌, nat_lt, List, [], ◌∷◌, ◌++◌, map, length, replicate}
use Rattle.std.specs.Prelude.{codes, decimal, Some, if◌then◌else◌}
use Rattle.std.specs.Int.{w64, to_be_bytes}
use Rattle.std.specs.List.{list_any, range_with_len}
use Rattle.sha2.specs.Sha256.{sha256}
use Rattle.swap_digraph.specs.Arcs.{same_ends}
use Rattle.swap_digraph.specs.Value.{Graph}
use Rattle.swap_digraph.specs.declared.arc_ends.ArcEnds.{ArcEnds}
use Rattle.swap_digraph.specs.declared.deal.Deal.{Deal}
use Rattle.swap_digraph.specs.declared.deal.Mode.TheVariants.{Hashkeys}
use Rattle.swap_digraph.specs.declared.deal.Version.TheVariants.{One}
use Rattle.swap_job.specs.declared.job.Job.{Job}
use Rattle.swap_job.specs.declared.job.Purpose.TheVariants.{Make}
use Rattle.swap_job.specs.declared.job.Role.TheVariants.{Conforming}
use Rattle.swap_job.specs.declared.job.Finish.TheVariants.{Fair}
use Rattle.swap_gen.specs.Word.{word}
use Rattle.swap_gen.specs.Made.{made}

-- word 0 says how many parties lead: those with the lowest numbers
unfoldable pub leader_count : (seed n : ℕ) → ℕ
leader_count seed n = 1 + word seed 0 % min 3 (n - 1)

-- the arc of the ring that leaves party i
abbrev pub ring_arc : ℕ → ℕ → ArcEnds
ring_arc n i = record { from = i; to = (i + 1) % n }

-- the ring
abbrev pub ring : ℕ → List ArcEnds
ring n = map (ring_arc n) (range_with_len 0 n)

-- the ends that are drawn k-th, from 0: two words after word 0 for each
abbrev pub drawn_ends : (seed n k : ℕ) → ArcEnds
drawn_ends seed n k = record { from = word seed (1 + 2 * k) % n; to = word seed (2 + 2 * k) % n }

-- drawn ends become an arc where they are two parties, no arc leads from the one to the other
-- before, and they don't lead from a follower down to another one
abbrev pub is_added : ℕ → List ArcEnds → ArcEnds → Bool
is_added leaders arcs a = not (a.from == a.to) && not (list_any (same_ends a) arcs) && (nat_lt a.from leaders || nat_lt a.to leaders || nat_lt a.from a.to)

unfoldable pub with_arc : ℕ → List ArcEnds → ArcEnds → List ArcEnds
with_arc leaders arcs a = if is_added leaders arcs a then arcs ++ a ∷ [] else arcs

-- the ring's arcs, and those of the first k ends that are drawn
abbrev pub drawn_arcs_so_far : (seed n k : ℕ) → List ArcEnds
drawn_arcs_so_far seed n zero = ring n
drawn_arcs_so_far seed n (suc k) = with_arc (leader_count seed n) (drawn_arcs_so_far seed n k) (drawn_ends seed n k)

-- all arcs: n ends are drawn
unfoldable pub drawn_arcs : (seed n : ℕ) → List ArcEnds
drawn_arcs seed n = drawn_arcs_so_far seed n n

abbrev pub drawn_graph : (seed n : ℕ) → Graph
drawn_graph seed n = record { n = n; arcs = drawn_arcs seed n }

-- the units of arc a, by one word for each arc
abbrev pub drawn_amount : (seed n a : ℕ) → ℕ
drawn_amount seed n a = 1 + word seed (1 + 2 * n + a) % 1000

-- the deal but for what its parties' seeds give
unfoldable pub plain_deal : (seed n : ℕ) → Deal
plain_deal seed n = record {
  version = One;
  graph = drawn_graph seed n;
  leaders = range_with_len 0 (leader_count seed n);
  start = 20;
  delta = 20;
  bound = n - 1;
  mode = Hashkeys;
  amounts = map (drawn_amount seed n) (range_with_len 0 (length (drawn_arcs seed n)));
  hashlocks = [];
  keys = [];
  timelocks = [];
  id = replicate 32 0;
}

-- the name of party i: p and its number
abbrev pub drawn_party_label : ℕ → List ℕ
drawn_party_label i = codes "p" ++ decimal i

-- the seed of party i
abbrev pub drawn_seed : (seed i : ℕ) → List ℕ
drawn_seed seed i = sha256 (8 ∷ to_be_bytes w64 seed ++ i ∷ [])

-- the job before it is made: all parties conform, and the finish is fair
unfoldable pub plain_job : (seed n : ℕ) → Job
plain_job seed n = record {
  purpose = Make;
  deal = plain_deal seed n;
  names = map drawn_party_label (range_with_len 0 n);
  roles = replicate n Conforming;
  conforming = replicate n true;
  seeds = map (λ i. Some (drawn_seed seed i)) (range_with_len 0 n);
  finish = Fair;
}

-- the job of a number with n parties
abbrev pub generated : (seed n : ℕ) → Job
generated seed n = made (plain_job seed n)
