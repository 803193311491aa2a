-- What the parties' seeds give a deal: hashlocks, keys, timelocks and the id.
use Rattle.std.specs.Prelude.{ℕ, List, [], map, length, replicate, Option, None, unwrap_or, slice_index_or}
use Rattle.std.specs.List.{range_with_len}
use Rattle.time_bounds.specs.Times as times
use Rattle.swap_digraph.specs.Graph.{arcs}
use Rattle.swap_digraph.specs.Deal.{counterparty, lock_leader, locks}
use Rattle.swap_digraph.specs.declared.deal.Deal.{Deal}
use Rattle.swap_digraph.specs.declared.deal.Mode.{Mode}
use Rattle.swap_digraph.specs.declared.deal.Mode.TheVariants.{Timelocks, Hashkeys}
use Rattle.leader_check.specs.Distance.{leader_distance}
use Rattle.hash_signature.specs.Signature.{hashed_value, derive_secret, derive_public_key}
use Rattle.hashkey_path.specs.Digest.{deal_id}
use Rattle.swap_job.specs.declared.job.Job.{Job}
use Rattle.swap_job.specs.declared.job.Purpose.TheVariants.{Make}

-- the seed of party p, and zeros where it has none
abbrev pub seed_or_zeros : List (Option (List ℕ)) → ℕ → List ℕ
seed_or_zeros seeds p = unwrap_or (slice_index_or seeds p None) (replicate 32 0)

-- the hashlock that a leader's seed gives
abbrev pub seed_hashlock : List (Option (List ℕ)) → ℕ → List ℕ
seed_hashlock seeds leader = hashed_value (derive_secret (seed_or_zeros seeds leader))

-- the public keys of party p, one for each lock
abbrev pub seed_keys : List (Option (List ℕ)) → Deal → ℕ → List (List ℕ)
seed_keys seeds d p = map (derive_public_key (seed_or_zeros seeds p) p) (locks d)

-- the public keys of each party; none with timelocks
abbrev pub all_keys : Mode → List (Option (List ℕ)) → Deal → List (List (List ℕ))
all_keys Timelocks seeds d = []
all_keys Hashkeys seeds d = map (seed_keys seeds d) (range_with_len 0 d.graph.n)

-- the timelock of arc a, by the distance of its counterparty from the one leader
abbrev pub arc_timelock : Deal → ℕ → ℕ
arc_timelock d a = times.timelock d.start d.delta d.bound (leader_distance d.graph (lock_leader d 0) (counterparty d a))

-- the timelock of each arc; 0 with hashkeys
abbrev pub all_timelocks : Mode → Deal → List ℕ
all_timelocks Timelocks d = map (arc_timelock d) (arcs d.graph)
all_timelocks Hashkeys d = replicate (length d.graph.arcs) 0

-- the deal but for its id
abbrev pub seed_filled_deal : List (Option (List ℕ)) → Deal → Deal
seed_filled_deal seeds d = record d { hashlocks = map (seed_hashlock seeds) d.leaders; keys = all_keys d.mode seeds d; timelocks = all_timelocks d.mode d }

-- the deal with all that the seeds give, and the digest of what it then says as its id
unfoldable pub made_deal : List (Option (List ℕ)) → Deal → Deal
made_deal seeds d = record (seed_filled_deal seeds d) { id = deal_id (seed_filled_deal seeds d) }

-- the job with its deal made; all else is as it was given
abbrev pub made : Job → Job
made job = record job { purpose = Make; deal = made_deal job.seeds job.deal }
