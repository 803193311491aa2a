-- What makes a header's deal an accepted one, check by check in the order of the reasons.
use Rattle.std.specs.Prelude.{◌≡◌, ℕ, ◌==◌, Bool, true, false, nat_lt, List, [], ◌∷◌, length, slice_index, replicate, Option, Some, None, Result, Ok, Err}
use Rattle.std.specs.Prelude.{if◌then◌else◌}
use Rattle.swap_base.specs.Fault.{◌>>=◌}
use Rattle.swap_base.specs.Lists.{first_given_answer}
use Rattle.time_bounds.specs.Times.{need, timelock}
use Rattle.leader_check.specs.Distance.{leader_distance}
use Rattle.swap_digraph.specs.Graph.{HasEnds, IsFeedback, IsHeight, IsStronglyConnected, arcs, ends}
use Rattle.swap_digraph.specs.Value.{Graph}
use Rattle.swap_digraph.specs.Arcs.{build_digraph}
use Rattle.swap_digraph.specs.declared.fault.ArcFault.{ArcFault}
use Rattle.swap_digraph.specs.declared.fault.ArcFault.TheVariants as faults
use Rattle.swap_digraph.specs.declared.deal.Deal.{Deal}
use Rattle.swap_digraph.specs.declared.deal.Mode.{Mode}
use Rattle.swap_digraph.specs.declared.deal.Mode.TheVariants.{Timelocks, Hashkeys}
use Rattle.hashkey_path.specs.Digest.{deal_id}
use Rattle.digraph_check.specs.Reach.{closed_set}
use Rattle.leader_check.specs.Cycles.{follower_cycle}
use Rattle.leader_check.specs.Levels.{greatest_level}
use Rattle.swap_job.specs.declared.job.Job.{Job}
use Rattle.swap_job.specs.declared.job.Purpose.{Purpose}
use Rattle.command_input.specs.declared.reason.Reason.{Reason}
use Rattle.command_input.specs.declared.reason.Reason.TheVariants.{SelfArc, Parallel, NotStrong, ManyLeaders, NotFeedback, BoundTooSmall, StartTooSoon}
use Rattle.command_input.specs.declared.reason.Reason.TheVariants.{WrongTimelock}
use Rattle.swap_rules.specs.Accepted.{IsAccepted}
use Rattle.swap_offer.specs.Proposed.{IsProposed}
use Rattle.offer_header.specs.Header.{IsHeaderInLimits}
use Rattle.offer_header.specs.Raw.{is_plain}
use Rattle.offer_header.specs.declared.header.Header.{Header}

-- A fault of the arcs. The ends of a header's arcs are parties, so that the first never comes.
abbrev pub arc_reason : ArcFault → Reason
arc_reason (faults.OutOfRange k) = SelfArc k
arc_reason (faults.SelfArc k) = SelfArc k
arc_reason (faults.Parallel j k) = Parallel j k

abbrev pub by_arcs : Result Graph ArcFault → Result Graph Reason
by_arcs (Ok g) = Ok g
by_arcs (Err fault) = Err (arc_reason fault)

-- the parties and the arcs of a header
abbrev pub header_digraph : Header → Graph
header_digraph h = record { n = length h.names; arcs = h.arcs }

-- the digraph of the header's arcs
unfoldable pub build_graph : Header → Result Graph Reason
build_graph h = by_arcs (build_digraph (length h.names) h.version h.arcs)

abbrev pub unless_closed : Option (List ℕ) → Result (Unit {0}) Reason
unless_closed None = Ok tt
unless_closed (Some set) = Err (NotStrong set)

-- the digraph is strongly connected
unfoldable pub connected : Graph → Result (Unit {0}) Reason
connected g = unless_closed (closed_set g)

-- with timelocks there is one leader
unfoldable pub one_leader : Mode → List ℕ → Result (Unit {0}) Reason
one_leader Timelocks leaders = if nat_lt 1 (length leaders) then Err (ManyLeaders (length leaders)) else Ok tt
one_leader Hashkeys leaders = Ok tt

abbrev pub unless_cycle : Option (List ℕ) → Result (Unit {0}) Reason
unless_cycle None = Ok tt
unless_cycle (Some cycle) = Err (NotFeedback cycle)

-- the leaders are a feedback vertex set
unfoldable pub led : Graph → List ℕ → Result (Unit {0}) Reason
led g leaders = unless_cycle (follower_cycle g leaders)

-- the least bound: no path that ends in a leader has more arcs
abbrev pub least_bound : Graph → List ℕ → ℕ
least_bound g leaders = need g.n (length leaders) (greatest_level g leaders)

-- the least bound of a deal
abbrev pub deal_need : Deal → ℕ
deal_need d = least_bound d.graph d.leaders

-- the bound is at least the one that is needed
unfoldable pub bounded : (bound needed : ℕ) → Result (Unit {0}) Reason
bounded bound needed = if nat_lt bound needed then Err (BoundTooSmall bound needed) else Ok tt

-- the start is at least delta
unfoldable pub start_after_delta : (start delta : ℕ) → Result (Unit {0}) Reason
start_after_delta start delta = if nat_lt start delta then Err (StartTooSoon start delta) else Ok tt

-- the reason against the timelock of arc a, if any: it goes by the distance of the arc's
-- counterparty from the leader
abbrev pub wrong_timelock : Header → Graph → ℕ → ℕ → Option Reason
wrong_timelock h g leader a =
    let given = slice_index h.timelocks a in
    let wanted = timelock h.start h.delta h.bound (leader_distance g leader (ends g a).to) in
    if given == wanted then None else Some (WrongTimelock a given wanted)

abbrev pub unless_wrong : Option Reason → Result (Unit {0}) Reason
unless_wrong None = Ok tt
unless_wrong (Some reason) = Err reason

-- with timelocks each arc has its timelock
unfoldable pub arcs_timed : Header → Graph → Mode → List ℕ → Result (Unit {0}) Reason
arcs_timed h g Timelocks (leader ∷ []) = unless_wrong (first_given_answer (wrong_timelock h g leader) (arcs g))
arcs_timed h g _ _ = Ok tt

-- a plain job states no timelocks
abbrev pub timed_unless : (plain : Bool) → Header → Graph → Result (Unit {0}) Reason
timed_unless true h g = Ok tt
timed_unless false h g = arcs_timed h g h.mode h.leaders

-- the deal but for its id
abbrev pub unnamed : Header → Graph → List ℕ → Deal
unnamed h g id = record {
  version = h.version;
  graph = g;
  leaders = h.leaders;
  start = h.start;
  delta = h.delta;
  bound = h.bound;
  mode = h.mode;
  amounts = h.amounts;
  hashlocks = h.hashlocks;
  keys = h.keys;
  timelocks = h.timelocks;
  id = id;
}

-- the deal, with the digest of what it says as its id
abbrev pub header_deal : Header → Graph → Deal
header_deal h g = unnamed h g (deal_id (unnamed h g (replicate 32 0)))

abbrev pub assemble_job : Header → Graph → Job
assemble_job h g = record {
  purpose = h.purpose;
  deal = header_deal h g;
  names = h.names;
  roles = h.roles;
  conforming = h.conforming;
  seeds = h.seeds;
  finish = h.finish;
}

-- the digraph and its leaders, in order
unfoldable pub checked_digraph : Header → Graph → Result (Unit {0}) Reason
checked_digraph h g = do
  u ← connected g
  v ← one_leader h.mode h.leaders
  w ← led g h.leaders
  x ← bounded h.bound (least_bound g h.leaders)
  y ← start_after_delta h.start h.delta
  timed_unless (is_plain h.purpose) h g

-- the digraph of a header, where its digraph, its leaders and its times pass their checks
unfoldable pub admitted : Header → Result Graph Reason
admitted h = do
  g ← build_graph h
  u ← checked_digraph h g
  Ok g

abbrev pub IsAcceptedUnless : (plain : Bool) → Deal → Type 0
IsAcceptedUnless true d = IsProposed d
IsAcceptedUnless false d = IsAccepted d

-- a deal is accepted; that of a plain job is proposed, and lacks what its parties' seeds give
abbrev pub IsAcceptedOrProposed : Purpose → Deal → Type 0
IsAcceptedOrProposed purpose d = IsAcceptedUnless (is_plain purpose) d

-- A header within its limits, and the digraph of its parties and arcs.
pub record IsHeaderGraph (h : Header) (g : Graph) : Type 0 where
  pub within : IsHeaderInLimits h
  pub arcs : g.arcs ≡ h.arcs
  pub parties : g.n ≡ length h.names
  pub ends : HasEnds g

-- The digraph is strongly connected, and the header's leaders are a feedback vertex set of that
-- height.
pub record IsLedGraph (h : Header) (g : Graph) (height : ℕ) : Type 0 where
  pub of_header : IsHeaderGraph h g
  pub strong : IsStronglyConnected g
  pub feedback : IsFeedback g h.leaders
  pub highest : IsHeight g h.leaders height
