-- What a reason shows of the header that it is against.
use Rattle.std.specs.Prelude.{Result, Ok, Err}
use Rattle.swap_base.specs.declared.fault.Fault.{Fault}
use Rattle.swap_base.specs.declared.fault.Fault.TheVariants.{Refused, NoMemory}
use Rattle.digraph_check.specs.Closed.{IsClosedSet}
use Rattle.leader_check.specs.Cycles.{IsFollowerCycle}
use Rattle.command_input.specs.declared.reason.Reason.{Reason}
use Rattle.command_input.specs.declared.reason.Reason.TheVariants.{NotStrong, NotFeedback}
use Rattle.command_input.specs.declared.refusal.Refusal.{Refusal}
use Rattle.offer_header.specs.declared.header.Header.{Header}
use Rattle.swap_offer.specs.Checks.{header_digraph}

-- a set that is named is closed: some of the parties, but not all, and no arc leaves them; a cycle
-- that is named is one of distinct followers
abbrev pub IsCertified : Header → Reason → Type 0
IsCertified h (NotStrong set) = IsClosedSet (header_digraph h) set
IsCertified h (NotFeedback cycle) = IsFollowerCycle (header_digraph h) h.leaders cycle
IsCertified h _ = Unit {0}

-- a refusal shows what its reason says
abbrev pub Certifies : {X : Type 0} → Header → Result X (Fault Refusal) → Type 0
Certifies h (Ok x) = Unit {0}
Certifies h (Err NoMemory) = Unit {0}
Certifies h (Err (Refused refusal)) = IsCertified h refusal.reason
