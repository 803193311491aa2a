-- What an accepted deal and a proposed one have in common.
use Rattle.std.proofs.Common.{◌≡◌, ℕ, List, length}
use Rattle.swap_digraph.specs.Deal.{HasKeys}
use Rattle.swap_digraph.specs.declared.deal.Deal.{Deal}
use Rattle.swap_digraph.specs.declared.deal.Mode.{Mode}
use Rattle.swap_digraph.specs.declared.deal.Mode.TheVariants.{Timelocks, Hashkeys}
use Rattle.swap_digraph.specs.declared.deal.Version.{Version}
use Rattle.swap_digraph.specs.declared.deal.Version.TheVariants.{One, Two}
use Rattle.hashkey_path.specs.Digest.{deal_id}
use Rattle.swap_rules.specs.Accepted.{IsAccepted, IsOfVersion, IsTimed}
use Rattle.swap_offer.specs.Proposed.{HasModeLeaders, IsProposed}

led_for : (m : Mode) (d : Deal) → IsTimed m d → HasModeLeaders m d
led_for Timelocks d t = t.0
led_for Hashkeys d t = tt

-- an accepted deal is a proposed one
pub is_proposed : (d : Deal) → IsAccepted d → IsProposed d
is_proposed d k = record {
  parties = k.parties;
  arcs = k.arcs;
  ends = k.ends;
  of_version = k.of_version;
  strong = k.strong;
  leaders = k.leaders;
  leader = k.leader;
  apart = k.apart;
  led = led_for d.mode d k.timed;
  feedback = k.feedback;
  height = k.height;
  is_height = k.is_height;
  delta = k.delta;
  start = k.start;
  bound = k.bound;
  one_amount_each = k.one_amount_each;
  amounts = k.amounts;
}

-- the deal with what seeds give
abbrev pub with_seeds : Deal → List (List ℕ) → List (List (List ℕ)) → (timelocks id : List ℕ) → Deal
with_seeds d hashlocks keys timelocks id = record d { hashlocks = hashlocks; keys = keys; timelocks = timelocks; id = id }

-- a version asks nothing of what seeds give
version_kept : (v : Version) (d : Deal) (hashlocks : List (List ℕ)) (keys : List (List (List ℕ))) (timelocks id : List ℕ) → IsOfVersion v d
    → IsOfVersion v (with_seeds d hashlocks keys timelocks id)
version_kept One d hashlocks keys timelocks id k = k
version_kept Two d hashlocks keys timelocks id k = k

-- a proposed deal with all that seeds give is an accepted one
module _ (d : Deal) (hashlocks : List (List ℕ)) (keys : List (List (List ℕ))) (timelocks id : List ℕ) where
  pub is_accepted : IsProposed d → length hashlocks ≡ length d.leaders → HasKeys d.mode (with_seeds d hashlocks keys timelocks id)
      → length timelocks ≡ length d.graph.arcs → IsTimed d.mode (with_seeds d hashlocks keys timelocks id)
      → id ≡ deal_id (with_seeds d hashlocks keys timelocks id) → IsAccepted (with_seeds d hashlocks keys timelocks id)
  is_accepted k locked keyed each timed named = record {
    parties = k.parties;
    arcs = k.arcs;
    ends = k.ends;
    of_version = version_kept d.version d hashlocks keys timelocks id k.of_version;
    strong = k.strong;
    leaders = k.leaders;
    leader = k.leader;
    apart = k.apart;
    feedback = k.feedback;
    height = k.height;
    is_height = k.is_height;
    delta = k.delta;
    start = k.start;
    bound = k.bound;
    one_amount_each = k.one_amount_each;
    amounts = k.amounts;
    hashlocks = locked;
    keys = keyed;
    one_timelock_each = each;
    timed = timed;
    id = named;
  }
