-- The job of a header is whole.
use Rattle.std.proofs.Common.{◌≡◌, ℕ, List, length, sym, ap, ◌∙◌}
use Rattle.std.proofs.lemmas.List.{length-map}
use Rattle.swap_digraph.specs.Value.{Graph}
use Rattle.swap_digraph.specs.Graph.{HasEnds}
use Rattle.swap_digraph.specs.Deal.{IsWellSized, HasKeys}
use Rattle.swap_digraph.specs.declared.deal.Mode.{Mode}
use Rattle.swap_digraph.specs.declared.deal.Mode.TheVariants.{Timelocks, Hashkeys}
use Rattle.offer_header.specs.declared.header.Header.{Header}
use Rattle.swap_job.specs.Roles.{is_conforming}
use Rattle.swap_job.specs.declared.job.Purpose.{Purpose}
use Rattle.swap_job.specs.declared.job.Purpose.TheVariants.{Check, Run, Race, Make, Audit}
use Rattle.offer_header.specs.Header.{HasSimpleRoles, IsHeaderInLimits, IsUntoldHeader, AreSizedKeys}
use Rattle.swap_offer.specs.Checks.{unnamed, header_deal, assemble_job}
use Rattle.swap_offer.specs.Job.{IsWholeJob}
use Rattle.swap_offer.specs.Wallets.{AreSimpleRoles, IsUntoldJob}

derived_keys : (m : Mode) (h : Header) (g : Graph) (id : List ℕ) → g.n ≡ length h.names → AreSizedKeys m (length h.names) (length h.leaders) h.keys
    → HasKeys m (unnamed h g id)
derived_keys Timelocks h g id n k = k
derived_keys Hashkeys h g id n k = (k.0 ∙ sym n, λ p lt. k.1 p (rw n at lt))

pub is_sized : (h : Header) (g : Graph) (id : List ℕ) → IsHeaderInLimits h → HasEnds g → g.n ≡ length h.names → g.arcs ≡ h.arcs → IsWellSized (unnamed h g id)
is_sized h g id k e n a =
    let arcs : length g.arcs ≡ length h.arcs = ap length a in
    record {
      ends = e;
      parties = (rw n k.parties.0, rw n k.parties.1);
      arcs = (rw arcs k.arcs.0, rw arcs k.arcs.1);
      leaders = k.leaders;
      leader = λ i lt. rw n (k.leader.below i lt);
      start = k.start.1;
      delta = k.delta.1;
      bound = k.bound.1;
      amounts = k.amounts ∙ sym arcs;
      amount = λ i lt. (k.amount i (rw arcs at lt)).1;
      hashlocks = k.hashlocks;
      keys = derived_keys h.mode h g id n k.keys;
      timelocks = k.timelocks ∙ sym arcs;
      timelock = λ i lt. k.timelock i (rw arcs at lt);
    }

pub is_whole : (h : Header) (g : Graph) → IsHeaderInLimits h → HasEnds g → g.n ≡ length h.names → g.arcs ≡ h.arcs → IsWholeJob (assemble_job h g)
is_whole h g k e n a = record {
  sized = is_sized h g (header_deal h g).id k e n a;
  names = sym n;
  conforming = ap length k.conforming ∙ (length-map h.roles is_conforming ∙ (k.roles ∙ sym n));
  roles = k.roles ∙ sym n;
  acting = k.conforming;
  seeds = k.seeds ∙ sym n;
}

untold_by : (purpose : Purpose) (h : Header) (g : Graph) → IsUntoldHeader purpose h → IsUntoldJob purpose (assemble_job h g)
untold_by Audit h g u = u
untold_by Check h g u = tt
untold_by Run h g u = tt
untold_by Race h g u = tt
untold_by Make h g u = tt

pub is_untold : (h : Header) (g : Graph) → IsUntoldHeader h.purpose h → IsUntoldJob h.purpose (assemble_job h g)
is_untold h g u = untold_by h.purpose h g u

simple_by : (purpose : Purpose) (h : Header) (g : Graph) → HasSimpleRoles purpose h → AreSimpleRoles purpose (assemble_job h g)
simple_by Make h g u = tt
simple_by Check h g u = tt
simple_by Run h g u = tt
simple_by Race h g u = tt
simple_by Audit h g u = u

pub are_simple : (h : Header) (g : Graph) → HasSimpleRoles h.purpose h → AreSimpleRoles h.purpose (assemble_job h g)
are_simple h g u = simple_by h.purpose h g u
