-- The job of a plain header is one that an offer proposes.
use Rattle.std.proofs.Common.{◌≡◌, length, sym, subst}
use Rattle.swap_digraph.specs.Value.{Graph}
use Rattle.swap_digraph.specs.Graph.{HasEnds}
use Rattle.swap_job.specs.declared.job.Job.{Job}
use Rattle.swap_job.specs.declared.job.Purpose.TheVariants.{Make}
use Rattle.offer_header.specs.declared.header.Header.{Header}
use Rattle.offer_header.specs.Header.{IsHeaderInLimits}
use Rattle.swap_offer.specs.Checks.{header_deal, assemble_job, IsAcceptedOrProposed}
use Rattle.swap_offer.proofs.Size.{is_whole}
use Rattle.party_rows.specs.Inside.{IsOffered}

pub is_offered : (h : Header) (g : Graph) (j : Job) → IsHeaderInLimits h → h.purpose ≡ Make → HasEnds g → g.n ≡ length h.names → g.arcs ≡ h.arcs
    → IsAcceptedOrProposed h.purpose (header_deal h g) → j ≡ assemble_job h g → IsOffered j
is_offered h g j k plain e n a accepted is =
    subst IsOffered (sym is) (record {
      whole = is_whole h g k e n a;
      names = k.names;
      proposed = subst (λ p. IsAcceptedOrProposed p (header_deal h g)) plain accepted;
    })
