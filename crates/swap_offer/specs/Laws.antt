-- The law of offers, as its contract states it.
use Rattle.std.specs.Prelude.{◌≡◌, ◌↔◌, Ok}
use Rattle.offer_header.specs.declared.header.Header.{Header}
use Rattle.offer_header.specs.Header.{IsHeaderInLimits}
use Rattle.swap_offer.specs.Checks.{admitted, header_deal, header_digraph, IsAcceptedOrProposed}

-- a header within its limits passes its checks exactly where its deal is accepted, or that of a
-- plain job proposed
abbrev pub AdmittedIsAccepted : Type 0
AdmittedIsAccepted = (h : Header) → IsHeaderInLimits h → (admitted h ≡ Ok (header_digraph h)) ↔ IsAcceptedOrProposed h.purpose (header_deal h (header_digraph h))
