-- A header has few parties and arcs, whatever its version.
use Rattle.std.proofs.Common.{◌≤◌, length, arith}
use Rattle.swap_digraph.specs.Deal.{most_arcs, most_parties}
use Rattle.swap_digraph.specs.declared.deal.Version.{Version}
use Rattle.swap_digraph.specs.declared.deal.Version.TheVariants.{One, Two}
use Rattle.offer_header.specs.Header.{IsHeaderInLimits}
use Rattle.offer_header.specs.declared.header.Header.{Header}

count_parties : (v : Version) → most_parties v ≤ 32
count_parties One = omega arith
count_parties Two = omega arith

listed_arcs : (v : Version) → most_arcs v ≤ 128
listed_arcs One = omega arith
listed_arcs Two = omega arith

pub few_names : (h : Header) → IsHeaderInLimits h → length h.names ≤ 32
few_names h k = let few = k.parties.1 in let most = count_parties h.version in omega (arith, few, most)

pub few_arcs : (h : Header) → IsHeaderInLimits h → length h.arcs ≤ 128
few_arcs h k = let few = k.arcs.1 in let most = listed_arcs h.version in omega (arith, few, most)
