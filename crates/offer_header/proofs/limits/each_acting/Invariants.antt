use Rattle.std.proofs.Common.{◌≡◌, drop}
use Rattle.offer_moves.specs.Lists.{collected_results}
use Rattle.offer_moves.proofs.Lists.{with_front}
use Rattle.offer_header.specs.Limits.{parse_acting}
use Rattle.offer_header.proofs.limits.each_acting.Given as goal

abbrev pub invariant-loop-party : goal.invariant-loop-party
invariant-loop-party l = with_front l.list.items (collected_results (parse_acting l.sizes l.names l.line) (drop l.party-index l.parties))
    ≡ collected_results (parse_acting l.sizes l.names l.line) l.parties
