use Rattle.std.proofs.Common.{◌≡◌, drop}
use Rattle.offer_moves.specs.Lists.{collected_results}
use Rattle.offer_moves.specs.Names.{party_of_name}
use Rattle.offer_moves.proofs.Lists.{with_front}
use Rattle.offer_moves.proofs.names.path_numbers.Given as goal

abbrev pub invariant-loop-name : goal.invariant-loop-name
invariant-loop-name l = with_front l.numbers.items (collected_results (party_of_name l.line l.names) (drop l.name-index l.path)) ≡ collected_results
    (party_of_name l.line l.names) l.path
