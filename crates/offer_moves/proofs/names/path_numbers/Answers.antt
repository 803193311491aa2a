use Rattle.offer_moves.specs.Names.{party_of_name}
use Rattle.offer_moves.proofs.Lists.{starts}
use Rattle.offer_moves.proofs.names.path_numbers.Goals as goal

pub loop-name-init : goal.loop-name-init
loop-name-init c = rw c.new-numbers.ensures.items (starts (party_of_name c.args.line c.args.names.now) c.args.path.now)
