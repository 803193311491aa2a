use Rattle.std.proofs.Common.{◌==◌, ◌||◌, ◌∙◌, ap, Bool}
use Rattle.std.specs.Int.{bit_at}
use Rattle.leader_check.proofs.Passes.{bit_of_or}
use Rattle.swap_clear.proofs.reach.with_party_bit.Goals as goal

pub returns : goal.returns
returns c w = bit_of_or c.party_bit.result c.args.bits w ∙ ap (λ (b : Bool). b || (bit_at c.args.bits w == 1)) (c.party_bit.ensures w)
