use Rattle.std.proofs.Common.{refl, sym}
use Rattle.hash_chains.specs.Lanes.{lane}
use Rattle.hash_chains.proofs.Lanes.{lane-at}
use Rattle.sha2.proofs.Schedule256.{rounds_first}
use Rattle.hash_chains.proofs.rounds.first_step.Goals as goal

pub returns : goal.returns
returns c = λ j lt b h window held.
    rounds_first b h (lane c.args.w.now j) (lane c.args.v j) c.args.t _ _ _ c.requires window held refl (sym (lane-at c.args.w.now j c.args.t))
    (c.round.ensures j lt)
