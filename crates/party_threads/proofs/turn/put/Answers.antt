use Rattle.std.proofs.Common.{Some, refl}
use Rattle.party_threads.proofs.Placing.{put_at}
use Rattle.party_threads.proofs.turn.put.Goals as goal

pub returns : goal.returns
returns c =
    put_at c.args.turns.now c.args.v c.args.arc (Some c.args.pass) (Some c.args.pass) c.index-turns-v.result _ c.requires.actor c.requires.place refl refl
    refl refl
