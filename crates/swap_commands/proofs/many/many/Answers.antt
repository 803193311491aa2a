use Rattle.swap_commands.specs.Words.{Many}
use Rattle.swap_commands.proofs.ManySaying.{last_same, says_many}
use Rattle.swap_commands.proofs.ManyWorlds.{chains_shown, worlds_shown}
use Rattle.swap_commands.proofs.Saying.{says_short, says_stopped}
use Rattle.swap_commands.proofs.many.many.Goals as goal

pub returns-in-Err : goal.returns-in-Err
returns-in-Err g c =
    rw c.unread.ensures
    (says_stopped (g.A.Strategies.holds c.args.strategies.now) (g.A.Strategies.gives c.args.strategies.now) Many (g.S.Source.left c.args.source.now)
    (g.S.Source.left c.play.new.source) (g.S.Source.left c.stop.new.source)
    (g.S.Source.faults c.args.source.now) (g.S.Source.faults c.play.new.source) (g.S.Source.faults c.stop.new.source) c.play.new.input
    c.stop.new.self (g.K.Sink.taken c.args.sink.now) (g.K.Sink.faults c.args.sink.now) c.in-Err.fault c.stop.result c.in-Err.ensures.reads c.stop.ensures)

pub write_played_swaps-requires-clause-shown : goal.write_played_swaps-requires-clause-shown
write_played_swaps-requires-clause-shown g c =
    let e = c.in-Ok.ensures.reads in
    let k = e.told in
    let same = last_same _ _ e.bytes c.in-Ok.played.many c.in-Ok.played.finish c.in-Ok.played.world c.in-Ok-conclude.world k c.in-Ok-conclude.ensures in
    worlds_shown _ c.in-Ok.played.many k.begun.places c.in-Ok.ensures.swaps c.in-Ok.ensures.chains c.in-Ok-conclude.world same

pub write_played_swaps-requires-clause-chains : goal.write_played_swaps-requires-clause-chains
write_played_swaps-requires-clause-chains g c =
    let e = c.in-Ok.ensures.reads in
    let k = e.told in
    let same = last_same _ _ e.bytes c.in-Ok.played.many c.in-Ok.played.finish c.in-Ok.played.world c.in-Ok-conclude.world k c.in-Ok-conclude.ensures in
    chains_shown _ c.in-Ok.played.many k.begun.places c.in-Ok.ensures.swaps c.in-Ok.ensures.chains c.in-Ok-conclude.world same

pub returns-in_default : goal.returns-in_default
returns-in_default g c = says_short _ _ _ _ _ _ _ _ _ _ c.play.new.input c.in-Ok.ensures.reads

pub returns : goal.returns
returns g c =
    says_many _ _ _ _ _ _ _ _ _ _ c.play.new.input c.in-Ok.played.many c.in-Ok.played.finish c.in-Ok.played.world c.in-Ok-conclude.world c.write_played_swaps.result
    c.in-Ok.ensures.reads c.in-Ok.ensures.swaps c.in-Ok-conclude.ensures c.write_played_swaps.ensures
