use Rattle.std.proofs.Common.{inl}
use Rattle.std.proofs.KnownBytes.{Keeps-refl}
use Rattle.swap_commands.proofs.Acting.{have_roles}
use Rattle.swap_commands.proofs.Raced.{have_seeds}
use Rattle.swap_commands.proofs.Replays.{wallets_fit}
use Rattle.swap_commands.proofs.Saying.{says_race}
use Rattle.swap_commands.proofs.racing.race.Goals as goal

pub race_fitting-requires-clause-seeds : goal.race_fitting-requires-clause-seeds
race_fitting-requires-clause-seeds g c = λ κs lives. have_seeds c.args.prepared.job c.requires.can.whole c.requires.can.fit

pub race_fitting-requires-clause-roles : goal.race_fitting-requires-clause-roles
race_fitting-requires-clause-roles g c = λ κs lives. have_roles c.args.prepared.job c.requires.can.whole c.requires.can.scripts

pub race_fitting-requires-clause-fit : goal.race_fitting-requires-clause-fit
race_fitting-requires-clause-fit g c = λ κs lives. wallets_fit c.args.prepared.job c.requires.can.fit

pub returns-in-Ok : goal.returns-in-Ok
returns-in-Ok g c = λ left left' n m e.
    says_race _ _ c.args.order.ticks c.args.order.transcript left left' n m _ _ _ _ c.args.prepared.job c.in-Ok.book.histories c.write_report_or_transcript.result e c.requires.can.accepted
    c.requires.can.purpose c.in-Ok.ensures c.write_report_or_transcript.ensures

pub returns : goal.returns
returns g c = λ left left' n m e. inl (Keeps-refl (g.K.Sink.taken c.args.sink.now), (e.input, e.within, e.taken))
