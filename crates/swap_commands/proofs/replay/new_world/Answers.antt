use Rattle.swap_commands.proofs.Acting.{have_roles}
use Rattle.swap_commands.proofs.Replays.{wallets_fit}
use Rattle.swap_commands.proofs.replay.new_world.Goals as goal

pub fitting-requires-clause-roles : goal.fitting-requires-clause-roles
fitting-requires-clause-roles c = have_roles c.args.job.now c.requires.whole c.requires.scripts

pub fitting-requires-clause-fit : goal.fitting-requires-clause-fit
fitting-requires-clause-fit c = wallets_fit c.args.job.now c.requires.wallets
