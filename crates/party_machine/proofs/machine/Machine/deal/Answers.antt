use Rattle.party_machine.proofs.MachineEntries.{is_good}
use Rattle.party_machine.proofs.machine.Machine.deal.Goals as goal

pub returns-clause-wallet : goal.returns-clause-wallet
returns-clause-wallet c = is_good c.self.inside c.args.self.now c.self.view_is c.self.invariant
