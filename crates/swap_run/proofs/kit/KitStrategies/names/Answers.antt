use Rattle.swap_run.proofs.Naming.{all_had}
use Rattle.swap_run.proofs.kit.KitStrategies.names.Goals as goal

pub returns : goal.returns
returns g c = all_had c.args.self.now.names c.args.self.now.strategies.items c.args.self.now.paired c.copy.result c.copy.ensures
