use Rattle.wallet_journal.proofs.Holds.{sized, among, same_on}
use Rattle.wallet_journal.proofs.memory.MemoryDiskDisk.ready.Goals as goal

pub returns-clause-sized : goal.returns-clause-sized
returns-clause-sized c =
    sized c.reserve.new.self (same_on c.self.inside.contents c.reserve.new.self c.reserve.ensures.same.0 c.reserve.ensures.same.1 c.self.invariant)

pub returns-clause-among : goal.returns-clause-among
returns-clause-among c =
    among c.reserve.new.self (same_on c.self.inside.contents c.reserve.new.self c.reserve.ensures.same.0 c.reserve.ensures.same.1 c.self.invariant)
