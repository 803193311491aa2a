use Rattle.std.proofs.Common.{subst}
use Rattle.wallet_journal.specs.Held.{Leaves, visible_bytes}
use Rattle.wallet_journal.specs.Memory.{DiskState}
use Rattle.wallet_journal.proofs.Holds.{among}
use Rattle.wallet_journal.proofs.memory.MemoryDisk.as_read.Goals as goal

pub returns-clause-among : goal.returns-clause-among
returns-clause-among c = subst (λ (d : DiskState). Leaves d.held (visible_bytes d.held)) c.self.view_is (among c.self.inside.contents c.self.invariant)
