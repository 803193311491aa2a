use Rattle.std.proofs.Common.{◌∷◌, [], ◌++◌, ◌∙◌, ap, subst}
use Rattle.wallet_journal.specs.Held.{Leaves, visible_bytes}
use Rattle.wallet_journal.specs.Memory.{DiskState}
use Rattle.wallet_journal.proofs.Holds.{among, settled_bytes, settled_only, settled_left, elapses_to}
use Rattle.wallet_journal.proofs.memory.MemoryDiskDisk.sync.Goals as goal

pub returns-then-next-clause-among : goal.returns-then-next-clause-among
returns-then-next-clause-among c = among c.self.inside.contents c.self.invariant

pub returns-clause-durable : goal.returns-clause-durable
returns-clause-durable c e left =
    settled_only c.self.inside.contents c.settle.new.self c.settle.ensures e left ∙ ap (λ (d : DiskState). visible_bytes d.held) c.self.view_is

pub returns-clause-seen : goal.returns-clause-seen
returns-clause-seen c = settled_bytes c.self.inside.contents c.settle.new.self c.settle.ensures ∙ ap (λ (d : DiskState). visible_bytes d.held) c.self.view_is

pub returns-clause-crash : goal.returns-clause-crash
returns-clause-crash c e left =
    subst (λ (d : DiskState). Leaves d.held e) c.self.view_is (settled_left c.self.inside.contents c.settle.new.self c.settle.ensures c.self.invariant e left)

pub returns-clause-time : goal.returns-clause-time
returns-clause-time c =
    elapses_to c.args.self.now.past c.and-self-inside.result.items c.args.self.now.held c.settle.new.self
    (c.and-self-inside.ensures ∙ ap (λ (d : DiskState). d.past ++ d.held ∷ []) c.self.view_is)
