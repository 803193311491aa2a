use Rattle.std.proofs.Common.{◌∷◌, [], ◌++◌, ◌-◌, ◌∙◌, List, ℕ, length, ap, subst}
use Rattle.wallet_journal.specs.Device.{written, Torn}
use Rattle.wallet_journal.specs.Held.{Leaves, visible_bytes}
use Rattle.wallet_journal.specs.Memory.{DiskState}
use Rattle.wallet_journal.proofs.Holds.{among, append_items, put_written, put_left, elapses_to}
use Rattle.wallet_journal.proofs.memory.MemoryDiskDisk.write_at.Goals as goal

pub returns-then-next-clause-among : goal.returns-then-next-clause-among
returns-then-next-clause-among c =
    among c.put.new.self (append_items c.self.inside.contents c.put.new.self c.args.at c.args.bytes.now (c.self.inside.contents.spare - 1) c.put.ensures
    c.self.invariant c.requires.range)

pub returns-then-next-clause-crash : goal.returns-then-next-clause-crash
returns-then-next-clause-crash c e left =
    subst (λ (d : DiskState). (x : List ℕ) × Leaves d.held x × Torn c.args.at (length c.args.bytes.now) x e) c.self.view_is
    (put_left c.self.inside.contents c.put.new.self c.args.at c.args.bytes.now (c.self.inside.contents.spare - 1) c.put.ensures e left)

pub returns-then-next-clause-time : goal.returns-then-next-clause-time
returns-then-next-clause-time c =
    elapses_to c.args.self.now.past c.and-self-inside.result.items c.args.self.now.held c.put.new.self
    (c.and-self-inside.ensures ∙ ap (λ (d : DiskState). d.past ++ d.held ∷ []) c.self.view_is)

pub returns-clause-written : goal.returns-clause-written
returns-clause-written c =
    put_written c.self.inside.contents c.put.new.self c.args.at c.args.bytes.now (c.self.inside.contents.spare - 1) c.put.ensures
    ∙ ap (λ (d : DiskState). written (visible_bytes d.held) c.args.at c.args.bytes.now) c.self.view_is

pub returns-clause-among : goal.returns-clause-among
returns-clause-among c =
    among c.put.new.self (append_items c.self.inside.contents c.put.new.self c.args.at c.args.bytes.now (c.self.inside.contents.spare - 1) c.put.ensures
    c.self.invariant c.requires.range)

pub returns-clause-crash : goal.returns-clause-crash
returns-clause-crash c e left =
    subst (λ (d : DiskState). (x : List ℕ) × Leaves d.held x × Torn c.args.at (length c.args.bytes.now) x e) c.self.view_is
    (put_left c.self.inside.contents c.put.new.self c.args.at c.args.bytes.now (c.self.inside.contents.spare - 1) c.put.ensures e left)

pub returns-clause-time : goal.returns-clause-time
returns-clause-time c =
    elapses_to c.args.self.now.past c.and-self-inside.result.items c.args.self.now.held c.put.new.self
    (c.and-self-inside.ensures ∙ ap (λ (d : DiskState). d.past ++ d.held ∷ []) c.self.view_is)
