use Rattle.std.proofs.Common.{◌∙◌, inl, ap, subst}
use Rattle.wallet_journal.specs.Held.{Leaves, visible_bytes}
use Rattle.wallet_journal.specs.Layout.{recorded}
use Rattle.wallet_journal.specs.Memory.{DiskState}
use Rattle.wallet_journal.proofs.First.{none_recorded, none_own, none_signed}
use Rattle.wallet_journal.proofs.journal.Journal+MemoryDisk.in_memory.Goals as goal

pub returns-in-Ok-clause-none : goal.returns-in-Ok-clause-none
returns-in-Ok-clause-none c =
    let is = c.in-Ok.ensures.opened.3 in
    none_signed c.in-Ok.journal.signed _ is.locks
    (λ i lt. is.shown i lt ∙ ap (λ (d : DiskState). recorded (visible_bytes d.held) i) c.new-disk.ensures.value ∙ none_recorded i)

pub returns-in-Ok-clause-own : goal.returns-in-Ok-clause-own
returns-in-Ok-clause-own c = record {
  never = c.in-Ok.ensures.never (
    ap (λ (d : DiskState). d.failing) c.new-disk.ensures.value ∙ c.new.ensures.items,
    ap (λ (d : DiskState). d.left) c.new-disk.ensures.value,
  );
  own = λ e left. (c.in-Ok.ensures.own (λ f may.
      none_own c.args.deal.now c.args.me f (subst (λ (d : DiskState). Leaves d.held f) c.new-disk.ensures.value may))).each e (inl left);
}
