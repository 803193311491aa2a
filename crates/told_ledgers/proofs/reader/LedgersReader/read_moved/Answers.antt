use Rattle.std.proofs.Common.{sym, subst}
use Rattle.told_ledgers.specs.Inside.{IsStageForParty}
use Rattle.told_ledgers.proofs.Kept.{heard_of}
use Rattle.told_ledgers.proofs.reader.LedgersReader.read_moved.Goals as goal

pub apply_heard-requires-clause-of : goal.apply_heard-requires-clause-of
apply_heard-requires-clause-of c =
    rw c.in_ok-heard.ensures.exact
    (heard_of c.self.inside.deal c.self.inside.me c.saturating_sub-number.result c.in-Reading.one c.args.kind c.args.line.now
    (subst (IsStageForParty c.self.inside.deal c.self.inside.me) (sym c.in-Reading.ensures.value) c.self.invariant.stage))
