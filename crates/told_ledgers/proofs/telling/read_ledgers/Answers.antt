use Rattle.std.proofs.Common.{◌∙◌}
use Rattle.told_ledgers.proofs.Ledgers.{deal_stays, told_more}
use Rattle.told_ledgers.proofs.telling.read_ledgers.Goals as goal

pub lines-preserved : goal.lines-preserved
lines-preserved c =
    let line = c.in-Some.line.now in
    let new = c.push_line.new.reader in
    let next =
    told_more c.lines.number c.lines.reader line c.lines.lines c.next.new.self _ c.in-Some.ensures c.lines.invariant.so_far new c.in-Ok.ensures in record {
      so_far = rw c.saturating_add-number.ensures next;
      deal = deal_stays c.lines.number c.lines.reader new line c.in-Ok.ensures ∙ c.lines.invariant.deal;
    }
