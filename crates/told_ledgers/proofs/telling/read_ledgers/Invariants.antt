use Rattle.std.proofs.Common.{◌≡◌, length}
use Rattle.told_ledgers.specs.Telling.{nothing_told, further_lines_told}
use Rattle.told_ledgers.proofs.telling.read_ledgers.Given as goal

abbrev pub invariant-lines : goal.invariant-lines
invariant-lines l = record {
  so_far : further_lines_told l.number l.reader l.lines ≡ further_lines_told l.first (nothing_told l.deal l.me) l.fn.lines;
  deal : l.reader.deal ≡ l.deal;
}

abbrev pub decreases-lines : goal.decreases-lines
decreases-lines l = length l.lines
