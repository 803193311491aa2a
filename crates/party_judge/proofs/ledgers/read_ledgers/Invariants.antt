use Rattle.std.proofs.Common.{◌≡◌, length}
use Rattle.transcript_book.specs.Stages.{no_ledgers}
use Rattle.party_judge.specs.Ledgers.{further_lines_read}
use Rattle.party_judge.proofs.ledgers.read_ledgers.Given as goal

abbrev pub invariant-lines : goal.invariant-lines
invariant-lines l = further_lines_read l.number l.reader l.lines ≡ further_lines_read l.first (no_ledgers l.fn.job) l.fn.lines

abbrev pub decreases-lines : goal.decreases-lines
decreases-lines l = length l.lines
