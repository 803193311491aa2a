use Rattle.std.proofs.Common.{ap}
use Rattle.told_ledgers.specs.Inside.{inside_telling}
use Rattle.told_ledgers.proofs.Taken.{none_taken, taken_of}
use Rattle.told_ledgers.proofs.reader.LedgersReader.take.Goals.{in-Reading, in_default}
use Rattle.told_ledgers.proofs.reader.LedgersReader.take.Goals as goal

pub returns-clause-taken : goal.returns-clause-taken
returns-clause-taken c =
    let result = c.match-self.result in
    let old = inside_telling c.self.inside in
    let new = inside_telling c.match-self.self-inside in
    rw (← c.self.view_is)
    (elim c.match-self.branch [
      | in-Reading w ↦
          taken_of c.args.kind c.args.line.now w.in-Reading.one w.take.new.self old new w.take.result result w.result-is w.take.ensures.taken
          (ap inside_telling w.self-inside-is) w.in-Reading.is
      | in_default w ↦ none_taken result _ w.result-is
    ])
