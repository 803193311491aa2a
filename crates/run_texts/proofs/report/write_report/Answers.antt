use Rattle.swap_io.proofs.Handing.{written_part, written_short}
use Rattle.run_texts.proofs.report.write_report.Goals as goal

pub returns-clause-write_fault : goal.returns-clause-write_fault
returns-clause-write_fault g c is = written_part _ _ _ _ _ _ _ _ c.new-out.ensures.items c.hand_report.ensures.hands is

pub returns-clause-no_memory : goal.returns-clause-no_memory
returns-clause-no_memory g c is = written_short _ _ _ _ _ _ _ _ c.new-out.ensures.items c.hand_report.ensures.hands is
