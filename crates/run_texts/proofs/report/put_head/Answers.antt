use Rattle.run_texts.specs.Report.{head_lines}
use Rattle.run_texts.proofs.report.put_head.Goals as goal

pub returns : goal.returns
unfolding head_lines
returns c = rw (← c.mode_text-mode.ensures) c.put.ensures
