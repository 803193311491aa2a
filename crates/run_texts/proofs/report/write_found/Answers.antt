use Rattle.run_texts.proofs.report.write_found.Goals as goal

pub returns : goal.returns
returns g c = rw (c.as_slice.ensures, c.as_slice-2.ensures) at c.write_findings.ensures
