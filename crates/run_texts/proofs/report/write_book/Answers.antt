use Rattle.run_texts.proofs.report.write_book.Goals as goal

pub returns : goal.returns
returns g c = rw c.as_slice.ensures at c.write_ledgers.ensures
