use Rattle.run_texts.proofs.transcript.put_head.Goals as goal

pub returns : goal.returns
returns c = rw (← c.in_ok-header.ensures, ← c.as_slice.ensures) c.put.ensures
