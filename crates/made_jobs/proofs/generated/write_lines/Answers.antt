use Rattle.std.proofs.Common.{Err, ap, arith, ◌∙◌}
use Rattle.std.proofs.lemmas.Result.{err_from_is_err_and}
use Rattle.swap_gen.specs.Drawn.{generated}
use Rattle.swap_io.proofs.Handing.{hands_err}
use Rattle.swap_io.specs.declared.fault.TextFault.TheVariants.{NoMemory}
use Rattle.made_jobs.specs.Generating.{generated_text}
use Rattle.made_jobs.specs.Making.{written_line}
use Rattle.made_jobs.proofs.Drawing.{at_start}
use Rattle.made_jobs.proofs.Handed.{all_lost, hands_then, text_is}
use Rattle.made_jobs.proofs.generated.write_lines.Goals as goal

pub returns-in_err-generator-clause-hands : goal.returns-in_err-generator-clause-hands
returns-in_err-generator-clause-hands g c =
    let p = err_from_is_err_and c.from_residual.result c.from_residual.ensures.1 in
    let text = generated_text c.args.seed c.args.parties c.args.events in
    hands_err NoMemory _ _ _ _ _ _ _ _ (p.1 ∙ ap Err p.2) (all_lost _ c.args.out.now.items text) (omega arith) (λ is. absurd (cc is))

pub write_events-requires : goal.write_events-requires
write_events-requires g c =
    let b = c.in_ok-generator in
    at_start c.args.seed c.args.parties c.args.events b.field-0.generator b.ensures.generator

pub returns-clause-hands : goal.returns-clause-hands
returns-clause-hands g c =
    let b = c.in_ok-generator in
    hands_then _ _ _ _ _ _ _ (written_line (generated c.args.seed c.args.parties)) _ _ c.write_events.result b.ensures.line
    (text_is c.args.seed c.args.parties c.args.events c.as_slice.result.now (c.as_slice.ensures ∙ b.ensures.names))
    (rw b.ensures.generator at c.write_events.ensures.hands)
