use Rattle.std.proofs.Common.{sym, ◌∙◌}
use Rattle.std.proofs.lemmas.Result.{err_from_is_err_and}
use Rattle.command_input.specs.Input.{desk}
use Rattle.swap_commands.proofs.ManySaying.{events_stop, heading_stops, is_played}
use Rattle.swap_commands.proofs.many.play.Goals as goal

pub run_events-requires-clause-fits : goal.run_events-requires-clause-fits
run_events-requires-clause-fits g c = c.in_ok-heading.ensures.reads.stands.fits

pub returns-in_err-heading-clause-reads : goal.returns-in_err-heading-clause-reads
returns-in_err-heading-clause-reads g c =
    let mid = desk (g.S.Source.left c.read_heading.new.source) (g.S.Source.faults c.read_heading.new.source) c.read_heading.new.input in
    let p = err_from_is_err_and c.from_residual.result c.from_residual.ensures.1 in
    rw (p.1, p.2)
    (heading_stops _ (g.S.Source.left c.args.source.now) (g.S.Source.faults c.args.source.now) mid c.in_err-heading.field-0.0
    c.in_err-heading.ensures.reads)

pub returns-in-Ok-clause-reads : goal.returns-in-Ok-clause-reads
returns-in-Ok-clause-reads g c =
    is_played _ _ _ _ _ c.in_ok-heading.heading c.in_ok-heading.ensures.reads _ _ c.in-Ok.world c.unwrap-finish.result c.into_parts-many.ensures.many
    (sym c.finish.ensures ∙ c.unwrap-finish.ensures) c.in-Ok.ensures.reads

pub returns-in-Err-clause-reads : goal.returns-in-Err-clause-reads
returns-in-Err-clause-reads g c =
    let now = desk (g.S.Source.left c.run_events.new.source) (g.S.Source.faults c.run_events.new.source) c.run_events.new.input in
    events_stop _ _ _ _ now c.in_ok-heading.heading c.in_ok-heading.ensures.reads _ c.in-Err.fault c.into_parts-many.ensures.many c.in-Err.ensures.reads
