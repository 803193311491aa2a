use Rattle.std.proofs.Common.{option_map, ap, ◌∙◌}
use Rattle.swap_job.proofs.Opened.{opened_among}
use Rattle.swap_job.proofs.openings.opened_key.Goals as goal

pub returns : goal.returns
returns c =
    c.find_key.ensures ∙ ap (option_map (λ o. o.key))
    (opened_among c.args.lock c.args.list.now c.parts.result.0.now c.parts.result.1 c.parts.ensures.list)
