use Rattle.swap_commands.proofs.Summaries.{is_summary}
use Rattle.swap_commands.proofs.generating.write_summary.Goals as goal

pub returns-in-Ok-clause-promised : goal.returns-in-Ok-clause-promised
returns-in-Ok-clause-promised g c =
    λ made. is_summary c.args.request c.requires.low c.requires.high c.in-Ok.ensures.kept c.in-Ok.ensures.ended
