use Rattle.std.proofs.Common.{refl}
use Rattle.command_input.proofs.Statuses.{status_writes}
use Rattle.swap_commands.specs.Generated.{text_output}
use Rattle.swap_commands.proofs.generating.write_job.Goals as goal

pub returns : goal.returns
returns g c =
    let w = c.write_generated-written.ensures in
    status_writes _ _ _ _ (text_output c.args.request) c.write_generated-written.result _ c.written_status.result c.written_status.ensures refl
    w.all w.write_fault w.no_memory w.failed
