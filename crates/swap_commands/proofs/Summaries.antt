-- What a summary promises.
use Rattle.std.proofs.Common.{◌≤◌, false, refl}
use Rattle.swap_rules.specs.Outcome.{IsEnded}
use Rattle.swap_run.specs.Laws.{IsKept}
use Rattle.swap_world.specs.Cast.{job_cast}
use Rattle.swap_gen.specs.Drawn.{generated}
use Rattle.swap_gen.proofs.Generated.{generated_is_accepted}
use Rattle.made_jobs.specs.Generating.{generated_book}
use Rattle.swap_commands.specs.Generated.{summary_output, IsSummary}
use Rattle.program_words.specs.declared.task.Request.{Request}
use Rattle.swap_commands.proofs.Promises.{is_promised}

pub is_summary : (r : Request) → 2 ≤ r.parties → r.parties ≤ 24 → IsKept (job_cast (generated r.seed r.parties)) (generated_book r.seed r.parties r.events)
    → IsEnded (generated r.seed r.parties).deal (generated_book r.seed r.parties r.events)
    → IsSummary (generated r.seed r.parties) (generated_book r.seed r.parties r.events) r (summary_output r)
is_summary r few many kept ended = record {
  shown = refl;
  promised = is_promised (λ name. false) (generated r.seed r.parties) (generated_book r.seed r.parties r.events)
      (generated_is_accepted r.seed r.parties few many) kept;
  ended = ended;
}
