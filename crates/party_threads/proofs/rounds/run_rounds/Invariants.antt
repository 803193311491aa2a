use Rattle.swap_world.specs.Cast.{job_cast}
use Rattle.party_threads.specs.Race.{IsRaced}
use Rattle.party_threads.specs.Standing.{StandsHome, race_state}
use Rattle.party_threads.proofs.rounds.run_rounds.Given as goal

abbrev pub invariant-rounds : goal.invariant-rounds
invariant-rounds g l = record {
  stands : StandsHome l.setting.job.now l.ledgers l.turns;
  raced : IsRaced (g.A.Strategies.gives l.setting.hooks.strategies.now) (job_cast l.setting.job.now) l.setting.ticks l.number
      (race_state l.setting.job.now l.ledgers l.turns);
}
