use Rattle.std.proofs.Common.{◌<◌, refl}
use Rattle.swap_rules.proofs.Accepted.{accepted_is_well_sized}
use Rattle.swap_world.specs.Cast.{job_cast}
use Rattle.party_threads.specs.Race.{needed_rounds}
use Rattle.party_threads.specs.Standing.{race_state}
use Rattle.party_threads.proofs.Running.{no_rounds, one_round_more, room_left}
use Rattle.party_threads.proofs.rounds.run_rounds.Goals as goal

pub rounds-init : goal.rounds-init
rounds-init g c = record {
  stands = c.requires.stands;
  raced =
      no_rounds (g.A.Strategies.gives c.args.setting.now.hooks.strategies.now) (job_cast c.args.setting.now.job.now) c.args.setting.now.ticks 0
      (race_state c.args.setting.now.job.now c.args.ledgers.now c.args.turns.now)
      refl c.requires.first;
}

pub needed_rounds-number-end-requires-clause-sized : goal.needed_rounds-number-end-requires-clause-sized
needed_rounds-number-end-requires-clause-sized g c = accepted_is_well_sized c.args.setting.now.job.now.deal c.requires.stands.cast.accepted

pub round-requires-clause-room : goal.round-requires-clause-room
round-requires-clause-room g c = λ κs lives.
    let setting = c.args.setting.now in
    let job = setting.job.now in
    let l : c.rounds.number < needed_rounds job.deal setting.ticks = rw (← c.needed_rounds-number-end.ensures) c.rounds-test.true in
    room_left (g.A.Strategies.gives setting.hooks.strategies.now) (job_cast job) setting.ticks c.rounds.number (race_state job c.rounds.ledgers c.rounds.turns)
    c.rounds.invariant.stands.cast c.requires.some c.requires.below l c.rounds.invariant.raced

pub rounds-preserved : goal.rounds-preserved
rounds-preserved g c = record {
  stands = c.in_ok-round.ensures.stands;
  raced =
      one_round_more (g.A.Strategies.gives c.args.setting.now.hooks.strategies.now) (job_cast c.args.setting.now.job.now) c.args.setting.now.ticks c.rounds.number
      (race_state c.args.setting.now.job.now c.rounds.ledgers c.rounds.turns)
      (race_state c.args.setting.now.job.now c.round.new.ledgers c.round.new.turns) c.rounds.invariant.raced c.in_ok-round.ensures.round;
}
