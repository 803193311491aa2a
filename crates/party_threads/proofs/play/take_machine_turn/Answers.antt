use Rattle.swap_rules.proofs.Accepted.{accepted_is_well_sized}
use Rattle.party_threads.proofs.Acting.{has_acted}
use Rattle.party_threads.proofs.Machines.{able_looked}
use Rattle.party_threads.proofs.Passes.{all_more, elsewhere_more}
use Rattle.party_threads.proofs.play.take_machine_turn.Goals as goal

pub look_round-requires-clause-sized : goal.look_round-requires-clause-sized
look_round-requires-clause-sized g c = accepted_is_well_sized c.args.machine.now.deal c.requires.seated.able.accepted

pub act_to_rest-requires : goal.act_to_rest-requires
act_to_rest-requires g c =
    let e = c.in_ok-look_round.ensures in
    record {
      seated = record {
        able =
            able_looked c.args.side.now.ledgers.now c.args.machine.now c.look_round.new.learner c.args.passes.now c.look_round.new.passes _
            c.requires.seated.able e.looked e.rest;
        watching = e.looked.watching;
      };
    }

pub returns-clause-gone_on : goal.returns-clause-gone_on
returns-clause-gone_on g c =
    all_more c.args.passes.now c.look_round.new.passes c.act_to_rest.new.passes c.look_round.ensures.gone_on c.act_to_rest.ensures.gone_on

pub returns-clause-acted : goal.returns-clause-acted
returns-clause-acted g c =
    let l = c.in_ok-look_round.ensures in
    let e = c.act_to_rest.ensures in
    has_acted c.args.side.now.ledgers.now c.args.machine.now c.act_to_rest.new.machine c.args.passes.now c.look_round.new.passes c.act_to_rest.new.passes
    c.act_to_rest.result l.looked.seen (elsewhere_more _ _ _ _ _ l.gone_on l.elsewhere e.elsewhere) e.seated e.seen e.rests
