use Rattle.swap_rules.proofs.Accepted.{accepted_is_well_sized}
use Rattle.swap_auditor.proofs.Replays.{units_add_up}
use Rattle.swap_auditor.proofs.auditing.audit_book.Goals as goal

pub replay_book-requires-clause-sized : goal.replay_book-requires-clause-sized
replay_book-requires-clause-sized c = accepted_is_well_sized c.args.deal.now c.requires.accepted

pub build_report-requires-clause-sized : goal.build_report-requires-clause-sized
build_report-requires-clause-sized c = accepted_is_well_sized c.args.deal.now c.requires.accepted

pub returns-clause-units : goal.returns-clause-units
returns-clause-units c = units_add_up c.args.deal.now c.args.book.now.histories c.in_ok-replay_book.ensures.legal
