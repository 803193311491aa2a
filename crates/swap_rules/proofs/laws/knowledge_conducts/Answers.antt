use Rattle.swap_rules.proofs.Machines as lemmas
use Rattle.swap_rules.proofs.Room as room
use Rattle.swap_rules.proofs.laws.knowledge_conducts.Goals as goal

pub returns-clause-conducts : goal.returns-clause-conducts
returns-clause-conducts c = lemmas.knowledge_conducts

pub returns-clause-learns : goal.returns-clause-learns
returns-clause-learns c = lemmas.learn_sound

pub returns-clause-calls : goal.returns-clause-calls
returns-clause-calls c = lemmas.call_sound

pub returns-clause-room : goal.returns-clause-room
returns-clause-room c = room.rules_leave_room
