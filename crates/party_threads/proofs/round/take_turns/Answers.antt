use denote.Param.Send.{sendable}
use Rattle.party_threads.proofs.Crossing.{turn}
use Rattle.party_threads.proofs.round.take_turns.Goals as goal

pub for_each_mut-requires-send-T : goal.for_each_mut-requires-send-T
for_each_mut-requires-send-T g c = λ κs lives. search (turn, sendable) depth 20
