use Rattle.leader_check.proofs.Passes.{one_bit}
use Rattle.leader_check.proofs.cycle.party_bit.Goals as goal

pub returns-then-follows : goal.returns-then-follows
returns-then-follows c w = rw c.if-follows.true (one_bit c.args.v w c.requires)
