use Rattle.std.proofs.Common.{append_assoc}
use Rattle.command_input.specs.Line.{reason_text}
use Rattle.command_input.proofs.line.put_wallet.Goals as goal

pub returns : goal.returns
unfolding reason_text
returns c = rw (← append_assoc c.args.out.now.items _ _, ← c.in_ok-put_party.ensures) c.put.ensures
