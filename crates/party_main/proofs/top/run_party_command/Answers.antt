use Rattle.std.proofs.Common.{◌≤◌, length, arith}
use Rattle.party_main.specs.Words.{command_input_limit}
use Rattle.party_main.proofs.Saying.{says_text}
use Rattle.party_main.proofs.top.run_party_command.Goals as goal

pub returns-in-Ok-party_output : goal.returns-in-Ok-party_output
returns-in-Ok-party_output g c words asked =
    let within : length c.in-Ok.input.items ≤ command_input_limit c.args.command.now = omega (arith, c.in-Ok.ensures.within, c.deref.ensures.len, c.command_input_limit.ensures) in
    says_text words c.args.command.now asked c.in-Ok.input.items _ _ c.in-Ok.ensures.all c.in-Ok.ensures.end within (g.S.Source.faults c.args.source.now)
    (g.S.Source.faults c.read_all.new.source) _ _ _ _ c.in-Ok-party_output.what (rw c.deref.ensures.value at c.in-Ok-party_output.ensures.exact)
    (rw c.deref.ensures.value at c.in-Ok-party_output.ensures.promised) c.write_text.result c.write_text.ensures
