use Rattle.audit_command.proofs.Whole as whole
use Rattle.audit_command.proofs.read_is_whole.Goals as goal

pub returns : goal.returns
returns c = whole.text_is_whole
