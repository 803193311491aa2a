use Rattle.audit_command.proofs.Back as back
use Rattle.audit_command.proofs.whole_is_read.Goals as goal

pub returns : goal.returns
returns c = back.whole_text_is_read
