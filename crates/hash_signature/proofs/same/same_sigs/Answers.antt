use Rattle.std.proofs.Common.{sym, ◌∙◌}
use Rattle.hash_signature.proofs.Bytes.{sigs_are_same}
use Rattle.hash_signature.proofs.same.same_sigs.Goals as goal

pub returns-clause-same : goal.returns-clause-same
returns-clause-same c = λ e. sigs_are_same c.args.one.now c.args.other.now (sym c.are_same.ensures ∙ e)
