use Rattle.std.proofs.Common.{rules}
use Rattle.hashkey_path.specs.Hashkey.{hashkey_answer}
use Rattle.hashkey_path.proofs.Validity.{answers_valid}
use Rattle.hashkey_path.proofs.checking.check.Goals as goal

pub returns-clause-valid : goal.returns-clause-valid
unfolding hashkey_answer
returns-clause-valid c = answers_valid c.args.deal.now c.args.arc c.args.hashlock.now c.args.key.now c.path_answer.result (search rules)
