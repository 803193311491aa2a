use Rattle.std.proofs.Common.{◌∙◌}
use Rattle.history_index.proofs.Bounds.{in_range}
use Rattle.history_index.proofs.index.Index.calls.Goals as goal

pub returns-clause-in_range : goal.returns-clause-in_range
returns-clause-in_range c = λ k lt. in_range c.args.by c.args.self.now.entries c.deref.result.now k (c.deref.ensures.value ∙ c.caller.ensures.calls.numbers) lt
