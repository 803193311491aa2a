use Rattle.std.proofs.Common.{rules}
use Rattle.history_index.specs.Indexes.{all_entries}
use Rattle.conduct_check.proofs.Base.{seen_some}
use Rattle.conduct_check.proofs.froms.has_key.Goals as goal

pub returns-else-is_some : goal.returns-else-is_some
returns-else-is_some c = rw (seen_some c.args.deal.now (all_entries c.args.known.now) c.args.party c.args.lock) (search rules)
