use Rattle.std.proofs.Common.{◌++◌, sym, ap, ◌∙◌, append-nil}
use Rattle.history_index.specs.Indexes.{all_entries}
use Rattle.conduct_check.specs.Sent.{shown}
use Rattle.conduct_check.proofs.OwnArcs.{no_unlocks}
use Rattle.conduct_check.proofs.keys.put_own_unlocks.Goals as goal

pub returns-else-is_adjacent : goal.returns-else-is_adjacent
returns-else-is_adjacent c =
    sym (ap (λ l. shown c.args.keys.now.items ++ l) (no_unlocks c.args.deal.now (all_entries c.args.known.now) c.args.arc c.args.party c.requires.legal
    c.requires.arc (sym c.is_adjacent.ensures ∙ c.if-is_adjacent.false))
    ∙ append-nil (shown c.args.keys.now.items))
