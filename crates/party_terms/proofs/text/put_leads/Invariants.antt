use Rattle.std.proofs.Common.{◌≡◌, ◌++◌}
use Rattle.std.specs.List.{flat_map, range_with_len}
use Rattle.party_terms.specs.Text.{leads_line}
use Rattle.party_terms.proofs.text.put_leads.Given as goal

abbrev pub invariant-locks : goal.invariant-locks
invariant-locks l = l.out.items ≡ l.initial.out.items ++ flat_map (leads_line l.deal l.party) (range_with_len 0 l.lock)
