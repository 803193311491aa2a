use Rattle.std.proofs.Common.{◌≡◌, ◌++◌, map}
use Rattle.offer_header.proofs.names.kept_names.Given as goal

abbrev pub invariant-loop-name : goal.invariant-loop-name
invariant-loop-name l = l.list.items ++ map (λ k. k.now) l.name-iterator ≡ map (λ k. k.now) l.names.keys
