use Rattle.std.proofs.Common.{◌≡◌, ◌≤◌, ◌-◌, [], ℕ, List}
use Rattle.swap_io.specs.Lines.{TookFromSource}
use Rattle.swap_io.proofs.lines.Lines.drain.Given as goal

abbrev pub invariant-rest : goal.invariant-rest
invariant-rest g l = record {
  read : (bytes : List ℕ) × TookFromSource (g.S.Source.left l.fn.source) (g.S.Source.left l.source) l.fn.self l.self bytes;
  kept : l.self.kept ≡ [];
  within : l.self.taken ≤ l.self.limit;
  later : g.S.Source.faults l.fn.source ≤ g.S.Source.faults l.source;
  calm : g.S.Source.faults l.source ≡ g.S.Source.faults l.fn.source;
}

abbrev pub decreases-rest : goal.decreases-rest
decreases-rest g l = l.self.limit - l.self.taken
