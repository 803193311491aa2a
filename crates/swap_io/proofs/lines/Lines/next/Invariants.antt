use Rattle.std.proofs.Common.{◌≡◌, ◌≤◌, ◌+◌, ◌-◌, ◌++◌, length, ℕ, List, IsTrue}
use Rattle.swap_io.specs.Lines.{TookFromSource, lacks_feed}
use Rattle.swap_io.proofs.lines.Lines.next.Given as goal

abbrev pub invariant-parts : goal.invariant-parts
invariant-parts g l = record {
  read : (bytes : List ℕ) × TookFromSource (g.S.Source.left l.fn.source) (g.S.Source.left l.source) l.fn.self l.self bytes
      × (l.fn.self.kept ++ bytes ≡ l.line.items ++ l.self.kept);
  one : IsTrue (lacks_feed l.line.items);
  no_more : length l.self.kept + l.fn.self.taken ≤ length l.fn.self.kept + l.self.taken;
  few : length l.self.kept ≤ 8192;
  within : l.self.taken ≤ l.self.limit;
  later : g.S.Source.faults l.fn.source ≤ g.S.Source.faults l.source;
  calm : g.S.Source.faults l.source ≡ g.S.Source.faults l.fn.source;
}

abbrev pub decreases-parts : goal.decreases-parts
decreases-parts g l = l.self.limit - l.self.taken
