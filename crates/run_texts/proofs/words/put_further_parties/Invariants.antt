use Rattle.std.proofs.Common.{◌≡◌, ◌++◌, drop}
use Rattle.swap_base.specs.Text.{lines}
use Rattle.run_texts.specs.Texts.{party_after_comma}
use Rattle.run_texts.proofs.words.put_further_parties.Given as goal

abbrev pub invariant-loop-p : goal.invariant-loop-p
invariant-loop-p l = l.out.items ++ lines party_after_comma l.p-index (drop l.p-index l.path) ≡ l.fn.out.items ++ lines party_after_comma 0 l.path
