use Rattle.std.proofs.Common.{◌≡◌, ◌++◌, drop}
use Rattle.swap_base.specs.Text.{lines}
use Rattle.run_texts.specs.Texts.{signature_words}
use Rattle.run_texts.proofs.words.put_further_signatures.Given as goal

abbrev pub invariant-loop-sig : goal.invariant-loop-sig
invariant-loop-sig l = l.out.items ++ lines signature_words l.sig-index (drop l.sig-index l.sigs) ≡ l.fn.out.items ++ lines signature_words 0 l.sigs
