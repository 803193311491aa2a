use Rattle.std.proofs.Common.{◌≡◌, ◌++◌, drop}
use Rattle.swap_base.specs.Text.{lines}
use Rattle.party_judge.specs.Json.{json_byte}
use Rattle.party_judge.proofs.json.put_text.Given as goal

abbrev pub invariant-loop-byte : goal.invariant-loop-byte
invariant-loop-byte l = l.out.items ++ lines json_byte l.byte-index (drop l.byte-index l.text) ≡ l.fn.out.items ++ lines json_byte 0 l.text
