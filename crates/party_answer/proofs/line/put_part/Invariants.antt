use Rattle.std.proofs.Common.{◌≡◌, ◌++◌, None, drop}
use Rattle.std.specs.List.{flat_map}
use Rattle.party_wallet.specs.Value.{signed_hashkey}
use Rattle.party_answer.specs.Lines.{call_lines}
use Rattle.party_answer.specs.Text.{line_text}
use Rattle.party_answer.proofs.line.put_part.Given as goal

abbrev pub invariant-loop-timed : goal.invariant-loop-timed
invariant-loop-timed l =
    l.initial.out.items ++ flat_map (line_text l.part l.me) (call_lines (signed_hashkey l.kept.keys) None l.calls)
    ≡ l.out.items ++ flat_map (line_text l.part l.me) (call_lines (signed_hashkey l.kept.keys) l.asked (drop l.timed-index l.calls))
