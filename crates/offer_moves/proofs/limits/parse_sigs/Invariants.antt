use Rattle.std.proofs.Common.{◌≡◌, drop}
use Rattle.offer_moves.specs.Lists.{collected_results}
use Rattle.offer_moves.specs.Limits.{parse_sig}
use Rattle.offer_moves.proofs.Lists.{with_front}
use Rattle.offer_moves.proofs.limits.parse_sigs.Given as goal

abbrev pub invariant-loop-text : goal.invariant-loop-text
invariant-loop-text l = with_front l.sigs.items (collected_results (parse_sig l.line) (drop l.text-index l.texts)) ≡ collected_results (parse_sig l.line) l.texts
