use Rattle.std.proofs.Common.{◌≡◌, ◌<◌, ◌^◌, ◌∷◌, ◌++◌, length, decimal}
use Rattle.offer_events.proofs.plain.scan_number.Given as goal

abbrev pub invariant-loop-rest : goal.invariant-loop-rest
invariant-loop-rest l = record { same : l.first ∷ l.fn.text ≡ decimal l.value ++ l.rest; some : 0 < l.value; small : l.value < 10 ^ 19 }

abbrev pub decreases-loop-rest : goal.decreases-loop-rest
decreases-loop-rest l = length l.rest
