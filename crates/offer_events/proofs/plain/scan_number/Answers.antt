use Rattle.std.proofs.Common.{◌∙◌, arith}
use Rattle.offer_events.proofs.Scanned.{first_digit, goes_on}
use Rattle.offer_events.proofs.plain.scan_number.Goals as goal

pub loop-rest-init : goal.loop-rest-init
loop-rest-init c = record { same = first_digit c.args.first c.args.text.now (omega arith) (omega arith); some = omega arith; small = omega arith }

pub loop-rest-preserved : goal.loop-rest-preserved
loop-rest-preserved c = record {
  same = c.loop-rest.invariant.same ∙ goes_on c.loop-rest.value c.loop-rest.rest.now (omega arith) (omega arith)
      (omega arith) (omega arith) (omega arith);
  some = omega arith;
  small = omega arith;
}
