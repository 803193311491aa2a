use Rattle.std.proofs.Common.{◌≡◌, arith, false, length, length-append, ◌<◌, refl}
use Rattle.std.proofs.lemmas.List.{map_push}
use Rattle.std.proofs.lemmas.Grind.{common_steps}
use Rattle.command_input.specs.Lines.{is_blank, bytes_before_feed}
use Rattle.command_input.proofs.Filled.{on_filled, ended}
use Rattle.command_input.proofs.lines.filled_lines.Goals as goal

pub loop-rest-preserved-in_ok-push : goal.loop-rest-preserved-in_ok-push
loop-rest-preserved-in_ok-push c =
    let blank : is_blank (bytes_before_feed c.loop-rest.rest.now) ≡ false = grind (arith, common_steps) in
    let some : 0 < length c.loop-rest.rest.now = grind (arith, common_steps) in
    record {
      lines = rw c.first_line.ensures.rest (on_filled c.loop-rest.rest.now _ _ _ _ some blank
          (rw (c.in_ok-push.ensures.items, map_push, c.first_line.ensures.line) refl) c.loop-rest.invariant.lines);
      few = omega (arith, c.first_line.ensures.shorter some);
      count = rw c.in_ok-push.ensures.items (omega (arith, c.loop-rest.invariant.count, length-append c.loop-rest.list.items));
    }

pub returns-clause-lines : goal.returns-clause-lines
returns-clause-lines c = ended c.loop-rest.rest.now _ _ _ (grind (arith, common_steps)) c.loop-rest.invariant.lines
