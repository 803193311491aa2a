use Rattle.std.proofs.Common.{◌≡◌, ◌<◌, ℕ, length, ◌∙◌, arith, rules, get_or, below_more}
use Rattle.std.proofs.Math.ListN.{length-set}
use Rattle.hash_signature.proofs.MessageDigits.{written_more, sum_more, all_written, digits_small, bytes_to_end}
use Rattle.hash_signature.proofs.digits.digits.Goals as goal

pub bytes-preserved : goal.bytes-preserved
bytes-preserved c =
    let message : length c.args.message.now ≡ 32 = search rules in
    record {
      width = length-set _ _ _ ∙ (length-set _ _ _ ∙ c.bytes.invariant.width);
      written = written_more c.bytes.out c.args.message.now c.bytes.i c.bytes.invariant.width message (omega arith) c.bytes.invariant.written;
      sum_is = omega (arith, sum_more c.args.message.now c.bytes.i (omega arith));
      bytes = below_more _ _ c.bytes.invariant.bytes (search rules);
      bounded = omega arith;
    }

pub returns-clause-value : goal.returns-clause-value
returns-clause-value c =
    let message : length c.args.message.now ≡ 32 = search rules in
    all_written c.bytes.out c.args.message.now c.bytes.i c.bytes.sum c.bytes.invariant.width message (omega arith) c.bytes.invariant.written
    c.bytes.invariant.sum_is

pub returns-clause-small : goal.returns-clause-small
returns-clause-small c = λ j.
    let message : length c.args.message.now ≡ 32 = search rules in
    let bytes : (k : ℕ) → get_or c.args.message.now k 0 < 256 = bytes_to_end c.args.message.now c.bytes.i (omega arith) c.bytes.invariant.bytes in
    rw (all_written c.bytes.out c.args.message.now c.bytes.i c.bytes.sum c.bytes.invariant.width message (omega arith) c.bytes.invariant.written
    c.bytes.invariant.sum_is) (digits_small c.args.message.now message bytes j)
