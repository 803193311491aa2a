use Rattle.std.proofs.Common.{◌≡◌, ◌∙◌, sym, ap, arith, length, below_more}
use Rattle.std.proofs.lemmas.List.{places}
use Rattle.swap_base.specs.Text.{joined}
use Rattle.hash_signature.proofs.Values.{bytes_more, bytes_filled, text_values-joined}
use Rattle.hash_signature.proofs.sig.joined_value_bytes.Goals as goal

pub values-preserved : goal.values-preserved
values-preserved c =
    let width : length c.copy_from_slice.new.self ≡ 32 = grind (arith, places) in
    record {
      width = grind (arith, places);
      widths = below_more _ _ c.values.invariant.widths (ap length (sym c.copy_from_slice.ensures.after) ∙ width);
      filled =
          bytes_more c.values.bytes c.args.values.now c.values.i c.copy_from_slice.new.self c.values.invariant.width c.told-values (omega arith)
          c.copy_from_slice.ensures.after width c.values.invariant.filled;
    }

pub returns-clause-bytes : goal.returns-clause-bytes
returns-clause-bytes c = bytes_filled c.values.bytes c.args.values.now c.values.i c.values.invariant.width c.told-values (omega arith) c.values.invariant.filled

pub returns-clause-values : goal.returns-clause-values
returns-clause-values c =
    let bytes : c.values.bytes ≡ joined c.args.values.now =
    bytes_filled c.values.bytes c.args.values.now c.values.i c.values.invariant.width c.told-values (omega arith) c.values.invariant.filled in
    rw bytes (text_values-joined c.args.values.now c.told-values (λ k lt. c.values.invariant.widths k (omega arith)))
