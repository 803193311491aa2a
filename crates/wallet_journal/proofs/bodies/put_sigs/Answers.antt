use Rattle.std.proofs.Common.{◌≡◌, length, ap, sym, ◌∙◌, rules}
use Rattle.hash_signature.specs.Signature.{text_values}
use Rattle.wallet_journal.proofs.Tells.{put_more, whole_more}
use Rattle.wallet_journal.proofs.bodies.put_sigs.Goals as goal

pub each-preserved : goal.each-preserved
each-preserved c =
    let size : length c.to_bytes.result ≡ 2144 = search rules in
    record {
      bytes = put_more c.args.bytes.now.items c.each.bytes.items c.extend_from_slice.new.self.items c.to_bytes.result c.args.sigs.now c.each.sig-index
          c.sig-item.result
          c.each-test.true c.sig-item.is c.each.invariant.bytes c.in_ok-extend_from_slice.ensures.items c.to_bytes.ensures.bytes;
      whole = whole_more c.args.sigs.now c.each.sig-index c.sig-item.result c.each-test.true c.sig-item.is c.each.invariant.whole (record {
        bytes = ap length (sym c.to_bytes.ensures.bytes) ∙ size;
        values = ap text_values (sym c.to_bytes.ensures.bytes) ∙ c.to_bytes.ensures.values;
      });
    }
