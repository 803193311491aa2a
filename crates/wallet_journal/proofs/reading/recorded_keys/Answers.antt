use Rattle.std.proofs.Common.{◌≡◌, ◌∷◌, [], ◌++◌, Option, false, ap, ◌∙◌}
use Rattle.swap_digraph.proofs.Ranges.{map_more}
use Rattle.hashkey_path.specs.declared.hashkey.Hashkey.{Hashkey}
use Rattle.wallet_journal.specs.Layout.{recorded, is_damaged}
use Rattle.wallet_journal.proofs.Locks.{below_more}
use Rattle.wallet_journal.proofs.reading.recorded_keys.Goals as goal

pub locks-preserved : goal.locks-preserved
locks-preserved c = record {
  value = map_more (recorded c.args.bytes.now) c.locks.lock c.locks.signed.items c.push.new.self.items
      (c.in_ok-push.ensures.items ∙ ap (λ (x : Option Hashkey). c.locks.signed.items ++ x ∷ []) c.in_ok-read_record.ensures.value) c.locks.invariant.value;
  sound = below_more (λ i. is_damaged c.args.limit c.args.parties c.args.bytes.now i ≡ false) c.locks.lock c.locks.invariant.sound
      c.in_ok-read_record.ensures.sound;
}
