use Rattle.std.proofs.Common.{◌≡◌, ◌+◌, ◌≤◌, length, take, vec_len}
use Rattle.std.specs.Vec.{vec_capacity}
use Rattle.hashkey_path.proofs.sign.with_room.Given as goal

abbrev pub invariant-sigs : goal.invariant-sigs
invariant-sigs l = record {
  items : l.sigs.items ≡ take l.sig-index l.inner;
  len : vec_len l.sigs ≡ l.sig-index;
  room : length l.inner + 1 ≤ vec_capacity l.sigs;
}
