use Rattle.std.proofs.Common.{◌≡◌, ◌*◌, length, take, drop}
use Rattle.hex.specs.Hex.{decode_pairs}
use Rattle.hex.proofs.Pairs.{prepend}
use Rattle.transcript_book.proofs.digits.signature_bytes.Given as goal

abbrev pub invariant-bytes : goal.invariant-bytes
invariant-bytes l = (length l.out ≡ 2144) × (decode_pairs 0 l.word ≡ prepend (take l.i l.out) (decode_pairs (2 * l.i) (drop (2 * l.i) l.word)))
