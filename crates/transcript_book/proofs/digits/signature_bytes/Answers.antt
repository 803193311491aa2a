use Rattle.std.proofs.Common.{ℕ, [], arith, ◌*◌, ◌∙◌}
use Rattle.std.proofs.lemmas.List.{length-replicate, length-set}
use Rattle.hex.proofs.Pairs.{decode_start, decode_step, decode_done, decode_sized-pairs}
use Rattle.transcript_book.proofs.digits.signature_bytes.Goals as goal

pub bytes-init : goal.bytes-init
bytes-init c = (length-replicate {A = ℕ} 2144 0, decode_start _ [])

pub bytes-preserved : goal.bytes-preserved
bytes-preserved c = (
  length-set _ _ _ ∙ c.bytes.invariant.0,
  decode_step _ _ c.bytes.i _ (omega arith) (omega arith) (c.pair.ensures (2 * c.bytes.i)) c.bytes.invariant.1,
)

pub returns : goal.returns
returns c =
    decode_sized-pairs _ _ (omega arith) (omega arith) ∙ decode_done _ c.bytes.out c.bytes.i (omega arith) (omega arith) c.bytes.invariant.1
