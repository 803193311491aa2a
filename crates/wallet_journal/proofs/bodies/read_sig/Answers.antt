use Rattle.std.proofs.Common.{◌≡◌, ◌+◌, ◌*◌, ◌-◌, ℕ, take, drop, ap, ◌∙◌, arith}
use Rattle.hash_signature.specs.Signature.{text_values}
use Rattle.wallet_journal.proofs.bodies.read_sig.Goals as goal

pub returns : goal.returns
returns c =
    let n : 2144 * c.args.j + 2144 - 2144 * c.args.j ≡ 2144 = omega arith in
    c.from_bytes.ensures.values ∙ ap text_values (c.copy_from_slice.ensures.after ∙ ap (λ (m : ℕ). take m (drop (2144 * c.args.j) c.args.bytes.now)) n)
