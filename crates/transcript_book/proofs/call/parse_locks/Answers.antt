use Rattle.std.proofs.Common.{◌≡◌, ◌+◌, ◌-◌, ◌∙◌, ap, arith, length-append, refl, ℕ}
use Rattle.transcript_book.specs.Reading.{parse_locks}
use Rattle.transcript_book.proofs.Members.{locks_on, locks_start}
use Rattle.transcript_book.proofs.call.parse_locks.Goals as goal

pub locks-init : goal.locks-init
locks-init c =
    let all : ◌≡◌ {A = ℕ} (c.args.count - 0) c.args.count = omega arith in record {
      so_far = rw c.new-locks.ensures (locks_start _ ∙ ap (λ n. parse_locks n c.args.fields.now) all);
      many = rw c.new-locks.ensures refl;
    }

pub locks-preserved : goal.locks-preserved
locks-preserved c = record {
  so_far = rw c.push.ensures (locks_on _ _ (c.args.count - c.locks.counter) (c.args.count - (c.locks.counter + 1))
      (let lt = c.locks-test.true in omega arith) _ _ _ c.in_ok-digest_field.ensures c.locks.invariant.so_far);
  many = rw c.push.ensures (length-append _ _ ∙ ap (λ n. n + 1) c.locks.invariant.many);
}
