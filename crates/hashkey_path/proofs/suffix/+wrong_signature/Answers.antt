use Rattle.std.proofs.Common.{◌<◌, sym, rules}
use Rattle.hashkey_path.proofs.LastSignatures.{none_wrong, known_on, all_on}
use Rattle.hashkey_path.proofs.suffix.+wrong_signature.Goals as goal

pub returns-then-sigs-verified : goal.returns-then-sigs-verified
returns-then-sigs-verified t c =
    sym (none_wrong c.args.verified c.args.place c.args.deal.now c.args.suffix.now.lock c.args.suffix.now.secret.now c.args.suffix.now.path.now
    c.args.suffix.now.sigs.now c.if-sigs-verified.true c.requires.known)

pub wrong_signature-requires : goal.wrong_signature-requires
wrong_signature-requires t c = (
  search rules,
  (
    search rules,
    (
      search rules,
      (
        search rules,
        (
          all_on (λ v. v < c.args.deal.now.graph.n) c.args.suffix.now.path.now c.requires.within,
          known_on c.args.verified c.args.deal.now c.args.suffix.now.lock c.args.suffix.now.secret.now c.args.suffix.now.path.now c.args.suffix.now.sigs.now c.if-sigs-verified.false c.requires.known,
        ),
      ),
    ),
  ),
)
