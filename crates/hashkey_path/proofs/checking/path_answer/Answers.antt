use Rattle.std.proofs.Common.{sym, length}
use Rattle.hashkey_path.proofs.Paths.{right_path_fits, place_is_byte}
use Rattle.hashkey_path.proofs.checking.path_answer.Goals as goal

pub wrong_signature-requires-clause-few : goal.wrong_signature-requires-clause-few
wrong_signature-requires-clause-few c =
    let fits = right_path_fits c.args.deal.now.mode c.args.deal.now c.args.arc c.args.key.now c.in-Hashkeys.is (sym c.if-is_wrong_path.ensures) in
    place_is_byte c.args.deal.now.version c.args.deal.now.graph.n (length c.as_slice.result.now) c.requires.sized.parties.1
    (rw c.as_slice.ensures fits.few)

pub wrong_signature-requires-clause-within : goal.wrong_signature-requires-clause-within
wrong_signature-requires-clause-within c =
    rw c.as_slice.ensures (right_path_fits c.args.deal.now.mode c.args.deal.now c.args.arc c.args.key.now c.in-Hashkeys.is
    (sym c.if-is_wrong_path.ensures)).parties
