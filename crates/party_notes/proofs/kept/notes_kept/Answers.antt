use Rattle.std.proofs.Common.{sym, subst}
use Rattle.party_notes.specs.NoteStates.{AreGoodKeptKeys}
use Rattle.party_notes.proofs.Good.{notes_good, nothing_good}
use Rattle.party_notes.proofs.kept.notes_kept.Goals as goal

pub returns-clause-good : goal.returns-clause-good
returns-clause-good c =
    subst (AreGoodKeptKeys c.args.deal.now c.args.me) (sym c.new.ensures)
    (notes_good c.args.deal.now c.args.me c.args.first _ _ c.args.notes.now
    (nothing_good c.args.deal.now c.args.me _ c.in_ok-noted.ensures.exact) c.in_ok-add_notes.ensures.exact)
