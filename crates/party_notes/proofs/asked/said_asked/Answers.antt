use Rattle.party_notes.proofs.WellAsked.{is_asked}
use Rattle.party_notes.proofs.Counting.{counted_book_is_legal}
use Rattle.party_notes.proofs.asked.said_asked.Goals as goal

pub returns-clause-asked : goal.returns-clause-asked
returns-clause-asked c =
    is_asked c.args.seed.now c.args.said.now.agreed.job.deal _ c.in_ok-deal.ensures c.requires.accepted c.requires.whole.sized c.in_ok-me.ensures.party
    c.in_ok-me.ensures.fits (counted_book_is_legal _ _ _ c.in_ok-ledgers.ensures.legal) c.in_ok-me.ensures.places c.in_ok-me.ensures.good
