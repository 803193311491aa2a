use Rattle.run_texts.proofs.Books.{low_height}
use Rattle.run_texts.proofs.ledgers.put_last.Goals as goal

pub height-requires : goal.height-requires
height-requires c = low_height c.args.deal.now c.args.number c.args.entries.now c.requires.legal
