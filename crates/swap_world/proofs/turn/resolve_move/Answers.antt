use Rattle.std.proofs.Common.{Option, sym, subst}
use Rattle.std.specs.Option.{ForSome}
use Rattle.hashkey_path.specs.declared.hashkey.Hashkey.{Hashkey}
use Rattle.swap_job.specs.MoveKeys.{IsUsable}
use Rattle.swap_job.proofs.Usable.{named_usable}
use Rattle.swap_world.specs.Acting.{histories}
use Rattle.swap_world.proofs.Ledgers.{legal_book}
use Rattle.swap_world.proofs.turn.resolve_move.Goals as goal

pub resolve_keyed_move-requires-clause-key : goal.resolve_keyed_move-requires-clause-key
resolve_keyed_move-requires-clause-key c =
    subst (λ (o : Option Hashkey). ForSome o (IsUsable c.args.deal.now)) (sym c.ledger_key_named.ensures)
    (named_usable c.args.deal.now c.args.seeds.now (histories c.args.ledgers.now) c.args.mv.now
    (legal_book c.args.deal.now c.args.ledgers.now c.requires.ledgers) c.requires.fits)
