use Rattle.std.proofs.Common.{◌≡◌, ◌<◌, not, Option, option_map, sym, subst}
use Rattle.std.specs.Prelude.{IfOk}
use Rattle.std.specs.Option.{ForSome}
use Rattle.hashkey_path.specs.declared.hashkey.Hashkey.{Hashkey}
use Rattle.ledger_core.specs.declared.entry.Call.{Call}
use Rattle.swap_job.specs.MoveKeys.{IsUsable}
use Rattle.swap_job.specs.Resolved.{move_arc, build_call, resolved, is_idle}
use Rattle.swap_job.proofs.Idle.{resolves_unless_idle, none_if_idle}
use Rattle.swap_job.proofs.Usable.{named_arc, named_usable}
use Rattle.swap_job.proofs.resolved.resolve.Goals as goal

pub known_key_named-requires : goal.known_key_named-requires
known_key_named-requires c = λ x q.
    subst (λ n. x.0 < n) (sym c.requires.known.one_each) (named_arc c.args.deal.now c.args.seeds.now c.args.mv.now c.requires.fits x q)

pub resolve_keyed_move-requires-clause-key : goal.resolve_keyed_move-requires-clause-key
resolve_keyed_move-requires-clause-key c =
    subst (λ (o : Option Hashkey). ForSome o (IsUsable c.args.deal.now)) (sym c.known_key_named.ensures)
    (named_usable c.args.deal.now c.args.seeds.now c.args.known.now.histories c.args.mv.now c.requires.known c.requires.fits)

pub returns-clause-none : goal.returns-clause-none
returns-clause-none c =
    none_if_idle (resolved c.args.deal.now c.args.seeds.now c.args.known.now.histories c.args.mv.now)
    (not (is_idle c.args.deal.now c.args.known.now.histories c.args.mv.now))
    (resolves_unless_idle c.args.deal.now c.args.seeds.now c.args.known.now.histories c.args.mv.now c.requires.fits) c.resolve_keyed_move.result
    (subst (λ (o : Option Hashkey). IfOk c.resolve_keyed_move.result (λ x. x ≡ option_map (λ (y : Call). (move_arc c.args.mv.now, y))
    (build_call c.args.deal.now c.args.seeds.now o c.args.mv.now))) c.known_key_named.ensures c.resolve_keyed_move.ensures.exact)
