use Rattle.std.proofs.Common.{refl, subst, sym}
use Rattle.std.specs.Prelude.{codes}
use Rattle.serde_json.specs.Data.{no_members}
use Rattle.offer_text.specs.Words.{digest_data, list_data, number_data, with_optional, IsBelow}
use Rattle.offer_text.proofs.Actors.{move_put, publish_put}
use Rattle.offer_text.proofs.Values.{below_optional}
use Rattle.offer_text.proofs.moves.put_move.Goals as goal

pub put_first_terms-requires : goal.put_first_terms-requires
put_first_terms-requires c =
    let p = c.in-Publish in
    let last = with_optional (codes "timelock") number_data p.timelock no_members in
    let next = with_optional (codes "start") number_data p.start last in
    subst (IsBelow (codes "do")) (sym c.in_ok-put_last_terms-in-Publish.ensures)
    (below_optional (codes "do") (codes "locks") (list_data digest_data) p.locks next refl
    (below_optional (codes "do") (codes "start") number_data p.start last refl
    (below_optional (codes "do") (codes "timelock") number_data p.timelock no_members refl tt)))

pub returns-in_ok-put_last_terms-in-Publish : goal.returns-in_ok-put_last_terms-in-Publish
returns-in_ok-put_last_terms-in-Publish c =
    let p = c.in-Publish in
    publish_put c.put_first_terms.result c.args.names.now c.args.mv.now p.arc p.start p.delta p.bound p.timelock p.amount p.locks _ _ p.is
    c.in_ok-put_last_terms-in-Publish.ensures c.put_first_terms.ensures

pub returns-in-Replay : goal.returns-in-Replay
returns-in-Replay c = move_put c.put_replay.result c.args.names.now c.args.mv.now _ _ c.in-Replay.is c.put_replay.ensures

pub returns-in-Wait : goal.returns-in-Wait
returns-in-Wait c = move_put c.put_wait.result c.args.names.now c.args.mv.now _ _ c.in-Wait.is c.put_wait.ensures
