use Rattle.std.proofs.Common.{Some, refl, sym, subst}
use Rattle.swap_world.proofs.Ledgers.{on_ok}
use Rattle.party_threads.specs.Tracks.{IsWatcherPlace, MadeIf}
use Rattle.party_threads.proofs.Looks.{has_made}
use Rattle.party_threads.proofs.watching.call.Goals as goal

pub returns-in-Ok-clause-made : goal.returns-in-Ok-clause-made
returns-in-Ok-clause-made g c =
    let w = g.L.Learner.watcher c.args.side.now c.args.learner.now in
    let x = g.L.Learner.watcher c.args.side.now c.learn.new.self in
    let a = c.args.due.0 in
    let made = c.args.due.1 in
    let q = c.call_known.new.pass in
    let s = c.index-side-arc.result in
    let t = c.in-Ok.ensures in
    let pass = subst (IsWatcherPlace c.args.side.now.ledgers.now w a) c.in-Some.is c.requires.place in
    on_ok c.learn.result (λ e. subst (λ o. MadeIf w a made o x (Some q)) (sym c.in-Some.is) (
      q,
      refl,
      has_made w s.lock a made c.in-Some.pass x q c.in-Ok.called.reply c.in-Ok.called.fresh (pass s c.index-side-arc.is) t.called t.seen t.legal t.whole
          (e c.args.side.now),
    )) c.learn.ensures.ok
