use Rattle.std.proofs.Common.{◌≡◌, ap, ◌∙◌}
use Rattle.ledger_core.specs.Book.{history}
use Rattle.ledger_core.specs.History.{accounts}
use Rattle.ledger_core.proofs.Scans.{held_is}
use Rattle.swap_many.specs.Laws.{CanSweep}
use Rattle.swap_world.specs.Value.{WorldState}
use Rattle.swap_many.specs.Value.{no_world, world_setup, nth_world}
use Rattle.swap_many.specs.Inside.{inside_worlds}
use Rattle.swap_many.proofs.Values.{item_is, legal_at}
use Rattle.swap_many.proofs.worlds.Worlds.accounts.Goals as goal

pub returns-clause-held : goal.returns-clause-held
returns-clause-held c =
    let w = inside_worlds c.self.inside in
    let s = c.args.swap in
    let can : CanSweep (world_setup w) s c.args.arc = rw (← c.self.view_is) at c.requires in
    let here = item_is w.worlds s no_world c.index.result.now can.swap c.index.ensures in
    let e : c.accounts.result ≡ accounts (nth_world w s).deal c.args.arc (history (nth_world w s).state.book c.args.arc) =
    c.accounts.ensures ∙ ap (λ (y : WorldState). accounts y.deal c.args.arc (history y.state.book c.args.arc)) here in
    rw (← c.self.view_is)
    (held_is (nth_world w s).deal c.args.arc (history (nth_world w s).state.book c.args.arc) c.accounts.result
    (legal_at w s c.args.arc c.self.invariant.whole can) e)
