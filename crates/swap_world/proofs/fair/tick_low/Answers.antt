use Rattle.std.proofs.Common.{◌≡◌, ◌≤◌, ◌<◌, sym}
use Rattle.ledger_core.specs.History.{height}
use Rattle.ledger_core.specs.Book.{history}
use Rattle.swap_job.specs.declared.event.Event.TheVariants.{Tick}
use Rattle.swap_run.specs.Run.{step}
use Rattle.swap_run.specs.Fair.{the_horizon, tick_low}
use Rattle.swap_run.specs.Steps.{low_step}
use Rattle.swap_world.specs.Value.{world_cast, answering_cast}
use Rattle.swap_world.proofs.Ledgers.{on_ok, on_err}
use Rattle.swap_world.proofs.Gone.{cut, gone_as, quiet_run_tick, stays, stopped_by, went}
use Rattle.swap_world.proofs.Finishes.{is_high, is_low, is_low_step}
use Rattle.swap_world.proofs.fair.tick_low.Goals as goal

pub returns-then-height-deal_horizon-clause-ok : goal.returns-then-height-deal_horizon-clause-ok
returns-then-height-deal_horizon-clause-ok g c =
    let w = c.args.world.now in
    let e : c.deal_horizon.result ≡ the_horizon w.deal = rw c.deal.ensures.value at c.deal_horizon.ensures in
    let h : c.height.result ≡ height (history w.state.book c.args.arc) = c.height.ensures in
    let l : the_horizon w.deal < height (history w.state.book c.args.arc) = rw (← h, ← e) c.if-height-deal_horizon.true in
    stays (g.A.Strategies.gives c.args._strategies.now) (λ x s. tick_low x s c.args.arc) w (λ a. is_high (answering_cast w a) w.state c.args.arc l)

pub returns-clause-ok : goal.returns-clause-ok
returns-clause-ok g c =
    let w = c.args.world.now in
    let e : c.deal_horizon.result ≡ the_horizon w.deal = rw c.deal.ensures.value at c.deal_horizon.ensures in
    let h : c.height.result ≡ height (history w.state.book c.args.arc) = c.height.ensures in
    let l : height (history w.state.book c.args.arc) ≤ the_horizon w.deal = rw (← h, ← e) c.if-height-deal_horizon.false in
    let gives = g.A.Strategies.gives c.args._strategies.now in
    on_ok c.tick.result (gone_as gives (λ x s. step x s (Tick c.args.arc 1)) (λ x s. tick_low x s c.args.arc) w c.tick.new.self
    (λ a. sym (is_low (answering_cast w a) w.state c.args.arc l)))
    (went c.tick.result gives (λ x s. step x s (Tick c.args.arc 1)) w c.tick.new.self (quiet_run_tick (world_cast w) w.state c.args.arc 1) c.tick.ensures.ok)

pub returns-clause-err : goal.returns-clause-err
returns-clause-err g c =
    let w = c.args.world.now in
    let e : c.deal_horizon.result ≡ the_horizon w.deal = rw c.deal.ensures.value at c.deal_horizon.ensures in
    let h : c.height.result ≡ height (history w.state.book c.args.arc) = c.height.ensures in
    let l : height (history w.state.book c.args.arc) ≤ the_horizon w.deal = rw (← h, ← e) c.if-height-deal_horizon.false in
    let gives = g.A.Strategies.gives c.args._strategies.now in
    stopped_by gives c.tick.result w c.tick.new.self (Tick c.args.arc 1) (λ x s. low_step x.deal s.book c.args.arc)
    (λ a. sym (is_low_step w.deal w.state.book c.args.arc l)) (on_err c.tick.result (λ k. k.stopped) c.tick.ensures.cut)
    (cut c.tick.result gives (λ x s. step x s (Tick c.args.arc 1)) w c.tick.new.self (quiet_run_tick (world_cast w) w.state c.args.arc 1) c.tick.ensures.cut)
