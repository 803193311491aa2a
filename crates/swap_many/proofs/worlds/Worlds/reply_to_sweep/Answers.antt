use Rattle.std.proofs.Common.{◌<◌, sym, ap, ◌∙◌}
use Rattle.ledger_core.specs.Book.{history}
use Rattle.swap_run.specs.Fair.{the_horizon}
use Rattle.swap_many.specs.declared.many_reply.ManyReply.TheVariants.{StillHeld}
use Rattle.swap_many.specs.Chains.{arc_chain}
use Rattle.swap_many.specs.Value.{world_setup, many_kept, nth_world}
use Rattle.swap_many.proofs.Rows.{still_held}
use Rattle.swap_many.proofs.worlds.Worlds.reply_to_sweep.Goals as goal

pub returns-then-is_unsettled : goal.returns-then-is_unsettled
returns-then-is_unsettled c =
    let w = c.args.self.now in
    let s = c.args.swap in
    let a = c.args.arc in
    let l : the_horizon (nth_world w s).deal < ((many_kept w).clocks (arc_chain (world_setup w) s a)).height =
    rw (← c.arc_chain_height.ensures, ← c.horizon-horizon.ensures.value) c.if-arc_chain_height-horizon.false in
    ap StillHeld c.accounts.ensures.held
    ∙ still_held c.args.fair (the_horizon (nth_world w s).deal) ((many_kept w).clocks (arc_chain (world_setup w) s a)).height ((many_kept w).swept s a)
    (history (nth_world w s).state.book a) l (sym c.is_swept.ensures ∙ c.if-is_swept.false) (sym c.is_unsettled.ensures ∙ c.if-is_unsettled.true)
