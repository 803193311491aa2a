use Rattle.std.proofs.Common.{◌++◌, ap, ◌∙◌}
use Rattle.swap_run.proofs.Replays.{on_ok, of_list}
use Rattle.swap_run.proofs.replayed.add_known.Goals as goal

pub returns : goal.returns
returns c =
    on_ok c.add_keys.result (λ e. e
    ∙ ap (λ ys. c.args.keys.now.items ++ ys) (of_list c.args.list.now c.parts.result.0.now c.parts.result.1 c.parts.ensures.list)) c.add_keys.ensures
