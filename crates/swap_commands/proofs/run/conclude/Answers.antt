use Rattle.swap_commands.proofs.Replays.{concluded_book, goes_on_still, is_of_still, kept_book}
use Rattle.swap_commands.proofs.run.conclude.Goals as goal

pub returns-clause-book : goal.returns-clause-book
returns-clause-book g c =
    concluded_book (g.A.Strategies.gives c.args.strategies.now) c.args.job.now c.args.world c.finish.new.world c.requires.of c.into_book.result
    c.into_book.ensures.value c.requires.asked c.in_ok-finish.ensures.gone
    (c.recorded.ensures
    (goes_on_still (g.A.Strategies.gives c.args.strategies.now) c.args.job.now c.args.world c.finish.new.world c.requires.of _ c.in_ok-finish.ensures.gone
    c.requires.goes_on))

pub returns-clause-kept : goal.returns-clause-kept
returns-clause-kept g c =
    kept_book c.args.job.now c.finish.new.world
    (is_of_still (g.A.Strategies.gives c.args.strategies.now) c.args.job.now c.args.world c.finish.new.world c.requires.of _ c.in_ok-finish.ensures.gone)
    c.into_book.result c.into_book.ensures.value c.into_book.ensures.kept
