use Rattle.std.proofs.Common.{◌∙◌}
use Rattle.made_jobs.proofs.Playing.{book_is, has_ended, is_kept, unasked_in}
use Rattle.made_jobs.proofs.played.played.Goals as goal

pub finished_book-requires : goal.finished_book-requires
finished_book-requires c =
    unasked_in c.args.generator.now.seed c.args.generator.now.parties c.take_events.new.world c.in_ok-take_events.ensures.of

pub returns-clause-book : goal.returns-clause-book
returns-clause-book c =
    let w = c.in_ok-world.ensures in
    let t = c.in_ok-take_events.ensures in
    c.in_ok-book.ensures.book
    ∙ book_is c.args.generator.now.seed c.args.generator.now.parties c.args.events c.in_ok-world.world c.take_events.new.world w.state t.state t.of

pub returns-clause-kept : goal.returns-clause-kept
returns-clause-kept c =
    let w = c.in_ok-world.ensures in
    let t = c.in_ok-take_events.ensures in
    is_kept c.args.generator.now.seed c.args.generator.now.parties c.args.events c.in_ok-world.world c.take_events.new.world w.state t.state t.of
    c.in_ok-book.ensures.kept

pub returns-clause-ended : goal.returns-clause-ended
returns-clause-ended c =
    let w = c.in_ok-world.ensures in
    let t = c.in_ok-take_events.ensures in
    has_ended c.args.generator.now.seed c.args.generator.now.parties c.args.events c.in_ok-world.world c.take_events.new.world w.state t.state t.of
    c.in_ok-book.ensures.ended
