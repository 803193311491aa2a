use Rattle.std.proofs.Common.{◌∙◌}
use Rattle.swap_world.proofs.Team.{unasked_are_held}
use Rattle.made_jobs.proofs.Playing.{finished_book, finished_ended, finished_kept}
use Rattle.made_jobs.proofs.played.finished_book.Goals as goal

pub finish_fair-requires : goal.finish_fair-requires
finish_fair-requires g c = record { held = unasked_are_held _ c.args.world.roles c.requires }

pub returns-clause-book : goal.returns-clause-book
returns-clause-book g c =
    c.in_ok-book.ensures.value ∙ finished_book _ c.args.world c.finish_fair.new.self c.requires c.in_ok-finish_fair.ensures.ok

pub returns-clause-kept : goal.returns-clause-kept
returns-clause-kept g c = finished_kept _ c.args.world c.finish_fair.new.self c.requires c.in_ok-finish_fair.ensures.ok c.finish_fair.ensures.kept

pub returns-clause-ended : goal.returns-clause-ended
returns-clause-ended g c = finished_ended _ c.args.world c.finish_fair.new.self c.requires c.in_ok-finish_fair.ensures.ok c.in_ok-finish_fair.ensures.ended
