use Rattle.swap_rules.proofs.Found.{unnamed_is_safe, without_findings_all_is_transferred}
use Rattle.swap_run.specs.Run.{conforms}
use Rattle.swap_many.specs.Chains.{book}
use Rattle.swap_many.specs.Many.{many_run, many_finish}
use Rattle.swap_many.proofs.Finish.{many_finishes_end}
use Rattle.swap_many.proofs.every_swap_is_safe.Goals as goal

pub returns-clause-safe : goal.returns-clause-safe
returns-clause-safe c = λ m events s v ready all ls lv cv none.
    unnamed_is_safe (m.cast s).deal (conforms (m.cast s)) (book m (many_finish m (many_run m events)).chains s) v (ready.casts s ls).accepted
    ((many_finishes_end m events ready all).kept s ls).legal lv cv none

pub returns-clause-transferred : goal.returns-clause-transferred
returns-clause-transferred c = λ m events s ready all ls conforming none.
    without_findings_all_is_transferred (m.cast s).deal (conforms (m.cast s)) (book m (many_finish m (many_run m events)).chains s)
    (ready.casts s ls).accepted ((many_finishes_end m events ready all).kept s ls).legal conforming none
