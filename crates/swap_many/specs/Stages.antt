-- What was done so far: events, and fair finishes.
use Rattle.std.specs.Prelude.{List, [], ◌∷◌, ◌++◌, map, fold}
use Rattle.std.specs.List.{flat_map}
use Rattle.swap_many.specs.declared.many_event.ManyEvent.{ManyEvent}
use Rattle.swap_many.specs.Chains.{Setup}
use Rattle.swap_many.specs.Many.{Run, many_step, many_start, many_finish}

-- A stage of a run: an event, or a fair finish.
pub data Stage : Type 0 where
  Came : ManyEvent → Stage
  Finished : Stage

-- what a stage does, by the histories of the chains
abbrev pub run_stage : Setup → Run → Stage → Run
run_stage m r (Came e) = many_step m r e
run_stage m r Finished = many_finish m r

-- the run of all stages, by the histories of the chains
abbrev pub staged_run : Setup → List Stage → Run
staged_run m stages = fold (run_stage m) (many_start m) stages

-- the stages of stretches of events, each one ended by a fair finish, and of events after them
abbrev pub stretch_stages : List (List ManyEvent) → List ManyEvent → List Stage
stretch_stages stretches events = flat_map (λ es. map Came es ++ Finished ∷ []) stretches ++ map Came events
