-- The line of an event: compact JSON, the fields in the order of their bytes.
use Rattle.std.specs.Prelude.{ℕ, List, [], ◌∷◌, codes, decimal}
use Rattle.swap_base.specs.Text.{joined}
use Rattle.swap_job.specs.declared.event.Event.{Event}
use Rattle.swap_job.specs.declared.event.Event.TheVariants.{Tick, Look, Act, Call, Crash}
use Rattle.command_input.specs.Words.{party_name}

-- the line of an event that can be drawn; a call and a crash can't, and have none
unfoldable pub event_line : List (List ℕ) → Event → List ℕ
event_line names (Tick a k) = joined (codes "{\"by\":" ∷ decimal k ∷ codes ",\"tick\":" ∷ decimal a ∷ codes "}\n" ∷ [])
event_line names (Look p a) = joined (codes "{\"arc\":" ∷ decimal a ∷ codes ",\"look\":\"" ∷ party_name names p ∷ codes "\"}\n" ∷ [])
event_line names (Act p) = joined (codes "{\"act\":\"" ∷ party_name names p ∷ codes "\"}\n" ∷ [])
event_line names (Call p mv) = []
event_line names (Crash p k image) = []
