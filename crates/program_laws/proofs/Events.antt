-- An event line.
use Rattle.std.proofs.Common.{Bool, List, None, Option, [], codes, false, is_some, slice_index_or, unwrap_or, ℕ, ◌∷◌}
use Rattle.serde_json.specs.Data.{Data}
use Rattle.serde_json.specs.Find.{get}
use Rattle.command_input.specs.declared.reason.Reason.TheVariants.{Missing, NoSeed, EventInRace, NotConforming}
use Rattle.offer_moves.specs.Fields.{needed, field_number, field_text, optional_field_number, required_object, only, parse_data}
use Rattle.offer_moves.specs.Reading.{stated_raw_move}
use Rattle.offer_events.specs.declared.raw.RawEvent.{RawEvent}
use Rattle.swap_digraph.specs.declared.deal.Deal.{Deal}
use Rattle.swap_job.specs.declared.job.Job.{Job}
use Rattle.swap_job.specs.declared.job.Purpose.{Purpose}
use Rattle.swap_job.specs.declared.job.Purpose.TheVariants.{Race}
use Rattle.swap_job.specs.declared.moves.Move.{Move}
use Rattle.swap_job.specs.declared.moves.Move.TheVariants.{Craft}
use Rattle.swap_job.specs.Crafted.{Seeds}
use Rattle.offer_moves.specs.FieldLimits.{ranged_number}
use Rattle.offer_moves.specs.Names.{party_of_name}
use Rattle.offer_moves.specs.declared.raw.RawMove.{RawMove}
use Rattle.offer_moves.specs.Moves.{deal_sizes, parse_arc, parse_move}
use Rattle.offer_moves.specs.Placed.{deviating, adjacent, placed}
use Rattle.offer_events.specs.Reading.{raw_event, raw_tick_event, raw_look_event, raw_act_event, submit_call, raw_crash_event}
use Rattle.offer_events.specs.Event.{event_of_tick, event_of_look, event_of_act, each_seeded, needs_seeds, crafted_with_seeds, permitted, event_of_call}
use Rattle.offer_events.specs.Event.{conforming_crash, event_of_crash}
use Rattle.swap_job.specs.declared.event.Event.{Event}
use Rattle.swap_job.specs.declared.event.Event.TheVariants as event_kinds
use Rattle.offer_events.specs.Event.{checked_event, outside_race, asked_event, parse_event}
use Rattle.offer_events.specs.declared.raw.RawEvent.TheVariants as raws
use Rattle.swap_job.specs.declared.job.Purpose.TheVariants as purpose_kinds
use Rattle.swap_job.specs.declared.moves.Move.TheVariants as move_kinds
use Rattle.program_laws.proofs.Bare.{Bare, onward, landed, refused, choose}
use Rattle.program_laws.proofs.Fields.{object_of_bare, needed_bare, number_at_bare, text_at_bare, optional_number_at_bare, only_bare, object_at_bare}
use Rattle.program_laws.proofs.Fields.{number_within_bare, party_of_name_bare}
use Rattle.program_laws.proofs.RefusalReading.{move_at_bare}
use Rattle.program_laws.proofs.Moves.{arc_of_bare, move_of_bare}
use Rattle.program_laws.proofs.Placed.{deviating_bare, adjacent_bare, placed_bare}

pub tick_at_bare : (line : ℕ) (d : Data) → Bare (raw_tick_event line d)
unfolding raw_tick_event
tick_at_bare line d =
    onward (field_number line (codes "tick") d) _ (number_at_bare line (codes "tick") d)
    (λ arc. onward (optional_field_number line (codes "by") d) _ (optional_number_at_bare line (codes "by") d)
    (λ by. onward (only line (codes "by" ∷ codes "tick" ∷ []) d) _ (only_bare line (codes "by" ∷ codes "tick" ∷ []) d) (λ u. landed _)))

pub look_at_bare : (line : ℕ) (d : Data) → Bare (raw_look_event line d)
unfolding raw_look_event
look_at_bare line d =
    onward (field_text line (codes "look") d) _ (text_at_bare line (codes "look") d)
    (λ name. onward (field_number line (codes "arc") d) _ (number_at_bare line (codes "arc") d)
    (λ arc. onward (only line (codes "arc" ∷ codes "look" ∷ []) d) _ (only_bare line (codes "arc" ∷ codes "look" ∷ []) d) (λ u. landed _)))

pub act_at_bare : (line : ℕ) (d : Data) → Bare (raw_act_event line d)
unfolding raw_act_event
act_at_bare line d =
    onward (field_text line (codes "act") d) _ (text_at_bare line (codes "act") d)
    (λ name. onward (only line (codes "act" ∷ []) d) _ (only_bare line (codes "act" ∷ []) d) (λ u. landed _))

pub call_at_bare : (line : ℕ) (d : Data) → Bare (submit_call line d)
unfolding submit_call
call_at_bare line d =
    onward (field_text line (codes "call") d) _ (text_at_bare line (codes "call") d)
    (λ name. onward (needed line (codes "move") d) _ (needed_bare line (codes "move") d)
    (λ value. onward (required_object line (codes "move") value) _ (object_at_bare line (codes "move") value)
    (λ o. onward (stated_raw_move line false value) _ (move_at_bare line false value)
    (λ mv. onward (only line (codes "call" ∷ codes "move" ∷ []) d) _ (only_bare line (codes "call" ∷ codes "move" ∷ []) d) (λ u. landed _)))))

pub crash_at_bare : (line : ℕ) (d : Data) → Bare (raw_crash_event line d)
unfolding raw_crash_event
crash_at_bare line d =
    onward (field_text line (codes "crash") d) _ (text_at_bare line (codes "crash") d)
    (λ name. onward (field_number line (codes "after") d) _ (number_at_bare line (codes "after") d)
    (λ after. onward (field_number line (codes "image") d) _ (number_at_bare line (codes "image") d)
    (λ image. onward (only line (codes "after" ∷ codes "crash" ∷ codes "image" ∷ []) d) _
    (only_bare line (codes "after" ∷ codes "crash" ∷ codes "image" ∷ []) d) (λ u. landed _))))

pub event_at_bare : (line : ℕ) (d : Data) → Bare (raw_event line d)
unfolding raw_event
event_at_bare line d =
    choose (is_some (get (codes "tick") d)) _ _ (tick_at_bare line d)
    (choose (is_some (get (codes "look") d)) _ _ (look_at_bare line d)
    (choose (is_some (get (codes "act") d)) _ _ (act_at_bare line d)
    (choose (is_some (get (codes "call") d)) _ _ (call_at_bare line d)
    (choose (is_some (get (codes "crash") d)) _ _ (crash_at_bare line d) (refused (Missing line (codes "tick")) tt)))))

pub event_of_tick_bare : (d : Deal) (line : ℕ) (n : ℕ) (by : Option ℕ) → Bare (event_of_tick d line n by)
unfolding event_of_tick
event_of_tick_bare d line n by =
    onward (parse_arc (deal_sizes d) line (codes "tick") n) _ (arc_of_bare (deal_sizes d) line (codes "tick") n)
    (λ arc. onward (ranged_number line (codes "by") 1 1000000 (unwrap_or by 1))
    _ (number_within_bare line (codes "by") 1 1000000 (unwrap_or by 1)) (λ heights. landed _))

pub event_of_look_bare : (job : Job) (line : ℕ) (name : List ℕ) (n : ℕ) → Bare (event_of_look job line name n)
unfolding event_of_look
event_of_look_bare job line name n =
    onward (party_of_name line job.names name) _ (party_of_name_bare line job.names name)
    (λ p. onward (parse_arc (deal_sizes job.deal) line (codes "arc") n) _ (arc_of_bare (deal_sizes job.deal) line (codes "arc") n)
    (λ arc. onward (adjacent job.deal.graph.arcs line p arc) _ (adjacent_bare job.deal.graph.arcs line p arc) (λ u. landed _)))

pub event_of_act_bare : (job : Job) (line : ℕ) (name : List ℕ) → Bare (event_of_act job line name)
unfolding event_of_act
event_of_act_bare job line name = onward (party_of_name line job.names name) _ (party_of_name_bare line job.names name) (λ p. landed _)

pub each_seeded_bare : (seeds : Seeds) (x1 : List ℕ) → Bare (each_seeded seeds x1)
each_seeded_bare seeds [] = landed _
each_seeded_bare seeds (v ∷ vs) = choose (is_some (slice_index_or seeds v None)) _ _ (each_seeded_bare seeds vs) (refused (NoSeed v) tt)

pub crafted_with_seeds_bare : (job : Job) (x1 : Move) → Bare (crafted_with_seeds job x1)
crafted_with_seeds_bare job (Craft a lock via onto) = choose (needs_seeds job.purpose) _ _ (each_seeded_bare job.seeds via) (landed _)
crafted_with_seeds_bare job (move_kinds.Publish a1 a2 a3 a4 a5 a6 a7) = landed _
crafted_with_seeds_bare job (move_kinds.Replay a1 a2 a3) = landed _
crafted_with_seeds_bare job (move_kinds.Raw a1 a2) = landed _
crafted_with_seeds_bare job (move_kinds.Claim a1) = landed _
crafted_with_seeds_bare job (move_kinds.Refund a1) = landed _
crafted_with_seeds_bare job (move_kinds.Transfer a1 a2 a3) = landed _
crafted_with_seeds_bare job (move_kinds.Wait a1 a2) = landed _

pub permitted_bare : (job : Job) (line : ℕ) (p : ℕ) (mv : Move) → Bare (permitted job line p mv)
unfolding permitted
permitted_bare job line p mv =
    onward (placed job.deal.graph.arcs job.conforming line p mv)
    _ (placed_bare job.deal.graph.arcs job.conforming line p mv) (λ u. crafted_with_seeds_bare job mv)

pub event_of_call_bare : (job : Job) (line : ℕ) (name : List ℕ) (raw : RawMove) → Bare (event_of_call job line name raw)
unfolding event_of_call
event_of_call_bare job line name raw =
    onward (party_of_name line job.names name) _ (party_of_name_bare line job.names name)
    (λ p. onward (parse_move (deal_sizes job.deal) job.names line raw) _ (move_of_bare (deal_sizes job.deal) job.names line raw)
    (λ mv. onward (deviating line (slice_index_or job.conforming p false)) _ (deviating_bare line (slice_index_or job.conforming p false))
    (λ u. onward (permitted job line p mv) _ (permitted_bare job line p mv) (λ w. landed _))))

pub event_of_crash_bare : (job : Job) (line : ℕ) (name : List ℕ) (n : ℕ) (m : ℕ) → Bare (event_of_crash job line name n m)
unfolding event_of_crash
event_of_crash_bare job line name n m =
    onward (party_of_name line job.names name) _ (party_of_name_bare line job.names name)
    (λ p. onward (ranged_number line (codes "after") 0 3 n) _ (number_within_bare line (codes "after") 0 3 n)
    (λ k. onward (ranged_number line (codes "image") 0 255 m) _ (number_within_bare line (codes "image") 0 255 m) (λ image. landed _)))

pub checked_bare : (job : Job) (line : ℕ) (x2 : RawEvent) → Bare (checked_event job line x2)
checked_bare job line (raws.Tick n by) = event_of_tick_bare job.deal line n by
checked_bare job line (raws.Look name n) = event_of_look_bare job line name n
checked_bare job line (raws.Act name) = event_of_act_bare job line name
checked_bare job line (raws.Call name raw) = event_of_call_bare job line name raw
checked_bare job line (raws.Crash name after image) = event_of_crash_bare job line name after image

pub outside_race_bare : (line : ℕ) (x1 : Purpose) → Bare (outside_race line x1)
outside_race_bare line Race = refused (EventInRace line) tt
outside_race_bare line purpose_kinds.Check = landed _
outside_race_bare line purpose_kinds.Run = landed _
outside_race_bare line purpose_kinds.Make = landed _
outside_race_bare line purpose_kinds.Audit = landed _

pub conforming_crash_bare : (conforming : List Bool) (line : ℕ) (e : Event) → Bare (conforming_crash conforming line e)
conforming_crash_bare conforming line (event_kinds.Crash p k image) =
    choose (slice_index_or conforming p false) _ _ (landed _) (refused (NotConforming line) tt)
conforming_crash_bare conforming line (event_kinds.Tick a1 a2) = landed _
conforming_crash_bare conforming line (event_kinds.Look a1 a2) = landed _
conforming_crash_bare conforming line (event_kinds.Act a1) = landed _
conforming_crash_bare conforming line (event_kinds.Call a1 a2) = landed _

pub asked_bare : (job : Job) (line : ℕ) (raw : RawEvent) → Bare (asked_event job line raw)
unfolding asked_event
asked_bare job line raw =
    onward (checked_event job line raw) _ (checked_bare job line raw)
    (λ event. onward (outside_race line job.purpose) _ (outside_race_bare line job.purpose)
    (λ u. onward (conforming_crash job.conforming line event) _ (conforming_crash_bare job.conforming line event) (λ w. landed _)))

pub event_of_bare : (job : Job) (line : ℕ) (text : List ℕ) → Bare (parse_event job line text)
unfolding parse_event
event_of_bare job line text =
    onward (parse_data line text) _ (object_of_bare line text)
    (λ d. onward (raw_event line d) _ (event_at_bare line d) (λ raw. asked_bare job line raw))
