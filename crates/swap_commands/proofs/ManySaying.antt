-- What the command `many` says, by how its parts ended.
use Rattle.std.proofs.Common.{◌≡◌, ℕ, Bool, List, ◌++◌, fold, Option, Some, None, Result, Ok, Err, refl, sym, ap, ap₂, ◌∙◌, subst}
use Rattle.swap_io.specs.Tape.{Tape}
use Rattle.swap_base.specs.Fault.{◌>>=◌}
use Rattle.command_input.proofs.Ahead.{stands_on}
use Rattle.command_input.proofs.Streams.{can_come, stops_as, stops_same}
use Rattle.swap_job.specs.declared.job.Finish.{Finish}
use Rattle.command_input.specs.declared.reason.Reason.{Reason}
use Rattle.command_input.specs.declared.refusal.Refusal.{Refusal}
use Rattle.command_input.specs.Written.{StatusWrites, Written}
use Rattle.command_input.specs.Lines.{collect_lines, filled_lines}
use Rattle.swap_run.specs.Asked.{Answers}
use Rattle.swap_world.specs.Gone.{MayGive, HasAsked}
use Rattle.swap_world.specs.Value.{WorldState, world_answers, new_world}
use Rattle.swap_many.specs.Chains.{Setup}
use Rattle.swap_many.specs.Kept.{Kept, kept_step}
use Rattle.swap_many.specs.Value.{AreSame, HasManyGone, ManyState, many_kept, nth_world}
use Rattle.swap_many.specs.declared.many_event.ManyEvent.{ManyEvent}
use Rattle.swap_many.specs.declared.place.Place.{Place}
use Rattle.swap_many.proofs.Gone.{gone_then}
use Rattle.many_lines.specs.Heading.{HeadingState, finish_told}
use Rattle.many_lines.specs.Places.{job_of_swap}
use Rattle.many_lines.specs.Whole.{AreSwaps}
use Rattle.many_lines.specs.declared.many_job.ManyJob.{ManyJob}
use Rattle.command_input.specs.Input.{InputProgress, CanBeLeft, Desk, Ends, Stops, ahead, desk, fresh}
use Rattle.swap_commands.specs.Many.{Headed, kept_after_finish, events_told, headed, many_of_lines, many_output, many_state, many_written, opened_places}
use Rattle.swap_commands.specs.ManyRead.{AreRun, IsHeading, IsManyPlayed, new_worlds, places_after_events}
use Rattle.swap_commands.specs.Output.{AreGiven, by_many, reason_alone, refusal_names, names_told, output_given_chance}
use Rattle.swap_commands.specs.Promised.{IsManyRun}
use Rattle.swap_commands.specs.Says.{CommandSays, IsCommandRefusal}
use Rattle.command_input.specs.declared.fault.InputFault.{InputFault}
use Rattle.command_input.specs.declared.status.Status.{Status}
use Rattle.command_input.specs.Streams.{streams}
use Rattle.swap_commands.specs.Words.{Many}
use Rattle.swap_commands.proofs.ManyPromises.{are_ended, are_fair, are_promised}
use Rattle.swap_commands.proofs.ManyTold.{fails_with}
use Rattle.swap_commands.proofs.ManyWorlds.{all_can, kept_before, new_are_of, new_at}
use Rattle.swap_commands.proofs.Replays.{are_given}
use Rattle.swap_commands.proofs.Saying.{says_whole}
use Rattle.swap_commands.specs.Strategies.{given_strategies}

module _ (has : List ℕ → Bool) where
  -- What is written of an input, by its lines.

  abbrev none : ℕ → Answers
  none = λ s k. None

  -- what is made of the lines, once they were read so far
  abbrev rest_of : (g : ℕ → Answers) → Headed → Result Written Refusal
  rest_of g h =
      events_told h.many 0 h.lines >>= λ events. opened_places h.many >>= λ places. Ok (many_written h.many (many_state g h.many places h.finish events))

  by_heading : (g : ℕ → Answers) (bytes : List ℕ) (r : Result Headed Refusal) → headed has (ahead fresh bytes) ≡ r → many_output has g bytes ≡ r >>= rest_of g
  unfolding many_output many_of_lines
  by_heading g bytes r e = ap (λ (x : Result Headed Refusal). x >>= rest_of g) e

  -- a refusal of what was read after the heading
  rest_fails : (g : ℕ → Answers) (h : Headed) (r : Refusal) → places_after_events h.many h.lines ≡ Err r → rest_of g h ≡ Err r
  rest_fails g h r e = go (events_told h.many 0 h.lines) e
    where
      last : (events : List ManyEvent) (x : Result (List (List Place)) Refusal) → x ≡ Err r
          → (x >>= λ places. let w : Result Written Refusal = Ok (many_written h.many (many_state g h.many places h.finish events)) in w) ≡ Err r
      last events x is = fails_with x (λ places. Ok (many_written h.many (many_state g h.many places h.finish events))) r is

      go : (x : Result (List ManyEvent) Refusal) → (x >>= λ events. opened_places h.many) ≡ Err r
          → (x >>= λ events. opened_places h.many >>= λ places.
          let w : Result Written Refusal = Ok (many_written h.many (many_state g h.many places h.finish events)) in w) ≡ Err r
      go (Ok events) is = last events (opened_places h.many) is
      go (Err other) is = let same : other ≡ r = cc is in ap (λ (x : Refusal). let w : Result Written Refusal = Err x in w) same

  -- a reason doesn't depend on what strategies answer
  pub many_fails_by : (g : ℕ → Answers) (bytes : List ℕ) (reason : Reason) → reason_alone (many_output has none bytes) ≡ Err reason
      → reason_alone (many_output has g bytes) ≡ Err reason
  many_fails_by g bytes reason e =
      let r = headed has (ahead fresh bytes) in
      ap reason_alone (by_heading g bytes r refl) ∙ go r (sym (ap reason_alone (by_heading none bytes r refl)) ∙ e)
    where
      written : (x : ℕ → Answers) → Headed → List ManyEvent → List (List Place) → Result Written Refusal
      written x h events places = Ok (many_written h.many (many_state x h.many places h.finish events))

      placed : (h : Headed) (events : List ManyEvent) (x : Result (List (List Place)) Refusal)
          → reason_alone (x >>= λ places. written none h events places) ≡ Err reason → reason_alone (x >>= λ places. written g h events places) ≡ Err reason
      placed h events (Ok places) e = absurd (cc e)
      placed h events (Err r) e = e

      told : (h : Headed) (x : Result (List ManyEvent) Refusal)
          → reason_alone (x >>= λ events. opened_places h.many >>= λ places. written none h events places) ≡ Err reason
          → reason_alone (x >>= λ events. opened_places h.many >>= λ places. written g h events places) ≡ Err reason
      told h (Ok events) e = placed h events (opened_places h.many) e
      told h (Err r) e = e

      go : (x : Result Headed Refusal) → reason_alone (x >>= rest_of none) ≡ Err reason → reason_alone (x >>= rest_of g) ≡ Err reason
      go (Ok h) e = told h (events_told h.many 0 h.lines) e
      go (Err r) e = e

  pub gives_many : (g : ℕ → Answers) (bytes : List ℕ) (h : Headed) (events : List ManyEvent) (places : List (List Place))
      → headed has (filled_lines 1 (collect_lines bytes)) ≡ Ok h → events_told h.many 0 h.lines ≡ Ok events → opened_places h.many ≡ Ok places
      → many_output has g bytes ≡ Ok (many_written h.many (many_state g h.many places h.finish events))
  gives_many g bytes h events places e f k =
      by_heading g bytes (Ok h) e
      ∙ (ap (λ (x : Result (List ManyEvent) Refusal). x >>= λ events. opened_places h.many >>= λ places.
      let w : Result Written Refusal = Ok (many_written h.many (many_state g h.many places h.finish events)) in w) f
      ∙ ap (λ (x : Result (List (List Place)) Refusal). x >>= λ places.
      let w : Result Written Refusal = Ok (many_written h.many (many_state g h.many places h.finish events)) in w) k)

  -- What is said against an input.

  against_many : (bytes : List ℕ) (r : Refusal) → many_output has none bytes ≡ Err r → IsCommandRefusal has Many bytes r
  unfolding output_given_chance refusal_names
  against_many bytes r e = (ap reason_alone e, sym (ap names_told e))

  against_heading : (bytes : List ℕ) (r : Refusal) → headed has (ahead fresh bytes) ≡ Err r → IsCommandRefusal has Many bytes r
  against_heading bytes r e = against_many bytes r (by_heading none bytes (Err r) e)

  pub heading_stops : (left : Tape) (n : ℕ) (t : Desk) (fault : InputFault Refusal)
      → Stops (λ bytes r. headed has (ahead fresh bytes) ≡ Err r) (desk left n fresh) t fault → Stops (IsCommandRefusal has Many) (desk left n fresh) t fault
  heading_stops left n t fault k =
      stops_as (λ bytes r. headed has (ahead fresh bytes) ≡ Err r) (IsCommandRefusal has Many) against_heading (desk left n fresh) t fault k

  -- after the lines before the events
  module _ (left : Tape) (n : ℕ) (mid now : Desk) (h : HeadingState) (p : IsHeading has h (desk left n fresh) mid) where
    -- what is said after them is said against the input
    events_against : (bytes : List ℕ) (r : Refusal) → CanBeLeft mid.at bytes → places_after_events h.many (ahead mid.at bytes) ≡ Err r
        → IsCommandRefusal has Many (p.bytes ++ bytes) r
    events_against bytes r can fails =
        let head : Headed = record { many = h.many; finish = p.finish; lines = ahead mid.at bytes } in
        against_many (p.bytes ++ bytes) r (by_heading none (p.bytes ++ bytes) (Ok head) (p.first bytes can) ∙ rest_fails none head r fails)

    pub events_stop : (many : ManyJob) (fault : InputFault Refusal) → many ≡ h.many
        → Stops (λ bytes r. places_after_events many (ahead mid.at bytes) ≡ Err r) mid now fault → Stops (IsCommandRefusal has Many) (desk left n fresh) now fault
    events_stop many fault same s =
        stops_same (λ bytes r. places_after_events h.many (ahead mid.at bytes) ≡ Err r) (IsCommandRefusal has Many) (desk left n fresh) mid now p.bytes p.stands refl
        events_against fault (subst (λ (j : ManyJob). Stops (λ bytes r. places_after_events j (ahead mid.at bytes) ≡ Err r) mid now fault) same s)

    finish_is : (finish : Finish) → finish_told h.stage ≡ Some finish → finish ≡ p.finish
    finish_is finish e = let same : ◌≡◌ {A = Option Finish} (Some finish) (Some p.finish) = sym e ∙ ap finish_told p.stage in cc same

    played : (gives : MayGive) (w : ManyState) (finish : Finish) → finish ≡ p.finish → AreRun gives h.many w mid now
        → Ends (λ bytes. IsManyPlayed has gives bytes h.many finish w) (desk left n fresh) now
    played gives w finish is k =
        let e = k.replayed.told in
        record {
          bytes = p.bytes ++ e.bytes;
          stands = stands_on (desk left n fresh) mid now p.bytes e.bytes p.stands e.stands;
          can = can_come fresh (p.bytes ++ e.bytes) refl;
          told = record {
            lines = ahead mid.at e.bytes;
            events = k.replayed.events;
            new = k.new;
            is_headed = subst (λ (f : Finish). headed has (filled_lines 1 (collect_lines (p.bytes ++ e.bytes)))
                ≡ Ok (record { many = h.many; finish = f; lines = ahead mid.at e.bytes })) (sym is) (p.first e.bytes e.can);
            are_told = e.told;
            begun = k.begun;
            gone = k.replayed.gone;
            can = k.replayed.can;
          };
          ended = e.ended;
        }

    pub is_played : (gives : MayGive) (many : ManyJob) (w : ManyState) (finish : Finish) → many ≡ h.many → finish_told h.stage ≡ Some finish
        → AreRun gives many w mid now → Ends (λ bytes. IsManyPlayed has gives bytes many finish w) (desk left n fresh) now
    is_played gives many w finish same told k =
        subst (λ (j : ManyJob). Ends (λ bytes. IsManyPlayed has gives bytes j finish w) (desk left n fresh) now) (sym same)
        (played gives w finish (finish_is finish told) (subst (λ (j : ManyJob). AreRun gives j w mid now) same k))

  -- What the command says whose input was read whole.

  module _ (gives : MayGive) (bytes : List ℕ) (many : ManyJob) (finish : Finish) (w last : ManyState) (k : IsManyPlayed has gives bytes many finish w)
      (gone : HasManyGone gives (kept_after_finish finish) w last) where
    -- the answers are those that were given
    abbrev g : ℕ → Answers
    g = λ s. world_answers (nth_world last s)

    whole_way : HasManyGone gives (λ m z. kept_after_finish finish m (fold (kept_step m) z k.events)) (new_worlds many k.begun.places) last
    whole_way =
        subst (λ (new : ManyState). HasManyGone gives (λ m z. kept_after_finish finish m (fold (kept_step m) z k.events)) new last) k.begun.new
        (gone_then gives (λ m z. fold (kept_step m) z k.events) (kept_after_finish finish) k.new w last k.gone gone)

    pub last_same : AreSame gives (new_worlds many k.begun.places) last
    last_same = whole_way.same

    state_is : many_kept last ≡ many_state g many k.begun.places finish k.events
    state_is =
        whole_way.kept g (λ s l i lt. refl)
        ∙ ap₂ (λ (m : Setup) (z : Kept). kept_after_finish finish m (fold (kept_step m) z k.events)) (new_are_of many k.begun.places g)
        (kept_before many k.begun.places g k.begun.openable)

    all_given : (s : ℕ) → AreGiven gives (job_of_swap many.jobs s).deal (g s) ((many_state g many k.begun.places finish k.events).swaps s).asked
    all_given s =
        let job = job_of_swap many.jobs s in
        let all : HasAsked gives (new_world job) (nth_world last s) =
        subst (λ (v : WorldState). HasAsked gives v (nth_world last s)) (new_at many.jobs s) (whole_way.same.asked s) in
        subst (λ (z : Kept). AreGiven gives job.deal (g s) (z.swaps s).asked) state_is
        (are_given gives job.deal all.more (nth_world last s).state.asked (nth_world last s).answers all.questions all.answers all.may)

    pub is_many_run : AreSwaps many → IsManyRun has gives g bytes (many_written many (many_kept last))
    is_many_run swaps =
        let places = k.begun.places in
        let can = all_can many g places k.events k.can in
        record {
          head = record { many = many; finish = finish; lines = k.lines };
          events = k.events;
          places = places;
          is_headed = k.is_headed;
          are_told = k.are_told;
          are_placed = k.begun.are_placed;
          given = all_given;
          shown = ap (many_written many) state_is;
          promised = are_promised many g places k.events swaps (k.begun.ready g) can finish;
          ended = are_ended many g places k.events swaps (k.begun.ready g) can finish;
          fair = are_fair many g places k.events swaps (k.begun.ready g) can finish;
        }

    pub many_made : output_given_chance has (by_many g) Many bytes ≡ Ok (many_written many (many_kept last))
    unfolding output_given_chance
    many_made =
        ap reason_alone
        (gives_many g bytes (record { many = many; finish = finish; lines = k.lines }) k.events k.begun.places k.is_headed k.are_told k.begun.are_placed
        ∙ ap (λ (z : Kept). let r : Result Written Refusal = Ok (many_written many z) in r) (sym state_is))

  pub says_many : (gives : MayGive) (left left' : Tape) (n m : ℕ) (taken taken' : Option (List ℕ)) (p q : ℕ) (now : InputProgress) (many : ManyJob)
      (finish : Finish) (w last : ManyState) (status : Status)
      (e : Ends (λ bytes. IsManyPlayed has gives bytes many finish w) (desk left n fresh) (desk left' m now))
      → AreSwaps many → HasManyGone gives (kept_after_finish finish) w last → StatusWrites taken taken' p q (many_written many (many_kept last)) status
      → CommandSays (given_strategies has gives) Many (streams left n taken p) (streams left' m taken' q) status
  says_many gives left left' n m taken taken' p q now many finish w last status e swaps gone wrote =
      says_whole has gives (by_many (λ s. world_answers (nth_world last s))) Many (λ bytes. IsManyPlayed has gives bytes many finish w) left left' n m
      taken taken' p q now (many_written many (many_kept last)) status e (many_made gives e.bytes many finish w last e.told gone)
      (is_many_run gives e.bytes many finish w last e.told gone swaps) wrote
