-- The lines of several swaps tell their chains, their swaps and their events, one line after
-- another.
use Rattle.std.proofs.Common.{◌≡◌, ℕ, Bool, true, false, List, [], ◌∷◌, is_some, Result, Ok, Err, refl, sym}
use Rattle.std.proofs.Common.{ap, ◌∙◌, subst, fold, if◌then◌else◌}
use Rattle.std.specs.List.{All, FoldsTo}
use Rattle.std.proofs.lemmas.List.Elements.{All-cons, All-nil}
use Rattle.swap_base.specs.Fault.{◌>>=◌}
use Rattle.swap_job.specs.declared.job.Finish.{Finish}
use Rattle.command_input.specs.declared.reason.Reason.TheVariants.{CutShort}
use Rattle.command_input.specs.declared.refusal.Refusal.{Refusal}
use Rattle.command_input.specs.Refusal.{refusal}
use Rattle.swap_world.specs.Gone.{MayGive}
use Rattle.swap_many.specs.Kept.{kept_step}
use Rattle.swap_many.specs.Value.{HasManyGone, ManyState}
use Rattle.swap_many.specs.declared.many_event.ManyEvent.{ManyEvent}
use Rattle.swap_many.proofs.Gone.{begun, gone_then}
use Rattle.many_lines.specs.Event.{next_told}
use Rattle.many_lines.specs.Heading.{HeadingState, stage_finish, finish_told, line_taken, nothing_headed}
use Rattle.many_lines.specs.Setup.{MayCome}
use Rattle.many_lines.specs.declared.many_job.ManyJob.{ManyJob}
use Rattle.many_lines.specs.declared.stage.Stage.{Stage}
use Rattle.many_lines.specs.declared.stage.Stage.TheVariants.{First, Words, Header, Over}
use Rattle.command_input.specs.declared.fault.InputFault.{InputFault}
use Rattle.command_input.specs.declared.fault.InputFault.TheVariants.{Refused}
use Rattle.command_input.specs.Input.{Desk, IsLast, Stops, Tells, ahead}
use Rattle.swap_commands.specs.Many.{Headed, events_told, headed, headed_lines, finished_heading, opened_places}
use Rattle.swap_commands.specs.ManyRead.{HasReplayed, HasStepped, IsHeading, HaveReplayed, places_after_events}
use Rattle.swap_commands.specs.Walk.{IsWalked}
use Rattle.command_input.proofs.Streams.{IsStepAt, Led, led_to_last, stops_as}
use Rattle.swap_commands.proofs.Walks.{ends_as, tells_all}

-- What is said of a walk that stops.

pub fails_with : {A B E : Type 0} (r : Result A E) (f : A → Result B E) (e : E) → r ≡ Err e → r >>= f ≡ Err e
fails_with {A} {B} {E} r f e is = ap (λ (x : Result A E). x >>= f) is

-- The lines before the events.

module _ (has : List ℕ → Bool) where
  -- what the lines say from the next one on, however many came before
  abbrev pub heading_walk : ℕ → HeadingState → List (ℕ × List ℕ) → Result Headed Refusal
  heading_walk n h ls = headed_lines has h ls

  abbrev pub heading_next : ℕ → HeadingState → ℕ → List ℕ → Result HeadingState Refusal
  heading_next n h number text = line_taken has h number text

  pub heading_step : (n : ℕ) (h : HeadingState) → is_some (finish_told h.stage) ≡ false → IsStepAt heading_walk heading_next n h
  heading_step n h not_over number text rest =
      ap (λ (b : Bool). if b then finished_heading h ((number, text) ∷ rest) else (line_taken has h number text >>= λ t. headed_lines has t rest)) not_over

  -- after the line of the finish
  over_at : (many : ManyJob) (finish : Finish) (ls : List (ℕ × List ℕ))
      → headed_lines has (record { many = many; stage = Over finish }) ls ≡ Ok (record { many = many; finish = finish; lines = ls })
  over_at many finish [] = refl
  over_at many finish (l ∷ ls) = refl

  finish_of : (stage : Stage) → is_some (finish_told stage) ≡ true → (finish : Finish) × (stage ≡ Over finish)
  finish_of First e = absurd (cc e)
  finish_of Words e = absurd (cc e)
  finish_of (Header before) e = absurd (cc e)
  finish_of (Over finish) e = (finish, refl)

  pub heading_read : (first now : Desk) (count : ℕ) (h : HeadingState) → Led heading_walk first nothing_headed now count h
      → is_some (finish_told h.stage) ≡ true → IsHeading has h first now
  heading_read first now count h p over =
      let f = finish_of h.stage over in
      record {
        bytes = p.bytes;
        stands = p.stands;
        finish = f.0;
        stage = f.1;
        first = λ rest can.
            p.leads rest can ∙ (ap (λ (s : Stage). headed_lines has (record { many = h.many; stage = s }) (ahead now.at rest)) f.1
            ∙ over_at h.many f.0 (ahead now.at rest));
      }

  -- the input ends before the line of the finish
  cut_at : (stage : Stage) → is_some (finish_told stage) ≡ false → stage_finish stage ≡ Err (refusal [] CutShort)
  cut_at First e = refl
  cut_at Words e = refl
  cut_at (Header before) e = refl
  cut_at (Over finish) e = absurd (cc e)

  pub heading_cut : (first s t : Desk) (count : ℕ) (h : HeadingState) (fault : InputFault Refusal)
      → fault ≡ Refused (refusal [] CutShort) → is_some (finish_told h.stage) ≡ false → Led heading_walk first nothing_headed s count h → IsLast s t
      → Stops (λ bytes r. headed has (ahead first.at bytes) ≡ Err r) first t fault
  heading_cut first s t count h fault is not_over p q =
      let P : Result Headed Refusal → Type 0 = λ r. r ≡ Err (refusal [] CutShort) in
      let says : P (finished_heading h []) = fails_with (stage_finish h.stage) (λ f. Ok (record { many = h.many; finish = f; lines = [] })) (refusal [] CutShort)
      (cut_at h.stage not_over) in
      subst (λ (f : InputFault Refusal). Stops (λ bytes r. headed has (ahead first.at bytes) ≡ Err r) first t f) (sym is)
      (led_to_last heading_walk first nothing_headed P s t count h says p q)

-- The lines of the events.

has_stepped : (gives : MayGive) (many : ManyJob) (w v : ManyState) (events : List ManyEvent) → FoldsTo (HasStepped gives many) w events v
    → HasReplayed gives events w v × All (MayCome many) events
has_stepped gives many w v [] p =
    (subst (λ (x : ManyState). HasManyGone gives (λ m z. z) w x) p (begun gives w), All-nil (MayCome many))
has_stepped gives many w v (e ∷ es) p =
    let k = has_stepped gives many p.0 v es p.2 in (
      gone_then gives (λ m z. kept_step m z e) (λ m z. fold (kept_step m) z es) w p.0 v p.1.gone k.0,
      All-cons (MayCome many) e es p.1.can k.1,
    )

pub is_replayed : (gives : MayGive) (many : ManyJob) (old new : ManyState) (first now : Desk)
    → IsWalked (HasStepped gives many) (next_told many) old new first now → HaveReplayed gives many old new first now
is_replayed gives many old new first now k =
    let h = has_stepped gives many old new k.events k.stepped in
    record { events = k.events; told = k.are_told; gone = h.0; can = h.1 }

-- What is said of accounts, after what is said of every line.

pub after_events : (many : ManyJob) (ls : List (ℕ × List ℕ)) (r : Refusal) → events_told many 0 ls ≡ Err r → places_after_events many ls ≡ Err r
after_events many ls r e = fails_with (events_told many 0 ls) (λ events. opened_places many) r e

after_told : (many : ManyJob) (ls : List (ℕ × List ℕ)) (events : List ManyEvent) (r : Refusal) → events_told many 0 ls ≡ Ok events → opened_places many ≡ Err r
    → places_after_events many ls ≡ Err r
after_told many ls events r e f = ap (λ (x : Result (List ManyEvent) Refusal). x >>= λ es. opened_places many) e ∙ f

pub refused_after : {A : Type 0} (leads : A → ManyEvent → A → Type 0) (many : ManyJob) (x y : A) (s t : Desk) (r : Refusal) → opened_places many ≡ Err r
    → IsWalked leads (next_told many) x y s t → Tells (λ bytes. places_after_events many (ahead s.at bytes) ≡ Err r) s t
refused_after leads many x y s t r refused k =
    tells_all (λ bytes. places_after_events many (ahead s.at bytes) ≡ Err r) s t
    (ends_as (λ bytes. events_told many 0 (ahead s.at bytes) ≡ Ok k.events) (λ bytes. places_after_events many (ahead s.at bytes) ≡ Err r)
    (λ bytes e. after_told many (ahead s.at bytes) k.events r e refused) s t k.are_told)
    k.met

pub stops_after : (many : ManyJob) (s t : Desk) (fault : InputFault Refusal)
    → Stops (λ bytes r. events_told many 0 (ahead s.at bytes) ≡ Err r) s t fault → Stops (λ bytes r. places_after_events many (ahead s.at bytes) ≡ Err r) s t fault
stops_after many s t fault k =
    stops_as (λ bytes r. events_told many 0 (ahead s.at bytes) ≡ Err r) (λ bytes r. places_after_events many (ahead s.at bytes) ≡ Err r)
    (λ bytes r e. after_events many (ahead s.at bytes) r e) s t fault k
