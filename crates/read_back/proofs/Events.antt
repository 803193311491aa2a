-- The line of an event that a number gives is read as that event.
use Rattle.std.proofs.Common.{◌≡◌, ◌+◌, ◌%◌, ◌^◌, ◌<◌, ◌≤◌, ◌&&◌, ◌==◌, ℕ, zero, suc, nat_le, Bool, true, false, not, cond, List, [], ◌∷◌}
use Rattle.std.proofs.Common.{◌++◌, length, map, decimal, Some, Ok, Err, refl, sym, ap, ◌∙◌, arith, append_assoc}
use Rattle.std.specs.Prelude.{codes}
use Rattle.std.specs.List.{list_all}
use Rattle.std.proofs.lemmas.Bool.{leb-true, ne_eqb}
use Rattle.swap_base.specs.Text.{joined, lines}
use Rattle.swap_base.proofs.Lists.{and_both, and_parts}
use Rattle.swap_digraph.specs.Value.{Graph}
use Rattle.swap_job.specs.Step.{CanLook, CanTick, IsJobEvent}
use Rattle.swap_job.specs.declared.event.Event.{Event}
use Rattle.swap_job.specs.declared.event.Event.TheVariants.{Tick, Look, Act, Call, Crash}
use Rattle.swap_job.specs.declared.job.Job.{Job}
use Rattle.command_input.specs.declared.reason.Reason.TheVariants.{NotAdjacent, OverLimit}
use Rattle.offer_moves.specs.Names.{party_of_name}
use Rattle.offer_moves.specs.Moves.{parse_arc, deal_sizes}
use Rattle.offer_moves.specs.Placed.{adjacent}
use Rattle.offer_events.specs.Event.{asked_event, parse_event, event_of_act, event_of_look, event_of_tick, outside_race}
use Rattle.offer_events.specs.Plain.{is_plain_byte}
use Rattle.offer_events.specs.declared.raw.RawEvent.TheVariants as raws
use Rattle.offer_events.proofs.PlainText.{act_alone, arc_then_look, asked_by, by_then_tick}
use Rattle.swap_gen.specs.Events.{drawn_event, drawn_events}
use Rattle.command_input.specs.Words.{party_name}
use Rattle.swap_gen.specs.Line.{event_line}
use Rattle.swap_gen.specs.Word.{word}
use Rattle.swap_offer.specs.Job.{parse_events, limited_event}
use Rattle.command_input.specs.Lines.{is_blank}
use Rattle.transcript_book.proofs.Numbers.{high_number}
use Rattle.read_back.proofs.HeaderLimited.{number_back}
use Rattle.read_back.proofs.HeaderOneLine.{both_lines, high_line}
use Rattle.read_back.proofs.Steps.{step}
use Rattle.transcript_book.specs.Between.{fed_lines}
use Rattle.read_back.specs.Made.{numbered_lines, IsOneLine}
use Rattle.read_back.proofs.Lines.{AreLines}
use Rattle.read_back.proofs.MoveLimits.{below_back}

-- an event that can be drawn: no call
abbrev pub IsDrawn : Event → Type 0
IsDrawn (Call p mv) = ⊥
IsDrawn (Crash p k image) = ⊥
IsDrawn _ = Unit {0}

-- its line, without the line feed
abbrev pub event_text : List (List ℕ) → Event → List ℕ
event_text names (Tick a k) = joined (codes "{\"by\":" ∷ decimal k ∷ codes ",\"tick\":" ∷ decimal a ∷ codes "}" ∷ [])
event_text names (Look p a) = joined (codes "{\"arc\":" ∷ decimal a ∷ codes ",\"look\":\"" ∷ party_name names p ∷ codes "\"}" ∷ [])
event_text names (Act p) = joined (codes "{\"act\":\"" ∷ party_name names p ∷ codes "\"}" ∷ [])
event_text names (Call p mv) = []
event_text names (Crash p k image) = []

with_feed : (names : List (List ℕ)) (e : Event) → IsDrawn e → event_line names e ≡ event_text names e ++ codes "\n"
unfolding event_line
with_feed names (Tick a k) d =
    ap (λ (l : List ℕ). codes "{\"by\":" ++ l)
    (ap (λ (l : List ℕ). decimal k ++ (codes ",\"tick\":" ++ l)) (sym (append_assoc (decimal a) (codes "}") (codes "\n")))
    ∙ sym (append_assoc (decimal k) (codes ",\"tick\":" ++ (decimal a ++ codes "}")) (codes "\n")))
with_feed names (Look p a) d =
    ap (λ (l : List ℕ). codes "{\"arc\":" ++ l)
    (ap (λ (l : List ℕ). decimal a ++ (codes ",\"look\":\"" ++ l)) (sym (append_assoc (party_name names p) (codes "\"}") (codes "\n")))
    ∙ sym (append_assoc (decimal a) (codes ",\"look\":\"" ++ (party_name names p ++ codes "\"}")) (codes "\n")))
with_feed names (Act p) d = ap (λ (l : List ℕ). codes "{\"act\":\"" ++ l) (sym (append_assoc (party_name names p) (codes "\"}") (codes "\n")))
with_feed names (Call p mv) d = absurd d
with_feed names (Crash p k image) d = absurd d

-- no event that a number gives is a call
by_kind : (tick look : Bool) (x y z : Event × ℕ) → IsDrawn x.0 → IsDrawn y.0 → IsDrawn z.0
    → IsDrawn (cond {A = Event × ℕ} tick x (cond {A = Event × ℕ} look y z)).0
by_kind true look x y z a b c = a
by_kind false true x y z a b c = b
by_kind false false x y z a b c = c

is_drawn : (seed : ℕ) (g : Graph) (at : ℕ) → IsDrawn (drawn_event seed g at).0
unfolding drawn_event
is_drawn seed g at = by_kind (word seed at % 8 == 0) (nat_le (word seed at % 8) 4) _ _ _ tt tt tt

-- ---- one line

plain_line : (s : List ℕ) → list_all is_plain_byte s ≡ true → IsOneLine s
plain_line [] h = refl
plain_line (x ∷ s) h =
    let p = and_parts (is_plain_byte x) (list_all is_plain_byte s) h in
    let low : 32 ≤ x = leb-true 32 x (and_parts (nat_le 32 x) (nat_le x 126 && (not (x == 34) && not (x == 92))) p.0).0 in
    and_both (not (x == 10)) (list_all (λ y. not (y == 10)) s) (ap not (ne_eqb x 10 (λ e. omega (arith, low, e)))) (plain_line s p.1)

number_line : (n : ℕ) → n < 2 ^ 64 → IsOneLine (decimal n)
number_line n lt = high_line (decimal n) (high_number n lt)

-- numbers of an event that have at most 64 bits, and names that need no escape
abbrev pub IsPlainEvent : List (List ℕ) → Event → Type 0
IsPlainEvent names (Tick a k) = (a < 2 ^ 64) × (k < 2 ^ 64)
IsPlainEvent names (Look p a) = (a < 2 ^ 64) × (list_all is_plain_byte (party_name names p) ≡ true)
IsPlainEvent names (Act p) = list_all is_plain_byte (party_name names p) ≡ true
IsPlainEvent names (Call p mv) = ⊥
IsPlainEvent names (Crash p k image) = ⊥

event_is_line : (names : List (List ℕ)) (e : Event) → IsPlainEvent names e → IsOneLine (event_text names e)
event_is_line names (Tick a k) h =
    both_lines (decimal k) (codes ",\"tick\":" ++ (decimal a ++ codes "}")) (number_line k h.1)
    (both_lines (decimal a) (codes "}") (number_line a h.0) refl)
event_is_line names (Look p a) h =
    both_lines (decimal a) (codes ",\"look\":\"" ++ (party_name names p ++ codes "\"}")) (number_line a h.0)
    (both_lines (party_name names p) (codes "\"}") (plain_line (party_name names p) h.1) refl)
event_is_line names (Act p) h = both_lines (party_name names p) (codes "\"}") (plain_line (party_name names p) h) refl
event_is_line names (Call p mv) h = absurd h
event_is_line names (Crash p k image) h = absurd h

event_is_filled : (names : List (List ℕ)) (e : Event) → IsDrawn e → is_blank (event_text names e) ≡ false
event_is_filled names (Tick a k) d = refl
event_is_filled names (Look p a) d = refl
event_is_filled names (Act p) d = refl
event_is_filled names (Call p mv) d = absurd d
event_is_filled names (Crash p k image) d = absurd d

-- ---- read back

-- each may come, and is drawn
abbrev pub AreDrawn : Job → List Event → Type 0
AreDrawn job [] = Unit {0}
AreDrawn job (e ∷ es) = IsJobEvent job e × IsDrawn e × AreDrawn job es

-- the events that a number gives may come, and are drawn
pub drawn_from : (job : Job) (seed : ℕ) (g : Graph) → ((at : ℕ) → IsJobEvent job (drawn_event seed g at).0) → (at count : ℕ)
    → AreDrawn job (drawn_events seed g at count)
drawn_from job seed g can at zero = tt
drawn_from job seed g can at (suc count) = (can at, is_drawn seed g at, drawn_from job seed g can (drawn_event seed g at).1 count)

-- What is known of a job whose events are drawn.
pub record HasPlainNames (job : Job) : Type 0 where
  pub arcs : length job.deal.graph.arcs ≤ 128
  pub number : (line p : ℕ) → p < job.deal.graph.n → party_of_name line job.names (party_name job.names p) ≡ Ok p
  pub plain : (p : ℕ) → p < job.deal.graph.n → list_all is_plain_byte (party_name job.names p) ≡ true
  pub outside : (line : ℕ) → outside_race line job.purpose ≡ Ok tt

module _ (job : Job) (k : HasPlainNames job) where
  plain_event : (e : Event) → IsJobEvent job e → IsDrawn e → IsPlainEvent job.names e
  plain_event (Tick a n) can d = let arcs = k.arcs in let arc = can.arc in let few = can.few in (omega (arith, arcs, arc), omega (arith, few))
  plain_event (Look p a) can d = let arcs = k.arcs in let arc = can.arc in (omega (arith, arcs, arc), k.plain p can.known)
  plain_event (Act p) can d = k.plain p can
  plain_event (Call p mv) can d = absurd d
  plain_event (Crash p k image) can d = absurd d

  arc_back : (line : ℕ) (field : List ℕ) (a : ℕ) → a < length job.deal.graph.arcs → parse_arc (deal_sizes job.deal) line field a ≡ Ok a
  unfolding parse_arc
  arc_back line field a lt = below_back line field (length job.deal.graph.arcs) a lt k.arcs

  tick_back : (line a n : ℕ) → CanTick job.deal a n → event_of_tick job.deal line a (Some n) ≡ Ok (Tick a n)
  unfolding event_of_tick
  tick_back line a n can =
      step _ a _ (arc_back line (codes "tick") a can.arc) ∙ step _ n _ (number_back line (codes "by") 1 1000000 n can.some can.few)

  near_back : (line p a : ℕ) → CanLook job.deal p a → adjacent job.deal.graph.arcs line p a ≡ Ok tt
  unfolding adjacent
  near_back line p a can = ap (λ (b : Bool). cond b (Ok tt) (Err (NotAdjacent line))) can.adjacent

  look_back : (line p a : ℕ) → CanLook job.deal p a → event_of_look job line (party_name job.names p) a ≡ Ok (Look p a)
  unfolding event_of_look
  look_back line p a can =
      step _ p _ (k.number line p can.known)
      ∙ step _ a _ (arc_back line (codes "arc") a can.arc)
      ∙ step _ tt _ (near_back line p a can)

  act_back : (line p : ℕ) → p < job.deal.graph.n → event_of_act job line (party_name job.names p) ≡ Ok (Act p)
  unfolding event_of_act
  act_back line p lt = step _ p _ (k.number line p lt)

  event_back : (line : ℕ) (e : Event) → IsJobEvent job e → IsDrawn e → parse_event job line (event_text job.names e) ≡ Ok e
  unfolding asked_event
  event_back line (Tick a n) can d =
      let h = plain_event (Tick a n) can d in
      asked_by job line (event_text job.names (Tick a n)) (raws.Tick a (Some n)) (by_then_tick line a n (event_text job.names (Tick a n))
      (codes ",\"tick\":" ++ (decimal a ++ codes "}")) (codes "}") h.0 h.1 refl refl refl)
      ∙ step _ (Tick a n) _ (tick_back line a n can)
      ∙ step _ tt _ (k.outside line)
  event_back line (Look p a) can d =
      let h = plain_event (Look p a) can d in
      asked_by job line (event_text job.names (Look p a)) (raws.Look (party_name job.names p) a) (arc_then_look line a (party_name job.names p)
      (event_text job.names (Look p a)) (codes ",\"look\":\"" ++ (party_name job.names p ++ codes "\"}")) (codes "}") h.0 h.1 refl refl refl)
      ∙ step _ (Look p a) _ (look_back line p a can)
      ∙ step _ tt _ (k.outside line)
  event_back line (Act p) can d =
      asked_by job line (event_text job.names (Act p)) (raws.Act (party_name job.names p)) (act_alone line (party_name job.names p)
      (event_text job.names (Act p)) (codes "}") (k.plain p can) refl refl)
      ∙ step _ (Act p) _ (act_back line p can)
      ∙ step _ tt _ (k.outside line)
  event_back line (Call p mv) can d = absurd d
  event_back line (Crash p k image) can d = absurd d

  -- ---- all of them

  next_back : (count line : ℕ) (e : Event) → count < 200000 → IsJobEvent job e → IsDrawn e → limited_event job count line (event_text job.names e) ≡ Ok e
  unfolding limited_event
  next_back count line e lt can d =
      ap (λ (b : Bool). cond b (Err (OverLimit line (codes "events") 200001)) (parse_event job line (event_text job.names e)))
      (ne_eqb count 200000 (λ same. omega (arith, lt, same)))
      ∙ event_back line e can d

  pub events_back : (count line : ℕ) (es : List Event) → count + length es ≤ 200000 → AreDrawn job es
      → parse_events job count (numbered_lines line (map (event_text job.names) es)) ≡ Ok es
  unfolding parse_events
  events_back count line [] few h = refl
  events_back count line (e ∷ es) few h =
      step _ e _ (next_back count line e (omega arith) h.0 h.1)
      ∙ step _ es _ (events_back (count + 1) (line + 1) es (omega arith) h.2)

  pub event_lines : (es : List Event) → AreDrawn job es → AreLines (map (event_text job.names) es)
  event_lines [] h = tt
  event_lines (e ∷ es) h =
      (event_is_line job.names e (plain_event e h.0 h.1), event_is_filled job.names e h.1, event_lines es h.2)

  pub lines_are_text : (n : ℕ) (es : List Event) → AreDrawn job es → lines (λ _. event_line job.names) n es ≡ fed_lines (map (event_text job.names) es)
  unfolding lines
  lines_are_text n [] h = refl
  lines_are_text n (e ∷ es) h =
      ap (λ (l : List ℕ). l ++ lines (λ _. event_line job.names) (n + 1) es) (with_feed job.names e h.1)
      ∙ ap (λ (l : List ℕ). (event_text job.names e ++ codes "\n") ++ l) (lines_are_text (n + 1) es h.2)
