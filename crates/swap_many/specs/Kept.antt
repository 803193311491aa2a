-- What a program keeps of many swaps instead of the histories of their chains: the state of each
-- swap, the clock and the free accounts of each chain, and which slots are swept.
use Rattle.std.specs.Prelude.{ℕ, ◌+◌, ◌==◌, Bool, true, false, List, fold, Option, Some, option_map, if◌then◌else◌}
use Rattle.swap_digraph.specs.Graph.{arcs}
use Rattle.ledger_core.specs.History.{history_reply, accounts}
use Rattle.ledger_core.specs.Book.{history}
use Rattle.swap_job.specs.declared.event.Event.TheVariants as events
use Rattle.swap_run.specs.Run.{State, start, step}
use Rattle.swap_run.specs.Fair.{the_horizon}
use Rattle.swap_many.specs.declared.many_event.ManyEvent.{ManyEvent}
use Rattle.swap_many.specs.declared.many_event.ManyEvent.TheVariants.{Tick, In, Pay, Sweep}
use Rattle.swap_many.specs.declared.many_reply.ManyReply.{ManyReply}
use Rattle.swap_many.specs.declared.many_reply.ManyReply.TheVariants.{Plain, Swept}
use Rattle.swap_run.specs.Called.{Called, called, is_barred, apply_step}
use Rattle.swap_many.specs.Chains.{Setup, arc_chain, place, put, Units, first_free, paid, returned, has_no_tick, is_accepted_deed, chain_tick_reply}
use Rattle.swap_many.specs.Chains.{reply_to_payment, reply_to_sweep}
use Rattle.swap_many.specs.Many.{swept_finish}

-- A chain's clock: its height and how often it ticked.
pub record Time : Type 0 where
  pub height : ℕ
  pub ticks : ℕ

pub record Kept : Type 0 where
  pub swaps : ℕ → State
  pub clocks : ℕ → Time
  pub free : ℕ → Units
  pub swept : ℕ → ℕ → Bool

-- Ticks.

-- the ledger of arc a ticks, where it stands on chain i
abbrev pub tick_ledgers : Setup → (i k s : ℕ) → State → ℕ → State
tick_ledgers m i k s z a = if arc_chain m s a == i then step (m.cast s) z (events.Tick a k) else z

-- each ledger of swap s on chain i ticks, in order
abbrev pub ticked : Setup → (i k s : ℕ) → State → State
ticked m i k s z = fold (tick_ledgers m i k s) z (arcs (m.cast s).deal.graph)

abbrev pub later : Time → ℕ → Time
later t k = record { height = t.height + k; ticks = t.ticks + 1 }

abbrev pub kept_tick : Setup → Kept → (i k : ℕ) → Kept
kept_tick m z i k =
    if has_no_tick (z.clocks i).ticks (z.clocks i).height k then z
    else record z { clocks = put z.clocks i (later (z.clocks i) k); swaps = λ s. ticked m i k s (z.swaps s) }

-- Events of a swap.

-- the call is answered before its ledger's rows
abbrev pub is_barred_call : Kept → ℕ → Called → Bool
is_barred_call z s x = is_barred (z.swept s x.arc) (history (z.swaps s).book x.arc) x.call

abbrev pub answer_call : Setup → Kept → ℕ → Called → ManyReply
answer_call m z s x = if is_barred_call z s x then Swept else Plain (history_reply (m.cast s).deal x.arc (history (z.swaps s).book x.arc) x.sender x.call)

-- Ticks, payments and sweeps.

abbrev pub answer_tick : Kept → (i k : ℕ) → ManyReply
answer_tick z i k = chain_tick_reply (z.clocks i).ticks (z.clocks i).height k

abbrev pub answer_payment : Kept → (i from units : ℕ) → ManyReply
answer_payment z i from units = reply_to_payment (z.free i from) units

abbrev pub answer_sweep : (fair : Bool) → Setup → Kept → (s a : ℕ) → ManyReply
answer_sweep fair m z s a =
    reply_to_sweep fair (the_horizon (m.cast s).deal) (z.clocks (arc_chain m s a)).height (z.swept s a) (history (z.swaps s).book a)

abbrev pub kept_sweep : Setup → Kept → (s a : ℕ) → Kept
kept_sweep m z s a = record z {
  free =
      put z.free (arc_chain m s a)
      (returned (z.free (arc_chain m s a)) (place m s a) (accounts (m.cast s).deal a (history (z.swaps s).book a)));
  swept = put z.swept s (put (z.swept s) a true);
}

-- All events.

abbrev pub kept_done : (fair : Bool) → Setup → Kept → ManyEvent → Kept
kept_done fair m z (Tick i k) = kept_tick m z i k
kept_done fair m z (In s e) = record z { swaps = put z.swaps s (apply_step (z.swept s) (m.cast s) (z.swaps s) e) }
kept_done fair m z (Pay i from to units) =
    if is_accepted_deed (answer_payment z i from units) then record z { free = put z.free i (paid (z.free i) from to units) } else z
kept_done fair m z (Sweep s a) = if is_accepted_deed (answer_sweep fair m z s a) then kept_sweep m z s a else z

abbrev pub kept_step : Setup → Kept → ManyEvent → Kept
kept_step m z e = kept_done false m z e

abbrev pub kept_reply : (fair : Bool) → Setup → Kept → ManyEvent → Option ManyReply
kept_reply fair m z (Tick i k) = Some (answer_tick z i k)
kept_reply fair m z (In s e) = option_map (answer_call m z s) (called (m.cast s) (z.swaps s) e)
kept_reply fair m z (Pay i from to units) = Some (answer_payment z i from units)
kept_reply fair m z (Sweep s a) = Some (answer_sweep fair m z s a)

abbrev pub kept_start : Setup → Kept
kept_start m = record {
  swaps = λ s. start (m.cast s);
  clocks = λ i. record { height = 0; ticks = 0 };
  free = first_free m;
  swept = λ s a. false;
}

abbrev pub kept_run : Setup → List ManyEvent → Kept
kept_run m events = fold (kept_step m) (kept_start m) events

abbrev pub kept_finish : Setup → Kept → Kept
kept_finish m z = swept_finish m (kept_done false m) (kept_done true m) (λ z i. (z.clocks i).height) z
