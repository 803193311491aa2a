-- The run of a schedule: the histories after its events, the notes of each conforming party, and
-- the plan of each party that follows a script or a strategy.
use Rattle.std.specs.Prelude.{ℕ, ◌+◌, ◌==◌, ◌&&◌, Bool, true, false, nat_lt, nat_le, List, [], ◌∷◌, ◌++◌, length, map, replicate, slice_set}
use Rattle.std.specs.Prelude.{slice_index_or, fold, Option, Some, None, if◌then◌else◌}
use Rattle.std.specs.List.{range_with_len}
use Rattle.swap_digraph.specs.declared.deal.Deal.{Deal}
use Rattle.swap_digraph.specs.Graph.{arcs}
use Rattle.hashkey_path.specs.declared.hashkey.Hashkey.{Hashkey}
use Rattle.party_wallet.specs.Value.{signed_hashkey}
use Rattle.escrow_core.specs.declared.reply.Reply.{Reply}
use Rattle.escrow_core.specs.declared.reply.Reply.TheVariants.{ClockFull}
use Rattle.ledger_core.specs.declared.entry.Call.{Call}
use Rattle.ledger_core.specs.declared.entry.Entry.{Entry}
use Rattle.ledger_core.specs.History.{height, fit, reply_to_tick}
use Rattle.ledger_core.specs.Ledger.{after_call, tick_entry}
use Rattle.ledger_core.specs.Book.{Histories, history}
use Rattle.swap_job.specs.declared.event.Event.{Event}
use Rattle.swap_job.specs.declared.event.Event.TheVariants.{Tick, Look, Act, Call as Made, Crash}
use Rattle.swap_job.specs.declared.job.Role.{Role}
use Rattle.swap_job.specs.declared.job.Role.TheVariants.{Conforming, Manual, Script, Strategy}
use Rattle.swap_job.specs.declared.moves.Move.{Move}
use Rattle.swap_job.specs.Crafted.{Seeds}
use Rattle.swap_job.specs.Resolved.{resolved}
use Rattle.swap_run.specs.Script.{next_call, moves_left}
use Rattle.swap_job.specs.Fitting.{is_near}
use Rattle.swap_job.specs.Roles.{role_script}
use Rattle.swap_rules.specs.Due.{Wallet, Action, due, first}
use Rattle.swap_rules.specs.Machine.{noted}

-- The parties of a run: its deal, which of them conform, and what each signs with; their seeds and
-- roles; and the answers of strategies, in the order of the questions.
pub record Cast : Type 0 where
  pub deal : Deal
  pub conforming : List Bool
  pub wallet : ℕ → Wallet
  pub seeds : Seeds
  pub roles : List Role
  pub answers : ℕ → Option (ℕ × Call)

-- What a conforming party has noted: what it knows of each ledger, and the hashkey that it signed
-- for each lock, if any.
pub record Notes : Type 0 where
  pub known : Histories
  pub signed : List (Option Hashkey)

-- What a party plans that follows a script or a strategy: what it knows of each ledger, the moves
-- that are left of its script, and how often it acted.
pub record Plan : Type 0 where
  pub known : Histories
  pub moves : List Move
  pub turns : ℕ

-- What a strategy is asked: its name, the party that follows it, how often that party acted before,
-- and what it knows of each ledger.
pub record Question : Type 0 where
  pub strategy : List ℕ
  pub party : ℕ
  pub turn : ℕ
  pub known : Histories

-- The histories so far, the notes and the plan of each party, and what strategies were asked, in
-- order. The notes of a party that doesn't conform stay empty, and the plan of one that follows no
-- script or strategy stays as it was.
pub record State : Type 0 where
  pub book : Histories
  pub notes : List Notes
  pub plans : List Plan
  pub asked : List Question

-- party v conforms
abbrev pub conforms : Cast → ℕ → Bool
conforms c v = slice_index_or c.conforming v false

-- the role of party v
abbrev pub party_role : Cast → ℕ → Role
party_role c v = slice_index_or c.roles v Manual

-- the notes of party v
abbrev pub state_notes : State → ℕ → Notes
state_notes s v = slice_index_or s.notes v (record { known = []; signed = [] })

-- the plan of party v
abbrev pub party_plan : State → ℕ → Plan
party_plan s v = slice_index_or s.plans v (record { known = []; moves = []; turns = 0 })

-- the hashkeys that were signed, lock by lock, after a call
abbrev pub signed_through_call : List (Option Hashkey) → Call → List (Option Hashkey)
signed_through_call signed c = map (noted (signed_hashkey signed) c) (range_with_len 0 (length signed))

-- What calls and ticks do to a history.

-- the clock has no room for an entry
abbrev pub is_clock_full_reply : Reply → Bool
is_clock_full_reply ClockFull = true
is_clock_full_reply _ = false

-- a history after a tick by k, which leaves no entry where the clock is full
unfoldable pub after_tick : ℕ → List Entry → List Entry
after_tick k h = if is_clock_full_reply (reply_to_tick h k) then h else h ++ tick_entry k (height h + k) (reply_to_tick h k) ∷ []

-- What conforming parties do.

-- v knows the ledger of arc a up to its end
abbrev pub notes_with_ledger : Notes → ℕ → List Entry → Notes
notes_with_ledger n a h = record n { known = slice_set n.known a h }

-- v looks at the ledger of arc a
abbrev pub look : State → ℕ → ℕ → State
look s v a = record s { notes = slice_set s.notes v (notes_with_ledger (state_notes s v) a (history s.book a)) }

-- v makes a call, notes what it signed, and then knows the ledger up to its end
abbrev pub make : Deal → State → ℕ → Option Action → State
make d s v None = s
make d s v (Some x) =
    let h = after_call d x.arc v x.call (history s.book x.arc) in
    record s {
      book = slice_set s.book x.arc h;
      notes = slice_set s.notes v (record { known = slice_set (state_notes s v).known x.arc h; signed = signed_through_call (state_notes s v).signed x.call });
    }

-- the first of what is due for v over what it knows, if anything
abbrev pub next_action : Cast → State → ℕ → Option Action
next_action c s v = first (due c.deal v (c.wallet v) (signed_hashkey (state_notes s v).signed) (state_notes s v).known)

-- v makes the first due call
abbrev pub act : Cast → State → ℕ → State
act c s v = make c.deal s v (next_action c s v)

-- What the other parties do.

-- the role follows a script or a strategy
abbrev pub is_planned : Role → Bool
is_planned (Script moves) = true
is_planned (Strategy name) = true
is_planned _ = false

-- the plan of a party that knows the ledger of arc a up to its end
abbrev pub plan_with_ledger : Plan → ℕ → List Entry → Plan
plan_with_ledger n a h = record n { known = slice_set n.known a h }

-- the plans after v has seen the ledger of arc a up to its end, if v keeps one
abbrev pub plans_seen : Cast → State → ℕ → ℕ → List Entry → List Plan
plans_seen c s v a h = if is_planned (party_role c v) then slice_set s.plans v (plan_with_ledger (party_plan s v) a h) else s.plans

-- v looks at the ledger of arc a
abbrev pub watch : Cast → State → ℕ → ℕ → State
watch c s v a = record s { plans = plans_seen c s v a (history s.book a) }

-- v makes a call, if any, and then knows the ledger up to its end
abbrev pub take_call : Cast → State → ℕ → Option (ℕ × Call) → State
take_call c s v None = s
take_call c s v (Some x) =
    let h = after_call c.deal x.0 v x.1 (history s.book x.0) in
    record s { book = slice_set s.book x.0 h; plans = plans_seen c s v x.0 h }

-- the state after a turn of v that leaves these moves of its script
abbrev pub after_turn : State → ℕ → List Move → State
after_turn s v moves = record s { plans = slice_set s.plans v (record (party_plan s v) { moves = moves; turns = (party_plan s v).turns + 1 }) }

-- v makes the next call of its script
abbrev pub follow : Cast → State → ℕ → State
follow c s v =
    take_call c (after_turn s v (moves_left (party_plan s v).known (party_plan s v).moves)) v
    (next_call c.deal c.seeds (party_plan s v).known (party_plan s v).moves)

-- a call on an arc that touches v, and that fits
abbrev pub is_party_answer : Deal → ℕ → ℕ × Call → Bool
is_party_answer d v x = nat_lt x.0 (length d.graph.arcs) && is_near d v x.0 && fit d x.0 x.1

-- the call of an answer, where v can make it
abbrev pub answered_call : Deal → ℕ → Option (ℕ × Call) → Option (ℕ × Call)
answered_call d v None = None
answered_call d v (Some x) = if is_party_answer d v x then Some x else None

-- what v asks the strategy that it follows
abbrev pub question : State → ℕ → List ℕ → Question
question s v name = record { strategy = name; party = v; turn = (party_plan s v).turns; known = (party_plan s v).known }

-- v has asked its strategy
abbrev pub after_question : State → ℕ → List ℕ → State
after_question s v name = record (after_turn s v (party_plan s v).moves) { asked = s.asked ++ question s v name ∷ [] }

-- v asks its strategy and makes the call that comes as the next answer
abbrev pub ask : Cast → State → ℕ → List ℕ → State
ask c s v name = take_call c (after_question s v name) v (answered_call c.deal v (c.answers (length s.asked)))

-- what an act of v does, which doesn't conform
abbrev pub role_act : Cast → State → ℕ → Role → State
role_act c s v Conforming = s
role_act c s v Manual = s
role_act c s v (Script moves) = follow c s v
role_act c s v (Strategy name) = ask c s v name

-- Crashes.

-- An act that is stopped within the disk call with the number k, counted from 0, of the four that
-- record a hashkey, has it recorded after the crash: its gate was written, and what isn't synced
-- holds its new bytes.
abbrev pub is_recorded_after_crash : (k image : ℕ) → Bool
is_recorded_after_crash k image = nat_le 2 k && (image == 1)

-- the hashkeys that are recorded after the act was stopped
abbrev pub recorded_hashkeys : List (Option Hashkey) → Option Action → (k image : ℕ) → List (Option Hashkey)
recorded_hashkeys signed None k image = signed
recorded_hashkeys signed (Some x) k image = if is_recorded_after_crash k image then signed_through_call signed x.call else signed

-- what v knows that has learnt the history of each ledger that touches it to its end
abbrev pub relearnt : Deal → ℕ → Histories → Histories
relearnt d v b = map (λ a. if is_near d v a then history b a else []) (arcs d.graph)

-- v begins its act, is stopped within the disk call after k of them, and restarts with what a crash
-- leaves of its disk
abbrev pub crash : Cast → State → ℕ → (k image : ℕ) → State
crash c s v k image =
    record s {
      notes =
          slice_set s.notes v (record {
            known = relearnt c.deal v s.book;
            signed = recorded_hashkeys (state_notes s v).signed (next_action c s v) k image;
          });
    }

-- Events.

-- what an event does
abbrev pub step : Cast → State → Event → State
step c s (Tick a k) = record s { book = slice_set s.book a (after_tick k (history s.book a)) }
step c s (Look v a) = if conforms c v then look s v a else watch c s v a
step c s (Act v) = if conforms c v then act c s v else role_act c s v (party_role c v)
step c s (Made v mv) = take_call c s v (resolved c.deal c.seeds s.book mv)
step c s (Crash v k image) = crash c s v k image

-- empty histories
abbrev pub no_histories : Deal → Histories
no_histories d = replicate (length d.graph.arcs) []

-- the notes of a party that has seen nothing
abbrev pub no_notes : Deal → Notes
no_notes d = record { known = no_histories d; signed = replicate (length d.leaders) None }

-- the plan of a party that has seen nothing, with its script at its first move
abbrev pub first_plan : Deal → Role → Plan
first_plan d role = record { known = no_histories d; moves = role_script role; turns = 0 }

-- before any event
abbrev pub start : Cast → State
start c = record { book = no_histories c.deal; notes = replicate c.deal.graph.n (no_notes c.deal); plans = map (first_plan c.deal) c.roles; asked = [] }

-- the state after a list of events
abbrev pub continued_run : Cast → State → List Event → State
continued_run c s events = fold (step c) s events

-- the state after a list of events, from the start
abbrev pub run : Cast → List Event → State
run c events = continued_run c (start c) events
