-- What the fields of a header say, in the order in which they are examined, or the first reason why
-- one is refused.
use Rattle.std.specs.Prelude.{◌≡◌, ◌==◌, ◌<◌, length, slice_index_or, ℕ, List, [], ◌∷◌, codes, if◌then◌else◌, Bool, true, false, not, Option, Some, None}
use Rattle.std.specs.Prelude.{Result, Ok, Err, is_some}
use Rattle.std.specs.Str.{bytes_eq}
use Rattle.serde_json.specs.Data.{Data}
use Rattle.serde_json.specs.Find.{get, as_object, as_array}
use Rattle.swap_base.specs.Fault.{◌>>=◌}
use Rattle.swap_digraph.specs.declared.deal.Mode.{Mode}
use Rattle.swap_digraph.specs.declared.deal.Mode.TheVariants.{Timelocks, Hashkeys}
use Rattle.swap_digraph.specs.declared.deal.Version.{Version}
use Rattle.swap_digraph.specs.declared.deal.Version.TheVariants.{One, Two}
use Rattle.swap_job.specs.declared.job.Purpose.{Purpose}
use Rattle.swap_job.specs.declared.job.Purpose.TheVariants.{Make, Audit}
use Rattle.swap_job.specs.declared.job.Finish.{Finish}
use Rattle.swap_job.specs.declared.job.Finish.TheVariants.{Stop, Fair}
use Rattle.command_input.specs.declared.reason.Reason.{Reason}
use Rattle.command_input.specs.declared.reason.Reason.TheVariants.{WrongKind}
use Rattle.offer_moves.specs.Fields.{kind, field_number, field_text, field_word, optional_field_text, text_member, required_object, field_list, each, only}
use Rattle.offer_moves.specs.Reading.{script_move}
use Rattle.offer_header.specs.declared.raw.Front.{Front}
use Rattle.offer_header.specs.declared.raw.Reading.{Reading}
use Rattle.offer_header.specs.declared.raw.RawActor.{RawActor}
use Rattle.offer_header.specs.declared.raw.RawActor.TheVariants.{Conforming, Manual, Script, Strategy}
use Rattle.offer_header.specs.declared.raw.RawParty.{RawParty}
use Rattle.offer_header.specs.declared.raw.RawArc.{RawArc}
use Rattle.offer_header.specs.declared.raw.RawLeader.{RawLeader}
use Rattle.offer_header.specs.declared.raw.RawRow.{RawRow}
use Rattle.offer_header.specs.declared.raw.RawHeader.{RawHeader}

-- ---- plain jobs

-- a job that is to be made is plain: it doesn't state what its parties' seeds give
abbrev pub is_plain : Purpose → Bool
is_plain Make = true
is_plain _ = false

-- whether each arc states its timelock
abbrev pub states_timelocks : Purpose → Mode → Bool
states_timelocks purpose Timelocks = not (is_plain purpose)
states_timelocks purpose Hashkeys = false

-- whether the header states keys
abbrev pub states_keys : Purpose → Mode → Bool
states_keys purpose Timelocks = false
states_keys purpose Hashkeys = not (is_plain purpose)

-- ---- parties

-- a script, by its moves
unfoldable pub script_actor : ℕ → Data → Result RawActor Reason
script_actor line d = do
  moves ← field_list line (codes "script") (script_move line) d
  u ← only line (codes "script" ∷ []) d
  Ok (Script moves)

-- a strategy, by its name
unfoldable pub strategy_actor : ℕ → Data → Result RawActor Reason
strategy_actor line d = do
  name ← field_text line (codes "strategy") d
  u ← only line (codes "strategy" ∷ []) d
  Ok (Strategy name)

-- an object that holds a script is one; any other names a strategy
abbrev pub planned_actor : ℕ → Data → Result RawActor Reason
planned_actor line d = if is_some (get (codes "script") d) then script_actor line d else strategy_actor line d

-- scripts and strategies have no place in a transcript
abbrev pub object_actor : ℕ → Purpose → Data → Result RawActor Reason
object_actor line Audit d = Err (WrongKind line (codes "actor"))
object_actor line _ d = planned_actor line d

abbrev pub actor_of_word : ℕ → List ℕ → Result RawActor Reason
actor_of_word line word =
    if bytes_eq word (codes "conforming") then Ok Conforming
    else if bytes_eq word (codes "manual") then Ok Manual
    else Err (WrongKind line (codes "actor"))

abbrev pub parse_raw_actor : ℕ → Purpose → Data → Result RawActor Reason
parse_raw_actor line purpose d =
    if is_some (as_object d) then object_actor line purpose d
    else text_member line (codes "actor") d >>= λ word. actor_of_word line word

-- an actor that is absent conforms
abbrev pub actor_or_conforming : ℕ → Purpose → Option Data → Result RawActor Reason
actor_or_conforming line purpose None = Ok Conforming
actor_or_conforming line purpose (Some d) = parse_raw_actor line purpose d

unfoldable pub actor_member : ℕ → Purpose → Data → Result RawActor Reason
actor_member line purpose d = actor_or_conforming line purpose (get (codes "actor") d)

-- the text of a seed, where there is one; a transcript shows none
abbrev pub seed_member : ℕ → Purpose → Data → Result (Option (List ℕ)) Reason
seed_member line Audit d = Ok None
seed_member line _ d = optional_field_text line (codes "seed") d

abbrev pub party_fields : Purpose → List (List ℕ)
party_fields Audit = codes "actor" ∷ codes "name" ∷ []
party_fields _ = codes "actor" ∷ codes "name" ∷ codes "seed" ∷ []

unfoldable pub parse_party : Reading → ℕ → Data → Result RawParty Reason
parse_party reading line d = do
  o ← required_object line (codes "parties") d
  name ← field_text line (codes "name") d
  actor ← actor_member line reading.purpose d
  seed ← seed_member line reading.purpose d
  u ← only line (party_fields reading.purpose) d
  Ok (record { name = name; actor = actor; seed = seed })

-- ---- arcs

-- where no timelock is stated, 0 stands in its place
abbrev pub timelock_member : ℕ → (stated : Bool) → Data → Result ℕ Reason
timelock_member line stated d = if stated then field_number line (codes "timelock") d else Ok 0

abbrev pub arc_fields : (stated : Bool) → List (List ℕ)
arc_fields true = codes "amount" ∷ codes "from" ∷ codes "timelock" ∷ codes "to" ∷ []
arc_fields false = codes "amount" ∷ codes "from" ∷ codes "to" ∷ []

-- the arc between these, by its numbers
abbrev pub read_arc : (stated : Bool) → ℕ → Data → (from to : List ℕ) → Result RawArc Reason
read_arc stated line d from to = do
  amount ← field_number line (codes "amount") d
  timelock ← timelock_member line stated d
  u ← only line (arc_fields stated) d
  Ok (record { from = from; to = to; amount = amount; timelock = timelock })

unfoldable pub object_arc : Reading → ℕ → Data → Result RawArc Reason
object_arc reading line d = do
  o ← required_object line (codes "arcs") d
  from ← field_text line (codes "from") d
  to ← field_text line (codes "to") d
  read_arc (states_timelocks reading.purpose reading.mode) line d from to

-- ---- leaders and keys

-- a plain job has no text in the place of a hashlock
abbrev pub hashlock_member : ℕ → (plain : Bool) → Data → Result (List ℕ) Reason
hashlock_member line plain d = if plain then Ok [] else field_text line (codes "hashlock") d

abbrev pub leader_fields : (plain : Bool) → List (List ℕ)
leader_fields true = codes "party" ∷ []
leader_fields false = codes "hashlock" ∷ codes "party" ∷ []

unfoldable pub object_leader : Reading → ℕ → Data → Result RawLeader Reason
object_leader reading line d = do
  o ← required_object line (codes "leaders") d
  party ← field_text line (codes "party") d
  hashlock ← hashlock_member line (is_plain reading.purpose) d
  u ← only line (leader_fields (is_plain reading.purpose)) d
  Ok (record { party = party; hashlock = hashlock })

unfoldable pub parse_key_row : ℕ → Data → Result RawRow Reason
parse_key_row line d = do
  items ← kind line (codes "keys") (as_array d)
  texts ← each (text_member line (codes "keys")) items
  Ok (record { texts = texts })

abbrev pub keys_member : ℕ → (stated : Bool) → Data → Result (List RawRow) Reason
keys_member line stated d = if stated then field_list line (codes "keys") (parse_key_row line) d else Ok []

-- ---- the header

-- there are two versions
abbrev pub parse_version : ℕ → ℕ → Result Version Reason
parse_version line n =
    if n == 1 then Ok One
    else if n == 2 then Ok Two
    else Err (WrongKind line (codes "swap"))

unfoldable pub version_member : ℕ → Data → Result Version Reason
version_member line d = do
  n ← field_number line (codes "swap") d
  parse_version line n

abbrev pub parse_mode : List ℕ → Option Mode
parse_mode word =
    if bytes_eq word (codes "timelocks") then Some Timelocks
    else if bytes_eq word (codes "hashkeys") then Some Hashkeys
    else None

-- version 2 has hashkeys alone
abbrev pub checked_mode : ℕ → Version → Mode → Result Mode Reason
checked_mode line One mode = Ok mode
checked_mode line Two Timelocks = Err (WrongKind line (codes "mode"))
checked_mode line Two Hashkeys = Ok Hashkeys

unfoldable pub stated_mode : ℕ → Data → Result Mode Reason
stated_mode line d = field_word line (codes "mode") parse_mode d

unfoldable pub mode_member : ℕ → Version → Data → Result Mode Reason
mode_member line version d = do
  mode ← stated_mode line d
  checked_mode line version mode

-- what a run does after its last event: it stops, or it goes on to a fair finish
abbrev pub finish_of_word : ℕ → List ℕ → Result Finish Reason
finish_of_word line word =
    if bytes_eq word (codes "stop") then Ok Stop
    else if bytes_eq word (codes "fair") then Ok Fair
    else Err (WrongKind line (codes "finish"))

abbrev pub finish_or_stop : ℕ → Option (List ℕ) → Result Finish Reason
finish_or_stop line None = Ok Stop
finish_or_stop line (Some word) = finish_of_word line word

unfoldable pub stated_finish : ℕ → Data → Result Finish Reason
stated_finish line d = do
  word ← optional_field_text line (codes "finish") d
  finish_or_stop line word

-- a transcript has no finish
abbrev pub finish_member : ℕ → Purpose → Data → Result Finish Reason
finish_member line Audit d = Ok Stop
finish_member line _ d = stated_finish line d

abbrev pub transcript_fields : (keyed : Bool) → List (List ℕ)
transcript_fields true = codes "arcs" ∷ codes "bound" ∷ codes "delta" ∷ codes "keys" ∷ codes "leaders" ∷ codes "mode" ∷ codes "parties" ∷
    codes "start" ∷ codes "swap" ∷ []
transcript_fields false = codes "arcs" ∷ codes "bound" ∷ codes "delta" ∷ codes "leaders" ∷ codes "mode" ∷ codes "parties" ∷ codes "start" ∷
    codes "swap" ∷ []

abbrev pub job_fields : (keyed : Bool) → List (List ℕ)
job_fields true = codes "arcs" ∷ codes "bound" ∷ codes "delta" ∷ codes "finish" ∷ codes "keys" ∷ codes "leaders" ∷ codes "mode" ∷
    codes "parties" ∷ codes "start" ∷ codes "swap" ∷ []
job_fields false = codes "arcs" ∷ codes "bound" ∷ codes "delta" ∷ codes "finish" ∷ codes "leaders" ∷ codes "mode" ∷ codes "parties" ∷
    codes "start" ∷ codes "swap" ∷ []

abbrev pub header_fields : Purpose → (keyed : Bool) → List (List ℕ)
header_fields Audit keyed = transcript_fields keyed
header_fields _ keyed = job_fields keyed

-- the lists of a header and what stands beside them, after its version, its mode and its numbers
abbrev pub raw_header_lists : Purpose → Front → ℕ → Data → Result RawHeader Reason
raw_header_lists purpose front line d = do
  parties ← field_list line (codes "parties") (parse_party (record { purpose = purpose; mode = front.mode }) line) d
  arcs ← field_list line (codes "arcs") (object_arc (record { purpose = purpose; mode = front.mode }) line) d
  leaders ← field_list line (codes "leaders") (object_leader (record { purpose = purpose; mode = front.mode }) line) d
  keys ← keys_member line (states_keys purpose front.mode) d
  finish ← finish_member line purpose d
  u ← only line (header_fields purpose (states_keys purpose front.mode)) d
  Ok (record {
    version = front.version;
    mode = front.mode;
    start = front.start;
    delta = front.delta;
    bound = front.bound;
    parties = parties;
    arcs = arcs;
    leaders = leaders;
    keys = keys;
    finish = finish;
  })

unfoldable pub object_header : Purpose → ℕ → Data → Result RawHeader Reason
object_header purpose line d = do
  version ← version_member line d
  mode ← mode_member line version d
  start ← field_number line (codes "start") d
  delta ← field_number line (codes "delta") d
  bound ← field_number line (codes "bound") d
  raw_header_lists purpose (record { version = version; mode = mode; start = start; delta = delta; bound = bound }) line d

-- The mode is one of the version: version 2 has hashkeys alone.
abbrev pub IsVersionMode : Version → Mode → Type 0
IsVersionMode One mode = Unit {0}
IsVersionMode Two mode = mode ≡ Hashkeys

-- With hashkeys no arc has a timelock.
abbrev pub IsUntimed : RawHeader → Type 0
IsUntimed h = h.mode ≡ Hashkeys → (a : ℕ) (d : RawArc) → a < length h.arcs → (slice_index_or h.arcs a d).timelock ≡ 0

-- A transcript's header tells no seed, and no finish.
abbrev pub IsUntold : Purpose → RawHeader → Type 0
IsUntold Audit h = ((p : ℕ) (d : RawParty) → p < length h.parties → (slice_index_or h.parties p d).seed ≡ None) × (h.finish ≡ Stop)
IsUntold _ h = Unit {0}

-- the actor is one word
abbrev pub IsWord : RawActor → Type 0
IsWord (Script moves) = ⊥
IsWord (Strategy name) = ⊥
IsWord _ = Unit {0}

-- each actor is a word
abbrev pub AreWords : RawHeader → Type 0
AreWords h = (p : ℕ) (d : RawParty) → p < length h.parties → IsWord (slice_index_or h.parties p d).actor

-- In a transcript each actor is a word.
abbrev pub HasWords : Purpose → RawHeader → Type 0
HasWords Audit h = AreWords h
HasWords _ h = Unit {0}
