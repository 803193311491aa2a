-- The header line that is written of a job: its JSON, the fields of each object in the order of
-- their bytes.
use Rattle.std.specs.Prelude.{◌≡◌, ℕ, List, [], Bool, true, false, codes, length, slice_index, slice_index_or, All, None, if◌then◌else◌}
use Rattle.std.specs.Str.Lossy.{utf8_lossy}
use Rattle.std.specs.List.{range_with_len}
use Rattle.serde_json.specs.Data.{Data, string, object, Members, no_members, member}
use Rattle.serde_json.specs.Written.{compact_text}
use Rattle.swap_digraph.specs.Graph.{arcs, ends}
use Rattle.swap_digraph.specs.declared.arc_ends.ArcEnds.{ArcEnds}
use Rattle.swap_digraph.specs.declared.deal.Deal.{Deal}
use Rattle.swap_digraph.specs.declared.deal.Mode.{Mode}
use Rattle.swap_digraph.specs.declared.deal.Mode.TheVariants.{Timelocks, Hashkeys}
use Rattle.swap_digraph.specs.declared.deal.Version.{Version}
use Rattle.swap_digraph.specs.declared.deal.Version.TheVariants.{One, Two}
use Rattle.swap_digraph.specs.Deal.{amount, lock_leader, locks, IsWellSized}
use Rattle.swap_job.specs.declared.job.Job.{Job}
use Rattle.swap_job.specs.declared.job.Role.{Role}
use Rattle.swap_job.specs.declared.job.Role.TheVariants.{Conforming, Manual, Script, Strategy}
use Rattle.swap_job.specs.declared.job.Finish.{Finish}
use Rattle.swap_job.specs.declared.job.Finish.TheVariants.{Stop, Fair}
use Rattle.swap_job.specs.declared.job.Purpose.{Purpose}
use Rattle.swap_job.specs.declared.job.Purpose.TheVariants.{Make}
use Rattle.offer_text.specs.Words.{number_data, digest_data, name_data, list_data, with_optional, AreTexts}
use Rattle.offer_text.specs.Moves.{move_data, BoundedNames}

-- ---- the arcs, leaders and keys of a deal

-- an arc; its timelock stands with timelocks alone
abbrev pub arc_data : Mode → List (List ℕ) → ArcEnds → (amount timelock : ℕ) → Data
arc_data Timelocks names arc amount timelock =
    object (member (codes "amount") (number_data amount)
    (member (codes "from") (name_data names arc.from)
    (member (codes "timelock") (number_data timelock)
    (member (codes "to") (name_data names arc.to) no_members))))
arc_data Hashkeys names arc amount timelock =
    object (member (codes "amount") (number_data amount)
    (member (codes "from") (name_data names arc.from)
    (member (codes "to") (name_data names arc.to) no_members)))

abbrev pub arc_json : List (List ℕ) → Deal → ℕ → Data
arc_json names d a = arc_data d.mode names (ends d.graph a) (amount d a) (slice_index d.timelocks a)

abbrev pub arcs_data : List (List ℕ) → Deal → Data
arcs_data names d = list_data (arc_json names d) (arcs d.graph)

-- the leader of lock i, with its hashlock
abbrev pub leader_value : List (List ℕ) → Deal → ℕ → Data
leader_value names d i =
    object (member (codes "hashlock") (digest_data (slice_index_or d.hashlocks i []))
    (member (codes "party") (name_data names (lock_leader d i)) no_members))

abbrev pub leaders_data : List (List ℕ) → Deal → Data
leaders_data names d = list_data (leader_value names d) (locks d)

-- per party a list of its key for each lock
abbrev pub keys_data : List (List (List ℕ)) → Data
keys_data keys = list_data (list_data digest_data) keys

-- ---- the parties

abbrev pub word_of_conforming : Bool → List ℕ
word_of_conforming true = codes "conforming"
word_of_conforming false = codes "manual"

-- a party of a transcript: every party that doesn't conform is manual, and nobody's seed is told
abbrev pub shown_party : Job → ℕ → Data
shown_party job p =
    object (member (codes "actor") (string (word_of_conforming (slice_index_or job.conforming p false)))
    (member (codes "name") (name_data job.names p) no_members))

-- an actor as the moves that it stands for; a strategy's name as text, which leaves it as it is
-- where it is text
abbrev pub actor_data : List (List ℕ) → Role → Data
actor_data names Conforming = string (codes "conforming")
actor_data names Manual = string (codes "manual")
actor_data names (Script moves) = object (member (codes "script") (list_data (move_data names) moves) no_members)
actor_data names (Strategy name) = object (member (codes "strategy") (string (utf8_lossy name)) no_members)

-- a party of a made job, with its seed where there is one
abbrev pub made_party : Job → ℕ → Data
made_party job p =
    object (member (codes "actor") (actor_data job.names (slice_index_or job.roles p Manual))
    (member (codes "name") (name_data job.names p)
    (with_optional (codes "seed") digest_data (slice_index_or job.seeds p None) no_members)))

-- ---- the header

abbrev pub finish_word : Finish → List ℕ
finish_word Stop = codes "stop"
finish_word Fair = codes "fair"

abbrev pub is_make : Purpose → Bool
is_make Make = true
is_make _ = false

abbrev pub version_number : Version → ℕ
version_number One = 1
version_number Two = 2

-- the fields that every header has last
abbrev pub last_fields : Data → Data → Data → Deal → Members
last_fields leaders mode parties d =
    member (codes "leaders") leaders
    (member (codes "mode") mode
    (member (codes "parties") parties
    (member (codes "start") (number_data d.start)
    (member (codes "swap") (number_data (version_number d.version)) no_members))))

-- the keys stand with hashkeys alone
abbrev pub fields_by_mode : Mode → List (List ℕ) → Data → Deal → Members
fields_by_mode Timelocks names parties d = last_fields (leaders_data names d) (string (codes "timelocks")) parties d
fields_by_mode Hashkeys names parties d = member (codes "keys") (keys_data d.keys) (last_fields (leaders_data names d) (string (codes "hashkeys")) parties d)

abbrev pub first_fields : List (List ℕ) → Deal → Members → Members
first_fields names d ms =
    member (codes "arcs") (arcs_data names d)
    (member (codes "bound") (number_data d.bound)
    (member (codes "delta") (number_data d.delta) ms))

abbrev pub parties_data : (Job → ℕ → Data) → Job → Data
parties_data party job = list_data (party job) (range_with_len 0 job.deal.graph.n)

-- a header without seeds and finish
abbrev pub shown_header : Job → Data
shown_header job = object (first_fields job.names job.deal (fields_by_mode job.deal.mode job.names (parties_data shown_party job) job.deal))

-- a header with seeds, finish, and the actors as they were read
abbrev pub made_header : Job → Data
made_header job =
    object (first_fields job.names job.deal
    (member (codes "finish") (string (finish_word job.finish))
    (fields_by_mode job.deal.mode job.names (parties_data made_party job) job.deal)))

-- the header of a job: a made one for the purpose of making, else the one that a transcript shows
abbrev pub header_data : Job → Data
header_data job = if is_make job.purpose then made_header job else shown_header job

-- the header line: compact JSON, as `serde_json` writes it
unfoldable pub header_line : Job → List ℕ
header_line job = compact_text (header_data job)

-- ---- jobs that can be written

-- a role with moves that name only parties below n
abbrev pub IsSayable : ℕ → Role → Type 0
IsSayable n (Script moves) = All (BoundedNames n) moves
IsSayable n _ = Unit {0}

-- the actors of a job can be said
abbrev pub AreSayable : Job → Type 0
AreSayable job = All (IsSayable (length job.names)) job.roles

-- A job whose parts can be said: a name that is text, and a role and perhaps a seed per party.
pub record IsWritable (job : Job) : Type 0 where
  pub sized : IsWellSized job.deal
  pub names : length job.names ≡ job.deal.graph.n
  pub texts : AreTexts job.names
  pub conforming : length job.conforming ≡ job.deal.graph.n
  pub roles : length job.roles ≡ job.deal.graph.n
  pub seeds : length job.seeds ≡ job.deal.graph.n
