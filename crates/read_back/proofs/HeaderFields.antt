-- The fields of a header that is shown are those of the job.
use Rattle.std.proofs.Common.{◌≡◌, ℕ, Bool, true, false, List, [], map, slice_index, None, Ok, refl, ap, ◌∙◌}
use Rattle.std.specs.Prelude.{codes, slice_index_or}
use Rattle.std.specs.List.{range_with_len}
use Rattle.hex.specs.Hex.{encode_lower}
use Rattle.serde_json.specs.Data.{Data, string, object, no_members, member}
use Rattle.swap_digraph.specs.Graph.{arcs, ends}
use Rattle.swap_digraph.specs.declared.arc_ends.ArcEnds.{ArcEnds}
use Rattle.swap_digraph.specs.declared.deal.Mode.{Mode}
use Rattle.swap_digraph.specs.declared.deal.Mode.TheVariants.{Timelocks, Hashkeys}
use Rattle.swap_digraph.specs.declared.deal.Version.{Version}
use Rattle.swap_digraph.specs.declared.deal.Version.TheVariants.{One, Two}
use Rattle.swap_digraph.specs.Deal.{amount, lock_leader, locks}
use Rattle.swap_job.specs.declared.job.Job.{Job}
use Rattle.swap_job.specs.declared.job.Purpose.TheVariants.{Audit}
use Rattle.swap_job.specs.declared.job.Finish.TheVariants.{Stop}
use Rattle.offer_moves.specs.Fields.{read_array_field, field_list, text_member, needed, field_number, required_object, only, field_text}
use Rattle.offer_header.specs.declared.raw.Reading.{Reading}
use Rattle.offer_header.specs.declared.raw.RawActor.{RawActor}
use Rattle.offer_header.specs.declared.raw.RawActor.TheVariants.{Conforming, Manual}
use Rattle.offer_header.specs.declared.raw.RawParty.{RawParty}
use Rattle.offer_header.specs.declared.raw.RawArc.{RawArc}
use Rattle.offer_header.specs.declared.raw.RawLeader.{RawLeader}
use Rattle.offer_header.specs.declared.raw.RawRow.{RawRow}
use Rattle.offer_header.specs.declared.raw.RawHeader.{RawHeader}
use Rattle.offer_header.specs.Raw.{actor_member, object_arc, header_fields, keys_member, object_leader, mode_member, checked_mode, parse_party, object_header, parse_key_row}
use Rattle.offer_header.specs.Raw.{states_keys}
use Rattle.offer_header.specs.Raw.{stated_mode, version_member, parse_version, IsVersionMode}
use Rattle.offer_text.specs.Words.{digest_data, list_data, number_data}
use Rattle.offer_text.specs.HeaderLine.{arc_data, fields_by_mode, leader_value, version_number, shown_header, shown_party, word_of_conforming}
use Rattle.read_back.proofs.Steps.{items_back, step}

abbrev pub reading : Mode → Reading
reading mode = record { purpose = Audit; mode = mode }

-- ---- parties

abbrev pub actor_for : Bool → RawActor
actor_for true = Conforming
actor_for false = Manual

abbrev pub raw_party : Job → ℕ → RawParty
raw_party job p = record { name = slice_index_or job.names p []; actor = actor_for (slice_index_or job.conforming p false); seed = None }

party_by : (mode : Mode) (line : ℕ) (name : List ℕ) (c : Bool)
    → parse_party (reading mode) line (object (member (codes "actor") (string (word_of_conforming c)) (member (codes "name") (string name) no_members)))
    ≡ Ok (record { name = name; actor = actor_for c; seed = None })
unfolding parse_party required_object field_text needed actor_member text_member only
party_by mode line name true = refl
party_by mode line name false = refl

party_back : (mode : Mode) (line : ℕ) (job : Job) (p : ℕ) → parse_party (reading mode) line (shown_party job p) ≡ Ok (raw_party job p)
party_back mode line job p = party_by mode line (slice_index_or job.names p []) (slice_index_or job.conforming p false)

-- ---- arcs

-- where no timelock is stated, 0 stands in its place
abbrev pub stated : Mode → ℕ → ℕ
stated Timelocks timelock = timelock
stated Hashkeys timelock = 0

abbrev pub raw_arc : Mode → Job → ℕ → RawArc
raw_arc mode job a = record {
  from = slice_index_or job.names (ends job.deal.graph a).from [];
  to = slice_index_or job.names (ends job.deal.graph a).to [];
  amount = amount job.deal a;
  timelock = stated mode (slice_index job.deal.timelocks a);
}

abbrev pub arc_shown : Mode → Job → ℕ → Data
arc_shown mode job a = arc_data mode job.names (ends job.deal.graph a) (amount job.deal a) (slice_index job.deal.timelocks a)

arc_by : (mode : Mode) (line : ℕ) (names : List (List ℕ)) (arc : ArcEnds) (units timelock : ℕ)
    → object_arc (reading mode) line (arc_data mode names arc units timelock)
    ≡ Ok (record { from = slice_index_or names arc.from []; to = slice_index_or names arc.to []; amount = units; timelock = stated mode timelock })
unfolding object_arc required_object field_text needed field_number only
arc_by Timelocks line names arc units timelock = refl
arc_by Hashkeys line names arc units timelock = refl

pub arc_back : (mode : Mode) (line : ℕ) (job : Job) (a : ℕ) → object_arc (reading mode) line (arc_shown mode job a) ≡ Ok (raw_arc mode job a)
arc_back mode line job a = arc_by mode line job.names (ends job.deal.graph a) (amount job.deal a) (slice_index job.deal.timelocks a)

-- ---- leaders and keys

abbrev pub raw_leader : Job → ℕ → RawLeader
raw_leader job i = record {
  party = slice_index_or job.names (lock_leader job.deal i) [];
  hashlock = encode_lower (slice_index_or job.deal.hashlocks i []);
}

pub leader_back : (mode : Mode) (line : ℕ) (job : Job) (i : ℕ) → object_leader (reading mode) line (leader_value job.names job.deal i) ≡ Ok (raw_leader job i)
unfolding object_leader required_object field_text needed only
leader_back mode line job i = refl

text_back : (line : ℕ) (key : List ℕ) → text_member line (codes "keys") (digest_data key) ≡ Ok (encode_lower key)
unfolding text_member
text_back line key = refl

abbrev pub raw_row : List (List ℕ) → RawRow
raw_row keys = record { texts = map encode_lower keys }

pub row_back : (line : ℕ) (keys : List (List ℕ)) → parse_key_row line (list_data digest_data keys) ≡ Ok (raw_row keys)
unfolding parse_key_row
row_back line keys =
    step _ (map encode_lower keys) _ (items_back (text_member line (codes "keys")) digest_data encode_lower keys (λ key i. text_back line key))

-- ---- the header

abbrev pub raw_keys : Mode → Job → List RawRow
raw_keys Timelocks job = []
raw_keys Hashkeys job = map raw_row job.deal.keys

abbrev pub raw_header : Mode → Job → RawHeader
raw_header mode job = record {
  version = job.deal.version;
  mode = mode;
  start = job.deal.start;
  delta = job.deal.delta;
  bound = job.deal.bound;
  parties = map (raw_party job) (range_with_len 0 job.deal.graph.n);
  arcs = map (raw_arc mode job) (arcs job.deal.graph);
  leaders = map (raw_leader job) (locks job.deal);
  keys = raw_keys mode job;
  finish = Stop;
}

-- a header as it is shown in a mode

abbrev parties_shown : Job → Data
parties_shown job = list_data (shown_party job) (range_with_len 0 job.deal.graph.n)

abbrev shown_in : Mode → Job → Data
shown_in mode job = object (member (codes "arcs") (list_data (arc_shown mode job) (arcs job.deal.graph))
    (member (codes "bound") (number_data job.deal.bound)
    (member (codes "delta") (number_data job.deal.delta) (fields_by_mode mode job.names (parties_shown job) job.deal))))

as_shown : (job : Job) → shown_header job ≡ shown_in job.deal.mode job
as_shown job = refl

-- each field of it

pub version_known : (line : ℕ) (v : Version) → parse_version line (version_number v) ≡ Ok v
version_known line One = refl
version_known line Two = refl

version_is : (mode : Mode) (line : ℕ) (job : Job) → version_member line (shown_in mode job) ≡ Ok job.deal.version
unfolding version_member field_number needed
version_is Timelocks line job = version_known line job.deal.version
version_is Hashkeys line job = version_known line job.deal.version

pub mode_fits : (line : ℕ) (v : Version) (mode : Mode) → IsVersionMode v mode → checked_mode line v mode ≡ Ok mode
mode_fits line One mode k = refl
mode_fits line Two Timelocks k = absurd (cc k)
mode_fits line Two Hashkeys k = refl

stated_mode_is : (mode : Mode) (line : ℕ) (job : Job) → stated_mode line (shown_in mode job) ≡ Ok mode
unfolding stated_mode field_text needed
stated_mode_is Timelocks line job = refl
stated_mode_is Hashkeys line job = refl

mode_is : (mode : Mode) (line : ℕ) (job : Job) → IsVersionMode job.deal.version mode → mode_member line job.deal.version (shown_in mode job) ≡ Ok mode
unfolding mode_member
mode_is mode line job k = step _ mode _ (stated_mode_is mode line job) ∙ mode_fits line job.deal.version mode k

start_is : (mode : Mode) (line : ℕ) (job : Job) → field_number line (codes "start") (shown_in mode job) ≡ Ok job.deal.start
unfolding field_number needed
start_is Timelocks line job = refl
start_is Hashkeys line job = refl

delta_is : (mode : Mode) (line : ℕ) (job : Job) → field_number line (codes "delta") (shown_in mode job) ≡ Ok job.deal.delta
unfolding field_number needed
delta_is Timelocks line job = refl
delta_is Hashkeys line job = refl

bound_is : (mode : Mode) (line : ℕ) (job : Job) → field_number line (codes "bound") (shown_in mode job) ≡ Ok job.deal.bound
unfolding field_number needed
bound_is Timelocks line job = refl
bound_is Hashkeys line job = refl

parties_are : (mode : Mode) (line : ℕ) (job : Job)
    → field_list line (codes "parties") (parse_party (reading mode) line) (shown_in mode job) ≡ Ok (map (raw_party job) (range_with_len 0 job.deal.graph.n))
unfolding field_list read_array_field needed
parties_are Timelocks line job =
    items_back (parse_party (reading Timelocks) line) (shown_party job) (raw_party job) (range_with_len 0 job.deal.graph.n)
    (λ p i. party_back Timelocks line job p)
parties_are Hashkeys line job =
    items_back (parse_party (reading Hashkeys) line) (shown_party job) (raw_party job) (range_with_len 0 job.deal.graph.n)
    (λ p i. party_back Hashkeys line job p)

arcs_are : (mode : Mode) (line : ℕ) (job : Job)
    → field_list line (codes "arcs") (object_arc (reading mode) line) (shown_in mode job) ≡ Ok (map (raw_arc mode job) (arcs job.deal.graph))
unfolding field_list read_array_field needed
arcs_are Timelocks line job =
    items_back (object_arc (reading Timelocks) line) (arc_shown Timelocks job) (raw_arc Timelocks job) (arcs job.deal.graph)
    (λ a i. arc_back Timelocks line job a)
arcs_are Hashkeys line job =
    items_back (object_arc (reading Hashkeys) line) (arc_shown Hashkeys job) (raw_arc Hashkeys job) (arcs job.deal.graph)
    (λ a i. arc_back Hashkeys line job a)

leaders_are : (mode : Mode) (line : ℕ) (job : Job)
    → field_list line (codes "leaders") (object_leader (reading mode) line) (shown_in mode job) ≡ Ok (map (raw_leader job) (locks job.deal))
unfolding field_list read_array_field needed
leaders_are Timelocks line job =
    items_back (object_leader (reading Timelocks) line) (leader_value job.names job.deal) (raw_leader job) (locks job.deal)
    (λ k i. leader_back Timelocks line job k)
leaders_are Hashkeys line job =
    items_back (object_leader (reading Hashkeys) line) (leader_value job.names job.deal) (raw_leader job) (locks job.deal)
    (λ k i. leader_back Hashkeys line job k)

keys_are : (mode : Mode) (line : ℕ) (job : Job) → keys_member line (states_keys Audit mode) (shown_in mode job) ≡ Ok (raw_keys mode job)
unfolding field_list read_array_field needed
keys_are Timelocks line job = refl
keys_are Hashkeys line job = items_back (parse_key_row line) (list_data digest_data) raw_row job.deal.keys (λ keys i. row_back line keys)

no_others : (mode : Mode) (line : ℕ) (job : Job) → only line (header_fields Audit (states_keys Audit mode)) (shown_in mode job) ≡ Ok tt
unfolding only
no_others Timelocks line job = refl
no_others Hashkeys line job = refl

parse_raw : (mode : Mode) (line : ℕ) (job : Job) → IsVersionMode job.deal.version mode → object_header Audit line (shown_in mode job) ≡ Ok (raw_header mode job)
unfolding object_header
parse_raw mode line job k =
    step _ job.deal.version _ (version_is mode line job)
    ∙ step _ mode _ (mode_is mode line job k)
    ∙ step _ job.deal.start _ (start_is mode line job)
    ∙ step _ job.deal.delta _ (delta_is mode line job)
    ∙ step _ job.deal.bound _ (bound_is mode line job)
    ∙ step _ (map (raw_party job) (range_with_len 0 job.deal.graph.n)) _ (parties_are mode line job)
    ∙ step _ (map (raw_arc mode job) (arcs job.deal.graph)) _ (arcs_are mode line job)
    ∙ step _ (map (raw_leader job) (locks job.deal)) _ (leaders_are mode line job)
    ∙ step _ (raw_keys mode job) _ (keys_are mode line job)
    ∙ step _ tt _ (no_others mode line job)

pub raw_back : (line : ℕ) (job : Job) → IsVersionMode job.deal.version job.deal.mode → object_header Audit line (shown_header job) ≡ Ok (raw_header job.deal.mode job)
raw_back line job k = ap (object_header Audit line) (as_shown job) ∙ parse_raw job.deal.mode line job k
