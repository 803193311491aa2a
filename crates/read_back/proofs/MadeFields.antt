-- The fields of a header that is written of a made job are those of the job.
use Rattle.std.proofs.Common.{◌≡◌, ℕ, true, List, [], ◌∷◌, map, Option, Some, None, option_map, Ok, refl, ap, ◌∙◌}
use Rattle.std.specs.Prelude.{codes, slice_index_or}
use Rattle.std.specs.List.{range_with_len}
use Rattle.std.specs.Str.Lossy.{utf8_lossy}
use Rattle.hex.specs.Hex.{encode_lower}
use Rattle.serde_json.specs.Data.{Data, string, object, no_members, member}
use Rattle.swap_digraph.specs.Graph.{arcs}
use Rattle.swap_digraph.specs.Deal.{locks}
use Rattle.swap_digraph.specs.declared.deal.Mode.{Mode}
use Rattle.swap_digraph.specs.declared.deal.Mode.TheVariants.{Timelocks, Hashkeys}
use Rattle.swap_job.specs.declared.job.Job.{Job}
use Rattle.swap_job.specs.declared.job.Purpose.{Purpose}
use Rattle.swap_job.specs.declared.job.Purpose.TheVariants.{Check, Run, Race, Make, Audit}
use Rattle.swap_job.specs.declared.job.Finish.{Finish}
use Rattle.swap_job.specs.declared.job.Finish.TheVariants.{Stop, Fair}
use Rattle.swap_job.specs.declared.job.Role.{Role}
use Rattle.swap_job.specs.declared.job.Role.TheVariants as kinds
use Rattle.swap_job.specs.declared.moves.Move.{Move}
use Rattle.offer_moves.specs.Fields.{read_array_field, field_list, text_member, needed, field_number, required_object, only, optional_field_text, field_text}
use Rattle.offer_moves.specs.Reading.{script_move}
use Rattle.offer_header.specs.declared.raw.Reading.{Reading}
use Rattle.offer_header.specs.declared.raw.RawActor.{RawActor}
use Rattle.offer_header.specs.declared.raw.RawActor.TheVariants.{Conforming, Manual, Script, Strategy}
use Rattle.offer_header.specs.declared.raw.RawParty.{RawParty}
use Rattle.offer_header.specs.declared.raw.RawHeader.{RawHeader}
use Rattle.offer_header.specs.Raw.{actor_member, object_arc, finish_member, finish_of_word, header_fields, keys_member, object_leader, mode_member, party_fields, parse_party}
use Rattle.offer_header.specs.Raw.{object_header}
use Rattle.offer_header.specs.Raw.{parse_key_row, script_actor, seed_member, stated_finish, stated_mode, states_keys, strategy_actor, version_member, IsVersionMode}
use Rattle.offer_text.specs.Moves.{move_data}
use Rattle.offer_text.specs.Words.{digest_data, list_data, number_data, with_optional}
use Rattle.offer_text.specs.HeaderLine.{actor_data, fields_by_mode, finish_word, leader_value, made_header, made_party}
use Rattle.read_back.proofs.Steps.{items_back, step}
use Rattle.read_back.proofs.HeaderFields.{arc_back, arc_shown, leader_back, mode_fits, raw_arc, raw_keys, raw_leader, raw_row, reading, row_back, version_known}
use Rattle.read_back.specs.Made.{reads_jobs}
use Rattle.read_back.proofs.RawMoves.{move_back, raw_move}

abbrev checking : Mode → Reading
checking mode = record { purpose = Check; mode = mode }

-- ---- parties

abbrev pub raw_actor : List (List ℕ) → Role → RawActor
raw_actor names kinds.Conforming = Conforming
raw_actor names kinds.Manual = Manual
raw_actor names (kinds.Script moves) = Script (map (raw_move names) moves)
raw_actor names (kinds.Strategy name) = Strategy (utf8_lossy name)

-- the role and the seed of party p
abbrev pub role_at : Job → ℕ → Role
role_at job p = slice_index_or job.roles p kinds.Manual

abbrev pub read_seed : Job → ℕ → Option (List ℕ)
read_seed job p = slice_index_or job.seeds p None

abbrev pub told_party : Job → ℕ → RawParty
told_party job p = record {
  name = slice_index_or job.names p [];
  actor = raw_actor job.names (role_at job p);
  seed = option_map encode_lower (read_seed job p);
}

abbrev script_data : List (List ℕ) → List Move → Data
script_data names moves = object (member (codes "script") (list_data (move_data names) moves) no_members)

moves_are : (line : ℕ) (names : List (List ℕ)) (moves : List Move)
    → field_list line (codes "script") (script_move line) (script_data names moves) ≡ Ok (map (raw_move names) moves)
unfolding field_list read_array_field needed
moves_are line names moves = items_back (script_move line) (move_data names) (raw_move names) moves (λ mv i. move_back line names mv)

script_only : (line : ℕ) (names : List (List ℕ)) (moves : List Move) → only line (codes "script" ∷ []) (script_data names moves) ≡ Ok tt
unfolding only
script_only line names moves = refl

script_back : (line : ℕ) (names : List (List ℕ)) (moves : List Move) → script_actor line (script_data names moves) ≡ Ok (Script (map (raw_move names) moves))
unfolding script_actor
script_back line names moves = step _ (map (raw_move names) moves) _ (moves_are line names moves) ∙ step _ tt _ (script_only line names moves)

strategy_back : (line : ℕ) (name : List ℕ) → strategy_actor line (object (member (codes "strategy") (string name) no_members)) ≡ Ok (Strategy name)
unfolding strategy_actor field_text needed only
strategy_back line name = refl

-- a party as it is written
abbrev party_data : Data → List ℕ → Option (List ℕ) → Data
party_data actor name seed =
    object (member (codes "actor") actor (member (codes "name") (string name) (with_optional (codes "seed") digest_data seed no_members)))

actor_is : (line : ℕ) (names : List (List ℕ)) (role : Role) (name : List ℕ) (seed : Option (List ℕ))
    → actor_member line Check (party_data (actor_data names role) name seed) ≡ Ok (raw_actor names role)
unfolding actor_member text_member
actor_is line names kinds.Conforming name seed = refl
actor_is line names kinds.Manual name seed = refl
actor_is line names (kinds.Script moves) name seed = script_back line names moves
actor_is line names (kinds.Strategy s) name seed = strategy_back line (utf8_lossy s)

name_is : (line : ℕ) (actor : Data) (name : List ℕ) (seed : Option (List ℕ)) → field_text line (codes "name") (party_data actor name seed) ≡ Ok name
unfolding field_text needed
name_is line actor name seed = refl

seed_is : (line : ℕ) (actor : Data) (name : List ℕ) (seed : Option (List ℕ))
    → seed_member line Check (party_data actor name seed) ≡ Ok (option_map encode_lower seed)
unfolding optional_field_text
seed_is line actor name None = refl
seed_is line actor name (Some s) = refl

party_only : (line : ℕ) (actor : Data) (name : List ℕ) (seed : Option (List ℕ)) → only line (party_fields Check) (party_data actor name seed) ≡ Ok tt
unfolding only
party_only line actor name None = refl
party_only line actor name (Some s) = refl

party_object : (line : ℕ) (actor : Data) (name : List ℕ) (seed : Option (List ℕ)) → required_object line (codes "parties") (party_data actor name seed) ≡ Ok tt
unfolding required_object
party_object line actor name seed = refl

party_back : (mode : Mode) (line : ℕ) (job : Job) (p : ℕ) → parse_party (checking mode) line (made_party job p) ≡ Ok (told_party job p)
unfolding parse_party
party_back mode line job p =
    let name : List ℕ = slice_index_or job.names p [] in
    let role : Role = role_at job p in
    let seed : Option (List ℕ) = read_seed job p in
    let actor : Data = actor_data job.names role in
    step _ tt _ (party_object line actor name seed)
    ∙ step _ name _ (name_is line actor name seed)
    ∙ step _ (raw_actor job.names role) _ (actor_is line job.names role name seed)
    ∙ step _ (option_map encode_lower seed) _ (seed_is line actor name seed)
    ∙ step _ tt _ (party_only line actor name seed)

-- ---- arcs and leaders, which are read as those of a transcript

arc_same : (mode : Mode) (line : ℕ) (d : Data) → object_arc (checking mode) line d ≡ object_arc (reading mode) line d
unfolding object_arc
arc_same Timelocks line d = refl
arc_same Hashkeys line d = refl

leader_same : (mode : Mode) (line : ℕ) (d : Data) → object_leader (checking mode) line d ≡ object_leader (reading mode) line d
unfolding object_leader
leader_same mode line d = refl

-- ---- the header

abbrev pub told_header : Mode → Job → RawHeader
told_header mode job = record {
  version = job.deal.version;
  mode = mode;
  start = job.deal.start;
  delta = job.deal.delta;
  bound = job.deal.bound;
  parties = map (told_party job) (range_with_len 0 job.deal.graph.n);
  arcs = map (raw_arc mode job) (arcs job.deal.graph);
  leaders = map (raw_leader job) (locks job.deal);
  keys = raw_keys mode job;
  finish = job.finish;
}

abbrev parties_made : Job → Data
parties_made job = list_data (made_party job) (range_with_len 0 job.deal.graph.n)

-- a header as it is written in a mode
abbrev made_in : Mode → Job → Data
made_in mode job = object (member (codes "arcs") (list_data (arc_shown mode job) (arcs job.deal.graph))
    (member (codes "bound") (number_data job.deal.bound)
    (member (codes "delta") (number_data job.deal.delta)
    (member (codes "finish") (string (finish_word job.finish)) (fields_by_mode mode job.names (parties_made job) job.deal)))))

as_made : (job : Job) → made_header job ≡ made_in job.deal.mode job
as_made job = refl

version_is : (mode : Mode) (line : ℕ) (job : Job) → version_member line (made_in mode job) ≡ Ok job.deal.version
unfolding version_member field_number needed
version_is Timelocks line job = version_known line job.deal.version
version_is Hashkeys line job = version_known line job.deal.version

stated_mode_is : (mode : Mode) (line : ℕ) (job : Job) → stated_mode line (made_in mode job) ≡ Ok mode
unfolding stated_mode field_text needed
stated_mode_is Timelocks line job = refl
stated_mode_is Hashkeys line job = refl

mode_is : (mode : Mode) (line : ℕ) (job : Job) → IsVersionMode job.deal.version mode → mode_member line job.deal.version (made_in mode job) ≡ Ok mode
unfolding mode_member
mode_is mode line job k = step _ mode _ (stated_mode_is mode line job) ∙ mode_fits line job.deal.version mode k

start_is : (mode : Mode) (line : ℕ) (job : Job) → field_number line (codes "start") (made_in mode job) ≡ Ok job.deal.start
unfolding field_number needed
start_is Timelocks line job = refl
start_is Hashkeys line job = refl

delta_is : (mode : Mode) (line : ℕ) (job : Job) → field_number line (codes "delta") (made_in mode job) ≡ Ok job.deal.delta
unfolding field_number needed
delta_is mode line job = refl

bound_is : (mode : Mode) (line : ℕ) (job : Job) → field_number line (codes "bound") (made_in mode job) ≡ Ok job.deal.bound
unfolding field_number needed
bound_is mode line job = refl

parties_are : (mode : Mode) (line : ℕ) (job : Job)
    → field_list line (codes "parties") (parse_party (checking mode) line) (made_in mode job) ≡ Ok (map (told_party job) (range_with_len 0 job.deal.graph.n))
unfolding field_list read_array_field needed
parties_are Timelocks line job =
    items_back (parse_party (checking Timelocks) line) (made_party job) (told_party job) (range_with_len 0 job.deal.graph.n)
    (λ p i. party_back Timelocks line job p)
parties_are Hashkeys line job =
    items_back (parse_party (checking Hashkeys) line) (made_party job) (told_party job) (range_with_len 0 job.deal.graph.n)
    (λ p i. party_back Hashkeys line job p)

arcs_are : (mode : Mode) (line : ℕ) (job : Job)
    → field_list line (codes "arcs") (object_arc (checking mode) line) (made_in mode job) ≡ Ok (map (raw_arc mode job) (arcs job.deal.graph))
unfolding field_list read_array_field needed
arcs_are mode line job =
    items_back (object_arc (checking mode) line) (arc_shown mode job) (raw_arc mode job) (arcs job.deal.graph)
    (λ a i. arc_same mode line (arc_shown mode job a) ∙ arc_back mode line job a)

leaders_are : (mode : Mode) (line : ℕ) (job : Job)
    → field_list line (codes "leaders") (object_leader (checking mode) line) (made_in mode job) ≡ Ok (map (raw_leader job) (locks job.deal))
unfolding field_list read_array_field needed
leaders_are Timelocks line job =
    items_back (object_leader (checking Timelocks) line) (leader_value job.names job.deal) (raw_leader job) (locks job.deal)
    (λ i is. leader_same Timelocks line (leader_value job.names job.deal i) ∙ leader_back Timelocks line job i)
leaders_are Hashkeys line job =
    items_back (object_leader (checking Hashkeys) line) (leader_value job.names job.deal) (raw_leader job) (locks job.deal)
    (λ i is. leader_same Hashkeys line (leader_value job.names job.deal i) ∙ leader_back Hashkeys line job i)

keys_are : (mode : Mode) (line : ℕ) (job : Job) → keys_member line (states_keys Check mode) (made_in mode job) ≡ Ok (raw_keys mode job)
unfolding field_list read_array_field needed
keys_are Timelocks line job = refl
keys_are Hashkeys line job = items_back (parse_key_row line) (list_data digest_data) raw_row job.deal.keys (λ keys i. row_back line keys)

finish_known : (line : ℕ) (finish : Finish) → finish_of_word line (finish_word finish) ≡ Ok finish
finish_known line Stop = refl
finish_known line Fair = refl

finish_is : (mode : Mode) (line : ℕ) (job : Job) → finish_member line Check (made_in mode job) ≡ Ok job.finish
unfolding stated_finish optional_field_text
finish_is mode line job = finish_known line job.finish

no_others : (mode : Mode) (line : ℕ) (job : Job) → only line (header_fields Check (states_keys Check mode)) (made_in mode job) ≡ Ok tt
unfolding only
no_others Timelocks line job = refl
no_others Hashkeys line job = refl

parse_raw : (mode : Mode) (line : ℕ) (job : Job) → IsVersionMode job.deal.version mode → object_header Check line (made_in mode job) ≡ Ok (told_header mode job)
unfolding object_header
parse_raw mode line job k =
    step _ job.deal.version _ (version_is mode line job)
    ∙ step _ mode _ (mode_is mode line job k)
    ∙ step _ job.deal.start _ (start_is mode line job)
    ∙ step _ job.deal.delta _ (delta_is mode line job)
    ∙ step _ job.deal.bound _ (bound_is mode line job)
    ∙ step _ (map (told_party job) (range_with_len 0 job.deal.graph.n)) _ (parties_are mode line job)
    ∙ step _ (map (raw_arc mode job) (arcs job.deal.graph)) _ (arcs_are mode line job)
    ∙ step _ (map (raw_leader job) (locks job.deal)) _ (leaders_are mode line job)
    ∙ step _ (raw_keys mode job) _ (keys_are mode line job)
    ∙ step _ job.finish _ (finish_is mode line job)
    ∙ step _ tt _ (no_others mode line job)

-- a check, a run and a race read the same fields
same_fields : (purpose : Purpose) (line : ℕ) (d : Data) → reads_jobs purpose ≡ true → object_header purpose line d ≡ object_header Check line d
unfolding object_header parse_party object_arc object_leader actor_member
same_fields Check line d e = refl
same_fields Run line d e = refl
same_fields Race line d e = refl
same_fields Make line d e = absurd (cc e)
same_fields Audit line d e = absurd (cc e)

pub raw_back : (purpose : Purpose) (line : ℕ) (job : Job) → reads_jobs purpose ≡ true → IsVersionMode job.deal.version job.deal.mode
    → object_header purpose line (made_header job) ≡ Ok (told_header job.deal.mode job)
raw_back purpose line job e k =
    same_fields purpose line (made_header job) e ∙ ap (object_header Check line) (as_made job) ∙ parse_raw job.deal.mode line job k
