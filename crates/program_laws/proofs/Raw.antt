-- The fields of a header.
use Rattle.std.proofs.Common.{Bool, List, None, Option, Some, [], codes, is_some, ℕ, ◌==◌, ◌∷◌}
use Rattle.std.specs.Str.{bytes_eq}
use Rattle.serde_json.specs.Data.{Data}
use Rattle.serde_json.specs.Find.{get, as_object, as_array}
use Rattle.swap_digraph.specs.declared.deal.Mode.{Mode}
use Rattle.swap_digraph.specs.declared.deal.Mode.TheVariants.{Timelocks, Hashkeys}
use Rattle.swap_digraph.specs.declared.deal.Version.{Version}
use Rattle.swap_digraph.specs.declared.deal.Version.TheVariants.{One, Two}
use Rattle.swap_job.specs.declared.job.Purpose.{Purpose}
use Rattle.swap_job.specs.declared.job.Purpose.TheVariants.{Audit}
use Rattle.command_input.specs.declared.reason.Reason.TheVariants.{WrongKind}
use Rattle.offer_moves.specs.Fields.{kind, field_number, field_text, optional_field_text, text_member, required_object, field_list, each, only}
use Rattle.offer_moves.specs.Reading.{script_move}
use Rattle.offer_header.specs.declared.raw.Front.{Front}
use Rattle.offer_header.specs.declared.raw.Reading.{Reading}
use Rattle.offer_header.specs.Raw.{is_plain, states_timelocks, states_keys, script_actor, strategy_actor, planned_actor, object_actor, actor_of_word, parse_raw_actor}
use Rattle.offer_header.specs.Raw.{actor_or_conforming, actor_member, seed_member, party_fields, parse_party, timelock_member, arc_fields, read_arc, object_arc}
use Rattle.offer_header.specs.Raw.{hashlock_member}
use Rattle.offer_header.specs.Raw.{leader_fields, object_leader, parse_key_row, keys_member, parse_version, version_member, parse_mode, checked_mode}
use Rattle.offer_header.specs.Raw.{stated_mode, mode_member}
use Rattle.offer_header.specs.Raw.{finish_of_word, finish_or_stop, stated_finish, finish_member, header_fields, raw_header_lists, object_header}
use Rattle.swap_job.specs.declared.job.Purpose.TheVariants as purpose_kinds
use Rattle.program_laws.proofs.Bare.{Bare, onward, landed, refused, choose}
use Rattle.program_laws.proofs.Fields.{kind_bare, number_at_bare, text_at_bare, word_at_bare, only_bare, object_at_bare, optional_text_at_bare}
use Rattle.program_laws.proofs.Fields.{member_text_of_bare, each_bare, list_at_bare}
use Rattle.program_laws.proofs.RefusalReading.{scripted_at_bare}

pub script_at_bare : (line : ℕ) (d : Data) → Bare (script_actor line d)
unfolding script_actor
script_at_bare line d =
    onward (field_list line (codes "script") (script_move line) d) _ (list_at_bare line (codes "script") (script_move line) (scripted_at_bare line) d)
    (λ moves. onward (only line (codes "script" ∷ []) d) _ (only_bare line (codes "script" ∷ []) d) (λ u. landed _))

pub strategy_at_bare : (line : ℕ) (d : Data) → Bare (strategy_actor line d)
unfolding strategy_actor
strategy_at_bare line d =
    onward (field_text line (codes "strategy") d) _ (text_at_bare line (codes "strategy") d)
    (λ name. onward (only line (codes "strategy" ∷ []) d) _ (only_bare line (codes "strategy" ∷ []) d) (λ u. landed _))

pub planned_actor_bare : (line : ℕ) (d : Data) → Bare (planned_actor line d)
planned_actor_bare line d = choose (is_some (get (codes "script") d)) _ _ (script_at_bare line d) (strategy_at_bare line d)

pub object_actor_bare : (line : ℕ) (x1 : Purpose) (d : Data) → Bare (object_actor line x1 d)
object_actor_bare line Audit d = refused (WrongKind line (codes "actor")) tt
object_actor_bare line purpose_kinds.Check d = planned_actor_bare line d
object_actor_bare line purpose_kinds.Run d = planned_actor_bare line d
object_actor_bare line purpose_kinds.Race d = planned_actor_bare line d
object_actor_bare line purpose_kinds.Make d = planned_actor_bare line d

pub actor_of_word_bare : (line : ℕ) (word : List ℕ) → Bare (actor_of_word line word)
actor_of_word_bare line word =
    choose (bytes_eq word (codes "conforming"))
    _ _ (landed _) (choose (bytes_eq word (codes "manual")) _ _ (landed _) (refused (WrongKind line (codes "actor")) tt))

pub actor_of_bare : (line : ℕ) (purpose : Purpose) (d : Data) → Bare (parse_raw_actor line purpose d)
actor_of_bare line purpose d =
    choose (is_some (as_object d)) _ _ (object_actor_bare line purpose d) (onward (text_member line (codes "actor") d) _ (member_text_of_bare line
    (codes "actor") d) (λ word. actor_of_word_bare line word))

pub actor_or_conforming_bare : (line : ℕ) (purpose : Purpose) (x2 : Option Data) → Bare (actor_or_conforming line purpose x2)
actor_or_conforming_bare line purpose None = landed _
actor_or_conforming_bare line purpose (Some d) = actor_of_bare line purpose d

pub actor_at_bare : (line : ℕ) (purpose : Purpose) (d : Data) → Bare (actor_member line purpose d)
unfolding actor_member
actor_at_bare line purpose d = actor_or_conforming_bare line purpose (get (codes "actor") d)

pub seed_at_bare : (line : ℕ) (x1 : Purpose) (d : Data) → Bare (seed_member line x1 d)
seed_at_bare line Audit d = landed _
seed_at_bare line purpose_kinds.Check d = optional_text_at_bare line (codes "seed") d
seed_at_bare line purpose_kinds.Run d = optional_text_at_bare line (codes "seed") d
seed_at_bare line purpose_kinds.Race d = optional_text_at_bare line (codes "seed") d
seed_at_bare line purpose_kinds.Make d = optional_text_at_bare line (codes "seed") d

pub party_of_bare : (reading : Reading) (line : ℕ) (d : Data) → Bare (parse_party reading line d)
unfolding parse_party
party_of_bare reading line d =
    onward (required_object line (codes "parties") d) _ (object_at_bare line (codes "parties") d)
    (λ o. onward (field_text line (codes "name") d) _ (text_at_bare line (codes "name") d)
    (λ name. onward (actor_member line reading.purpose d) _ (actor_at_bare line reading.purpose d)
    (λ actor. onward (seed_member line reading.purpose d) _ (seed_at_bare line reading.purpose d)
    (λ seed. onward (only line (party_fields reading.purpose) d) _ (only_bare line (party_fields reading.purpose) d) (λ u. landed _)))))

pub timelock_at_bare : (line : ℕ) (stated : Bool) (d : Data) → Bare (timelock_member line stated d)
timelock_at_bare line stated d = choose stated _ _ (number_at_bare line (codes "timelock") d) (landed _)

pub arc_between_bare : (stated : Bool) (line : ℕ) (d : Data) (from : List ℕ) (to : List ℕ) → Bare (read_arc stated line d from to)
arc_between_bare stated line d from to =
    onward (field_number line (codes "amount") d) _ (number_at_bare line (codes "amount") d)
    (λ amount. onward (timelock_member line stated d) _ (timelock_at_bare line stated d)
    (λ timelock. onward (only line (arc_fields stated) d) _ (only_bare line (arc_fields stated) d) (λ u. landed _)))

pub arc_of_bare : (reading : Reading) (line : ℕ) (d : Data) → Bare (object_arc reading line d)
unfolding object_arc
arc_of_bare reading line d =
    onward (required_object line (codes "arcs") d) _ (object_at_bare line (codes "arcs") d)
    (λ o. onward (field_text line (codes "from") d) _ (text_at_bare line (codes "from") d)
    (λ from. onward (field_text line (codes "to") d)
    _ (text_at_bare line (codes "to") d) (λ to. arc_between_bare (states_timelocks reading.purpose reading.mode) line d from to)))

pub hashlock_at_bare : (line : ℕ) (plain : Bool) (d : Data) → Bare (hashlock_member line plain d)
hashlock_at_bare line plain d = choose plain _ _ (landed _) (text_at_bare line (codes "hashlock") d)

pub leader_of_bare : (reading : Reading) (line : ℕ) (d : Data) → Bare (object_leader reading line d)
unfolding object_leader
leader_of_bare reading line d =
    onward (required_object line (codes "leaders") d) _ (object_at_bare line (codes "leaders") d)
    (λ o. onward (field_text line (codes "party") d) _ (text_at_bare line (codes "party") d)
    (λ party. onward (hashlock_member line (is_plain reading.purpose) d) _ (hashlock_at_bare line (is_plain reading.purpose) d)
    (λ hashlock. onward (only line (leader_fields (is_plain reading.purpose)) d)
    _ (only_bare line (leader_fields (is_plain reading.purpose)) d) (λ u. landed _))))

pub row_of_bare : (line : ℕ) (d : Data) → Bare (parse_key_row line d)
unfolding parse_key_row
row_of_bare line d =
    onward (kind line (codes "keys") (as_array d)) _ (kind_bare line (codes "keys") (as_array d))
    (λ items. onward (each (text_member line (codes "keys")) items)
    _ (each_bare (text_member line (codes "keys")) (member_text_of_bare line (codes "keys")) items) (λ texts. landed _))

pub keys_at_bare : (line : ℕ) (stated : Bool) (d : Data) → Bare (keys_member line stated d)
keys_at_bare line stated d = choose stated _ _ (list_at_bare line (codes "keys") (parse_key_row line) (row_of_bare line) d) (landed _)

pub version_of_bare : (line : ℕ) (n : ℕ) → Bare (parse_version line n)
version_of_bare line n = choose (n == 1) _ _ (landed _) (choose (n == 2) _ _ (landed _) (refused (WrongKind line (codes "swap")) tt))

pub version_at_bare : (line : ℕ) (d : Data) → Bare (version_member line d)
unfolding version_member
version_at_bare line d = onward (field_number line (codes "swap") d) _ (number_at_bare line (codes "swap") d) (λ n. version_of_bare line n)

pub mode_for_bare : (line : ℕ) (x1 : Version) (mode : Mode) → Bare (checked_mode line x1 mode)
mode_for_bare line One mode = landed _
mode_for_bare line Two Timelocks = refused (WrongKind line (codes "mode")) tt
mode_for_bare line Two Hashkeys = landed _

pub stated_mode_at_bare : (line : ℕ) (d : Data) → Bare (stated_mode line d)
unfolding stated_mode
stated_mode_at_bare line d = word_at_bare line (codes "mode") parse_mode d

pub mode_at_bare : (line : ℕ) (version : Version) (d : Data) → Bare (mode_member line version d)
unfolding mode_member
mode_at_bare line version d = onward (stated_mode line d) _ (stated_mode_at_bare line d) (λ mode. mode_for_bare line version mode)

pub finish_of_word_bare : (line : ℕ) (word : List ℕ) → Bare (finish_of_word line word)
finish_of_word_bare line word =
    choose (bytes_eq word (codes "stop"))
    _ _ (landed _) (choose (bytes_eq word (codes "fair")) _ _ (landed _) (refused (WrongKind line (codes "finish")) tt))

pub finish_or_stop_bare : (line : ℕ) (x1 : Option (List ℕ)) → Bare (finish_or_stop line x1)
finish_or_stop_bare line None = landed _
finish_or_stop_bare line (Some word) = finish_of_word_bare line word

pub stated_finish_at_bare : (line : ℕ) (d : Data) → Bare (stated_finish line d)
unfolding stated_finish
stated_finish_at_bare line d =
    onward (optional_field_text line (codes "finish") d) _ (optional_text_at_bare line (codes "finish") d) (λ word. finish_or_stop_bare line word)

pub finish_at_bare : (line : ℕ) (x1 : Purpose) (d : Data) → Bare (finish_member line x1 d)
finish_at_bare line Audit d = landed _
finish_at_bare line purpose_kinds.Check d = stated_finish_at_bare line d
finish_at_bare line purpose_kinds.Run d = stated_finish_at_bare line d
finish_at_bare line purpose_kinds.Race d = stated_finish_at_bare line d
finish_at_bare line purpose_kinds.Make d = stated_finish_at_bare line d

pub lists_of_bare : (purpose : Purpose) (front : Front) (line : ℕ) (d : Data) → Bare (raw_header_lists purpose front line d)
lists_of_bare purpose front line d =
    onward (field_list line (codes "parties") (parse_party (record { purpose = purpose; mode = front.mode }) line) d) _ (list_at_bare line (codes "parties")
    (parse_party (record { purpose = purpose; mode = front.mode }) line) (party_of_bare (record { purpose = purpose; mode = front.mode }) line) d)
    (λ parties. onward (field_list line (codes "arcs") (object_arc (record { purpose = purpose; mode = front.mode }) line) d) _ (list_at_bare line
    (codes "arcs") (object_arc (record { purpose = purpose; mode = front.mode }) line) (arc_of_bare (record { purpose = purpose; mode = front.mode }) line) d)
    (λ arcs. onward (field_list line (codes "leaders") (object_leader (record { purpose = purpose; mode = front.mode }) line) d) _ (list_at_bare line
    (codes "leaders") (object_leader (record { purpose = purpose; mode = front.mode }) line) (leader_of_bare
    (record { purpose = purpose; mode = front.mode }) line) d)
    (λ leaders. onward (keys_member line (states_keys purpose front.mode) d) _ (keys_at_bare line (states_keys purpose front.mode) d)
    (λ keys. onward (finish_member line purpose d) _ (finish_at_bare line purpose d)
    (λ finish. onward (only line (header_fields purpose (states_keys purpose front.mode)) d)
    _ (only_bare line (header_fields purpose (states_keys purpose front.mode)) d) (λ u. landed _))))))

pub raw_of_bare : (purpose : Purpose) (line : ℕ) (d : Data) → Bare (object_header purpose line d)
unfolding object_header
raw_of_bare purpose line d =
    onward (version_member line d) _ (version_at_bare line d)
    (λ version. onward (mode_member line version d) _ (mode_at_bare line version d)
    (λ mode. onward (field_number line (codes "start") d) _ (number_at_bare line (codes "start") d)
    (λ start. onward (field_number line (codes "delta") d) _ (number_at_bare line (codes "delta") d)
    (λ delta. onward (field_number line (codes "bound") d) _ (number_at_bare line (codes "bound") d) (λ bound. lists_of_bare purpose
    (record { version = version; mode = mode; start = start; delta = delta; bound = bound }) line d)))))
