-- The header line of a made job is text, is read as the header that is written, and is one line.
use Rattle.std.proofs.Common.{◌≡◌, ◌≤◌, ◌<◌, ◌^◌, ℕ, Bool, true, List, [], length, Option, Some, None, refl, sym, subst, arith}
use Rattle.std.specs.Prelude.{codes, slice_index_or}
use Rattle.std.specs.List.{range_with_len}
use Rattle.std.specs.Str.{is_utf8, IsUtf8}
use Rattle.std.specs.Str.Lossy.{utf8_lossy}
use Rattle.std.proofs.lemmas.Str.{is_utf8-from_IsUtf8, utf8_lossy-IsUtf8}
use Rattle.serde_json.specs.Data.{Data, string, object, Members, no_members, member}
use Rattle.serde_json.specs.Read.{read}
use Rattle.serde_json.specs.Written.{compact_text}
use Rattle.swap_base.proofs.Lists.{from_range}
use Rattle.swap_digraph.specs.Graph.{arcs}
use Rattle.swap_digraph.specs.Deal.{locks}
use Rattle.swap_digraph.specs.declared.deal.Deal.{Deal}
use Rattle.swap_digraph.specs.declared.deal.Mode.{Mode}
use Rattle.swap_digraph.specs.declared.deal.Mode.TheVariants.{Timelocks, Hashkeys}
use Rattle.swap_job.specs.declared.job.Job.{Job}
use Rattle.swap_job.specs.declared.job.Finish.{Finish}
use Rattle.swap_job.specs.declared.job.Finish.TheVariants.{Stop, Fair}
use Rattle.swap_job.specs.declared.job.Role.{Role}
use Rattle.swap_job.specs.declared.job.Role.TheVariants.{Conforming, Manual, Script, Strategy}
use Rattle.offer_text.specs.Moves.{move_data}
use Rattle.offer_text.specs.Words.{digest_data, list_data, with_optional}
use Rattle.offer_text.specs.HeaderLine.{actor_data, arc_json, fields_by_mode, finish_word, first_fields, keys_data, last_fields, leader_value, leaders_data}
use Rattle.offer_text.specs.HeaderLine.{made_header, made_party, version_number, parties_data}
use Rattle.read_back.proofs.HeaderLimited.{all_in}
use Rattle.read_back.proofs.HeaderOneLine.{arcs_plain, items_plain, keys_plain, leaders_plain, low_version, one_value, HavePlain, IsOneLine, IsPlain}
use Rattle.read_back.proofs.HeaderShown.{arc_at_is, digest_is, field, leader_is, names_are_text}
use Rattle.read_back.proofs.Texts.{list_is, number_is, object_is, reads_back, string_is, AreRead, IsRead}
use Rattle.read_back.proofs.MadeFields.{role_at, read_seed}
use Rattle.read_back.proofs.MadeLimited.{role_is}
use Rattle.read_back.proofs.MoveLimits.{IsLimited, IsSmall}
use Rattle.read_back.proofs.MoveTexts.{move_plain, move_read}
use Rattle.read_back.proofs.RawMoves.{party_label}
use Rattle.read_back.proofs.ToldJobs.{sizes_are_small, sizes_at, IsTold, IsToldRole}
use Rattle.offer_moves.specs.declared.moves.Sizes.{Sizes}

-- what nests so deep nests no deeper than more
deeper : (k m : ℕ) (d : Data) → k ≤ m → IsRead k d → IsRead m d
deeper k m d le h = record { of = h.of; numbers = h.numbers; text = h.text; low = omega (arith, le, h.low) }

-- ---- parties

module _ (has : List ℕ → Bool) (s : Sizes) (small : IsSmall s) (n : ℕ) (names : List (List ℕ)) (named : (p : ℕ) → IsUtf8 (party_label names p)) where
  actor_read : (role : Role) → IsToldRole has s n role → IsRead 4 (actor_data names role)
  actor_read Conforming k = string_is 4 (codes "conforming") (field (codes "conforming") refl)
  actor_read Manual k = string_is 4 (codes "manual") (field (codes "manual") refl)
  actor_read (Script moves) k =
      object_is 3 (member (codes "script") (list_data (move_data names) moves) no_members) (
        field (codes "script") refl,
        list_is 2 (move_data names) moves (λ mv i. move_read s small n names named mv (all_in (IsLimited s n) moves mv k.1 i)),
        tt,
      ) refl refl
  actor_read (Strategy name) k =
      object_is 3 (member (codes "strategy") (string (utf8_lossy name)) no_members)
      (field (codes "strategy") refl, string_is 3 (utf8_lossy name) (subst IsUtf8 (sym (utf8_lossy-IsUtf8 name k.1)) k.1), tt) refl refl

actor_plain : (has : List ℕ → Bool) (s : Sizes) (small : IsSmall s) (n : ℕ) (names : List (List ℕ)) (role : Role) → IsToldRole has s n role
    → IsPlain (actor_data names role)
actor_plain has s small n names Conforming k = tt
actor_plain has s small n names Manual k = tt
actor_plain has s small n names (Script moves) k =
    (items_plain (move_data names) moves (λ mv i. move_plain s small n names mv (all_in (IsLimited s n) moves mv k.1 i)), tt)
actor_plain has s small n names (Strategy name) k = (tt, tt)

abbrev party_members : Data → List ℕ → Option (List ℕ) → Members
party_members actor name seed =
    member (codes "actor") actor (member (codes "name") (string name) (with_optional (codes "seed") digest_data seed no_members))

party_by : (actor : Data) (name : List ℕ) (seed : Option (List ℕ)) → IsRead 4 actor → IsUtf8 name → IsRead 5 (object (party_members actor name seed))
party_by actor name None a u =
    object_is 4 (party_members actor name None) (field (codes "actor") refl, a, (field (codes "name") refl, string_is 4 name u, tt)) refl refl
party_by actor name (Some seed) a u =
    object_is 4 (party_members actor name (Some seed)) (
      field (codes "actor") refl,
      a,
      (field (codes "name") refl, string_is 4 name u, (field (codes "seed") refl, digest_is 4 seed, tt)),
    ) refl refl

party_plain : (actor : Data) (name : List ℕ) (seed : Option (List ℕ)) → IsPlain actor → HavePlain (party_members actor name seed)
party_plain actor name None a = (a, (tt, tt))
party_plain actor name (Some seed) a = (a, (tt, (tt, tt)))

finish_read : (k : ℕ) (f : Finish) → IsRead k (string (finish_word f))
finish_read k Stop = string_is k (codes "stop") (field (codes "stop") refl)
finish_read k Fair = string_is k (codes "fair") (field (codes "fair") refl)

-- ---- the header

-- the fields from the leaders on
last_are : (leaders parties : Data) (mode : List ℕ) (d : Deal) → IsRead 6 leaders → IsUtf8 mode → IsRead 6 parties → d.start < 2 ^ 64
    → AreRead 6 (last_fields leaders (string mode) parties d)
last_are leaders parties mode d l m p start = (
  field (codes "leaders") refl,
  l,
  (
    field (codes "mode") refl,
    string_is 6 mode m,
    (
      field (codes "parties") refl,
      p,
      (
        field (codes "start") refl,
        number_is 6 d.start start,
        (field (codes "swap") refl, number_is 6 (version_number d.version) (low_version d.version), tt),
      ),
    ),
  ),
)

module _ (has : List ℕ → Bool) (job : Job) (k : IsTold has job) where
  small : IsSmall (sizes_at job)
  small = sizes_are_small has job k

  named : (p : ℕ) → IsUtf8 (party_label job.names p)
  named p = names_are_text job.names k.shown.names p

  party_read : (p : ℕ) → p < job.deal.graph.n → IsRead 5 (made_party job p)
  party_read p lt =
      party_by (actor_data job.names (role_at job p)) (slice_index_or job.names p []) (read_seed job p)
      (actor_read has (sizes_at job) small (length job.names) job.names named (role_at job p) (role_is has job k 0 p lt)) (named p)

  parties_read : IsRead 6 (parties_data made_party job)
  parties_read = list_is 5 (made_party job) (range_with_len 0 job.deal.graph.n) (λ p i. party_read p (from_range p job.deal.graph.n i))

  arcs_read : IsRead 6 (list_data (arc_json job.names job.deal) (arcs job.deal.graph))
  arcs_read = deeper 2 6 _ (omega arith) (list_is 1 (arc_json job.names job.deal) (arcs job.deal.graph) (arc_at_is job k.shown))

  leaders_read : IsRead 6 (leaders_data job.names job.deal)
  leaders_read = deeper 2 6 _ (omega arith) (list_is 1 (leader_value job.names job.deal) (locks job.deal) (λ i is. leader_is job k.shown i))

  keys_read : IsRead 6 (keys_data job.deal.keys)
  keys_read =
      deeper 2 6 _ (omega arith)
      (list_is 1 (list_data digest_data) job.deal.keys (λ row i. list_is 0 digest_data row (λ x j. digest_is 0 x)))

  fields_read : (m : Mode) → AreRead 6 (fields_by_mode m job.names (parties_data made_party job) job.deal)
  fields_read Timelocks =
      let start = k.shown.accepted.start.1 in
      last_are (leaders_data job.names job.deal) (parties_data made_party job) (codes "timelocks") job.deal leaders_read (field (codes "timelocks") refl)
      parties_read (omega (arith, start))
  fields_read Hashkeys =
      let start = k.shown.accepted.start.1 in (
        field (codes "keys") refl,
        keys_read,
        last_are (leaders_data job.names job.deal) (parties_data made_party job) (codes "hashkeys") job.deal leaders_read
            (field (codes "hashkeys") refl) parties_read (omega (arith, start)),
      )

  abbrev members_in : Mode → Members
  members_in m =
      first_fields job.names job.deal
      (member (codes "finish") (string (finish_word job.finish)) (fields_by_mode m job.names (parties_data made_party job) job.deal))

  all_read : (m : Mode) → AreRead 6 (members_in m)
  all_read m =
      let bound = k.shown.accepted.bound.1 in
      let delta = k.shown.accepted.delta.1 in (
        field (codes "arcs") refl,
        arcs_read,
        (
          field (codes "bound") refl,
          number_is 6 job.deal.bound (omega (arith, bound)),
          (
            field (codes "delta") refl,
            number_is 6 job.deal.delta (omega (arith, delta)),
            (field (codes "finish") refl, finish_read 6 job.finish, fields_read m),
          ),
        ),
      )

  read_in : (m : Mode) → IsRead 7 (object (members_in m))
  read_in Timelocks = object_is 6 (members_in Timelocks) (all_read Timelocks) refl refl
  read_in Hashkeys = object_is 6 (members_in Hashkeys) (all_read Hashkeys) refl refl

  pub header_reads : (is_utf8 (compact_text (made_header job)) ≡ true) × (read (compact_text (made_header job)) ≡ Some (made_header job))
  header_reads =
      let h = read_in job.deal.mode in
      (is_utf8-from_IsUtf8 (compact_text (made_header job)) h.text, reads_back 7 (made_header job) h (omega arith))

  -- ---- one line

  parties_plain : IsPlain (parties_data made_party job)
  parties_plain =
      items_plain (made_party job) (range_with_len 0 job.deal.graph.n) (λ p i.
      party_plain (actor_data job.names (role_at job p)) (slice_index_or job.names p []) (read_seed job p)
      (actor_plain has (sizes_at job) small (length job.names) job.names (role_at job p) (role_is has job k 0 p (from_range p job.deal.graph.n i))))

  fields_plain : (m : Mode) → HavePlain (fields_by_mode m job.names (parties_data made_party job) job.deal)
  fields_plain Timelocks =
      let start = k.shown.sized.start in
      (leaders_plain job k.shown.sized, (tt, (parties_plain, (omega (arith, start), (low_version job.deal.version, tt)))))
  fields_plain Hashkeys =
      let start = k.shown.sized.start in (
        keys_plain job k.shown.sized,
        (leaders_plain job k.shown.sized, (tt, (parties_plain, (omega (arith, start), (low_version job.deal.version, tt))))),
      )

  pub header_line_is_one : IsOneLine (compact_text (made_header job))
  header_line_is_one =
      let bound = k.shown.sized.bound in
      let delta = k.shown.sized.delta in
      one_value (made_header job)
      (arcs_plain job k.shown.sized, (omega (arith, bound), (omega (arith, delta), (tt, fields_plain job.deal.mode))))
