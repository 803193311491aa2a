-- The header line of a job is text, and is read as the header that is shown.
use Rattle.std.proofs.Common.{◌≡◌, ◌&&◌, ◌^◌, ◌<◌, ℕ, zero, suc, nat_le, nat_lt, Bool, true, false, cond, List, [], ◌∷◌, length}
use Rattle.std.proofs.Common.{slice_index, refl, ap, ◌∙◌, arith, ltb-true, lt-ltb}
use Rattle.std.specs.Prelude.{All, codes, slice_index_or}
use Rattle.std.specs.List.{list_all, range_with_len}
use Rattle.std.specs.Str.{IsAscii, IsUtf8, is_utf8}
use Rattle.std.proofs.lemmas.Bool.Decides.{nat_tests}
use Rattle.std.proofs.lemmas.Str.{IsUtf8-from_ascii, IsUtf8-nil, is_utf8-from_IsUtf8}
use Rattle.std.proofs.lemmas.Str.Ascii.{IsAscii-cons, IsAscii-nil}
use Rattle.hex.specs.Hex.{encode_lower, lower_digits}
use Rattle.hex.proofs.HexLemmas.{IsAscii-encode_with}
use Rattle.json.proofs.Printed.Utf8.{are_ascii, IsUtf8-are_ascii}
use Rattle.serde_json.specs.Data.{Data, string, object, Members, no_members, member}
use Rattle.serde_json.specs.Read.{read}
use Rattle.serde_json.specs.Written.{compact_text}
use Rattle.swap_base.specs.Lists.{IsElement}
use Rattle.swap_base.proofs.Lists.{and_both, and_parts, from_range}
use Rattle.swap_digraph.specs.Graph.{arcs, ends}
use Rattle.swap_digraph.specs.declared.arc_ends.ArcEnds.{ArcEnds}
use Rattle.swap_digraph.specs.declared.deal.Deal.{Deal}
use Rattle.swap_digraph.specs.declared.deal.Mode.{Mode}
use Rattle.swap_digraph.specs.declared.deal.Mode.TheVariants.{Timelocks, Hashkeys}
use Rattle.swap_digraph.specs.Deal.{amount, lock_leader, locks}
use Rattle.swap_job.specs.declared.job.Job.{Job}
use Rattle.offer_header.specs.Names.{is_name, is_name_byte}
use Rattle.offer_text.specs.Words.{digest_data, list_data, name_data, number_data}
use Rattle.offer_text.specs.HeaderLine.{arc_json, arc_data, arcs_data, fields_by_mode, first_fields, header_data, header_line, keys_data, last_fields}
use Rattle.offer_text.specs.HeaderLine.{leader_value, leaders_data, made_header, version_number, parties_data, shown_header, shown_party, word_of_conforming}
use Rattle.read_back.specs.Headers.{IsShowable, HeaderReads}
use Rattle.read_back.proofs.HeaderOneLine.{low_version}
use Rattle.read_back.proofs.Texts.{IsRead, AreRead, list_is, number_is, object_is, reads_back, string_is}

-- ---- words

low_byte : (b : ℕ) → is_name_byte b ≡ true → b < 128
low_byte b h = grind (arith, nat_tests)

ascii_name : (s : List ℕ) → list_all is_name_byte s ≡ true → are_ascii s ≡ true
ascii_name [] h = refl
ascii_name (b ∷ s) h =
    let p = and_parts (is_name_byte b) (list_all is_name_byte s) h in
    and_both (nat_lt b 128) (are_ascii s) (lt-ltb b 128 (low_byte b p.0)) (ascii_name s p.1)

name_text : (s : List ℕ) → is_name s ≡ true → IsUtf8 s
unfolding is_name
name_text s h =
    IsUtf8-are_ascii s (ascii_name s (and_parts (nat_le 1 (length s) && nat_le (length s) 16) (list_all is_name_byte s) h).1)

-- the name of a party, or of nobody
pub names_are_text : (names : List (List ℕ)) → All (λ x. is_name x ≡ true) names → (p : ℕ) → IsUtf8 (slice_index_or names p [])
names_are_text [] h p = IsUtf8-nil
names_are_text (s ∷ names) h zero = name_text s (h 0 s (omega arith))
names_are_text (s ∷ names) h (suc p) = names_are_text names (λ i d lt. h (suc i) d (omega arith)) p

is_ascii : (s : List ℕ) → are_ascii s ≡ true → IsAscii s
is_ascii [] h = IsAscii-nil
is_ascii (b ∷ s) h = let p = and_parts (nat_lt b 128) (are_ascii s) h in IsAscii-cons b s (ltb-true b 128 p.0) (is_ascii s p.1)

pub digest_is : (n : ℕ) (x : List ℕ) → IsRead n (digest_data x)
digest_is n x =
    string_is n (encode_lower x) (IsUtf8-from_ascii (encode_lower x) (IsAscii-encode_with lower_digits x (is_ascii lower_digits refl)))

-- the name of a field
pub field : (s : List ℕ) → are_ascii s ≡ true → IsUtf8 s
field s h = IsUtf8-are_ascii s h

word_is : (n : ℕ) (c : Bool) → IsRead n (string (word_of_conforming c))
word_is n true = string_is n (codes "conforming") (field (codes "conforming") refl)
word_is n false = string_is n (codes "manual") (field (codes "manual") refl)

-- ---- arcs

arc_is : (m : Mode) (names : List (List ℕ)) (arc : ArcEnds) (units timelock : ℕ) → ((p : ℕ) → IsUtf8 (slice_index_or names p [])) → units < 2 ^ 64
    → timelock < 2 ^ 64 → IsRead 1 (arc_data m names arc units timelock)
arc_is Timelocks names arc units timelock named low small =
    object_is 0 (member (codes "amount") (number_data units) (member (codes "from") (name_data names arc.from)
    (member (codes "timelock") (number_data timelock) (member (codes "to") (name_data names arc.to) no_members)))) (
      field (codes "amount") refl,
      number_is 0 units low,
      (
        field (codes "from") refl,
        string_is 0 (slice_index_or names arc.from []) (named arc.from),
        (
          field (codes "timelock") refl,
          number_is 0 timelock small,
          (field (codes "to") refl, string_is 0 (slice_index_or names arc.to []) (named arc.to), tt),
        ),
      ),
    ) refl refl
arc_is Hashkeys names arc units timelock named low small =
    object_is 0 (member (codes "amount") (number_data units) (member (codes "from") (name_data names arc.from)
    (member (codes "to") (name_data names arc.to) no_members))) (
      field (codes "amount") refl,
      number_is 0 units low,
      (
        field (codes "from") refl,
        string_is 0 (slice_index_or names arc.from []) (named arc.from),
        (field (codes "to") refl, string_is 0 (slice_index_or names arc.to []) (named arc.to), tt),
      ),
    ) refl refl

-- ---- the header

-- the fields from the leaders on
last_are : (leaders parties : Data) (mode : List ℕ) (d : Deal) → IsRead 2 leaders → IsUtf8 mode → IsRead 2 parties → d.start < 2 ^ 64
    → AreRead 2 (last_fields leaders (string mode) parties d)
last_are leaders parties mode d l m p start = (
  field (codes "leaders") refl,
  l,
  (
    field (codes "mode") refl,
    string_is 2 mode m,
    (
      field (codes "parties") refl,
      p,
      (
        field (codes "start") refl,
        number_is 2 d.start start,
        (field (codes "swap") refl, number_is 2 (version_number d.version) (low_version d.version), tt),
      ),
    ),
  ),
)

module _ (names : List (List ℕ)) (d : Deal) (parties : Data) (arcs_are : IsRead 2 (arcs_data names d)) (leaders_are : IsRead 2 (leaders_data names d))
    (parties_are : IsRead 2 parties) (keys_are : IsRead 2 (keys_data d.keys)) (bound : d.bound < 2 ^ 64) (delta : d.delta < 2 ^ 64)
    (start : d.start < 2 ^ 64) where
  first_are : (ms : Members) → AreRead 2 ms → AreRead 2 (first_fields names d ms)
  first_are ms h = (
    field (codes "arcs") refl,
    arcs_are,
    (field (codes "bound") refl, number_is 2 d.bound bound, (field (codes "delta") refl, number_is 2 d.delta delta, h)),
  )

  resolve_header : (m : Mode) → IsRead 3 (object (first_fields names d (fields_by_mode m names parties d)))
  resolve_header Timelocks =
      object_is 2 (first_fields names d (fields_by_mode Timelocks names parties d))
      (first_are (fields_by_mode Timelocks names parties d) (last_are (leaders_data names d) parties (codes "timelocks") d leaders_are
      (field (codes "timelocks") refl) parties_are start)) refl refl
  resolve_header Hashkeys =
      object_is 2 (first_fields names d (fields_by_mode Hashkeys names parties d))
      (first_are (fields_by_mode Hashkeys names parties d) (
        field (codes "keys") refl,
        keys_are,
        last_are (leaders_data names d) parties
            (codes "hashkeys") d leaders_are (field (codes "hashkeys") refl) parties_are start,
      )) refl refl

module _ (job : Job) (k : IsShowable job) where
  named : (p : ℕ) → IsUtf8 (slice_index_or job.names p [])
  named p = names_are_text job.names k.names p

  pub arc_at_is : (a : ℕ) → IsElement a (arcs job.deal.graph) → IsRead 1 (arc_json job.names job.deal a)
  arc_at_is a i =
      let lt = from_range a (length job.deal.graph.arcs) i in
      let amount_is = (k.accepted.amounts a lt).1 in
      let timelock_is = k.sized.timelock a lt in
      arc_is job.deal.mode job.names (ends job.deal.graph a) (amount job.deal a) (slice_index job.deal.timelocks a) named (omega arith) (omega arith)

  pub leader_is : (i : ℕ) → IsRead 1 (leader_value job.names job.deal i)
  leader_is i =
      object_is 0 (member (codes "hashlock") (digest_data (slice_index_or job.deal.hashlocks i [])) (member (codes "party")
      (name_data job.names (lock_leader job.deal i)) no_members)) (
        field (codes "hashlock") refl,
        digest_is 0 (slice_index_or job.deal.hashlocks i []),
        (field (codes "party") refl, string_is 0 (slice_index_or job.names (lock_leader job.deal i) []) (named (lock_leader job.deal i)), tt),
      ) refl refl

  party_is : (p : ℕ) → IsRead 1 (shown_party job p)
  party_is p =
      object_is 0 (member (codes "actor") (string (word_of_conforming (slice_index_or job.conforming p false))) (member (codes "name")
      (name_data job.names p) no_members)) (
        field (codes "actor") refl,
        word_is 0 (slice_index_or job.conforming p false),
        (field (codes "name") refl, string_is 0 (slice_index_or job.names p []) (named p), tt),
      ) refl refl

  header_is : IsRead 3 (shown_header job)
  header_is =
      let d = job.deal in
      let bound = k.accepted.bound.1 in
      let delta = k.accepted.delta.1 in
      let start = k.accepted.start.1 in
      resolve_header job.names d (parties_data shown_party job)
      (list_is 1 (arc_json job.names d) (arcs d.graph) arc_at_is)
      (list_is 1 (leader_value job.names d) (locks d) (λ i is. leader_is i))
      (list_is 1 (shown_party job) (range_with_len 0 d.graph.n) (λ p is. party_is p))
      (list_is 1 (list_data digest_data) d.keys (λ row is. list_is 0 digest_data row (λ x in_row. digest_is 0 x)))
      (omega arith) (omega arith) (omega arith) d.mode

  is_shown : header_data job ≡ shown_header job
  is_shown = ap (λ (b : Bool). cond b (made_header job) (shown_header job)) k.stated

pub header_reads : HeaderReads
unfolding header_line
header_reads job k =
    let same = is_shown job k in
    let h = header_is job k in (
      ap (λ (x : Data). is_utf8 (compact_text x)) same ∙ is_utf8-from_IsUtf8 (compact_text (shown_header job)) h.text,
      ap (λ (x : Data). read (compact_text x)) same ∙ reads_back 3 (shown_header job) h (omega arith),
    )
