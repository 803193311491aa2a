-- The line of each group that is cleared of a line of wishes, with a seed for each party, is a
-- plain job.
use Rattle.std.specs.Prelude.{◌≡◌, ◌==◌, ◌++◌, not, ℕ, Bool, true, List, [], codes, length, map, replicate, slice_index_or, zip, Some, Result, Ok}
use Rattle.std.specs.Str.{is_utf8}
use Rattle.std.specs.List.{list_all}
use Rattle.hex.specs.Hex.{decode_sized}
use Rattle.hex.specs.declared.error.FromHexError.{FromHexError}
use Rattle.serde_json.specs.Data.{Data, string, object, no_members, member}
use Rattle.serde_json.specs.Read.{read}
use Rattle.serde_json.specs.Written.{compact_text}
use Rattle.swap_base.specs.Lists.{IsElement}
use Rattle.swap_digraph.specs.Value.{Graph}
use Rattle.swap_digraph.specs.declared.deal.Deal.{Deal}
use Rattle.swap_digraph.specs.declared.deal.Mode.TheVariants.{Hashkeys}
use Rattle.swap_digraph.specs.declared.deal.Version.TheVariants.{Two}
use Rattle.hashkey_path.specs.Digest.{deal_id}
use Rattle.swap_job.specs.declared.job.Job.{Job}
use Rattle.swap_job.specs.declared.job.Purpose.TheVariants.{Make}
use Rattle.swap_job.specs.declared.job.Finish.TheVariants.{Stop}
use Rattle.swap_job.specs.declared.job.Role.TheVariants.{Conforming}
use Rattle.offer_text.specs.Words.{list_data, name_data, number_data}
use Rattle.offer_header.specs.Limits.{no_digest}
use Rattle.swap_offer.specs.Job.{parse_header_job, parse_job}
use Rattle.swap_gen.specs.Made.{made}
use Rattle.made_jobs.specs.Making.{made_output, written_line}
use Rattle.swap_clear.specs.declared.answer.Group.{Group}
use Rattle.swap_clear.specs.Proposals.{proposed_graph}
use Rattle.swap_clear.specs.Led.{own, own_leaders}
use Rattle.swap_clear.specs.Ready.{own_amounts}
use Rattle.swap_clear.specs.Cleared.{parse_cleared}
use Rattle.swap_clear.specs.declared.cleared.Cleared.{Cleared}
use Rattle.swap_clear.specs.declared.limits.Wishes.{Wishes}
use Rattle.swap_clear.specs.ClearedText.{group_fields, group_data, named_data}

-- ---- the line of a group, with seeds

-- the plain job of a group whose parties are given so
abbrev pub job_data : Wishes → Group → Data → Data
job_data w group parties = object (group_fields w group
    (member (codes "leaders") (list_data (named_data (codes "party") w.names) group.leaders)
    (member (codes "mode") (string (codes "hashkeys"))
    (member (codes "parties") parties
    (member (codes "start") (number_data w.start)
    (member (codes "swap") (number_data 2) no_members))))))

-- a party's name, and the text of its seed
abbrev pub seeded_party : List (List ℕ) → ℕ × List ℕ → Data
seeded_party names p = object (member (codes "name") (name_data names p.0) (member (codes "seed") (string p.1) no_members))

-- the job, with the text of a seed for each party
abbrev pub seeded_data : Wishes → Group → List (List ℕ) → Data
seeded_data w group texts = job_data w group (list_data (seeded_party w.names) (zip group.parties texts))

-- its line: compact JSON, as the group's own line is
unfoldable pub seeded_line : Wishes → Group → List (List ℕ) → List ℕ
seeded_line w group texts = compact_text (seeded_data w group texts)

-- Each text is 64 hexadecimal digits, those of the seed at its place.
abbrev pub AreDigitTexts : List (List ℕ) → List (List ℕ) → Type 0
AreDigitTexts texts seeds = map (λ t. decode_sized t 32) texts ≡ map (λ s. let r : Result (List ℕ) FromHexError = Ok s in r) seeds

-- A group that is cleared of a line of wishes, with the text of a seed for each party.
pub record IsSeeded (c : Cleared) (group : Group) (texts seeds : List (List ℕ)) : Type 0 where
  pub line : ℕ
  pub text : List ℕ
  pub is_cleared : parse_cleared line text ≡ Ok c
  pub is_one : IsElement group c.clearing.groups
  pub one_each : length texts ≡ length group.parties
  pub digits : AreDigitTexts texts seeds

-- ---- the job that the group proposes

-- the digraph of the wishes
abbrev pub wished_graph : Wishes → Graph
wished_graph w = proposed_graph (length w.names) w.arcs

-- the name of a party
abbrev pub wished_name : Wishes → ℕ → List ℕ
wished_name w p = slice_index_or w.names p []

-- a digest for each leader, in the place of those that only seeds give
abbrev pub unmade_digests : Group → List (List ℕ)
unmade_digests group = map (λ l. no_digest) group.leaders

-- the group's deal but for its id: its own digraph, its leaders and its amounts, with hashkeys
abbrev pub deal_but_id : Wishes → Group → List ℕ → Deal
deal_but_id w group id = record {
  version = Two;
  graph = own (wished_graph w) group;
  leaders = own_leaders group;
  start = w.start;
  delta = w.delta;
  bound = group.bound;
  mode = Hashkeys;
  amounts = own_amounts w.arcs group;
  hashlocks = unmade_digests group;
  keys = map (λ p. unmade_digests group) group.parties;
  timelocks = map (λ a. 0) group.arcs;
  id = id;
}

abbrev pub group_deal : Wishes → Group → Deal
group_deal w group = deal_but_id w group (deal_id (deal_but_id w group (replicate 32 0)))

-- the plain job of the group, in which every party conforms
abbrev pub cleared_job : Wishes → Group → List (List ℕ) → Job
cleared_job w group seeds = record {
  purpose = Make;
  deal = group_deal w group;
  names = map (wished_name w) group.parties;
  roles = map (λ p. Conforming) group.parties;
  conforming = map (λ p. true) group.parties;
  seeds = map (λ s. Some s) seeds;
  finish = Stop;
}

-- ---- the laws

-- But for its parties' seeds the job is what is written of the group.
abbrev pub OnlySeedsAreAdded : Type 0
OnlySeedsAreAdded = (w : Wishes) (group : Group) → group_data w group ≡ job_data w group (list_data (named_data (codes "name") w.names) group.parties)

-- The group's line with seeds is text, and is read as the job with seeds.
abbrev pub SeededLineReads : Type 0
SeededLineReads =
    (c : Cleared) (group : Group) (texts seeds : List (List ℕ)) → IsSeeded c group texts seeds
    → (is_utf8 (seeded_line c.wishes group texts) ≡ true) × (read (seeded_line c.wishes group texts) ≡ Some (seeded_data c.wishes group texts))

-- The group's line with seeds is one line.
abbrev pub SeededLineIsOneLine : Type 0
SeededLineIsOneLine =
    (c : Cleared) (group : Group) (texts seeds : List (List ℕ)) → IsSeeded c group texts seeds
    → list_all (λ x. not (x == 10)) (seeded_line c.wishes group texts) ≡ true

-- A text that reads as the job with seeds is a plain job, the job of the group, whatever strategies
-- exist.
abbrev pub SeededTextIsPlainJob : Type 0
SeededTextIsPlainJob =
    (c : Cleared) (group : Group) (texts seeds : List (List ℕ)) → IsSeeded c group texts seeds
    → (has : List ℕ → Bool) (line : ℕ) (text : List ℕ) → is_utf8 text ≡ true → read text ≡ Some (seeded_data c.wishes group texts)
    → parse_header_job has Make line text ≡ Ok (cleared_job c.wishes group seeds)

-- The line of each group that is cleared, with a seed for each party, is a plain job, that of the
-- group.
abbrev pub ClearedGroupsArePlainJobs : Type 0
ClearedGroupsArePlainJobs =
    (c : Cleared) (group : Group) (texts seeds : List (List ℕ)) → IsSeeded c group texts seeds → (has : List ℕ → Bool) (line : ℕ)
    → parse_header_job has Make line (seeded_line c.wishes group texts) ≡ Ok (cleared_job c.wishes group seeds)

-- That line alone is an input of `make`: it gives the plain job, and no event.
abbrev pub ClearedGroupsArePlainOffers : Type 0
ClearedGroupsArePlainOffers =
    (c : Cleared) (group : Group) (texts seeds : List (List ℕ)) → IsSeeded c group texts seeds → (has : List ℕ → Bool)
    → parse_job has Make (seeded_line c.wishes group texts ++ codes "\n") ≡ Ok (cleared_job c.wishes group seeds, [])

-- What `make` writes of that input is the line of the job that is made of the group's plain one.
abbrev pub ClearedGroupsAreMade : Type 0
ClearedGroupsAreMade =
    (c : Cleared) (group : Group) (texts seeds : List (List ℕ)) → IsSeeded c group texts seeds → (has : List ℕ → Bool)
    → made_output has (seeded_line c.wishes group texts ++ codes "\n") ≡ Ok (written_line (made (cleared_job c.wishes group seeds)))
