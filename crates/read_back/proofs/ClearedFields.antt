-- The fields of a group's job with seeds are those of the group.
use Rattle.std.proofs.Common.{◌≡◌, ℕ, false, List, [], map, Some, Ok, refl, ◌∙◌}
use Rattle.std.specs.Prelude.{codes, zip}
use Rattle.swap_digraph.specs.declared.deal.Mode.TheVariants.{Hashkeys}
use Rattle.swap_digraph.specs.declared.deal.Version.TheVariants.{Two}
use Rattle.swap_job.specs.declared.job.Purpose.TheVariants.{Make}
use Rattle.swap_job.specs.declared.job.Finish.TheVariants.{Stop}
use Rattle.offer_moves.specs.Fields.{read_array_field, field_list, needed, field_number, required_object, only, optional_field_text, field_text}
use Rattle.offer_header.specs.declared.raw.Reading.{Reading}
use Rattle.offer_header.specs.declared.raw.RawActor.TheVariants.{Conforming}
use Rattle.offer_header.specs.declared.raw.RawParty.{RawParty}
use Rattle.offer_header.specs.declared.raw.RawArc.{RawArc}
use Rattle.offer_header.specs.declared.raw.RawLeader.{RawLeader}
use Rattle.offer_header.specs.declared.raw.RawHeader.{RawHeader}
use Rattle.offer_header.specs.Raw.{actor_member, object_arc, finish_member, header_fields, object_leader, mode_member, parse_party, object_header, stated_finish}
use Rattle.offer_header.specs.Raw.{stated_mode}
use Rattle.offer_header.specs.Raw.{version_member}
use Rattle.swap_clear.specs.declared.answer.Group.{Group}
use Rattle.swap_clear.specs.declared.limits.Wishes.{Wishes}
use Rattle.swap_clear.specs.ClearedText.{proposal_data, named_data, proposal}
use Rattle.read_back.specs.ClearedJobs.{wished_name, seeded_data, seeded_party}
use Rattle.read_back.proofs.Steps.{items_back, step}

abbrev reading : Reading
reading = record { purpose = Make; mode = Hashkeys }

-- ---- parties, arcs and leaders

abbrev pub raw_party : Wishes → ℕ × List ℕ → RawParty
raw_party w p = record { name = wished_name w p.0; actor = Conforming; seed = Some p.1 }

party_back : (line : ℕ) (w : Wishes) (p : ℕ × List ℕ) → parse_party reading line (seeded_party w.names p) ≡ Ok (raw_party w p)
unfolding parse_party required_object field_text needed actor_member optional_field_text only
party_back line w p = refl

abbrev pub raw_arc : Wishes → ℕ → RawArc
raw_arc w a = record {
  from = wished_name w (proposal w.arcs a).from;
  to = wished_name w (proposal w.arcs a).to;
  amount = (proposal w.arcs a).amount;
  timelock = 0;
}

arc_back : (line : ℕ) (w : Wishes) (a : ℕ) → object_arc reading line (proposal_data w.names (proposal w.arcs a)) ≡ Ok (raw_arc w a)
unfolding object_arc required_object field_text needed field_number only
arc_back line w a = refl

abbrev pub raw_leader : Wishes → ℕ → RawLeader
raw_leader w l = record { party = wished_name w l; hashlock = [] }

leader_back : (line : ℕ) (w : Wishes) (l : ℕ) → object_leader reading line (named_data (codes "party") w.names l) ≡ Ok (raw_leader w l)
unfolding object_leader required_object field_text needed only
leader_back line w l = refl

-- ---- the header

abbrev pub raw_header : Wishes → Group → List (List ℕ) → RawHeader
raw_header w group texts = record {
  version = Two;
  mode = Hashkeys;
  start = w.start;
  delta = w.delta;
  bound = group.bound;
  parties = map (raw_party w) (zip group.parties texts);
  arcs = map (raw_arc w) group.arcs;
  leaders = map (raw_leader w) group.leaders;
  keys = [];
  finish = Stop;
}

module _ (line : ℕ) (w : Wishes) (group : Group) (texts : List (List ℕ)) where
  version_is : version_member line (seeded_data w group texts) ≡ Ok Two
  unfolding version_member field_number needed
  version_is = refl

  mode_is : mode_member line Two (seeded_data w group texts) ≡ Ok Hashkeys
  unfolding mode_member stated_mode field_text needed
  mode_is = refl

  start_is : field_number line (codes "start") (seeded_data w group texts) ≡ Ok w.start
  unfolding field_number needed
  start_is = refl

  delta_is : field_number line (codes "delta") (seeded_data w group texts) ≡ Ok w.delta
  unfolding field_number needed
  delta_is = refl

  bound_is : field_number line (codes "bound") (seeded_data w group texts) ≡ Ok group.bound
  unfolding field_number needed
  bound_is = refl

  parties_are : field_list line (codes "parties") (parse_party reading line) (seeded_data w group texts) ≡ Ok (map (raw_party w) (zip group.parties texts))
  unfolding field_list read_array_field needed
  parties_are = items_back (parse_party reading line) (seeded_party w.names) (raw_party w) (zip group.parties texts) (λ p i. party_back line w p)

  arcs_are : field_list line (codes "arcs") (object_arc reading line) (seeded_data w group texts) ≡ Ok (map (raw_arc w) group.arcs)
  unfolding field_list read_array_field needed
  arcs_are = items_back (object_arc reading line) (λ a. proposal_data w.names (proposal w.arcs a)) (raw_arc w) group.arcs (λ a i. arc_back line w a)

  leaders_are : field_list line (codes "leaders") (object_leader reading line) (seeded_data w group texts) ≡ Ok (map (raw_leader w) group.leaders)
  unfolding field_list read_array_field needed
  leaders_are = items_back (object_leader reading line) (named_data (codes "party") w.names) (raw_leader w) group.leaders (λ l i. leader_back line w l)

  finish_is : finish_member line Make (seeded_data w group texts) ≡ Ok Stop
  unfolding stated_finish optional_field_text
  finish_is = refl

  no_others : only line (header_fields Make false) (seeded_data w group texts) ≡ Ok tt
  unfolding only
  no_others = refl

  pub raw_back : object_header Make line (seeded_data w group texts) ≡ Ok (raw_header w group texts)
  unfolding object_header
  raw_back =
      step _ Two _ version_is
      ∙ step _ Hashkeys _ mode_is
      ∙ step _ w.start _ start_is
      ∙ step _ w.delta _ delta_is
      ∙ step _ group.bound _ bound_is
      ∙ step _ (map (raw_party w) (zip group.parties texts)) _ parties_are
      ∙ step _ (map (raw_arc w) group.arcs) _ arcs_are
      ∙ step _ (map (raw_leader w) group.leaders) _ leaders_are
      ∙ step _ Stop _ finish_is
      ∙ step _ tt _ no_others
