-- What is written of a number is read as the number's job and events.
use Rattle.std.proofs.Common.{◌≡◌, ◌+◌, ◌<◌, ◌≤◌, ◌&&◌, ◌==◌, ℕ, zero, suc, Bool, true, false, List, [], ◌∷◌, ◌++◌, length, map, replicate, decimal}
use Rattle.std.proofs.Common.{Some, Ok, refl, sym, ap, ◌∙◌, subst, arith, eqb-true}
use Rattle.std.specs.Prelude.{All, codes, slice_index_or}
use Rattle.std.specs.Fmt.{digits}
use Rattle.std.specs.List.{list_all, range_with_len}
use Rattle.std.proofs.lemmas.Bool.{eqb-false}
use Rattle.std.proofs.lemmas.Fmt.{decimal_injective}
use Rattle.std.proofs.lemmas.List.{append_cancel_left, length-replicate}
use Rattle.std.proofs.lemmas.List.Elements.{All-map, All-replicate}
use Rattle.std.proofs.lemmas.List.FromFn.{get_or-map-range_with_len, length-map-range_with_len}
use Rattle.swap_base.proofs.Lists.{and_parts}
use Rattle.swap_digraph.specs.Value.{Graph}
use Rattle.swap_digraph.specs.declared.arc_ends.ArcEnds.{ArcEnds}
use Rattle.swap_job.specs.Step.{IsJobEvent}
use Rattle.swap_job.specs.Roles.{is_conforming}
use Rattle.swap_job.specs.declared.job.Job.{Job}
use Rattle.swap_job.specs.declared.job.Purpose.{Purpose}
use Rattle.swap_job.specs.declared.job.Purpose.TheVariants.{Check, Run, Race, Make, Audit}
use Rattle.swap_job.specs.declared.job.Role.TheVariants.{Conforming}
use Rattle.offer_events.specs.Event.{outside_race}
use Rattle.offer_events.specs.Plain.{is_plain_byte}
use Rattle.offer_header.specs.Names.{is_name}
use Rattle.offer_header.specs.Scripts.{roles_placed}
use Rattle.offer_text.specs.HeaderLine.{header_line}
use Rattle.swap_gen.specs.Drawn.{drawn_graph, generated, drawn_party_label, plain_deal, plain_job, drawn_seed}
use Rattle.swap_gen.specs.Events.{drawn_event, drawn_events, first_place, generated_events}
use Rattle.swap_gen.specs.Made.{made_deal}
use Rattle.swap_gen.proofs.Generated.{generated_steps, plain_has_seeds, plain_job_is_proposed}
use Rattle.swap_offer.specs.Job.{parse_events, parse_job}
use Rattle.made_jobs.specs.Generating.{generated_text}
use Rattle.made_jobs.specs.Making.{written_line}
use Rattle.read_back.proofs.HeaderNamed as named
use Rattle.transcript_book.specs.Between.{fed_lines}
use Rattle.read_back.specs.Made.{numbered_lines, reads_jobs, told_job, with_job, GeneratedTextIsReadBack, HasAllowedEvents}
use Rattle.read_back.proofs.Events.{drawn_from, event_lines, event_text, events_back, lines_are_text, AreDrawn, HasPlainNames}
use Rattle.read_back.proofs.Outputs.{text_back}
use Rattle.read_back.proofs.Plain.{hash_is, made_is_told, IsPlainJob}
use Rattle.read_back.proofs.ToldJobs.{few_arcs, sizes_at, IsTold, IsToldRole, MayBeDigest}

-- ---- names

abbrev all_good : ℕ → Bool
all_good zero = true
all_good (suc n) = is_name (drawn_party_label n) && all_good n

abbrev all_plain : ℕ → Bool
all_plain zero = true
all_plain (suc n) = list_all is_plain_byte (drawn_party_label n) && all_plain n

below : (P : ℕ → Bool) (p n : ℕ) → (p < suc n → p ≡ n → P p ≡ true) → (p < n → P p ≡ true) → p < suc n → P p ≡ true
below P p n here before lt = by (p == n) refl
  where
    by : (t : Bool) → (p == n) ≡ t → P p ≡ true
    by true e = here lt (eqb-true p n e)
    by false e = before (let other = eqb-false p n e in omega (arith, lt, other))

good_at : (n p : ℕ) → all_good n ≡ true → p < n → is_name (drawn_party_label p) ≡ true
good_at zero p e lt = absurd (omega arith)
good_at (suc n) p e lt =
    let q = and_parts (is_name (drawn_party_label n)) (all_good n) e in
    below (λ i. is_name (drawn_party_label i)) p n (λ l same. ap (λ (i : ℕ). is_name (drawn_party_label i)) same ∙ q.0) (good_at n p q.1) lt

plain_at : (n p : ℕ) → all_plain n ≡ true → p < n → list_all is_plain_byte (drawn_party_label p) ≡ true
plain_at zero p e lt = absurd (omega arith)
plain_at (suc n) p e lt =
    let q = and_parts (list_all is_plain_byte (drawn_party_label n)) (all_plain n) e in
    below (λ i. list_all is_plain_byte (drawn_party_label i)) p n (λ l same. ap (λ (i : ℕ). list_all is_plain_byte (drawn_party_label i)) same ∙ q.0) (plain_at n p q.1) lt

are_good : all_good 24 ≡ true
unfolding is_name digits
are_good = refl

are_plain : all_plain 24 ≡ true
unfolding digits
are_plain = refl

same_number : (p q : ℕ) → p < 24 → q < 24 → drawn_party_label p ≡ drawn_party_label q → p ≡ q
same_number p q lp lq e = decimal_injective p q (omega (arith, lp)) (omega (arith, lq)) (append_cancel_left (codes "p") (decimal p) (decimal q) e)

-- ---- events

from_long : (seed : ℕ) (g : Graph) (at count : ℕ) → length (drawn_events seed g at count) ≡ count
from_long seed g at zero = refl
from_long seed g at (suc count) = ap (λ (m : ℕ). suc m) (from_long seed g (drawn_event seed g at).1 count)

events_long : (seed n count : ℕ) → length (generated_events seed n count) ≡ count
unfolding generated_events
events_long seed n count = from_long seed (drawn_graph seed n) (first_place seed n) count

-- ---- the job

all_conform : (n : ℕ) → replicate n true ≡ map is_conforming (replicate n Conforming)
all_conform zero = refl
all_conform (suc n) = ap (λ (l : List Bool). true ∷ l) (all_conform n)

none_placed : (arcs : List ArcEnds) (conforming : List Bool) (line p n : ℕ) → roles_placed arcs conforming line p (replicate n Conforming) ≡ Ok tt
unfolding roles_placed
none_placed arcs conforming line p zero = refl
none_placed arcs conforming line p (suc n) = none_placed arcs conforming line (p + 1) n

module _ (has : List ℕ → Bool) (seed n : ℕ) (many : 2 ≤ n) (few : n ≤ 24) where
  -- the name of party p
  named_so : (p : ℕ) → p < n → slice_index_or (plain_job seed n).names p [] ≡ drawn_party_label p
  unfolding plain_job
  named_so p lt = get_or-map-range_with_len drawn_party_label 0 n p p [] lt (omega arith)

  names_long : length (plain_job seed n).names ≡ n
  unfolding plain_job
  names_long = length-map-range_with_len drawn_party_label 0 n

  names_good : All (λ x. is_name x ≡ true) (plain_job seed n).names
  unfolding plain_job
  names_good i d lt =
      let size = length-map-range_with_len drawn_party_label 0 n in
      let low : i < n = omega (arith, size, lt) in
      subst (λ (l : List ℕ). is_name l ≡ true) (sym (get_or-map-range_with_len drawn_party_label 0 n i i d low (omega arith)))
      (good_at 24 i are_good (omega (arith, low, few)))

  pub generated_is_plain : IsPlainJob has (plain_job seed n)
  unfolding plain_job plain_deal
  generated_is_plain = record {
    proposed = plain_job_is_proposed seed n many few;
    parties = length-map-range_with_len drawn_party_label 0 n;
    names = names_good;
    apart = λ p q lp lq e.
        let size = names_long in
        let p_in : p < n = omega (arith, size, lp) in
        let q_in : q < n = omega (arith, size, lq) in
        same_number p q (omega (arith, p_in, few)) (omega (arith, q_in, few)) (sym (named_so p p_in) ∙ e ∙ named_so q q_in);
    roles = length-replicate n Conforming;
    acting = all_conform n;
    seeds = length-map-range_with_len (λ i. Some (drawn_seed seed i)) 0 n;
    digests = All-map MayBeDigest (λ i. Some (drawn_seed seed i)) (range_with_len 0 n) (λ i d lt. hash_is _);
    said = All-replicate (IsToldRole has (sizes_at (plain_job seed n)) (length (plain_job seed n).names)) n Conforming tt;
    placed = λ line. none_placed _ _ line 0 n;
    have = plain_has_seeds seed n;
  }

  module _ (purpose : Purpose) (reads : reads_jobs purpose ≡ true) where
    abbrev job : Job
    job = told_job purpose (plain_job seed n)

    is_told : IsTold has job
    is_told = made_is_told has (plain_job seed n) generated_is_plain purpose reads

    parties_are : job.deal.graph.n ≡ n
    unfolding plain_job plain_deal made_deal
    parties_are = refl

    has_plain_names : ((line : ℕ) → outside_race line purpose ≡ Ok tt) → HasPlainNames job
    has_plain_names outside = record {
      arcs = few_arcs job.deal.version (length job.deal.graph.arcs) is_told.shown.accepted.arcs.1;
      number = λ line p lt.
          let count : length job.names ≡ job.deal.graph.n = is_told.shown.parties in
          named.number_back job is_told.shown line p (omega (arith, count, lt));
      plain = λ p lt.
          let size = parties_are in
          let p_in : p < n = omega (arith, size, lt) in
          ap (list_all is_plain_byte) (named_so p p_in) ∙ plain_at 24 p are_plain (omega (arith, p_in, few));
      outside = outside;
    }

    steps_of : (at : ℕ) → IsJobEvent job (drawn_event seed (drawn_graph seed n) at).0
    steps_of at = generated_steps seed n at many

    are_drawn : (events : ℕ) → AreDrawn job (generated_events seed n events)
    unfolding generated_events
    are_drawn events = drawn_from job seed (drawn_graph seed n) steps_of (first_place seed n) events

  -- ---- the text

  abbrev names : List (List ℕ)
  names = (plain_job seed n).names

  checked : HasPlainNames (told_job Check (plain_job seed n))
  checked = has_plain_names Check refl (λ line. refl)

  text_is : (events : ℕ) → generated_text seed n events ≡ fed_lines (header_line (generated seed n) ∷ map (event_text names) (generated_events seed n events))
  unfolding generated_text written_line
  text_is events =
      ap (λ (l : List ℕ). (header_line (generated seed n) ++ codes "\n") ++ l)
      (lines_are_text (told_job Check (plain_job seed n)) checked 0 (generated_events seed n events) (are_drawn Check refl events))

  read_as : (purpose : Purpose) → reads_jobs purpose ≡ true → (events : ℕ) → parse_job has purpose (generated_text seed n events)
      ≡ with_job (told_job purpose (plain_job seed n))
      (parse_events (told_job purpose (plain_job seed n)) 0 (numbered_lines 2 (map (event_text names) (generated_events seed n events))))
  read_as purpose reads events =
      ap (parse_job has purpose) (text_is events)
      ∙ text_back has (plain_job seed n) generated_is_plain purpose reads (map (event_text names) (generated_events seed n events))
      (event_lines (told_job Check (plain_job seed n)) checked (generated_events seed n events) (are_drawn Check refl events))

  with_events : (purpose : Purpose) → reads_jobs purpose ≡ true → ((line : ℕ) → outside_race line purpose ≡ Ok tt) → (events : ℕ) → events ≤ 200000
      → parse_job has purpose (generated_text seed n events) ≡ Ok (told_job purpose (plain_job seed n), generated_events seed n events)
  with_events purpose reads outside events few_events =
      let size = events_long seed n events in
      read_as purpose reads events
      ∙ ap (with_job (told_job purpose (plain_job seed n)))
      (events_back (told_job purpose (plain_job seed n)) (has_plain_names purpose reads outside) 0 2 (generated_events seed n events)
      (omega (arith, size, few_events)) (are_drawn purpose reads events))

  without_events : parse_job has Race (generated_text seed n 0) ≡ Ok (told_job Race (plain_job seed n), generated_events seed n 0)
  unfolding generated_events parse_events
  without_events = read_as Race refl 0

  pub generated_back : (purpose : Purpose) → reads_jobs purpose ≡ true → (events : ℕ) → events ≤ 200000 → HasAllowedEvents purpose events
      → parse_job has purpose (generated_text seed n events) ≡ Ok (told_job purpose (plain_job seed n), generated_events seed n events)
  generated_back Check reads events few_events h = with_events Check refl (λ line. refl) events few_events
  generated_back Run reads events few_events h = with_events Run refl (λ line. refl) events few_events
  generated_back Race reads events few_events h =
      subst (λ (m : ℕ). parse_job has Race (generated_text seed n m) ≡ Ok (told_job Race (plain_job seed n), generated_events seed n m)) (sym h) without_events
  generated_back Make reads events few_events h = absurd (cc reads)
  generated_back Audit reads events few_events h = absurd (cc reads)

pub generated_text_is_read_back : GeneratedTextIsReadBack
generated_text_is_read_back has seed n events many few few_events purpose reads h = generated_back has seed n many few purpose reads events few_events h
