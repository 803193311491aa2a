-- A text that reads as the header that is shown of a job gives that job.
use Rattle.std.proofs.Common.{◌≡◌, ◌+◌, ℕ, Bool, true, false, cond, List, [], ◌∷◌, length, map, get_or, slice_index, Option, Some, None, Ok, Err, refl}
use Rattle.std.proofs.Common.{sym, ap, ◌∙◌, subst, arith}
use Rattle.std.specs.Prelude.{replicate}
use Rattle.std.proofs.lemmas.List.{get_or-map, length-map}
use Rattle.std.specs.Str.{is_utf8}
use Rattle.std.specs.List.{range_with_len}
use Rattle.serde_json.specs.Read.{read}
use Rattle.swap_base.specs.Lists.{first_given_answer}
use Rattle.swap_digraph.specs.Graph.{arcs}
use Rattle.swap_digraph.specs.declared.arc_ends.ArcEnds.{ArcEnds}
use Rattle.swap_digraph.specs.declared.deal.Deal.{Deal}
use Rattle.swap_digraph.specs.declared.deal.Mode.{Mode}
use Rattle.swap_digraph.specs.declared.deal.Version.{Version}
use Rattle.swap_digraph.specs.declared.deal.Version.TheVariants.{One, Two}
use Rattle.hashkey_path.specs.Digest.{deal_id}
use Rattle.hashkey_path.proofs.Feeding.{any_id}
use Rattle.swap_job.specs.declared.job.Job.{Job}
use Rattle.swap_job.specs.declared.job.Purpose.TheVariants.{Audit}
use Rattle.swap_job.specs.declared.job.Finish.TheVariants.{Stop}
use Rattle.swap_rules.specs.Accepted.{IsAccepted, IsOfVersion}
use Rattle.command_input.specs.declared.reason.Reason.TheVariants.{NotJson}
use Rattle.offer_moves.specs.Fields.{parse_data, object_or}
use Rattle.offer_header.specs.Header.{parse_whole_header, simple_role, IsHeaderInLimits}
use Rattle.offer_header.specs.Raw.{IsVersionMode, IsUntimed}
use Rattle.offer_header.specs.Scripts.{roles_placed, scripts_placed}
use Rattle.offer_header.specs.declared.raw.RawArc.{RawArc}
use Rattle.offer_header.proofs.Limited.{set_contains_ends}
use Rattle.offer_header.proofs.Numbered.{is_numbered}
use Rattle.offer_text.specs.HeaderLine.{shown_header}
use Rattle.swap_offer.specs.Checks.{admitted, header_deal, header_digraph, assemble_job, unless_wrong, unnamed}
use Rattle.swap_offer.specs.Job.{accepted_entries, parse_header_job, provided}
use Rattle.swap_offer.specs.Wallets.{no_seed, seeded, walleted}
use Rattle.swap_offer.proofs.Admitted.{admitted_is_accepted}
use Rattle.read_back.specs.Headers.{IsShowable, HeaderIsReadBack, audited_job}
use Rattle.read_back.proofs.Steps.{step}
use Rattle.read_back.proofs.HeaderFields.{raw_arc, raw_back, raw_header, stated}
use Rattle.read_back.proofs.HeaderNamed.{numbered_at, numbered_back}
use Rattle.read_back.proofs.HeaderLimited.{header_at, limited_back}

object_back : (line : ℕ) (text : List ℕ) (job : Job) → is_utf8 text ≡ true → read text ≡ Some (shown_header job) → parse_data line text ≡ Ok (shown_header job)
unfolding parse_data
object_back line text job utf8 reads =
    ap (λ (b : Bool). cond b (object_or line (read text)) (Err (NotJson line))) utf8
    ∙ ap (object_or line) reads

none_given : {A B : Type 0} (f : A → Option B) (xs : List A) → ((x : A) → f x ≡ None) → first_given_answer f xs ≡ None
none_given f [] h = refl
none_given f (x ∷ xs) h = rw (h x) (none_given f xs h)

-- in version 2 the mode is hashkeys
pub mode_of_version : (v : Version) (d : Deal) → IsOfVersion v d → IsVersionMode v d.mode
mode_of_version One d k = tt
mode_of_version Two d k = k

-- who conforms, or acts by its own calls alone, has no move that has to stand somewhere
simple_placed : (ends : List ArcEnds) (conforming : List Bool) (line p : ℕ) (cs : List Bool)
    → roles_placed ends conforming line p (map simple_role cs) ≡ Ok tt
unfolding roles_placed
simple_placed ends conforming line p [] = refl
simple_placed ends conforming line p (true ∷ cs) = simple_placed ends conforming line (p + 1) cs
simple_placed ends conforming line p (false ∷ cs) = simple_placed ends conforming line (p + 1) cs

module _ (job : Job) (k : IsShowable job) (line : ℕ) where
  is_mode : IsVersionMode job.deal.version job.deal.mode
  is_mode = mode_of_version job.deal.version job.deal k.accepted.of_version

  all_placed : scripts_placed line (header_at job) ≡ Ok tt
  unfolding scripts_placed
  all_placed = simple_placed job.deal.graph.arcs job.conforming line 0 job.conforming

  header_back : (has : List ℕ → Bool) (text : List ℕ) → is_utf8 text ≡ true → read text ≡ Some (shown_header job)
      → parse_whole_header has Audit line text ≡ Ok (header_at job)
  unfolding parse_whole_header
  header_back has text utf8 reads =
      step _ (shown_header job) _ (object_back line text job utf8 reads)
      ∙ step _ (raw_header job.deal.mode job) _ (raw_back line job is_mode)
      ∙ step _ (numbered_at job) _ (numbered_back job k line has job.deal.mode)
      ∙ step _ (header_at job) _ (limited_back job k line)
      ∙ step _ tt _ all_placed

  pub untimed : (mode : Mode) → IsUntimed (raw_header mode job)
  untimed mode is a d lt =
      let size : length (map (raw_arc mode job) (arcs job.deal.graph)) ≡ length (arcs job.deal.graph) = length-map (arcs job.deal.graph) (raw_arc mode job) in
      ap (λ (x : RawArc). x.timelock) (get_or-map (raw_arc mode job) (arcs job.deal.graph) a 0 d (omega (arith, lt, size)))
      ∙ ap (λ (m : Mode). stated m (slice_index job.deal.timelocks (get_or (arcs job.deal.graph) a 0))) is

  within : IsHeaderInLimits (header_at job)
  within =
      set_contains_ends line Audit (raw_header job.deal.mode job) (numbered_at job) (header_at job)
      (is_numbered (λ name. false) line (raw_header job.deal.mode job) (numbered_at job) (numbered_back job k line (λ name. false) job.deal.mode)) is_mode
      (untimed job.deal.mode) (limited_back job k line)

  -- the deal of the header is the job's

  abbrev pub remade : ℕ → Deal
  remade n = record {
    version = job.deal.version;
    graph = record { n = n; arcs = job.deal.graph.arcs };
    leaders = job.deal.leaders;
    start = job.deal.start;
    delta = job.deal.delta;
    bound = job.deal.bound;
    mode = job.deal.mode;
    amounts = job.deal.amounts;
    hashlocks = job.deal.hashlocks;
    keys = job.deal.keys;
    timelocks = job.deal.timelocks;
    id = job.deal.id;
  }

  pub is_remade : remade (length job.names) ≡ job.deal
  is_remade = ap remade k.parties

  id_is : deal_id (unnamed (header_at job) (header_digraph (header_at job)) (replicate 32 0)) ≡ job.deal.id
  id_is = any_id (remade (length job.names)) (replicate 32 0) ∙ ap deal_id is_remade ∙ sym k.accepted.id

  deal_is : header_deal (header_at job) (header_digraph (header_at job)) ≡ job.deal
  deal_is = ap (unnamed (header_at job) (header_digraph (header_at job))) id_is ∙ is_remade

  is_admitted : admitted (header_at job) ≡ Ok (header_digraph (header_at job))
  is_admitted = (admitted_is_accepted (header_at job) within).1 (subst IsAccepted (sym deal_is) k.accepted)

  job_is : assemble_job (header_at job) (header_digraph (header_at job)) ≡ audited_job job
  job_is = ap (λ (d : Deal). let j : Job = record {
    purpose = Audit;
    deal = d;
    names = job.names;
    roles = map simple_role job.conforming;
    conforming = job.conforming;
    seeds = map (λ c. None) job.conforming;
    finish = Stop;
  } in j) deal_is

  nothing_lacks : provided (audited_job job) ≡ Ok tt
  unfolding provided seeded walleted
  nothing_lacks = step _ tt _ (ap unless_wrong (none_given (no_seed (audited_job job)) (range_with_len 0 job.deal.graph.n) (λ p. refl)))

  is_provided : provided (assemble_job (header_at job) (header_digraph (header_at job))) ≡ Ok tt
  is_provided = subst (λ (x : Job). provided x ≡ Ok tt) (sym job_is) nothing_lacks

  accepted_back : accepted_entries (header_at job) ≡ Ok (audited_job job)
  unfolding accepted_entries
  accepted_back =
      step _ (header_digraph (header_at job)) _ is_admitted
      ∙ step _ tt _ is_provided
      ∙ ap (λ (j : Job). Ok j) job_is

pub header_is_read_back : HeaderIsReadBack
unfolding parse_header_job
header_is_read_back has job line text k utf8 reads =
    step _ (header_at job) _ (header_back job k line has text utf8 reads) ∙ accepted_back job k line
