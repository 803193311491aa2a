-- What a plain offer's line proposes is a job that is offered, whose names are names.
use Rattle.std.proofs.Common.{Err, List, Ok, Result, ap, refl, subst, sym, true, ℕ, ◌≡◌}
use Rattle.std.specs.Prelude.{All}
use Rattle.swap_digraph.specs.Value.{Graph}
use Rattle.swap_job.specs.declared.job.Job.{Job}
use Rattle.swap_job.specs.declared.job.Purpose.{Purpose}
use Rattle.swap_job.specs.declared.job.Purpose.TheVariants.{Make}
use Rattle.command_input.specs.Refusal.{named_result}
use Rattle.command_input.specs.declared.reason.Reason.{Reason}
use Rattle.swap_offer.specs.Proposed.{IsProposed}
use Rattle.offer_moves.proofs.Chains.{went}
use Rattle.offer_moves.specs.Fields.{parse_data}
use Rattle.offer_header.proofs.Limited.{opened, set_contains_ends}
use Rattle.offer_header.proofs.Numbered.{is_numbered}
use Rattle.offer_header.specs.Header.{IsHeaderInLimits, parse_whole_header}
use Rattle.offer_header.specs.Limits.{limited_value}
use Rattle.offer_header.specs.Names.{is_name, no_strategy, numbered_header}
use Rattle.offer_header.specs.Raw.{object_header}
use Rattle.offer_header.specs.Scripts.{scripts_placed}
use Rattle.offer_header.specs.declared.header.Header.{Header}
use Rattle.offer_header.specs.declared.names.Numbered.{Numbered}
use Rattle.offer_header.specs.declared.raw.RawHeader.{RawHeader}
use Rattle.swap_offer.proofs.Admitted.{admitted_is_accepted}
use Rattle.swap_offer.proofs.Size.{is_whole}
use Rattle.swap_offer.specs.Checks.{IsAcceptedOrProposed, admitted, assemble_job, header_deal, header_digraph}
use Rattle.swap_offer.specs.Job.{header_names}
use Rattle.read_back.proofs.Onward.{landed, onward}
use Rattle.read_back.proofs.Showable.{IsFit, IsGood, admitted_graph, good_names, raw_fits}
use Rattle.party_rows.specs.Lines.{short_header}
use Rattle.party_rows.specs.Inside.{IsOffered}
use Rattle.party_rows.specs.Offer.{examined, parse_offer, parse_plain, proposed_job, no_seed_told}

-- What is known of a header that a plain offer's line gives.
record IsOfferHeader (h : Header) : Type 0 where
  purpose : h.purpose ≡ Make
  within : IsHeaderInLimits h
  names : All IsGood h.names

limited_is : (line : ℕ) (raw : RawHeader) (n : Numbered) (h : Header) → IsFit raw → numbered_header no_strategy line raw ≡ Ok n
    → limited_value Make line raw n ≡ Ok h → IsOfferHeader h
limited_is line raw n h fit e l =
    let o = opened line Make raw n h l in record {
      purpose = ap (λ (x : Header). x.purpose) (sym o.same);
      within = set_contains_ends line Make raw n h (is_numbered no_strategy line raw n e) fit.0 fit.1 l;
      names = subst (All IsGood) (ap (λ (x : Header). x.names) o.same) (good_names no_strategy line raw n e);
    }

header_is : (line : ℕ) (text : List ℕ) (h : Header) → parse_whole_header no_strategy Make line text ≡ Ok h → IsOfferHeader h
unfolding parse_whole_header
header_is line text =
    onward (parse_data line text) _ IsOfferHeader (λ d o.
    onward (object_header Make line d) _ IsOfferHeader (λ raw r.
    onward (numbered_header no_strategy line raw) _ IsOfferHeader (λ n e.
    onward (limited_value Make line raw n) _ IsOfferHeader (λ h l.
    onward (scripts_placed line h) _ IsOfferHeader (λ u s. landed h IsOfferHeader (limited_is line raw n h (raw_fits Make line d raw r) e l))))))

-- What is known of the job that a header line proposes.
pub record IsOfferedJob (job : Job) : Type 0 where
  pub offered : IsOffered job
  pub names : All (λ x. is_name x ≡ true) job.names

assembled : (h : Header) (g : Graph) → IsOfferHeader h → admitted h ≡ Ok g → IsOfferedJob (assemble_job h g)
assembled h g k e =
    let same : header_digraph h ≡ g = admitted_graph h g e in
    let made : admitted h ≡ Ok (header_digraph h) = subst (λ (x : Graph). admitted h ≡ Ok x) (sym same) e in
    let proposed : IsProposed (header_deal h (header_digraph h)) =
    subst (λ (p : Purpose). IsAcceptedOrProposed p (header_deal h (header_digraph h))) k.purpose ((admitted_is_accepted h k.within).0 made) in
    subst (λ (x : Graph). IsOfferedJob (assemble_job h x)) same (record {
      offered = record {
        whole = is_whole h (header_digraph h) k.within proposed.ends refl refl;
        names = k.within.names;
        proposed = proposed;
      };
      names = k.names;
    })

graph_is : (line : ℕ) (h : Header) (g : Graph) → examined line h ≡ Ok g → admitted h ≡ Ok g
unfolding examined
graph_is line h =
    onward (admitted h) _ (λ (g : Graph). admitted h ≡ Ok g) (λ g e.
    onward (no_seed_told line h.seeds) _ (λ (x : Graph). admitted h ≡ Ok x) (λ u w. landed g (λ (x : Graph). admitted h ≡ Ok x) e))

plain_is : (line : ℕ) (text : List ℕ) (job : Job) → parse_plain line text ≡ Ok job → IsOfferedJob job
unfolding parse_plain proposed_job
plain_is line text =
    onward (parse_whole_header no_strategy Make line text) _ IsOfferedJob (λ h e.
    onward (examined line h) _ IsOfferedJob (λ g x. landed (assemble_job h g) IsOfferedJob (assembled h g (header_is line text h e) (graph_is line h g x))))

unnamed : {A : Type 0} (names : List (List ℕ)) (r : Result A Reason) (y : A) → named_result names r ≡ Ok y → r ≡ Ok y
unnamed names (Ok x) y e = let same : x ≡ y = cc e in ap (λ z. Ok z) same
unnamed names (Err z) y e = absurd (cc e)

pub is_read : (line : ℕ) (text : List ℕ) (job : Job) → parse_offer line text ≡ Ok job → IsOfferedJob job
unfolding parse_offer
is_read line text job e =
    let rest = went (short_header line text) (λ u. named_result (header_names no_strategy Make line text) (parse_plain line text)) job e in
    plain_is line text job (unnamed (header_names no_strategy Make line text) (parse_plain line text) job rest.2)
