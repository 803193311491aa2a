-- What is read of a race's job, and what a race's book says of its findings.
use Rattle.std.proofs.Common.{◌≡◌, ◌<◌, ◌+◌, ℕ, Bool, true, false, not, nat_lt, if◌then◌else◌, List, [], ◌∷◌, ◌++◌, ◌==◌, codes, length}
use Rattle.std.proofs.Common.{inl, inr, refl, sym, ap}
use Rattle.std.proofs.Common.{Option, Some, None, Result, Ok, Err, is_some}
use Rattle.std.specs.List.{cons_option, flat_map, range_with_len}
use Rattle.std.specs.Prelude.{filter_map}
use Rattle.swap_base.specs.Fault.{◌>>=◌}
use Rattle.swap_base.specs.Lists.{IsElement, moments}
use Rattle.swap_base.proofs.Lists.{from_append, from_range}
use Rattle.time_bounds.specs.Times as times
use Rattle.swap_digraph.specs.declared.deal.Deal.{Deal}
use Rattle.swap_digraph.specs.Graph.{arcs}
use Rattle.ledger_core.specs.History.{height}
use Rattle.ledger_core.specs.Book.{Histories, history}
use Rattle.swap_job.specs.declared.event.Event.{Event}
use Rattle.swap_job.specs.declared.job.Job.{Job}
use Rattle.swap_job.specs.declared.job.Purpose.{Purpose}
use Rattle.swap_job.specs.declared.job.Purpose.TheVariants as purposes
use Rattle.command_input.specs.declared.reason.Reason.{Reason}
use Rattle.command_input.specs.declared.reason.Reason.TheVariants.{OverLimit}
use Rattle.swap_rules.specs.declared.finding.Finding.{Finding}
use Rattle.swap_rules.specs.declared.finding.Finding.TheVariants.{Broke, Late, Forged, Unfinished}
use Rattle.swap_rules.specs.declared.finding.Rule.{Rule}
use Rattle.swap_rules.specs.Conduct.{keeps_entry}
use Rattle.swap_rules.specs.Late.{is_late, reference_height}
use Rattle.swap_rules.specs.Forged.{is_forged}
use Rattle.swap_rules.specs.Findings.{broken, failing, findings, party_findings, forgeries, arc_late_findings, lates, or_zero, deal_rules, unfinished}
use Rattle.swap_rules.specs.Laws.{IsOnTime}
use Rattle.swap_world.specs.Actors.{ConformingHaveSeeds}
use Rattle.offer_moves.proofs.Chains.{went}
use Rattle.offer_moves.specs.Fields.{parse_data}
use Rattle.offer_events.specs.Event.{asked_event, checked_event, conforming_crash, parse_event, outside_race}
use Rattle.offer_events.specs.Reading.{raw_event}
use Rattle.swap_offer.specs.Job.{parse_events, limited_event, IsWholeJob}
use Rattle.swap_offer.specs.Wallets.{HaveWallets}
use Rattle.swap_rules.proofs.Prefixes.{from_flat_map}

-- A race's job has no event.

not_outside : (line : ℕ) (purpose : Purpose) (rest : Unit {0} → Result Event Reason) (e : Event) → purpose ≡ purposes.Race
    → (outside_race line purpose >>= rest) ≡ Ok e → ⊥
not_outside line purposes.Race rest e is ok = cc ok
not_outside line purposes.Run rest e is ok = cc is
not_outside line purposes.Check rest e is ok = cc is
not_outside line purposes.Make rest e is ok = cc is
not_outside line purposes.Audit rest e is ok = cc is

no_event : (job : Job) (line : ℕ) (text : List ℕ) (e : Event) → job.purpose ≡ purposes.Race → parse_event job line text ≡ Ok e → ⊥
unfolding parse_event asked_event
no_event job line text e is ok =
    let d = went (parse_data line text) (λ d. raw_event line d >>= λ raw. asked_event job line raw) e ok in
    let raw = went (raw_event line d.0) (λ raw. asked_event job line raw) e d.2 in
    let event = went (checked_event job line raw.0)
    (λ event. outside_race line job.purpose >>= λ u. conforming_crash job.conforming line event >>= λ w. Ok event) e raw.2 in
    not_outside line job.purpose (λ u. conforming_crash job.conforming line event.0 >>= λ w. Ok event.0) e is event.2

no_next : (job : Job) (count line : ℕ) (text : List ℕ) (e : Event) → job.purpose ≡ purposes.Race → limited_event job count line text ≡ Ok e → ⊥
unfolding limited_event
no_next job count line text e is ok = by (count == 200000) ok
  where
    by : (b : Bool) → (if b then Err (OverLimit line (codes "events") 200001) else parse_event job line text) ≡ Ok e → ⊥
    by true ok = cc ok
    by false ok = no_event job line text e is ok

pub no_events : (job : Job) → job.purpose ≡ purposes.Race → (ls : List (ℕ × List ℕ)) (es : List Event) → parse_events job 0 ls ≡ Ok es → es ≡ []
unfolding parse_events
no_events job is [] es ok = sym (cc ok)
no_events job is (l ∷ ls) es ok =
    let e = went (limited_event job 0 l.0 l.1) (λ e. parse_events job 1 ls >>= λ rest. Ok (e ∷ rest)) es ok in
    absurd (no_next job 0 l.0 l.1 e.0 is e.1)

-- Nobody is named late where each conforming party is on time.

not_failing : {A : Type 0} (say : A → Finding) (test : A → Bool) (f : Finding) → ((x : A) → ¬ (f ≡ say x)) → (xs : List A)
    → ¬ IsElement f (filter_map (λ m. if test m then None else Some (say m)) xs)
not_failing say test f never [] i = i
not_failing {A = A} say test f never (x ∷ xs) i = by (test x) (not_failing say test f never xs) i
  where
    by : (b : Bool) → ¬ IsElement f (filter_map (λ m. if test m then None else Some (say m)) xs)
        → ¬ IsElement f (cons_option (if b then None else Some (say x)) (filter_map (λ m. if test m then None else Some (say m)) xs))
    by true rest i = rest i
    by false rest (inl e) = never x e
    by false rest (inr i) = rest i

module _ (d : Deal) (b : Histories) (v : ℕ) (rule : Rule) (a due : ℕ) where
  abbrev named : Finding
  named = Late v rule a due

  not_broken : (w : ℕ) → ¬ IsElement named (broken d b w)
  not_broken w i =
      let at = from_flat_map (λ x. failing (Broke w x) (keeps_entry d b w x) (history b x)) (arcs d.graph) named i in
      not_failing (λ m. Broke w at.0 (length m.past)) (keeps_entry d b w at.0) named (λ m e. cc e) (moments (history b at.0)) at.2

  not_forged : (w : ℕ) → ¬ IsElement named (forgeries d b w)
  not_forged w i =
      let at = from_flat_map (λ x. failing (Forged w x) (λ m. not (is_forged d b w m.now)) (history b x)) (arcs d.graph) named i in
      not_failing (λ m. Forged w at.0 (length m.past)) (λ m. not (is_forged d b w m.now)) named (λ m e. cc e) (moments (history b at.0)) at.2

  none_if : (x : Bool) (f : Finding) → x ≡ false → ¬ IsElement named (if x then f ∷ [] else [])
  none_if true f e i = cc e
  none_if false f e i = i

  not_late : (w : ℕ) → IsOnTime d b w → ¬ IsElement named (lates d b w)
  not_late w on i =
      let r = from_flat_map (λ x. flat_map (arc_late_findings d b w x) (arcs d.graph)) (deal_rules d) named i in
      let at = from_flat_map (arc_late_findings d b w r.0) (arcs d.graph) named r.2 in
      none_if (is_late d b w r.0 at.0) (Late w r.0 at.0 (or_zero (reference_height d b w r.0 at.0) + d.delta)) (on r.0 at.0 r.1 at.1) at.2

  not_of_party : (w : ℕ) → IsOnTime d b w → ¬ IsElement named (party_findings d b w)
  not_of_party w on i = elim (from_append (broken d b w ++ lates d b w) (forgeries d b w) named i) [
    | inl j ↦ elim (from_append (broken d b w) (lates d b w) named j) [ inl k ↦ not_broken w k | inr k ↦ not_late w on k ]
    | inr j ↦ not_forged w j
  ]

  not_unfinished : ¬ IsElement named (unfinished d b)
  not_unfinished i =
      let at =
      from_flat_map (λ x. if nat_lt (times.horizon d.start d.delta d.bound) (height (history b x)) then [] else Unfinished x (height (history b x)) ∷ [])
      (arcs d.graph) named i in
      by (nat_lt (times.horizon d.start d.delta d.bound) (height (history b at.0))) (Unfinished at.0 (height (history b at.0))) (λ e. cc e) at.2
    where
      by : (x : Bool) (f : Finding) → ¬ (named ≡ f) → ¬ IsElement named (if x then [] else f ∷ [])
      by true f never i = i
      by false f never (inl e) = never e
      by false f never (inr i) = i

pub none_is_late : (d : Deal) (conforming : ℕ → Bool) (b : Histories) → ((w : ℕ) → w < d.graph.n → conforming w ≡ true → IsOnTime d b w)
    → (v : ℕ) (rule : Rule) (a due : ℕ) → ¬ IsElement (Late v rule a due) (findings d conforming b)
none_is_late d conforming b on v rule a due i =
    elim (from_append (flat_map (λ w. if conforming w then party_findings d b w else []) (range_with_len 0 d.graph.n)) (unfinished d b) (Late v rule a due) i) [
      | inl j ↦ (let at = from_flat_map (λ w. if conforming w then party_findings d b w else []) (range_with_len 0 d.graph.n) (Late v rule a due) j in
          by at.0 (from_range at.0 d.graph.n at.1) (conforming at.0) refl at.2)
      | inr j ↦ not_unfinished d b v rule a due j
    ]
  where
    by : (w : ℕ) → w < d.graph.n → (x : Bool) → conforming w ≡ x → ¬ IsElement (Late v rule a due) (if x then party_findings d b w else [])
    by w lt true c i = not_of_party d b v rule a due w (on w lt c) i
    by w lt false c i = i

-- A job whose conforming parties have their wallets.

pub have_seeds : (job : Job) → IsWholeJob job → HaveWallets job → ConformingHaveSeeds job
have_seeds job whole have = record {
  conforming = whole.conforming;
  seeds = whole.seeds;
  there = λ p lt c. let h = have p lt c in ap (λ (o : Option (List ℕ)). is_some o) h.there;
}
