-- What the reasons of a header's checks show.
use Rattle.std.proofs.Common.{◌≡◌, ℕ, ◌==◌, ◌&&◌, Bool, true, false, cond, nat_lt, is_none, List, [], ◌∷◌, length, slice_index, Option, Some, None}
use Rattle.std.proofs.Common.{Result, Ok, Err, refl, sym, ◌∙◌, subst, arith}
use Rattle.std.specs.Prelude.{option_map}
use Rattle.std.specs.List.{range_with_len}
use Rattle.swap_base.specs.Fault.{◌>>=◌, Fails, Gives}
use Rattle.swap_base.specs.declared.fault.Fault.{Fault}
use Rattle.swap_base.specs.declared.fault.Fault.TheVariants.{Refused, NoMemory}
use Rattle.swap_base.specs.Lists.{or_else, first_given_answer}
use Rattle.time_bounds.specs.Times.{timelock}
use Rattle.swap_digraph.specs.Value.{Graph}
use Rattle.swap_digraph.specs.Graph.{arcs, ends, HasEnds}
use Rattle.swap_digraph.specs.Arcs.{first_fault, graph_or, build_digraph}
use Rattle.swap_digraph.specs.declared.fault.ArcFault.{ArcFault}
use Rattle.swap_digraph.specs.declared.fault.ArcFault.TheVariants.{OutOfRange, SelfArc, Parallel}
use Rattle.swap_digraph.specs.declared.deal.Mode.{Mode}
use Rattle.swap_digraph.specs.declared.deal.Mode.TheVariants.{Timelocks, Hashkeys}
use Rattle.swap_digraph.proofs.Faults.{has_ends}
use Rattle.digraph_check.specs.Reach.{closed_set}
use Rattle.digraph_check.proofs.ClosedSets.{closed_of_set}
use Rattle.leader_check.specs.Cycles.{follower_cycle}
use Rattle.leader_check.proofs.Walks as walks
use Rattle.leader_check.specs.Distance.{leader_distance}
use Rattle.swap_job.specs.declared.job.Job.{Job}
use Rattle.swap_job.specs.declared.job.Purpose.{Purpose}
use Rattle.swap_job.specs.declared.job.Purpose.TheVariants.{Check, Run, Race, Make, Audit}
use Rattle.party_wallet.specs.Fits.{wrong_lock}
use Rattle.command_input.specs.declared.reason.Reason.{Reason}
use Rattle.command_input.specs.declared.reason.Reason.TheVariants.{BoundTooSmall, StartTooSoon, ManyLeaders, WrongTimelock, NoSeed, WrongWallet}
use Rattle.command_input.specs.declared.refusal.Refusal.{Refusal}
use Rattle.command_input.specs.Refusal.{fault_with_names, named_result}
use Rattle.command_input.proofs.Named.{named_err}
use Rattle.offer_header.specs.declared.header.Header.{Header}
use Rattle.offer_header.specs.Header.{IsHeaderInLimits}
use Rattle.offer_header.specs.Raw.{is_plain}
use Rattle.swap_offer.specs.Checks.{build_graph, by_arcs, header_digraph, connected, unless_closed, one_leader, led, unless_cycle, least_bound, bounded}
use Rattle.swap_offer.specs.Checks.{start_after_delta, arcs_timed, unless_wrong, wrong_timelock, timed_unless, checked_digraph, admitted, assemble_job}
use Rattle.swap_offer.specs.Wallets.{party_conforms, party_seed, needs_seed, no_seed, seeded, wrong_seed, wrong_wallet, fitting, fitting_wallets, walleted}
use Rattle.swap_offer.specs.Job.{provided, accepted_entries}
use Rattle.swap_offer.specs.Certificates.{IsCertified, Certifies}

-- what a reason shows, where there is one
abbrev IfBad : {A : Type 0} → (Reason → Type 0) → Result A Reason → Type 0
IfBad P (Ok x) = Unit {0}
IfBad P (Err reason) = P reason

abbrev IfThere : (Reason → Type 0) → Option Reason → Type 0
IfThere P None = Unit {0}
IfThere P (Some reason) = P reason

onward : {A B : Type 0} (P : Reason → Type 0) (m : Result A Reason) (f : A → Result B Reason) → IfBad P m → ((x : A) → m ≡ Ok x → IfBad P (f x))
    → IfBad P (m >>= f)
onward P (Ok x) f bad rest = rest x refl
onward P (Err reason) f bad rest = bad

if_wrong : (P : Reason → Type 0) (o : Option Reason) → IfThere P o → IfBad P (unless_wrong o)
if_wrong P None bad = tt
if_wrong P (Some reason) bad = bad

the_first : (P : Reason → Type 0) (f : ℕ → Option Reason) (xs : List ℕ) → ((x : ℕ) → IfThere P (f x)) → IfThere P (first_given_answer f xs)
the_first P f [] each = tt
the_first P f (x ∷ xs) each = go (f x) (each x) (the_first P f xs each)
  where
    go : (o : Option Reason) → IfThere P o → IfThere P (first_given_answer f xs) → IfThere P (or_else o (first_given_answer f xs))
    go None one rest = rest
    go (Some reason) one rest = one

by_test : (P : Reason → Type 0) (t : Bool) (reason : Reason) → P reason → IfBad P (cond {A = Result (Unit {0}) Reason} t (Err reason) (Ok tt))
by_test P true reason bad = bad
by_test P false reason bad = tt

if_so : (P : Reason → Type 0) (t : Bool) (reason : Reason) → P reason → IfThere P (cond t (Some reason) None)
if_so P true reason bad = bad
if_so P false reason bad = tt

if_not : (P : Reason → Type 0) (t : Bool) (reason : Reason) → P reason → IfThere P (cond t None (Some reason))
if_not P true reason bad = tt
if_not P false reason bad = bad

module _ (h : Header) (k : IsHeaderInLimits h) where
  abbrev Shows : Reason → Type 0
  Shows reason = IsCertified h reason

  of_arcs : IfBad Shows (build_graph h)
  unfolding build_graph build_digraph
  of_arcs = go (first_fault (length h.names) h.version h.arcs)
    where
      go : (o : Option ArcFault) → IfBad (IsCertified h) (by_arcs (graph_or (length h.names) h.arcs o))
      go None = tt
      go (Some (OutOfRange a)) = tt
      go (Some (SelfArc a)) = tt
      go (Some (Parallel a b)) = tt

  -- the digraph that was made is the header's
  made : (g : Graph) → build_graph h ≡ Ok g → (g ≡ header_digraph h) × HasEnds (header_digraph h)
  unfolding build_graph build_digraph
  made g e = go (first_fault (length h.names) h.version h.arcs) refl e
    where
      go : (o : Option ArcFault) → first_fault (length h.names) h.version h.arcs ≡ o → by_arcs (graph_or (length h.names) h.arcs o) ≡ Ok g
          → (g ≡ header_digraph h) × HasEnds (header_digraph h)
      go None s e = let same : header_digraph h ≡ g = cc e in (sym same, has_ends (length h.names) h.version h.arcs (sym s))
      go (Some f) s e = absurd (cc e)

  of_connected : HasEnds (header_digraph h) → IfBad Shows (connected (header_digraph h))
  unfolding connected
  of_connected has = go (closed_set (header_digraph h)) refl
    where
      go : (o : Option (List ℕ)) → closed_set (header_digraph h) ≡ o → IfBad (IsCertified h) (unless_closed o)
      go None s = tt
      go (Some set) s = let some = k.parties.0 in closed_of_set (header_digraph h) set has (omega (arith, some)) (sym s)

  of_led : IfBad Shows (led (header_digraph h) h.leaders)
  unfolding led
  of_led = go (follower_cycle (header_digraph h) h.leaders) refl
    where
      go : (o : Option (List ℕ)) → follower_cycle (header_digraph h) h.leaders ≡ o → IfBad (IsCertified h) (unless_cycle o)
      go None s = tt
      go (Some cycle) s = walks.cycle_is (header_digraph h) h.leaders cycle s

  of_one_leader : (m : Mode) → IfBad Shows (one_leader m h.leaders)
  unfolding one_leader
  of_one_leader Timelocks = by_test (IsCertified h) (nat_lt 1 (length h.leaders)) (ManyLeaders (length h.leaders)) tt
  of_one_leader Hashkeys = tt

  of_bounded : (needed : ℕ) → IfBad Shows (bounded h.bound needed)
  unfolding bounded
  of_bounded needed = by_test (IsCertified h) (nat_lt h.bound needed) (BoundTooSmall h.bound needed) tt

  of_started : IfBad Shows (start_after_delta h.start h.delta)
  unfolding start_after_delta
  of_started = by_test (IsCertified h) (nat_lt h.start h.delta) (StartTooSoon h.start h.delta) tt

  of_timelock : (leader a : ℕ) → IfThere Shows (wrong_timelock h (header_digraph h) leader a)
  of_timelock leader a =
      let given : ℕ = slice_index h.timelocks a in
      let wanted : ℕ = timelock h.start h.delta h.bound (leader_distance (header_digraph h) leader (ends (header_digraph h) a).to) in
      if_not (IsCertified h) (given == wanted) (WrongTimelock a given wanted) tt

  of_timed : (m : Mode) (leaders : List ℕ) → IfBad Shows (arcs_timed h (header_digraph h) m leaders)
  unfolding arcs_timed
  of_timed Hashkeys leaders = tt
  of_timed Timelocks [] = tt
  of_timed Timelocks (leader ∷ []) =
      if_wrong (IsCertified h) (first_given_answer (wrong_timelock h (header_digraph h) leader) (arcs (header_digraph h)))
      (the_first (IsCertified h) (wrong_timelock h (header_digraph h) leader) (arcs (header_digraph h)) (of_timelock leader))
  of_timed Timelocks (x ∷ y ∷ leaders) = tt

  of_times : (plain : Bool) → IfBad Shows (timed_unless plain h (header_digraph h))
  of_times true = tt
  of_times false = of_timed h.mode h.leaders

  of_checked : HasEnds (header_digraph h) → IfBad Shows (checked_digraph h (header_digraph h))
  unfolding checked_digraph
  of_checked has =
      onward (IsCertified h) (connected (header_digraph h)) _ (of_connected has)
      (λ u e. onward (IsCertified h) (one_leader h.mode h.leaders) _ (of_one_leader h.mode)
      (λ v f. onward (IsCertified h) (led (header_digraph h) h.leaders) _ of_led
      (λ w d. onward (IsCertified h) (bounded h.bound (least_bound (header_digraph h) h.leaders)) _ (of_bounded (least_bound (header_digraph h) h.leaders))
      (λ x b. onward (IsCertified h) (start_after_delta h.start h.delta) _ of_started (λ y s. of_times (is_plain h.purpose))))))

  of_admitted : IfBad Shows (admitted h)
  unfolding admitted
  of_admitted =
      onward (IsCertified h) (build_graph h) _ of_arcs
      (λ g e.
      let m = made g e in
      subst (λ (x : Graph). IfBad (IsCertified h) (checked_digraph h x >>= λ u. let r : Result Graph Reason = Ok x in r)) (sym m.0)
      (onward (IsCertified h) (checked_digraph h (header_digraph h)) _ (of_checked m.1) (λ u c. tt)))

  of_seed : (job : Job) (p : ℕ) → IfThere Shows (no_seed job p)
  of_seed job p = if_so (IsCertified h) (needs_seed job.purpose job p && is_none (party_seed job p)) (NoSeed p) tt

  of_seeded : (job : Job) → IfBad Shows (seeded job)
  unfolding seeded
  of_seeded job =
      if_wrong (IsCertified h) (first_given_answer (no_seed job) (range_with_len 0 job.deal.graph.n))
      (the_first (IsCertified h) (no_seed job) (range_with_len 0 job.deal.graph.n) (of_seed job))

  of_wallet : (job : Job) (p : ℕ) → IfThere Shows (wrong_wallet job p)
  of_wallet job p = go (party_conforms job p) (party_seed job p)
    where
      by_lock : (o : Option ℕ) → IfThere (IsCertified h) (option_map (WrongWallet p) o)
      by_lock None = tt
      by_lock (Some lock) = tt

      go : (t : Bool) (o : Option (List ℕ)) → IfThere (IsCertified h) (cond t (wrong_seed job p o) None)
      go false o = tt
      go true None = tt
      go true (Some seed) = by_lock (wrong_lock job.deal p seed)

  of_fitting : (job : Job) → IfBad Shows (fitting job)
  unfolding fitting
  of_fitting job =
      if_wrong (IsCertified h) (first_given_answer (wrong_wallet job) (range_with_len 0 job.deal.graph.n))
      (the_first (IsCertified h) (wrong_wallet job) (range_with_len 0 job.deal.graph.n) (of_wallet job))

  of_walleted : (job : Job) → IfBad Shows (walleted job)
  unfolding walleted
  of_walleted job = go job.purpose
    where
      go : (purpose : Purpose) → IfBad (IsCertified h) (fitting_wallets purpose job)
      go Check = of_fitting job
      go Run = of_fitting job
      go Race = of_fitting job
      go Make = tt
      go Audit = tt

  of_accepted : IfBad Shows (accepted_entries h)
  unfolding accepted_entries provided
  of_accepted =
      onward (IsCertified h) (admitted h) _ of_admitted
      (λ g e. onward (IsCertified h) (provided (assemble_job h g)) _ (onward (IsCertified h) (seeded (assemble_job h g)) _ (of_seeded (assemble_job h g))
      (λ u s. of_walleted (assemble_job h g))) (λ u p. tt))

  shown_by : (r : Result Job Reason) (reason : Reason) → r ≡ Err reason → IfBad Shows r → IsCertified h reason
  shown_by (Ok job) reason e bad = absurd (cc e)
  shown_by (Err given) reason e bad = let same : given ≡ reason = cc e in subst (IsCertified h) same bad

  pub certifies : {X : Type 0} (view : X → Job) (names : List (List ℕ)) (result : Result X (Fault Refusal))
      → Gives view result (named_result names (accepted_entries h)) → Certifies h result
  certifies view names (Ok x) e = tt
  certifies view names (Err NoMemory) e = tt
  certifies view names (Err (Refused refusal)) e = shown_by (accepted_entries h) refusal.reason (named_err names (accepted_entries h) refusal e).0 of_accepted

-- where the reader fails before there is a header, nothing is shown of one
pub no_header : (X : Type 0) (names : List (List ℕ)) (fault : Fault Reason) (read : Result Header Reason) (h : Header) → Fails fault read → read ≡ Ok h
    → Certifies {X = X} h (Err (fault_with_names names fault))
no_header X names NoMemory read h f e = tt
no_header X names (Refused reason) read h f e = absurd (cc (sym e ∙ f))

pub along : {X : Type 0} (read : Result Header Reason) (g h : Header) (result : Result X (Fault Refusal)) → read ≡ Ok g → read ≡ Ok h → Certifies g result
    → Certifies h result
along {X = X} read g h result e f c =
    let same : ◌≡◌ {A = Result Header Reason} (Ok g) (Ok h) = sym e ∙ f in
    let one : g ≡ h = cc same in
    subst (λ (x : Header). Certifies x result) one c
