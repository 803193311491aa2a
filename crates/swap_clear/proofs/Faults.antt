-- The digraph of proposals, and of sound arcs.
use Rattle.std.proofs.Common.{◌≡◌, ◌≢◌, ℕ, suc, ◌+◌, ◌<◌, ◌==◌, Bool, true, false, cond, not, ◌&&◌, nat_lt, List, [], ◌∷◌, ◌++◌, length}
use Rattle.std.proofs.Common.{map, Option, Some, None, Ok, Err, refl, sym, ap, ◌∙◌, subst, arith, lt-ltb, ne_eqb, length-append}
use Rattle.swap_base.specs.Lists.{or_else}
use Rattle.swap_base.specs.declared.fault.Fault.{Fault}
use Rattle.swap_base.specs.declared.fault.Fault.TheVariants.{Refused}
use Rattle.swap_base.specs.Fault.{Fails}
use Rattle.swap_digraph.specs.declared.arc_ends.ArcEnds.{ArcEnds}
use Rattle.swap_digraph.specs.declared.fault.ArcFault.{ArcFault}
use Rattle.swap_digraph.specs.declared.fault.ArcFault.TheVariants.{OutOfRange as OutOfRangeArc, SelfArc as SelfArcOf, Parallel}
use Rattle.swap_digraph.specs.declared.deal.Version.TheVariants.{Two}
use Rattle.swap_digraph.specs.Arcs.{arc_fault, next_arc_fault, build_digraph, graph_or, first_fault}
use Rattle.swap_digraph.specs.Graph.{HasEnds}
use Rattle.swap_digraph.specs.Value.{Graph}
use Rattle.swap_clear.specs.declared.proposed.Proposed.{Proposed}
use Rattle.swap_clear.specs.declared.fault.ClearReason.{ClearReason}
use Rattle.swap_clear.specs.declared.fault.ClearReason.TheVariants.{OutOfRange, SelfArc}
use Rattle.swap_clear.specs.Proposals.{resolve_arc_ends, proposed_graph, proposal_fault, first_proposal_fault, graph_unless, proposals_graph}

-- Sound arcs make a digraph.

sound_at : (n : ℕ) (before : List ArcEnds) (k : ℕ) (a : ArcEnds) → a.from < n → a.to < n → a.from ≢ a.to → arc_fault n Two before k a ≡ None
unfolding arc_fault
sound_at n before k a f t apart = rw (lt-ltb a.from n f, lt-ltb a.to n t, ne_eqb a.from a.to apart) refl

sound_after : (n : ℕ) (before arcs : List ArcEnds) → HasEnds (record { n = n; arcs = arcs }) → next_arc_fault n Two before arcs ≡ None
sound_after n before [] ends = refl
sound_after n before (a ∷ arcs) ends =
    ap (λ (o : Option ArcFault). or_else o (next_arc_fault n Two (before ++ a ∷ []) arcs))
    (sound_at n before (length before) a (ends.from 0 (omega arith)) (ends.to 0 (omega arith)) (ends.apart 0 (omega arith)))
    ∙ sound_after n (before ++ a ∷ []) arcs (record {
      from = λ i lt. ends.from (suc i) (omega arith);
      to = λ i lt. ends.to (suc i) (omega arith);
      apart = λ i lt. ends.apart (suc i) (omega arith);
    })

pub sound_graph : (n : ℕ) (arcs : List ArcEnds) → HasEnds (record { n = n; arcs = arcs }) → build_digraph n Two arcs ≡ Ok (record { n = n; arcs = arcs })
unfolding build_digraph first_fault
sound_graph n arcs ends = ap (λ (o : Option ArcFault). graph_or n arcs o) (sound_after n [] arcs ends)

pub never_refused : (n : ℕ) (arcs : List ArcEnds) (e : Fault ArcFault) (reason : ArcFault) → HasEnds (record { n = n; arcs = arcs }) → e ≡ Refused reason
    → Fails e (build_digraph n Two arcs) → ⊥
never_refused n arcs e reason ends is fails =
    let f : build_digraph n Two arcs ≡ Err reason = subst (λ (d : Fault ArcFault). Fails d (build_digraph n Two arcs)) is fails in
    cc (f, sound_graph n arcs ends)

-- The first fault of proposals is that of their ends.

abbrev pub told : ArcFault → ClearReason
told (OutOfRangeArc k) = OutOfRange k
told (SelfArcOf k) = SelfArc k
told (Parallel j k) = SelfArc k

abbrev pub tell : Option ArcFault → Option ClearReason
tell None = None
tell (Some f) = Some (told f)

tell_or : (o r : Option ArcFault) → tell (or_else o r) ≡ or_else (tell o) (tell r)
tell_or None r = refl
tell_or (Some f) r = refl

same_fault : (n : ℕ) (before : List ArcEnds) (k : ℕ) (p : Proposed) → proposal_fault n k p ≡ tell (arc_fault n Two before k (resolve_arc_ends p))
unfolding arc_fault
same_fault n before k p = go (nat_lt p.from n && nat_lt p.to n) (p.from == p.to)
  where
    go : (within same : Bool) → cond (not within) (Some (OutOfRange k)) (cond same (Some (SelfArc k)) None)
        ≡ tell (cond (not within) (Some (OutOfRangeArc k)) (cond same (Some (SelfArcOf k)) None))
    go true true = refl
    go true false = refl
    go false same = refl

pub same_first : (n : ℕ) (before : List ArcEnds) (k : ℕ) (arcs : List Proposed) → k ≡ length before
    → first_proposal_fault n k arcs ≡ tell (next_arc_fault n Two before (map resolve_arc_ends arcs))
unfolding first_proposal_fault
same_first n before k [] e = refl
same_first n before k (p ∷ arcs) e =
    ap (λ (o : Option ClearReason). or_else o (first_proposal_fault n (k + 1) arcs)) (same_fault n before k p
    ∙ ap (λ (j : ℕ). tell (arc_fault n Two before j (resolve_arc_ends p))) e)
    ∙ ap (λ (o : Option ClearReason). or_else (tell (arc_fault n Two before (length before) (resolve_arc_ends p))) o)
    (same_first n (before ++ resolve_arc_ends p ∷ []) (k + 1) arcs (let l = length-append before (resolve_arc_ends p ∷ []) in omega (arith, l, e)))
    ∙ sym (tell_or (arc_fault n Two before (length before) (resolve_arc_ends p)) (next_arc_fault n Two (before ++ resolve_arc_ends p
    ∷ []) (map resolve_arc_ends arcs)))

pub refused_so : (n : ℕ) (arcs : List Proposed) (f : ArcFault) → build_digraph n Two (map resolve_arc_ends arcs) ≡ Err f → proposals_graph n arcs ≡ Err (told f)
unfolding proposals_graph build_digraph first_fault
refused_so n arcs f e = go (next_arc_fault n Two [] (map resolve_arc_ends arcs)) (same_first n [] 0 arcs refl) e
  where
    go : (o : Option ArcFault) → first_proposal_fault n 0 arcs ≡ tell o → graph_or n (map resolve_arc_ends arcs) o ≡ Err f
        → graph_unless (proposed_graph n arcs) (first_proposal_fault n 0 arcs) ≡ Err (told f)
    go None s h = absurd (cc h)
    go (Some x) s h =
        let same : x ≡ f = cc h in
        ap (graph_unless (proposed_graph n arcs)) s ∙ ap (λ (y : ArcFault). Err (told y)) same

pub accepted_so : (n : ℕ) (arcs : List Proposed) (g : Graph) → build_digraph n Two (map resolve_arc_ends arcs) ≡ Ok g → proposals_graph n arcs ≡ Ok g
unfolding proposals_graph build_digraph first_fault
accepted_so n arcs g e = go (next_arc_fault n Two [] (map resolve_arc_ends arcs)) (same_first n [] 0 arcs refl) e
  where
    go : (o : Option ArcFault) → first_proposal_fault n 0 arcs ≡ tell o → graph_or n (map resolve_arc_ends arcs) o ≡ Ok g
        → graph_unless (proposed_graph n arcs) (first_proposal_fault n 0 arcs) ≡ Ok g
    go None s h = let same : proposed_graph n arcs ≡ g = cc h in ap (graph_unless (proposed_graph n arcs)) s ∙ ap (λ (x : Graph). Ok x) same
    go (Some x) s h = absurd (cc h)

not_parallel_at : (n : ℕ) (before : List ArcEnds) (k i j : ℕ) (a : ArcEnds) → arc_fault n Two before k a ≡ Some (Parallel i j) → ⊥
unfolding arc_fault
not_parallel_at n before k i j a e = go (nat_lt a.from n && nat_lt a.to n) (a.from == a.to) e
  where
    go : (within same : Bool) → cond (not within) (Some (OutOfRangeArc k)) (cond same (Some (SelfArcOf k)) None) ≡ Some (Parallel i j) → ⊥
    go true true h = cc h
    go true false h = cc h
    go false same h = cc h

not_parallel_after : (n : ℕ) (before arcs : List ArcEnds) (i j : ℕ) → next_arc_fault n Two before arcs ≡ Some (Parallel i j) → ⊥
not_parallel_after n before [] i j e = cc e
not_parallel_after n before (a ∷ arcs) i j e =
    go (arc_fault n Two before (length before) a) refl e (not_parallel_after n (before ++ a ∷ []) arcs i j)
  where
    go : (o : Option ArcFault) → arc_fault n Two before (length before) a ≡ o
        → or_else o (next_arc_fault n Two (before ++ a ∷ []) arcs) ≡ Some (Parallel i j)
        → (next_arc_fault n Two (before ++ a ∷ []) arcs ≡ Some (Parallel i j) → ⊥) → ⊥
    go None s h rest = rest h
    go (Some f) s h rest = not_parallel_at n before (length before) i j a (s ∙ h)

pub not_parallel : (n : ℕ) (arcs : List ArcEnds) (i j : ℕ) → build_digraph n Two arcs ≡ Err (Parallel i j) → ⊥
unfolding build_digraph first_fault
not_parallel n arcs i j e = go (next_arc_fault n Two [] arcs) refl e
  where
    go : (o : Option ArcFault) → next_arc_fault n Two [] arcs ≡ o → graph_or n arcs o ≡ Err (Parallel i j) → ⊥
    go None s h = cc h
    go (Some f) s h = let same : f ≡ Parallel i j = cc h in not_parallel_after n [] arcs i j (s ∙ ap (λ (x : ArcFault). Some x) same)

pub refused_as : (n : ℕ) (arcs : List Proposed) (made : List ArcEnds) (e : Fault ArcFault) (f is : ArcFault) → made ≡ map resolve_arc_ends arcs
    → e ≡ Refused f → f ≡ is
    → Fails e (build_digraph n Two made) → build_digraph n Two (map resolve_arc_ends arcs) ≡ Err is
refused_as n arcs made e f is same refused kind fails =
    let h : build_digraph n Two made ≡ Err f = subst (λ (d : Fault ArcFault). Fails d (build_digraph n Two made)) refused fails in
    sym (ap (build_digraph n Two) same) ∙ h ∙ ap (λ (x : ArcFault). Err x) kind
