-- What a clearing is made of.
use Rattle.std.proofs.Common.{◌≡◌, ℕ, List, [], map, Option, Some, None, Result, Ok, Err, refl, sym, ap, ◌∙◌}
use Rattle.swap_base.specs.Fault.{◌>>=◌}
use Rattle.swap_digraph.specs.Value.{Graph}
use Rattle.swap_digraph.specs.Graph.{HasEnds}
use Rattle.swap_digraph.specs.declared.fault.ArcFault.{ArcFault}
use Rattle.swap_digraph.specs.declared.deal.Version.TheVariants.{Two}
use Rattle.swap_digraph.specs.Arcs.{next_arc_fault, first_fault}
use Rattle.swap_digraph.proofs.Faults.{has_ends}
use Rattle.swap_clear.specs.declared.proposed.Proposed.{Proposed}
use Rattle.swap_clear.specs.declared.answer.Group.{Group}
use Rattle.swap_clear.specs.declared.answer.Clearing.{Clearing}
use Rattle.swap_clear.specs.declared.fault.ClearReason.{ClearReason}
use Rattle.swap_clear.specs.Proposals.{resolve_arc_ends, proposed_graph, first_proposal_fault, graph_unless, proposals_graph}
use Rattle.swap_clear.specs.Groups.{all_left_out}
use Rattle.swap_clear.specs.Clearing.{cleared_components, cleared_groups}
use Rattle.swap_clear.proofs.Faults.{tell, same_first}

-- The proposals make a digraph, and the answer is of it.
pub record Cleared (n : ℕ) (arcs : List Proposed) (c : Clearing) : Type 0 where
  pub ends : HasEnds (proposed_graph n arcs)
  pub left_out : c.left_out ≡ all_left_out (proposed_graph n arcs)
  pub groups : cleared_components (proposed_graph n arcs) ≡ Ok c.groups

pub sound : (n : ℕ) (arcs : List Proposed) (g : Graph) → proposals_graph n arcs ≡ Ok g → (g ≡ proposed_graph n arcs) × HasEnds (proposed_graph n arcs)
unfolding proposals_graph first_fault
sound n arcs g e = go (next_arc_fault n Two [] (map resolve_arc_ends arcs)) refl (same_first n [] 0 arcs refl)
  where
    go : (o : Option ArcFault) → next_arc_fault n Two [] (map resolve_arc_ends arcs) ≡ o
        → first_proposal_fault n 0 arcs ≡ tell (next_arc_fault n Two [] (map resolve_arc_ends arcs))
        → (g ≡ proposed_graph n arcs) × HasEnds (proposed_graph n arcs)
    go None none same = (
      let h = sym (ap (graph_unless (proposed_graph n arcs)) (same ∙ ap tell none)) ∙ e in sym (cc h),
      has_ends n Two (map resolve_arc_ends arcs) (sym none),
    )
    go (Some f) none same = let h = sym (ap (graph_unless (proposed_graph n arcs)) (same ∙ ap tell none)) ∙ e in absurd (cc h)

pub cleared : (n : ℕ) (arcs : List Proposed) (c : Clearing) → cleared_groups n arcs ≡ Ok c → Cleared n arcs c
unfolding cleared_groups
cleared n arcs c e = by_graph (proposals_graph n arcs) refl e
  where
    by_groups : (g : Graph) → g ≡ proposed_graph n arcs → HasEnds (proposed_graph n arcs) → (r : Result (List Group) ClearReason) → cleared_components g ≡ r
        → (r >>= λ groups. Ok (record { left_out = all_left_out g; groups = groups })) ≡ Ok c → Cleared n arcs c
    by_groups g is has (Ok groups) made h =
        let left : c.left_out ≡ all_left_out g = cc h in
        let same : groups ≡ c.groups = cc h in
        record {
          ends = has;
          left_out = left ∙ ap all_left_out is;
          groups = sym (ap cleared_components is) ∙ made ∙ ap (λ (x : List Group). Ok x) same;
        }
    by_groups g is has (Err reason) made h = absurd (cc h)

    by_graph : (r : Result Graph ClearReason) → proposals_graph n arcs ≡ r
        → (r >>= λ g. cleared_components g >>= λ groups. Ok (record { left_out = all_left_out g; groups = groups })) ≡ Ok c → Cleared n arcs c
    by_graph (Ok g) made h = let s = sound n arcs g made in by_groups g s.0 s.1 (cleared_components g) refl h
    by_graph (Err reason) made h = absurd (cc h)
