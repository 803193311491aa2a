-- Where a move may stand doesn't go by its line.
use Rattle.std.proofs.Common.{◌≡◌, ◌==◌, ◌||◌, ◌+◌, ℕ, Bool, true, false, cond, List, [], ◌∷◌, Ok, Err, refl, ap, ◌∙◌}
use Rattle.std.specs.Prelude.{slice_index_or}
use Rattle.std.specs.List.{list_any}
use Rattle.swap_base.specs.Fault.{steps}
use Rattle.swap_digraph.specs.Graph.{resolve_all_ends}
use Rattle.swap_digraph.specs.declared.arc_ends.ArcEnds.{ArcEnds}
use Rattle.swap_job.specs.Resolved.{move_arc}
use Rattle.swap_job.specs.declared.job.Role.{Role}
use Rattle.swap_job.specs.declared.job.Role.TheVariants.{Conforming, Manual, Script, Strategy}
use Rattle.swap_job.specs.declared.moves.Move.{Move}
use Rattle.swap_job.specs.declared.moves.Move.TheVariants.{Publish, Craft, Replay, Raw, Claim, Refund, Transfer, Wait}
use Rattle.command_input.specs.declared.reason.Reason.TheVariants.{NotAdjacent}
use Rattle.offer_moves.proofs.Chains.{went}
use Rattle.offer_moves.proofs.Ranges.{passed}
use Rattle.offer_moves.specs.Placed.{adjacent, crafted_by_others, deviating, placed, received}
use Rattle.offer_header.specs.Scripts.{role_placed, roles_placed}
use Rattle.read_back.proofs.Steps.{step}

adjacent_anywhere : (arcs : List ArcEnds) (line other p a : ℕ) (u : Unit {0}) → adjacent arcs line p a ≡ Ok u → adjacent arcs other p a ≡ Ok tt
unfolding adjacent
adjacent_anywhere arcs line other p a u e =
    let near = (passed ((p == (resolve_all_ends arcs a).from) || (p == (resolve_all_ends arcs a).to)) tt u (NotAdjacent line) e).0 in
    ap (λ (b : Bool). cond b (Ok tt) (Err (NotAdjacent other))) near

others_anywhere : (line other : ℕ) (b : Bool) (u : Unit {0}) → deviating line b ≡ Ok u → deviating other b ≡ Ok tt
unfolding deviating
others_anywhere line other true u e = absurd (cc e)
others_anywhere line other false u e = refl

crafted_anywhere : (conforming : List Bool) (line other : ℕ) (mv : Move) (u : Unit {0}) → crafted_by_others conforming line mv ≡ Ok u
    → crafted_by_others conforming other mv ≡ Ok tt
crafted_anywhere conforming line other (Craft a lock via onto) u e = others_anywhere line other (list_any (λ v. slice_index_or conforming v false) via) u e
crafted_anywhere conforming line other (Publish a start delta bound timelock amount locks) u e = refl
crafted_anywhere conforming line other (Replay a lock onto) u e = refl
crafted_anywhere conforming line other (Raw a key) u e = refl
crafted_anywhere conforming line other (Claim a) u e = refl
crafted_anywhere conforming line other (Refund a) u e = refl
crafted_anywhere conforming line other (Transfer a to units) u e = refl
crafted_anywhere conforming line other (Wait a height) u e = refl

received_anywhere : (arcs : List ArcEnds) (line other : ℕ) (mv : Move) (u : Unit {0}) → received arcs line mv ≡ Ok u → received arcs other mv ≡ Ok tt
received_anywhere arcs line other (Transfer a to units) u e = adjacent_anywhere arcs line other to a u e
received_anywhere arcs line other (Publish a start delta bound timelock amount locks) u e = refl
received_anywhere arcs line other (Craft a lock via onto) u e = refl
received_anywhere arcs line other (Replay a lock onto) u e = refl
received_anywhere arcs line other (Raw a key) u e = refl
received_anywhere arcs line other (Claim a) u e = refl
received_anywhere arcs line other (Refund a) u e = refl
received_anywhere arcs line other (Wait a height) u e = refl

module _ (arcs : List ArcEnds) (conforming : List Bool) (line other : ℕ) where
  move_anywhere : (p : ℕ) (mv : Move) (u : Unit {0}) → placed arcs conforming line p mv ≡ Ok u → placed arcs conforming other p mv ≡ Ok tt
  unfolding placed
  move_anywhere p mv u e =
      let one = went (adjacent arcs line p (move_arc mv)) _ u e in
      let two = went (crafted_by_others conforming line mv) _ u one.2 in
      step _ tt _ (adjacent_anywhere arcs line other p (move_arc mv) one.0 one.1)
      ∙ step _ tt _ (crafted_anywhere conforming line other mv two.0 two.1)
      ∙ received_anywhere arcs line other mv u two.2

  moves_anywhere : (p : ℕ) (moves : List Move) (v u : Unit {0}) → steps (λ u mv. placed arcs conforming line p mv) v moves ≡ Ok u
      → steps (λ u mv. placed arcs conforming other p mv) tt moves ≡ Ok tt
  unfolding steps
  moves_anywhere p [] v u e = refl
  moves_anywhere p (mv ∷ moves) v u e =
      let one = went (placed arcs conforming line p mv) (λ w. steps (λ u mv. placed arcs conforming line p mv) w moves) u e in
      step (placed arcs conforming other p mv) tt (λ w. steps (λ u mv. placed arcs conforming other p mv) w moves)
      (move_anywhere p mv one.0 one.1)
      ∙ moves_anywhere p moves one.0 u one.2

  role_anywhere : (p : ℕ) (role : Role) (u : Unit {0}) → role_placed arcs conforming line p role ≡ Ok u → role_placed arcs conforming other p role ≡ Ok tt
  role_anywhere p (Script moves) u e = moves_anywhere p moves tt u e
  role_anywhere p Conforming u e = refl
  role_anywhere p Manual u e = refl
  role_anywhere p (Strategy name) u e = refl

  roles_anywhere : (p : ℕ) (roles : List Role) (u : Unit {0}) → roles_placed arcs conforming line p roles ≡ Ok u
      → roles_placed arcs conforming other p roles ≡ Ok tt
  unfolding roles_placed
  roles_anywhere p [] u e = refl
  roles_anywhere p (role ∷ roles) u e =
      let one = went (role_placed arcs conforming line p role) (λ w. roles_placed arcs conforming line (p + 1) roles) u e in
      step _ tt _ (role_anywhere p role one.0 one.1) ∙ roles_anywhere (p + 1) roles u one.2

pub placed_anywhere : (arcs : List ArcEnds) (conforming : List Bool) (line p : ℕ) (roles : List Role) (u : Unit {0})
    → roles_placed arcs conforming line p roles ≡ Ok u → (other : ℕ) → roles_placed arcs conforming other p roles ≡ Ok tt
placed_anywhere arcs conforming line p roles u e other = roles_anywhere arcs conforming line other p roles u e
