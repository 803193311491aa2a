-- What is said of a move or a role whatever the names are, is said of it with these names.
use Rattle.std.proofs.Common.{◌≡◌, ℕ, List, Option, IfOk, Result, Ok, Err, ap, ◌∙◌, sym}
use Rattle.std.specs.Prelude.{OnOk}
use Rattle.serde_json.specs.Data.{Data, Members, object}
use Rattle.serde_json.specs.View.{view}
use Rattle.serde_json.specs.declared.value.Value.{Value}
use Rattle.swap_job.specs.declared.job.Role.{Role}
use Rattle.swap_job.specs.declared.moves.Move.{Move}
use Rattle.swap_job.specs.declared.moves.Move.TheVariants.{Publish}
use Rattle.offer_text.specs.HeaderLine.{actor_data}
use Rattle.offer_text.specs.Moves.{first_terms, last_terms, move_data}

pub move_put : {E : Type 0} (r : Result (Unit {0}) E) (names : List (List ℕ)) (mv is : Move) (d : Data) → mv ≡ is
    → OnOk r ((ns : List (List ℕ)) → d ≡ move_data ns is) → OnOk r (d ≡ move_data names mv)
move_put (Ok u) names mv is d e h = h names ∙ ap (move_data names) (sym e)
move_put (Err x) names mv is d e h = tt

-- a publish whose last fields were put, and then the others
pub publish_put : {E : Type 0} (r : Result (Unit {0}) E) (names : List (List ℕ)) (mv : Move) (arc : ℕ) (start delta bound timelock amount : Option ℕ)
    (locks : Option (List (List ℕ))) (last whole : Members) → mv ≡ Publish arc start delta bound timelock amount locks → last ≡ last_terms locks start timelock
    → OnOk r (whole ≡ first_terms amount arc bound delta last) → OnOk r (object whole ≡ move_data names mv)
unfolding move_data
publish_put (Ok u) names mv arc start delta bound timelock amount locks last whole is e h =
    ap object (h ∙ ap (first_terms amount arc bound delta) e) ∙ ap (move_data names) (sym is)
publish_put (Err x) names mv arc start delta bound timelock amount locks last whole is e h = tt

pub actor_said : {E : Type 0} (r : Result Value E) (names : List (List ℕ)) (role is : Role) → role ≡ is
    → IfOk r (λ v. (ns : List (List ℕ)) → view v ≡ actor_data ns is) → IfOk r (λ v. view v ≡ actor_data names role)
actor_said (Ok v) names role is e h = h names ∙ ap (actor_data names) (sym e)
actor_said (Err x) names role is e h = tt
