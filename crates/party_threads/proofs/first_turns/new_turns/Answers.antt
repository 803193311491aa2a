use Rattle.std.proofs.Common.{◌≡◌, List, [], ◌∷◌, length, refl, sym, ◌∙◌}
use Rattle.std.specs.Vec.Iter.{into_iter_items}
use Rattle.swap_world.specs.Players.{Racer}
use Rattle.party_threads.proofs.Staffing.{staff_goes_on, staff_ends}
use Rattle.party_threads.proofs.first_turns.new_turns.Goals as goal

pub players-preserved : goal.players-preserved
players-preserved c =
    staff_goes_on c.args.job.now (into_iter_items c.players.player-iterator) c.players.turns.items c.players.invariant c.in-Some.player
    (into_iter_items c.next.new.self) c.add_turn.new.turns.items c.in-Some.ensures.steps.0 c.in_ok-add_turn.ensures

none_left : (xs : List Racer) → length xs ≡ 0 → xs ≡ []
none_left [] e = refl
none_left (x ∷ xs) e = absurd (cc e)

pub returns : goal.returns
returns c =
    let left = c.players.player-iterator in
    staff_ends c.args.job.now (into_iter_items left) c.players.turns.items c.players.invariant c.add_turn-2.new.turns.items
    (none_left (into_iter_items left) (sym left.rest.ok.0 ∙ c.in-None.ensures.steps.0)) c.in_ok-add_turn-2.ensures
