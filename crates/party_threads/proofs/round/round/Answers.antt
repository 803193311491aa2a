use Rattle.std.proofs.Common.{◌<◌, ℕ, length, map, get_or, sym, ◌∙◌, subst}
use Rattle.std.proofs.lemmas.List.{length-map}
use Rattle.ledger_shared.specs.Value.{SharedState}
use Rattle.swap_rules.proofs.Accepted.{accepted_is_well_sized}
use Rattle.party_threads.proofs.Turning.{places_kept, places_taken, taken_at, done_at}
use Rattle.party_threads.specs.declared.turn.Turn.{Turn}
use Rattle.party_threads.specs.Took.{IsSeated}
use Rattle.party_threads.proofs.Sharing.{are_set}
use Rattle.party_threads.proofs.Seating.{has_arc, behind, few_turns, seated}
use Rattle.party_threads.proofs.Rounded.{round, stands}
use Rattle.party_threads.proofs.round.round.Goals as goal

pub hand_out-requires-clause-sized : goal.hand_out-requires-clause-sized
hand_out-requires-clause-sized g c = accepted_is_well_sized c.args.setting.now.job.now.deal c.requires.stands.cast.accepted

pub hand_out-requires-clause-arcs : goal.hand_out-requires-clause-arcs
hand_out-requires-clause-arcs g c = has_arc c.args.setting.now.job.now c.args.ledgers.now c.args.turns.now c.requires.stands

pub hand_out-requires-clause-behind : goal.hand_out-requires-clause-behind
hand_out-requires-clause-behind g c = behind c.args.setting.now.job.now c.args.ledgers.now c.args.turns.now c.requires.stands

pub take_turns-requires-clause-few : goal.take_turns-requires-clause-few
take_turns-requires-clause-few g c = λ κs lives.
    few_turns c.args.setting.now.job.now c.args.ledgers.now c.args.turns.now c.requires.stands c.hand_out.new.turns c.hand_out.ensures.shape

pub take_turns-requires-clause-seated : goal.take_turns-requires-clause-seated
take_turns-requires-clause-seated g c = λ κs lives.
    let job = c.args.setting.now.job.now in
    let s = c.requires.stands in
    let d = c.in_ok-shared.ensures in
    let holds = g.A.Strategies.holds c.args.setting.now.hooks.strategies.now in
    subst (λ xs. (i : ℕ) (t : Turn) → i < length c.hand_out.new.turns → IsSeated holds job xs c.args.setting.now.ticks i (get_or c.hand_out.new.turns i t))
    (sym c.as_slice.ensures.value)
    (seated job c.args.ledgers.now c.args.turns.now c.hand_out.new.turns c.in_ok-shared.shared.items s
    (places_kept job.deal c.args.turns.now c.hand_out.new.turns c.hand_out.ensures.shape s.places) d.dealt d.one_each c.hand_out.ensures.shape.actors holds
    c.requires.held c.args.setting.now.ticks c.requires.room)

pub close-requires-clause-sized : goal.close-requires-clause-sized
close-requires-clause-sized g c = accepted_is_well_sized c.args.setting.now.job.now.deal c.requires.stands.cast.accepted

pub close-requires-clause-places : goal.close-requires-clause-places
close-requires-clause-places g c =
    let setting = c.args.setting.now in
    let job = setting.job.now in
    let s = c.requires.stands in
    places_taken job.deal c.hand_out.new.turns c.take_turns.new.turns c.take_turns.ensures.number
    (taken_at (g.A.Strategies.gives setting.hooks.strategies.now) job setting.ticks c.hand_out.new.turns c.take_turns.new.turns c.take_turns.ensures.number
    c.take_turns.ensures.took)
    (places_kept job.deal c.args.turns.now c.hand_out.new.turns c.hand_out.ensures.shape s.places)

pub close-requires-clause-set : goal.close-requires-clause-set
close-requires-clause-set g c =
    let setting = c.args.setting.now in
    let job = setting.job.now in
    let s = c.requires.stands in
    let d = c.in_ok-shared.ensures in
    are_set job.deal c.hand_out.new.turns (map (λ (x : SharedState). x.lock) c.in_ok-shared.shared.items) c.args.ledgers.now s.home d.dealt
    (length-map c.in_ok-shared.shared.items (λ (x : SharedState). x.lock) ∙ d.one_each) c.take_turns.new.turns
    (places_kept job.deal c.args.turns.now c.hand_out.new.turns c.hand_out.ensures.shape s.places)
    (taken_at (g.A.Strategies.gives setting.hooks.strategies.now) job setting.ticks c.hand_out.new.turns c.take_turns.new.turns c.take_turns.ensures.number
    c.take_turns.ensures.took)

pub returns-then-done-clause-stands : goal.returns-then-done-clause-stands
returns-then-done-clause-stands g c =
    let setting = c.args.setting.now in
    let job = setting.job.now in
    let gives = g.A.Strategies.gives setting.hooks.strategies.now in
    let s = c.requires.stands in
    let d = c.in_ok-shared.ensures in
    let ts1 = c.hand_out.new.turns in
    let ts2 = c.take_turns.new.turns in
    stands gives job setting.ticks c.args.ledgers.now c.close.new.ledgers c.args.turns.now ts1 ts2 c.close.new.turns
    (map (λ (x : SharedState). x.lock) c.in_ok-shared.shared.items) s d.dealt
    (length-map c.in_ok-shared.shared.items (λ (x : SharedState). x.lock) ∙ d.one_each) c.hand_out.ensures.shape c.take_turns.ensures.number
    (taken_at gives job setting.ticks ts1 ts2 c.take_turns.ensures.number c.take_turns.ensures.took)
    (c.close.ensures.number ∙ (c.hand_out.ensures.number ∙ s.home.one_each)) c.close.ensures.closed c.close.ensures.free c.close.ensures.shape
    (done_at gives job setting.ticks ts1 ts2 c.take_turns.ensures.number c.take_turns.ensures.took (c.all_done-done.ensures c.if-done.true))

pub returns-then-done-clause-round : goal.returns-then-done-clause-round
returns-then-done-clause-round g c =
    let setting = c.args.setting.now in
    let job = setting.job.now in
    let gives = g.A.Strategies.gives setting.hooks.strategies.now in
    let s = c.requires.stands in
    let d = c.in_ok-shared.ensures in
    let ts1 = c.hand_out.new.turns in
    let ts2 = c.take_turns.new.turns in
    round gives job setting.ticks c.args.ledgers.now c.close.new.ledgers c.args.turns.now ts1 ts2 c.close.new.turns
    (map (λ (x : SharedState). x.lock) c.in_ok-shared.shared.items) s d.dealt
    (length-map c.in_ok-shared.shared.items (λ (x : SharedState). x.lock) ∙ d.one_each) c.hand_out.ensures.shape c.take_turns.ensures.number
    (taken_at gives job setting.ticks ts1 ts2 c.take_turns.ensures.number c.take_turns.ensures.took)
    (c.close.ensures.number ∙ (c.hand_out.ensures.number ∙ s.home.one_each)) c.close.ensures.closed c.close.ensures.free c.close.ensures.shape
    (done_at gives job setting.ticks ts1 ts2 c.take_turns.ensures.number c.take_turns.ensures.took (c.all_done-done.ensures c.if-done.true))
