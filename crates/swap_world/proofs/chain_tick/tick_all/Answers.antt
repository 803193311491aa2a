use Rattle.std.proofs.Common.{◌≡◌, ◌<◌, true, length, slice_index, sym, ◌∙◌, subst}
use Rattle.std.proofs.lemmas.Bool.{false≢true}
use Rattle.std.proofs.lemmas.List.Elements.{All-get_or}
use Rattle.swap_world.proofs.Idle.{any_default}
use Rattle.swap_world.proofs.Rooms.{none_ticked, next_room, one_ticked, all_ticked, all_room}
use Rattle.swap_world.proofs.chain_tick.tick_all.Goals as goal
use Rattle.swap_world.proofs.chain_tick.tick_all.Goals.{then-ready, else-ready}

pub arcs-init : goal.arcs-init
arcs-init c = none_ticked c.args._deal.now c.args.on.now c.args.k c.args.ledgers.now.items c.requires.ledgers c.requires.room

pub tick_one-has_room-requires-clause-room : goal.tick_one-has_room-requires-clause-room
tick_one-has_room-requires-clause-room c =
    next_room c.args._deal.now c.args.on.now c.args.k c.args.ledgers.now.items c.arcs.ledgers.items c.arcs.arc-index
    (slice_index c.args.on.now c.arcs.arc-index) c.arcs.ready c.index_mut.result.now c.arcs.invariant c.requires.ascending c.arcs-test.true
    (any_default c.args.on.now c.arcs.arc-index 0 (slice_index c.args.on.now c.arcs.arc-index) c.arcs-test.true)
    (subst (λ n. slice_index c.args.on.now c.arcs.arc-index < n) (sym c.arcs.invariant.one_each)
    (All-get_or (λ a. a < length c.args.ledgers.now.items) c.args.on.now c.arcs.arc-index 0 c.arcs-test.true c.requires.arcs)) c.index_mut.ensures.value

pub arcs-preserved : goal.arcs-preserved
arcs-preserved c =
    let both : c.if-ready.ready ≡ true → (c.arcs.ready ≡ true) × (c.tick_one-has_room.result ≡ true) =
    elim c.if-ready.branch [
      | then-ready w ↦ λ e. (w.if-ready.true, sym w.ready-is ∙ e)
      | else-ready w ↦ λ e. absurd (false≢true (sym w.if-ready.false ∙ (sym w.ready-is ∙ e)))
    ] in
    one_ticked c.args._deal.now c.args.on.now c.args.k c.args.ledgers.now.items c.arcs.ledgers.items c.arcs.arc-index
    (slice_index c.args.on.now c.arcs.arc-index) c.arcs.ready c.tick_one-has_room.result
    c.if-ready.ready c.index_mut.result.now c.tick_one-has_room.new.ledger c.arcs.invariant c.arcs-test.true
    (any_default c.args.on.now c.arcs.arc-index 0 (slice_index c.args.on.now c.arcs.arc-index) c.arcs-test.true)
    (subst (λ n. slice_index c.args.on.now c.arcs.arc-index < n) (sym c.arcs.invariant.one_each)
    (All-get_or (λ a. a < length c.args.ledgers.now.items) c.args.on.now c.arcs.arc-index 0 c.arcs-test.true c.requires.arcs)) c.index_mut.ensures.value
    c.tick_one-has_room.ensures.ticked c.tick_one-has_room.ensures.deal c.tick_one-has_room.ensures.arc c.tick_one-has_room.ensures.legal
    c.tick_one-has_room.ensures.room both

pub returns-clause-ticked : goal.returns-clause-ticked
returns-clause-ticked c =
    all_ticked c.args._deal.now c.args.on.now c.args.k c.args.ledgers.now.items c.arcs.ledgers.items c.arcs.arc-index c.arcs.ready c.arcs.invariant
    c.arcs-test.false

pub returns-clause-room : goal.returns-clause-room
returns-clause-room c =
    all_room c.args._deal.now c.args.on.now c.args.k c.args.ledgers.now.items c.arcs.ledgers.items c.arcs.arc-index c.arcs.ready c.arcs.invariant
