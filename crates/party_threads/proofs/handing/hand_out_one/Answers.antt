use Rattle.std.proofs.Common.{◌∙◌}
use Rattle.swap_digraph.specs.Deal.{party, counterparty}
use Rattle.party_threads.specs.Turns.{turn_actor}
use Rattle.party_threads.proofs.Placing.{share_at, pass_as, all_dealt}
use Rattle.party_threads.proofs.handing.hand_out_one.Goals as goal

pub share-requires-clause-first : goal.share-requires-clause-first
share-requires-clause-first g c =
    let d = c.args.deal.now in
    let v = party d c.args.arc in
    share_at d c.args.arc c.args.ledger.value c.requires.ledger (λ e b. party e b) (turn_actor c.args.turns.now v) c.seen_count-from.result c.len-whole.result
    (c.requires.behind v (c.requires.sized.ends.from c.args.arc c.requires.arc)) (rw c.deref.ensures at c.len-whole.ensures)
    (rw c.arcs.ensures at c.seen_count-from.ensures)

pub share-requires-clause-second : goal.share-requires-clause-second
share-requires-clause-second g c =
    let d = c.args.deal.now in
    let v = counterparty d c.args.arc in
    share_at d c.args.arc c.args.ledger.value c.requires.ledger (λ e b. counterparty e b)
    (turn_actor c.args.turns.now v) c.seen_count-to.result c.len-whole.result
    (c.requires.behind v (c.requires.sized.ends.to c.args.arc c.requires.arc)) (rw c.deref.ensures at c.len-whole.ensures)
    (rw c.arcs.ensures at c.seen_count-to.ensures)

pub returns-in-Ok-clause-dealt : goal.returns-in-Ok-clause-dealt
returns-in-Ok-clause-dealt g c =
    let d = c.args.deal.now in
    let l = c.args.ledger.value in
    let v = party d c.args.arc in
    let w = counterparty d c.args.arc in
    all_dealt d c.args.arc c.in-Ok.shared.lock l c.requires.sized c.requires.arc c.requires.ledger c.in-Ok.first c.in-Ok.second c.in-Ok.ticker
    c.args.turns.now c.put.new.turns c.put-in-Ok.new.turns c.put_clock.new.turns (rw c.arcs.ensures at c.put.ensures) (rw c.arcs.ensures at c.put-in-Ok.ensures)
    (rw c.n-clock.ensures at c.put_clock.ensures) c.requires.free
    (c.in-Ok.ensures.first ∙ pass_as d c.args.arc l c.requires.ledger (λ e b. party e b) (turn_actor c.args.turns.now v) c.seen_count-from.result
    c.len-whole.result c.in-Ok.shared.lock (c.requires.behind v (c.requires.sized.ends.from c.args.arc c.requires.arc))
    (rw c.deref.ensures at c.len-whole.ensures) (rw c.arcs.ensures at c.seen_count-from.ensures))
    (c.in-Ok.ensures.second ∙ pass_as d c.args.arc l c.requires.ledger (λ e b. counterparty e b) (turn_actor c.args.turns.now w) c.seen_count-to.result
    c.len-whole.result c.in-Ok.shared.lock (c.requires.behind w (c.requires.sized.ends.to c.args.arc c.requires.arc))
    (rw c.deref.ensures at c.len-whole.ensures) (rw c.arcs.ensures at c.seen_count-to.ensures))
