use Rattle.std.proofs.Common.{rules, ◌≤◌, length, ◌∷◌, [], sym, ap, ◌∙◌, arith, subst, length-append, zero-add, vec_capacity}
use Rattle.turn_lock.specs.Turns.{idle, AreNumberedSeats}
use Rattle.turn_lock.proofs.Keeps.{seats_snoc}
use Rattle.turn_lock.proofs.lock.TurnLock.new.Goals as goal

pub loop-k-preserved : goal.loop-k-preserved
loop-k-preserved g c =
    let i = c.loop-k.invariant in
    let added = c.add-in-loop-k.ensures in
    let seat = c.next_seat-seat.ensures in
    let history = c.in-Some.ensures.history in
    let me = seat.seat ∙ (ap (λ s. idle s c.loop-k.k s) history
    ∙ ap (λ n. idle (g.T.Journal.history c.args.value) n (g.T.Journal.history c.args.value)) (sym i.2)) in
    let all = seats_snoc _ _ 0 c.loop-k.all.items c.next_seat-seat.result i.4 seat.table (me
    ∙ ap (λ n. idle (g.T.Journal.history c.args.value) n (g.T.Journal.history c.args.value)) (sym (zero-add (length c.loop-k.all.items)))) in (
      search rules,
      search rules,
      omega (arith, ap length added.items, length-append c.loop-k.all.items (c.next_seat-seat.result ∷ []), i.2),
      (let a : c.args.seats ≤ vec_capacity c.loop-k.all = i.3 in let b : vec_capacity c.loop-k.all ≤ vec_capacity c.add-in-loop-k.new.all =
          added.capacity in omega arith),
      subst (λ xs. AreNumberedSeats c.in-Some.table.shared.table_id (g.T.Journal.history c.args.value) 0 xs) (sym added.items) all,
    )
