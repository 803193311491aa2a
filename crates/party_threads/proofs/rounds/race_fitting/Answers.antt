use Rattle.std.proofs.Common.{rules, ◌≡◌, List, Option, Some, map, subst, sym, ap, ◌∙◌}
use Rattle.std.proofs.lemmas.List.{with_items_is, places}
use Rattle.swap_rules.proofs.Accepted.{accepted_is_well_sized}
use Rattle.ledger_core.specs.Book.{Histories}
use Rattle.ledger_core.specs.Value.{LedgerState}
use Rattle.swap_world.specs.Cast.{job_cast}
use Rattle.swap_world.specs.Inside.{new_ledgers}
use Rattle.swap_world.proofs.Team.{role_each}
use Rattle.typed_books.specs.Books.{IsTypedBook}
use Rattle.party_threads.specs.declared.turn.Turn.{Turn}
use Rattle.party_threads.specs.Race.{IsRaceBook}
use Rattle.party_threads.specs.Standing.{race_book, race_state, StandsHome}
use Rattle.party_threads.proofs.Racing.{races_are_kept}
use Rattle.party_threads.proofs.Starting.{first_state, stands_first, cast}
use Rattle.party_threads.proofs.rounds.race_fitting.Goals as goal

pub new_turns-requires-clause-sized : goal.new_turns-requires-clause-sized
new_turns-requires-clause-sized g c = accepted_is_well_sized c.args.job.now.deal c.requires.accepted

pub new_turns-requires-clause-roles : goal.new_turns-requires-clause-roles
new_turns-requires-clause-roles g c = role_each c.args.job.now c.requires.seeds c.requires.roles

pub make_ledgers-requires : goal.make_ledgers-requires
make_ledgers-requires g c = accepted_is_well_sized c.args.job.now.deal c.requires.accepted

pub run_rounds-requires-clause-stands : goal.run_rounds-requires-clause-stands
run_rounds-requires-clause-stands g c = λ κs lives.
    let e = c.in_ok-ledgers.ensures in
    let ls : map (λ (x : LedgerState). Some x) (new_ledgers c.args.job.now.deal) ≡ c.as_mut_slice.result.now = sym (c.as_mut_slice.ensures.value ∙ e) in
    let ts : c.in_ok-turns.turns.items ≡ c.as_mut_slice-2.result.now = sym c.as_mut_slice-2.ensures.value in
    subst (λ (w : List (Option LedgerState) × List Turn). StandsHome c.args.job.now w.0 w.1) (λ i. (ls i, ts i))
    (stands_first c.args.job.now c.in_ok-turns.turns.items c.requires.accepted c.requires.seeds c.requires.roles c.requires.fit
    c.in_ok-turns.ensures)

pub run_rounds-requires-clause-first : goal.run_rounds-requires-clause-first
run_rounds-requires-clause-first g c = λ κs lives.
    let e = c.in_ok-ledgers.ensures in
    let ls : c.as_mut_slice.result.now ≡ map (λ (x : LedgerState). Some x) (new_ledgers c.args.job.now.deal) = c.as_mut_slice.ensures.value ∙ e in
    let ts : c.as_mut_slice-2.result.now ≡ c.in_ok-turns.turns.items = c.as_mut_slice-2.ensures.value in
    (λ i. race_state c.args.job.now (ls i) (ts i))
    ∙ first_state c.args.job.now c.in_ok-turns.turns.items c.requires.accepted c.requires.seeds c.requires.roles c.requires.fit
    c.in_ok-turns.ensures

pub returns : goal.returns
returns g c =
    let is =
    c.in_ok-book.ensures ∙ ap race_book (with_items_is c.in_ok-ledgers.ledgers c.run_rounds.new.ledgers (search (rules, places))) in
    subst (λ (b : Histories). IsRaceBook (g.A.Strategies.gives c.args.hooks.now.strategies.now) (job_cast c.args.job.now) c.args.ticks b) (sym is)
    (races_are_kept (g.A.Strategies.gives c.args.hooks.now.strategies.now) (job_cast c.args.job.now) c.args.ticks
    (race_state c.args.job.now c.run_rounds.new.ledgers c.run_rounds.new.turns)
    (cast c.args.job.now c.in_ok-turns.turns.items c.requires.accepted c.requires.seeds c.requires.roles c.requires.fit c.in_ok-turns.ensures)
    c.requires.some c.in_ok-run_rounds.ensures.raced (subst IsTypedBook is c.visit_book.ensures))
