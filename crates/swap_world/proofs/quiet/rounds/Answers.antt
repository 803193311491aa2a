use Rattle.std.proofs.Common.{◌≡◌, ◌≢◌, ◌⊎◌, inl, inr, ℕ, ◌+◌, ◌<◌, ◌≤◌, List, length, slice_index_or, arith, sym, ap, ◌∙◌, subst}
use Rattle.swap_digraph.specs.declared.deal.Deal.{Deal}
use Rattle.ledger_core.specs.Book.{Histories}
use Rattle.swap_rules.proofs.Prefixes.{same_or_not}
use Rattle.swap_run.specs.Fair.{adjacent_arcs}
use Rattle.swap_world.specs.Acting.{histories}
use Rattle.swap_world.specs.Quiet.{IsCalmActor, IsReadyActor}
use Rattle.swap_world.specs.Players.{Actor}
use Rattle.swap_world.proofs.Finishes.{near_at, near_many}
use Rattle.swap_world.proofs.Idle.{actor_less, any_default}
use Rattle.swap_world.proofs.quiet.rounds.Goals as goal

one_more : (d : Deal) (b : Histories) (xs : List Actor) (old new p : ℕ) (x : Actor) (v : ℕ) (y : Actor) → new ≤ old → v < length xs
    → x ≡ slice_index_or xs p x → IsCalmActor new b (adjacent_arcs d p) x
    → (v < p → IsCalmActor old b (adjacent_arcs d v) (slice_index_or xs v y)) → v < p + 1 → (v ≡ p) ⊎ (v ≢ p)
    → IsCalmActor new b (adjacent_arcs d v) (slice_index_or xs v y)
one_more d b xs old new p x v y less l is here before low (inl e) =
    let there : slice_index_or xs v y ≡ x = any_default xs v y x l ∙ (ap (λ k. slice_index_or xs k x) e ∙ sym is) in
    subst (λ (z : Actor). IsCalmActor new b (adjacent_arcs d v) z) (sym there) (subst (λ k. IsCalmActor new b (adjacent_arcs d k) x) (sym e) here)
one_more d b xs old new p x v y less l is here before low (inr apart) =
    actor_less old new b (adjacent_arcs d v) (slice_index_or xs v y) less (before (let q : ◌≢◌ {A = ℕ} v p = apart in omega (arith, low, q)))

pub parties-init : goal.parties-init
parties-init c = record { few = omega arith; calm = λ more v x low l. absurd (omega (arith, low)) }

pub bounds-near-p : goal.bounds-near-p
bounds-near-p c =
    subst (λ n. c.parties.p < n) (sym (near_many c.args.deal.now c.args.near.now c.requires.near)) (subst (λ n. c.parties.p < n) c.requires.parties
    c.parties-test.true)

pub needed_rounds-rounds-requires : goal.needed_rounds-rounds-requires
needed_rounds-rounds-requires c =
    let d = c.args.deal.now in
    let p = c.parties.p in
    let x = c.index-actors-p.result in
    let b = histories c.args.ledgers.now in
    let near = c.as_slice.ensures ∙ near_at d c.args.near.now p c.index-near-p.result c.requires.near (subst (λ n. p < n) c.requires.parties
    c.parties-test.true)
    c.index-near-p.is in
    subst (λ (ns : List ℕ). IsReadyActor (length c.args.ledgers.now) b ns x) (sym near)
    (subst (IsReadyActor (length c.args.ledgers.now) b (adjacent_arcs d p)) (sym c.index-actors-p.is) (c.requires.ready p x c.parties-test.true))

pub parties-preserved : goal.parties-preserved
parties-preserved c =
    let d = c.args.deal.now in
    let p = c.parties.p in
    let x = c.index-actors-p.result in
    let b = histories c.args.ledgers.now in
    let less = c.needed_rounds-rounds.ensures.few in
    let few = c.parties.invariant.few in
    let near = c.as_slice.ensures ∙ near_at d c.args.near.now p c.index-near-p.result c.requires.near (subst (λ n. p < n) c.requires.parties
    c.parties-test.true)
    c.index-near-p.is in
    record {
      few = omega (arith, less, few);
      calm = λ more v y low l.
          let here = subst (λ (ns : List ℕ). IsCalmActor c.needed_rounds-rounds.result b ns x) near (c.needed_rounds-rounds.ensures.calm more) in
          one_more d b c.args.actors.now c.parties.rounds c.needed_rounds-rounds.result p x v y less l c.index-actors-p.is here
          (λ z. c.parties.invariant.calm (omega (arith, more, less)) v y z l) low (same_or_not v p);
    }
