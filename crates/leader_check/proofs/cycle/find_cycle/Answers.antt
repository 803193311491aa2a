use Rattle.std.proofs.Common.{◌≡◌, ◌∙◌, sym, subst, ℕ, List, Option, Some, None, Result, Ok, Err, IfOk, IfSome, IfNone}
use Rattle.swap_digraph.specs.Value.{Graph}
use Rattle.leader_check.specs.Cycles.{traced_cycle, TellAllWalks, IsShortestFollowerCycle}
use Rattle.leader_check.proofs.Rows.{cycle_is_from}
use Rattle.leader_check.proofs.Walks.{through, none_through}
use Rattle.leader_check.proofs.cycle.find_cycle.Goals as goal

if_ok : {T E : Type 0} (P Q : T → Type 0) (r : Result T E) → IfOk r P → ((x : T) → P x → Q x) → IfOk r Q
if_ok P Q (Ok x) h more = more x h
if_ok P Q (Err e) h more = tt

pub returns-clause-exact : goal.returns-clause-exact
returns-clause-exact c =
    let tell = subst (TellAllWalks c.args.graph.now c.args.leaders.now) (sym c.deref.ensures.value) c.in_ok-rows.ensures in
    if_ok _ (λ o. o ≡ traced_cycle c.args.graph.now c.args.leaders.now c.args.v) c.traced_cycle.result c.traced_cycle.ensures
    (λ o e. e ∙ cycle_is_from c.args.graph.now c.args.leaders.now c.deref.result.now c.args.v tell)

some_through : (g : Graph) (ls : List ℕ) (v : ℕ) (o : Option (List ℕ)) → o ≡ traced_cycle g ls v → IfSome o (λ list. IsShortestFollowerCycle g ls v list)
some_through g ls v (Some list) e = through g ls v list (sym e)
some_through g ls v None e = tt

pub returns-clause-cycle : goal.returns-clause-cycle
returns-clause-cycle c =
    if_ok (λ o. o ≡ traced_cycle c.args.graph.now c.args.leaders.now c.args.v)
    (λ o. IfSome o (λ list. IsShortestFollowerCycle c.args.graph.now c.args.leaders.now c.args.v list)) c.traced_cycle.result
    (returns-clause-exact c) (some_through c.args.graph.now c.args.leaders.now c.args.v)

is_none_through : (g : Graph) (ls : List ℕ) (v : ℕ) (o : Option (List ℕ)) → o ≡ traced_cycle g ls v
    → IfNone o ((list : List ℕ) → IsShortestFollowerCycle g ls v list → ⊥)
is_none_through g ls v (Some list) e = tt
is_none_through g ls v None e = λ list h. none_through g ls v h.last list (sym e) h.path h.followers h.closes

pub returns-clause-none : goal.returns-clause-none
returns-clause-none c =
    if_ok (λ o. o ≡ traced_cycle c.args.graph.now c.args.leaders.now c.args.v)
    (λ o. IfNone o ((list : List ℕ) → IsShortestFollowerCycle c.args.graph.now c.args.leaders.now c.args.v list → ⊥)) c.traced_cycle.result
    (returns-clause-exact c) (is_none_through c.args.graph.now c.args.leaders.now c.args.v)
