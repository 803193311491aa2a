-- The first of what is due: a publish, else an unlock, else a claim, else a refund.
use Rattle.std.proofs.Common.{◌≡◌, ℕ, true, false, List, [], ◌∷◌, ◌++◌, Option, Some, None, is_some, option_map, refl, sym, ap, ap₂, ◌∙◌}
use Rattle.swap_base.specs.Lists.{or_else}
use Rattle.ledger_core.specs.declared.entry.Call.{Call}
use Rattle.swap_rules.specs.Due.{Action, due, due_publishes, due_unlocks, due_claims, due_refunds, first}
use Rattle.party_wallet.specs.Value.{signed_hashkey}
use Rattle.party_machine.specs.Wallet.{seed_wallet}
use Rattle.party_machine.specs.Machine.{MachineState, due_action, next_due}

pub first_append : (xs ys : List Action) → first (xs ++ ys) ≡ or_else (first xs) (first ys)
first_append [] ys = refl
first_append (x ∷ xs) ys = refl

or_else_assoc : {B : Type 0} (o r s : Option B) → or_else (or_else o r) s ≡ or_else o (or_else r s)
or_else_assoc None r s = refl
or_else_assoc (Some x) r s = refl

-- what a machine's unlocks are
abbrev pub party_unlocks : MachineState → List Action
party_unlocks m = due_unlocks m.deal m.me (seed_wallet m.seed m.me m.deal) (signed_hashkey m.signed) m.known

pub split : (m : MachineState)
    → next_due m ≡ or_else (first (due_publishes m.deal m.me m.known))
    (or_else (first (party_unlocks m)) (first (due_claims m.deal m.me m.known ++ due_refunds m.deal m.me m.known)))
unfolding due
split m =
    let p = due_publishes m.deal m.me m.known in
    let u = party_unlocks m in
    let c = due_claims m.deal m.me m.known in
    let r = due_refunds m.deal m.me m.known in
    first_append ((p ++ u) ++ c) r
    ∙ (ap (λ o. or_else o (first r)) (first_append (p ++ u) c)
    ∙ (or_else_assoc (first (p ++ u)) (first c) (first r)
    ∙ (ap₂ or_else (first_append p u) (sym (first_append c r))
    ∙ or_else_assoc (first p) (first u) (first (c ++ r)))))

-- an answer of the first kind
pub at_once : (m : MachineState) (o : Option (ℕ × Call)) → option_map due_action o ≡ first (due_publishes m.deal m.me m.known) → is_some o ≡ true
    → option_map due_action o ≡ next_due m
at_once m None e s = absurd (cc s)
at_once m (Some x) e s =
    ap (λ z. or_else z (or_else (first (party_unlocks m)) (first (due_claims m.deal m.me m.known ++ due_refunds m.deal m.me m.known)))) e ∙ sym (split m)

-- none of the first kind, and the others' answer
pub later : (m : MachineState) (o : Option (ℕ × Call)) (r : Option Action) → option_map due_action o ≡ first (due_publishes m.deal m.me m.known)
    → is_some o ≡ false → or_else (first (party_unlocks m)) (first (due_claims m.deal m.me m.known ++ due_refunds m.deal m.me m.known)) ≡ r → r ≡ next_due m
later m None r e s h =
    sym h ∙ (ap (λ z. or_else z (or_else (first (party_unlocks m)) (first (due_claims m.deal m.me m.known ++ due_refunds m.deal m.me m.known)))) e
    ∙ sym (split m))
later m (Some x) r e s h = absurd (cc s)

pub last_run : {o : Option Action} (xs ys : List Action) → xs ≡ [] → o ≡ first ys → or_else (first xs) (first ys) ≡ o
last_run xs ys e h = ap (λ zs. or_else (first zs) (first ys)) e ∙ sym h
