-- What a contract shows after a change of its fields.
use Rattle.std.proofs.Common.{◌≡◌, ℕ, ◌<◌, true, List, length, ap}
use Rattle.std.specs.Prelude.{Bool, slice_set}
use Rattle.std.proofs.Math.Seq.{take-set-lt}
use Rattle.escrow_core.specs.declared.contract.Contract.TheInside.{Inside}
use Rattle.escrow_core.specs.Value.{ContractState, with_opened}
use Rattle.escrow_core.specs.Inside.{inside_state}

pub inside_state-opened : (c : Inside) (i : ℕ) → i < length c.terms.locks
    → inside_state (record c { opened = slice_set c.opened i true }) ≡ with_opened (inside_state c) i
inside_state-opened c i lt =
    ap (λ (bs : List Bool). let s : ContractState = record (inside_state c) { opened = bs } in s) (take-set-lt (length c.terms.locks) c.opened i true lt)
