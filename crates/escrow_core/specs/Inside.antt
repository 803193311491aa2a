-- What the fields of a contract mean.
use Rattle.std.specs.Prelude.{◌≡◌, ◌≤◌, ◌-◌, false, ◌++◌, length, take, drop, replicate}
use Rattle.std.proofs.Common.{sym, ap, ◌∙◌, arith, length-take, take-append-drop}
use Rattle.escrow_core.specs.Value.{ContractState}
use Rattle.escrow_core.specs.declared.contract.Contract.TheInside.{Inside}

abbrev pub inside_state : Inside → ContractState
inside_state c = record { arc = c.arc; from = c.from; to = c.to; terms = c.terms; opened = take (length c.terms.locks) c.opened; settled = c.settled }

-- The places beyond the locks are false.
pub record HasPlaces (c : Inside) : Type 0 where
  pub places : length c.opened ≡ 8
  pub within : length c.terms.locks ≤ 8
  pub padded : drop (length c.terms.locks) c.opened ≡ replicate (8 - length c.terms.locks) false

abbrev pub contract_inside : ContractState → Inside
contract_inside s = record { arc = s.arc; from = s.from; to = s.to; terms = s.terms; opened = s.opened ++ replicate (8 - length s.opened) false; settled = s.settled }

pub contract_inside_ok : (c : Inside) → HasPlaces c → contract_inside (inside_state c) ≡ c
contract_inside_ok c p =
    let n : length (take (length c.terms.locks) c.opened) ≡ length c.terms.locks =
    (let z = length-take (length c.terms.locks) c.opened in let a = p.places in let b = p.within in omega arith) in
    let m : take (length c.terms.locks) c.opened ++ replicate (8 - length (take (length c.terms.locks) c.opened)) false ≡ c.opened =
    ap (λ k. take (length c.terms.locks) c.opened ++ replicate (8 - k) false) n
    ∙ (ap (λ x. take (length c.terms.locks) c.opened ++ x) (sym p.padded) ∙ take-append-drop (length c.terms.locks) c.opened) in
    λ i. record { arc = c.arc; from = c.from; to = c.to; terms = c.terms; opened = m i; settled = c.settled }
