-- The digests of a lock list, without the places that aren't used.
use Rattle.std.specs.Prelude.{◌≡◌, ◌≤◌, ◌-◌, ℕ, List, ◌++◌, length, take, drop, replicate}
use Rattle.std.proofs.Common.{sym, ap, ◌∙◌, arith, length-take, take-append-drop}
use Rattle.escrow_core.specs.declared.lock_list.LockList.TheInside.{Inside}

abbrev pub zeros : List ℕ
zeros = replicate 32 0

abbrev pub list_digests : Inside → List (List ℕ)
list_digests l = take l.len l.digests

pub record IsPadded (l : Inside) : Type 0 where
  pub places : length l.digests ≡ 8
  pub within : l.len ≤ 8
  pub padded : drop l.len l.digests ≡ replicate (8 - l.len) zeros

abbrev pub padded : List (List ℕ) → Inside
padded xs = record { len = length xs; digests = xs ++ replicate (8 - length xs) zeros }

pub padded_ok : (l : Inside) → IsPadded l → padded (list_digests l) ≡ l
padded_ok l p =
    let n : length (take l.len l.digests) ≡ l.len = (let z = length-take l.len l.digests in let a = p.places in let b = p.within in omega arith) in
    let m : take l.len l.digests ++ replicate (8 - length (take l.len l.digests)) zeros ≡ l.digests =
    ap (λ k. take l.len l.digests ++ replicate (8 - k) zeros) n ∙ (ap (λ x. take l.len l.digests ++ x) (sym p.padded) ∙ take-append-drop l.len l.digests) in
    λ i. record { len = n i; digests = m i }
