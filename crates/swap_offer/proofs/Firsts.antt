-- A loop that stops at the first reason along a range of numbers.
use Rattle.std.proofs.Common.{◌≡◌, ℕ, suc, ◌+◌, ◌-◌, ◌<◌, ◌≤◌, Option, Some, None, Result, Ok, refl, sym, ap, ◌∙◌, arith}
use Rattle.std.specs.List.{range_with_len}
use Rattle.swap_base.specs.Fault.{◌>>=◌, Fails}
use Rattle.swap_base.specs.declared.fault.Fault.{Fault}
use Rattle.swap_base.specs.declared.fault.Fault.TheVariants.{Refused, NoMemory}
use Rattle.swap_base.specs.Lists.{or_else, first_given_answer}
use Rattle.command_input.specs.declared.reason.Reason.{Reason}
use Rattle.swap_offer.specs.Checks.{unless_wrong}

either : (o rest : Option Reason) → unless_wrong (or_else o rest) ≡ unless_wrong o >>= λ _. unless_wrong rest
either None rest = refl
either (Some r) rest = refl

module _ (f : ℕ → Option Reason) (n : ℕ) (total : Result (Unit {0}) Reason) where
  -- what is left of the numbers
  abbrev pub left : ℕ → Result (Unit {0}) Reason
  left p = unless_wrong (first_given_answer f (range_with_len p (n - p)))

  next : (p : ℕ) → p < n → left p ≡ unless_wrong (f p) >>= λ _. left (p + 1)
  next p lt =
      let e : n - p ≡ suc (n - (p + 1)) = omega arith in
      ap (λ k. unless_wrong (first_given_answer f (range_with_len p k))) e ∙ either (f p) (first_given_answer f (range_with_len (p + 1) (n - (p + 1))))

  pub goes_on : (p : ℕ) (u : Unit {0}) → p < n → unless_wrong (f p) ≡ Ok u → left p ≡ total → left (p + 1) ≡ total
  goes_on p u lt e so_far = sym (next p lt ∙ ap (λ (r : Result (Unit {0}) Reason). r >>= λ _. left (p + 1)) e) ∙ so_far

  pub ends : (e : Fault Reason) (p : ℕ) → p < n → Fails e (unless_wrong (f p)) → left p ≡ total → Fails e total
  ends NoMemory p lt h so_far = tt
  ends (Refused r) p lt h so_far = sym so_far ∙ next p lt ∙ ap (λ (x : Result (Unit {0}) Reason). x >>= λ _. left (p + 1)) h

  pub is_done : (p : ℕ) → n ≤ p → left p ≡ total → total ≡ Ok tt
  is_done p le so_far =
      let e : n - p ≡ 0 = omega arith in
      sym so_far ∙ ap (λ k. unless_wrong (first_given_answer f (range_with_len p k))) e
