-- Refused entries among others.
use Rattle.std.proofs.Common.{◌≡◌, ℕ, zero, suc, ◌+◌, ◌*◌, cond, List, ◌++◌, count_by, refl, arith}
use Rattle.std.proofs.lemmas.List.Sums.{sum_by_push, sum_by-append}
use Rattle.escrow_core.specs.declared.reply.Reply.TheVariants.{Accepted}
use Rattle.ledger_core.specs.declared.entry.Entry.{Entry}
use Rattle.ledger_core.specs.Ledger.{tick_entry}
use Rattle.ledger_core.specs.Runs.{ticks_above}
use Rattle.made_jobs.specs.Counts.{is_refused}

pub refused_append : (xs ys : List Entry) → count_by is_refused (xs ++ ys) ≡ count_by is_refused xs + count_by is_refused ys
refused_append xs ys = sum_by-append (λ e. cond (is_refused e) 1 0) xs ys

-- no tick of a run is refused
pub none_refused : (at k n : ℕ) → count_by is_refused (ticks_above at k n) ≡ 0
none_refused at k zero = refl
none_refused at k (suc n) =
    let h : count_by is_refused (ticks_above at k n) ≡ 0 = none_refused at k n in
    let e : count_by is_refused (ticks_above at k (suc n)) ≡ count_by is_refused (ticks_above at k n) + 0 =
    sum_by_push (λ x. cond (is_refused x) 1 0) (ticks_above at k n) (tick_entry k (at + k * suc n) Accepted) in
    omega arith
