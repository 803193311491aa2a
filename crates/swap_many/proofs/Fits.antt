-- What a sweep gives back fits: with the free accounts it is no more than the chain's opening
-- units.
use Rattle.std.proofs.Common.{append-nil, ◌≡◌, ℕ, ◌+◌, ◌<◌, ◌≤◌, false, cond, length, [], refl, sym, ap₂, subst, arith, eq-eqb}
use Rattle.swap_digraph.specs.Deal.{amount}
use Rattle.ledger_core.specs.History.{accounts, held, IsLegal}
use Rattle.swap_rules.specs.Laws.{AddsUp}
use Rattle.swap_rules.proofs.Units.{units_are_kept}
use Rattle.swap_many.specs.Chains.{Setup, arc_chain, put, projection, sum_over_arcs, opening_units, free, is_swept, in_accounts}
use Rattle.swap_many.specs.Many.{Run, many_run}
use Rattle.swap_many.specs.Kept.{Kept, kept_run}
use Rattle.swap_many.specs.Laws.{IsReadySetup, CanSweep, SweepsFit}
use Rattle.swap_many.specs.Sound.{worth, Keeps}
use Rattle.swap_many.proofs.Units.{total_put, keeps_run, shown_legal}

one_of_all : (m : Setup) (g : ℕ → ℕ → ℕ) (s a : ℕ) → s < m.swaps → a < length (m.cast s).deal.graph.arcs → g s a ≤ sum_over_arcs m g
one_of_all m g s a ls la = end (sum_over_arcs m (put g s (put (g s) a 0))) (g s a) (sum_over_arcs m g) (total_put m g s a 0 ls la)
  where
    end : (x y z : ℕ) → x + y ≡ z + 0 → y ≤ z
    end x y z e = omega arith

pub sweep_fits : (m : Setup) (r : Run) (z : Kept) (s a : ℕ) → IsReadySetup m → CanSweep m s a → Keeps m r z
    → is_swept s a (r.chains (arc_chain m s a)) ≡ false
    → in_accounts m (arc_chain m s a) (free m (arc_chain m s a) (r.chains (arc_chain m s a)))
    + (accounts (m.cast s).deal a (projection s a (r.chains (arc_chain m s a)))).party
    + (accounts (m.cast s).deal a (projection s a (r.chains (arc_chain m s a)))).counterparty
    ≤ in_accounts m (arc_chain m s a) (opening_units m (arc_chain m s a))
sweep_fits m r z s a ready can k unswept =
    let h = r.chains (arc_chain m s a) in
    let legal = shown_legal m r z s a k.follows k.good can.swap can.arc in
    let adds : AddsUp (m.cast s).deal a (projection s a h) =
    units_are_kept (m.cast s).deal a (projection s a h) [] (subst (IsLegal (m.cast s).deal a) (sym (append-nil (projection s a h))) legal) in
    let one = one_of_all m (worth m (arc_chain m s a) h) s a can.swap can.arc in
    let is : worth m (arc_chain m s a) h s a ≡ amount (m.cast s).deal a =
    ap₂ (λ x y. cond x (cond y 0 (amount (m.cast s).deal a)) 0) (eq-eqb (arc_chain m s a) (arc_chain m s a) refl) unswept in
    end (in_accounts m (arc_chain m s a) (free m (arc_chain m s a) h)) (accounts (m.cast s).deal a (projection s a h)).party
    (accounts (m.cast s).deal a (projection s a h)).counterparty (held (projection s a h)) (amount (m.cast s).deal a)
    (worth m (arc_chain m s a) h s a) (sum_over_arcs m (worth m (arc_chain m s a) h)) (in_accounts m (arc_chain m s a) (opening_units m (arc_chain m s a)))
    adds is one (k.sound.count (arc_chain m s a) (ready.chain s a can.swap can.arc))
  where
    end : (f p q u o w t c : ℕ) → p + q + u ≡ o → w ≡ o → w ≤ t → f + t ≡ c → f + p + q ≤ c
    end f p q u o w t c e1 e2 l e3 = omega arith

pub sweeps_fit : SweepsFit
sweeps_fit m events s a ready all can unswept = sweep_fits m (many_run m events) (kept_run m events) s a ready can (keeps_run m events ready all) unswept
