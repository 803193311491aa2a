-- A lock that is closed above its expiry stays closed, so a refund that was due stays allowed.
use Rattle.std.proofs.Common.{◌≡◌, ℕ, ◌<◌, ◌≤◌, true, false, List, length, Some, sym, ◌∙◌, subst, arith}
use Rattle.std.proofs.lemmas.Bool.{false≢true}
use Rattle.swap_digraph.specs.declared.deal.Deal.{Deal}
use Rattle.hashkey_path.specs.Hashkey.{is_valid}
use Rattle.escrow_core.specs.Terms.{terms_hashlock, stated_terms, last_unlock}
use Rattle.ledger_core.specs.declared.entry.Entry.{Entry}
use Rattle.ledger_core.specs.History.{height, Publication, published, Opening, opened, is_open, IsLegal}
use Rattle.swap_digraph.specs.Deal.{lock_hashlock}
use Rattle.swap_rules.specs.Party.{has_expired, expiry}
use Rattle.swap_rules.proofs.Entering.{valid_of_unlock}
use Rattle.swap_rules.proofs.Times.{TimesLaw}
use Rattle.swap_rules.proofs.Openings.{expired_lock, has_expired-lock}
use Rattle.swap_rules.proofs.Prefixes.{in_front}
use Rattle.ledger_core.proofs.History.{opened_done, of_unlock, published-past, opened-now, is_some-of, not-true, lock-below}
use Rattle.swap_rules.specs.Machine.{Begins}

module _ (d : Deal) (law : TimesLaw d) (a : ℕ) (l : a < length d.graph.arcs) (k h : List Entry) (legal : IsLegal d a h) (b : Begins k h)
    (right : (p : Publication) → published h ≡ Some p → p.terms ≡ stated_terms d a) where
  pub stays_closed : (i : ℕ) → is_open k i ≡ false → expiry d a i < height k → is_open h i ≡ false
  stays_closed i shut low = not-true (is_open h i) (λ o. let x = is_some-of (opened h i) o in opened_late x.0 x.1)
    where
      opened_late : (w : Opening) → opened h i ≡ Some w → ⊥
      opened_late w e =
          let u = opened_done d a h i w legal e in
          let of_u = of_unlock d a u.0.past u.0.act.by w.key u.0.clear in
          let terms : of_u.contract.terms ≡ stated_terms d a = right of_u.contract
          (published-past h u.0.past u.0.now of_u.contract u.0.stands of_u.published) in
          let valid : is_valid d a (lock_hashlock d w.key.lock) w.key ≡ true =
          subst (λ t. is_valid d a (terms_hashlock t w.key.lock) w.key ≡ true) terms (valid_of_unlock d a u.0.past u.0.act.by w.key of_u) in
          let last : last_unlock d.mode (stated_terms d a) w.key ≤ expiry d a i =
          subst (λ j. last_unlock d.mode (stated_terms d a) w.key ≤ expiry d a j) u.1 (law.last a w.key l (lock-below d a w.key u.0.act.fits) valid) in
          let in_time : height u.0.past ≤ last_unlock d.mode (stated_terms d a) w.key = subst
          (λ t. height u.0.past ≤ last_unlock d.mode t w.key) terms of_u.in_time in
          let m = in_front k h u.0.past u.0.now b u.0.stands (omega arith) in
          false≢true (sym shut ∙ subst (λ j. is_open k j ≡ true) u.1 (opened-now k u.0.past u.0.now w.key m u.0.took))

  pub still_expired : (at more : ℕ) → has_expired d a k at ≡ true → at ≤ height k → at ≤ more → has_expired d a h more ≡ true
  still_expired at more e low up =
      let x = expired_lock d a k at e in
      let y = x.above in
      has_expired-lock d a h more x.lock x.within (stays_closed x.lock x.closed (omega arith)) (omega arith)
