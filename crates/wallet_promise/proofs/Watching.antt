-- Who was watchful in a book was so in what is told of it, and the other way round.
use Rattle.std.proofs.Common.{◌≡◌, ℕ, Bool, true, false, List, filter, Some, is_some, refl, sym, ap, ◌∙◌, subst}
use Rattle.std.specs.List.{list_any}
use Rattle.swap_base.specs.Lists.{IsElement, IsMoment}
use Rattle.swap_base.proofs.Lists.{or-right}
use Rattle.swap_digraph.specs.declared.deal.Deal.{Deal}
use Rattle.swap_digraph.specs.Graph.{leaving}
use Rattle.ledger_core.specs.declared.entry.Call.{Call}
use Rattle.ledger_core.specs.declared.entry.Call.TheVariants.{Unlock, Refund}
use Rattle.ledger_core.specs.declared.entry.Entry.{Entry}
use Rattle.ledger_core.specs.History.{accepted, is_sender, published}
use Rattle.ledger_core.specs.Book.{Histories, history}
use Rattle.swap_rules.specs.declared.finding.Rule.TheVariants.{Unlock as ToUnlock}
use Rattle.swap_rules.specs.Late.{reference_height}
use Rattle.swap_rules.specs.Party.{is_correct, is_triggered, pick_call}
use Rattle.swap_rules.specs.Due.{is_claiming}
use Rattle.swap_rules.specs.Rest.{is_ticking}
use Rattle.swap_rules.specs.Walking.{UnlocksArc, ClaimsAll, AsksBack, IsWatchful}
use Rattle.swap_rules.proofs.Words.{call_of_parts, or-left, or-first}
use Rattle.wallet_promise.specs.WithoutNoise.{is_of_contract, is_useless, is_needed}
use Rattle.wallet_promise.proofs.Filters.{any-same, moment-filter, moment_unfilter}
use Rattle.wallet_promise.proofs.Telling.{says_telling}
use Rattle.wallet_promise.proofs.Needed.{all_told}
use Rattle.wallet_promise.proofs.Enough as enough
use Rattle.wallet_promise.proofs.Books as books

-- each call of v is needed
pub own_needed : (useless : Bool) (v : ℕ) (e : Entry) → is_sender v e.sender ≡ true → is_needed useless v e ≡ true
own_needed true v e s = or-right (is_ticking e.what) (is_sender v e.sender) s
own_needed false v e s =
    or-first (is_ticking e.what) (is_sender v e.sender) (is_of_contract (accepted e)) (or-left (is_sender v e.sender) (is_of_contract (accepted e)) s)

module _ (d : Deal) (v : ℕ) (u : ℕ → Bool) (b c : Histories) (is_part : (a : ℕ) → history c a ≡ filter (is_needed (u a) v) (history b a))
    (idle : (a : ℕ) → u a ≡ true → is_useless d v a (history b a) ≡ true) where
  -- a call of v stands in both
  pub into : (a : ℕ) (past : List Entry) (e : Entry) (x : Call) → IsMoment (history b a) past e → pick_call v e ≡ Some x
      → IsMoment (history c a) (filter (is_needed (u a) v) past) e
  into a past e x m k =
      subst (λ h. IsMoment h (filter (is_needed (u a) v) past) e) (sym (is_part a))
      (moment-filter (is_needed (u a) v) (history b a) past e m (own_needed (u a) v e (call_of_parts v e x k).0))

  pub back : (a : ℕ) (past : List Entry) (e : Entry) → IsMoment (history c a) past e
      → (whole : List Entry) × IsMoment (history b a) whole e × (filter (is_needed (u a) v) whole ≡ past)
  back a past e m = moment_unfilter (is_needed (u a) v) (history b a) past e (subst (λ h. IsMoment h past e) (is_part a) m)

  trigger_at : (a : ℕ) → IsElement a (leaving d.graph v) → is_triggered d c a ≡ is_triggered d b a
  trigger_at a i = enough.same_trigger d v c b (books.enough_said d v u b c is_part idle) a (books.says_leaving d v u b c is_part idle a i)

  pub same_stake : list_any (is_triggered d c) (leaving d.graph v) ≡ list_any (is_triggered d b) (leaving d.graph v)
  same_stake = any-same (is_triggered d c) (is_triggered d b) (leaving d.graph v) trigger_at

  -- Unlocks.

  unlock_told : (i a : ℕ) → UnlocksArc d b v i a → UnlocksArc d c v i a
  unlock_told i a k = record {
    past = filter (is_needed (u a) v) k.past;
    now = k.now;
    key = k.key;
    stands = into a k.past k.now (Unlock k.key) k.stands k.called;
    called = k.called;
    lock = k.lock;
    in_time = k.in_time;
  }

  unlock_whole : (i a : ℕ) → UnlocksArc d c v i a → UnlocksArc d b v i a
  unlock_whole i a k =
      let w = back a k.past k.now k.stands in
      record { past = w.0; now = k.now; key = k.key; stands = w.1; called = k.called; lock = k.lock; in_time = k.in_time }

  -- Refunds.

  published_at : (a : ℕ) (past : List Entry) → IsElement a (leaving d.graph v) → published (filter (is_needed (u a) v) past) ≡ published past
  published_at a past i =
      ap (λ t. published (filter (is_needed t v) past)) (books.leaving_told d v u b c is_part idle a i)
      ∙ (ap published (all_told v past) ∙ (says_telling v past).published)

  refund_told : (a : ℕ) → IsElement a (leaving d.graph v) → AsksBack b v a → AsksBack c v a
  refund_told a i k = record {
    past = filter (is_needed (u a) v) k.past;
    now = k.now;
    stands = into a k.past k.now Refund k.stands k.called;
    called = k.called;
    after = ap (λ o. is_some o) (published_at a k.past i) ∙ k.after;
  }

  refund_whole : (a : ℕ) → IsElement a (leaving d.graph v) → AsksBack c v a → AsksBack b v a
  refund_whole a i k =
      let w = back a k.past k.now k.stands in
      record {
        past = w.0;
        now = k.now;
        stands = w.1;
        called = k.called;
        after = ap (λ o. is_some o) (sym (published_at a w.0 i) ∙ ap published w.2) ∙ k.after;
      }

  -- Claims.

  correct_at : (a : ℕ) → is_correct d c a ≡ is_correct d b a
  correct_at a = enough.same_correct d v c b (books.enough_said d v u b c is_part idle) a

  trigger_correct : (a : ℕ) → is_correct d b a ≡ true → is_triggered d c a ≡ is_triggered d b a
  trigger_correct a y =
      let said = books.enough_said d v u b c is_part idle in
      enough.same_trigger d v c b said a (enough.correct_says d v c b said a y)

  claims_told : ClaimsAll d b v → ClaimsAll d c v
  claims_told k a i y t =
      let whole : is_correct d b a ≡ true = sym (correct_at a) ∙ y in
      books.calls_at d v u b c is_part idle a is_claiming refl ∙ k a i whole (sym (trigger_correct a whole) ∙ t)

  claims_whole : ClaimsAll d c v → ClaimsAll d b v
  claims_whole k a i y t =
      sym (books.calls_at d v u b c is_part idle a is_claiming refl) ∙ k a i (correct_at a ∙ y) (trigger_correct a y ∙ t)

  ref_at : (i a : ℕ) → reference_height d c v (ToUnlock i) a ≡ reference_height d b v (ToUnlock i) a
  ref_at i a = books.same_ref d v u b c is_part idle (ToUnlock i) a

  published_leaving : (a : ℕ) → IsElement a (leaving d.graph v) → is_some (published (history c a)) ≡ is_some (published (history b a))
  published_leaving a i = ap (λ o. is_some o) (books.says_leaving d v u b c is_part idle a i).published

  pub told : IsWatchful d b v → IsWatchful d c v
  told k = record {
    unlocks = λ s i a ref l e. unlock_told i a (k.unlocks (sym same_stake ∙ s) i a ref l (sym (ref_at i a) ∙ e));
    claims = λ s. claims_told (k.claims (sym same_stake ∙ s));
    refunds = λ a i p n. refund_told a i (k.refunds a i (sym (published_leaving a i) ∙ p) (sym (trigger_at a i) ∙ n));
  }

  pub whole : IsWatchful d c v → IsWatchful d b v
  whole k = record {
    unlocks = λ s i a ref l e. unlock_whole i a (k.unlocks (same_stake ∙ s) i a ref l (ref_at i a ∙ e));
    claims = λ s. claims_whole (k.claims (same_stake ∙ s));
    refunds = λ a i p n. refund_whole a i (k.refunds a i (published_leaving a i ∙ p) (trigger_at a i ∙ n));
  }
