-- Each party that is conducted and asks back what it published has its refunds; one that is never
-- late does.
use Rattle.std.proofs.Common.{count_by, ◌≡◌, ◌≢◌, ℕ, ◌+◌, ◌<◌, ◌≤◌, ◌==◌, nat_lt, Bool, true, false, cond, not, if◌then◌else◌, ◌&&◌, ◌||◌, List, []}
use Rattle.std.proofs.Common.{◌∷◌, ◌++◌, length, Option, Some, None, is_some, is_none, refl, sym, ap, ◌∙◌, subst, inl, inr, arith, eqb-true, eq-eqb}
use Rattle.std.proofs.Common.{ltb-true, le-ltb}
use Rattle.std.proofs.lemmas.Bool.{false≢true}
use Rattle.std.proofs.lemmas.Option.{same_Some}
use Rattle.std.proofs.lemmas.List.Sums.{sum_by-append, sum_by-cons}
use Rattle.swap_base.specs.Lists.{or_else, IsElement, IsMoment}
use Rattle.swap_base.proofs.Lists.{first_given_answer-now, Order, moments_in_order, in_range, and_both, moment_from_in, grow, all_moments_front, first_given_answer-append}
use Rattle.swap_base.proofs.Lists.{first_given_answer-front, in_append, in_from_moment, list_any-in, Earlier, Same, Later}
use Rattle.swap_digraph.specs.declared.deal.Deal.{Deal}
use Rattle.swap_digraph.specs.Graph.{arcs, leaving, is_listed}
use Rattle.swap_digraph.specs.Deal.{party}
use Rattle.escrow_core.specs.declared.terms.Terms.{Terms}
use Rattle.escrow_core.specs.Terms.{stated_terms, same_terms, refund_expiry}
use Rattle.ledger_core.specs.declared.entry.Call.{Call}
use Rattle.ledger_core.specs.declared.entry.Call.TheVariants.{Publish, Unlock, Claim, Refund, Transfer}
use Rattle.ledger_core.specs.declared.entry.Sender.{Sender}
use Rattle.ledger_core.specs.declared.entry.Sender.TheVariants.{Party}
use Rattle.ledger_core.specs.declared.entry.Entry.{Entry}
use Rattle.ledger_core.specs.History.{height, accepted, Publication, publication, published, settling, settled, is_open, triggered, rows, IsLegal}
use Rattle.ledger_core.specs.History.{accounts, held, IsLegalMoment, the_terms, publication_terms, moved, transferred}
use Rattle.ledger_core.specs.declared.facts.Settlement.{Settlement}
use Rattle.ledger_core.specs.declared.facts.Settlement.TheVariants.{Claimed, Refunded}
use Rattle.ledger_core.specs.Book.{Histories, history, IsLegalBook}
use Rattle.ledger_core.specs.declared.accounts.Accounts.{Accounts}
use Rattle.swap_rules.specs.declared.finding.Rule.TheVariants.{Publish as ToPublish, Claim as ToClaim, Refund as ToRefund}
use Rattle.swap_rules.specs.declared.outcome.Outcome.TheVariants.{Underwater}
use Rattle.swap_rules.specs.Party.{is_ready, ready_height, is_triggered, leads_one, pick_call, least_expiry, has_expired}
use Rattle.swap_rules.specs.Conduct.{is_publish, keeps, IsConducted}
use Rattle.swap_rules.specs.Late.{trigger_height, when, reference_height, counts, is_late}
use Rattle.swap_rules.specs.Outcome.{is_claim, outcome, EnteringHaveEnded, LeavingHaveEnded}
use Rattle.swap_rules.specs.Accepted.{IsAccepted}
use Rattle.swap_rules.specs.Laws.{IsOnTime, IsUnforged, HasRefunds, EveryBookIsSafe}
use Rattle.swap_rules.specs.Walking.{HasLost, UnlocksAll, ClaimsAll, AsksAllBack, AsksAfterPublish, WatchfulIsSafe, OnTimeIsWatchful}
use Rattle.swap_rules.specs.Due.{is_claiming}
use Rattle.swap_rules.proofs.Times.{TimeLaw, OfTimelocks, OfHashkeys, TimesLaw}
use Rattle.swap_rules.proofs.Openings.{first_expiry, refund_expiry-low, expired-least}
use Rattle.swap_rules.proofs.Expiry.{still_expired}
use Rattle.ledger_core.proofs.History.{opened-past, Act, Done, published_done, claimed_done, of_publish, of_claim, of_transfer, clear_at, height-past}
use Rattle.ledger_core.proofs.History.{published-past, settled-past, triggered-past, settled-now, is_some-of, not-true, not-full, from_clear}
use Rattle.ledger_core.proofs.History.{accepted-now}
use Rattle.swap_rules.proofs.Entering.{UnlocksInTime, unlocks_in_time, ready_below, claim_enabled, trigger_ends}
use Rattle.swap_rules.proofs.Calls.{kept, legal_at, own_publish, OwnPublish, done_in_time, counted_claim}
use Rattle.swap_rules.proofs.SafeTimelocks.{timelocks_are_safe, timelocks_unlock}
use Rattle.swap_rules.proofs.SafeHashkeys.{hashkeys_are_safe, hashkeys_unlock}
use Rattle.swap_rules.proofs.Accepted.{times_law, time_law}
use Rattle.ledger_core.proofs.Units.{units, after}
use Rattle.swap_digraph.proofs.Paths.{in-is_listed}
use Rattle.swap_rules.proofs.Words.{publish_rule, claim_rule, refund_rule, act_of, pick_call-act, and_three, enters, leaves}
use Rattle.time_bounds.specs.Times as times

-- The counterparty has nothing until it claims.

module _ (d : Deal) (a : ℕ) where
  -- no call of the arc's party is a transfer
  abbrev pub NoOwnTransfer : List Entry → Type 0
  NoOwnTransfer h = (e : Entry) (to units : ℕ) → IsElement e h → pick_call (party d a) e ≡ Some (Transfer to units) → ⊥

  abbrev pub Empty : List Entry → Type 0
  Empty h = IsLegal d a h → NoOwnTransfer h → is_claim (settled h) ≡ false → (accounts d a h).counterparty ≡ 0

  unclaimed-front : (h : List Entry) (e : Entry) → is_claim (settled (h ++ e ∷ [])) ≡ false → is_claim (settled h) ≡ false
  unclaimed-front h e k = go (settled h) refl
    where
      go : (s : Option Settlement) → settled h ≡ s → is_claim (settled h) ≡ false
      go None q = ap is_claim q
      go (Some Refunded) q = ap is_claim q
      go (Some Claimed) q = absurd (false≢true (sym k ∙ ap is_claim (first_given_answer-front (λ e. settling (accepted e)) h (e ∷ []) Claimed q)))

  pub from_moved : (h : List Entry) (e : Entry) (s : Sender) (o : Option Call) → e.sender ≡ s → accepted e ≡ o
      → (moved d a (accounts d a h) s o).counterparty ≡ 0 → (accounts d a (h ++ e ∷ [])).counterparty ≡ 0
  from_moved h e s o es k z = ap (λ x. x.counterparty) (after d a h e s o es k) ∙ z

  empty_step : (h : List Entry) (e : Entry) (o : Option Call) → accepted e ≡ o → IsLegal d a (h ++ e ∷ []) → NoOwnTransfer (h ++ e ∷ [])
      → is_claim (settled (h ++ e ∷ [])) ≡ false → (accounts d a h).counterparty ≡ 0 → (accounts d a (h ++ e ∷ [])).counterparty ≡ 0
  empty_step h e None k l n c z = from_moved h e e.sender None refl k z
  empty_step h e (Some (Unlock key)) k l n c z = from_moved h e e.sender (Some (Unlock key)) refl k z
  empty_step h e (Some (Publish t)) k l n c z = from_moved h e e.sender (Some (Publish t)) refl k z
  empty_step h e (Some Refund) k l n c z = from_moved h e e.sender (Some Refund) refl k z
  empty_step h e (Some Claim) k l n c z =
      let q = clear_at d a (h ++ e ∷ []) h e Claim l ([], refl) k in
      let u = (of_claim d a h q.0.by q.1).unsettled in
      let s : settled (h ++ e ∷ []) ≡ Some Claimed =
      first_given_answer-append (λ e. settling (accepted e)) h (e ∷ [])
      ∙ (ap (λ x. or_else x (or_else (settling (accepted e)) None)) u ∙ ap (λ x. or_else (settling x) None) k) in
      absurd (false≢true (sym c ∙ ap is_claim s))
  empty_step h e (Some (Transfer to units)) k l n c z =
      let q = clear_at d a (h ++ e ∷ []) h e (Transfer to units) l ([], refl) k in
      let f = of_transfer d a h q.0.by to units q.1 in
      from_moved h e (Party q.0.by) (Some (Transfer to units)) q.0.sender k
      (go (q.0.by == party d a) (to == party d a) (λ same.
      n e to units (in_append h (e ∷ []) e (inr (inl refl))) (pick_call-act d a h e (Transfer to units) (party d a) q.0 (eqb-true _ _ same))) f)
    where
      b : Accounts
      b = accounts d a h

      go : (x y : Bool) → (x ≡ true → ⊥) → units ≤ cond x b.party b.counterparty → (transferred b x y units).counterparty ≡ 0
      go true y m f = absurd (m refl)
      go false true m f = omega arith
      go false false m f = z

  pub counterparty_empty : (h : List Entry) → Empty h
  counterparty_empty h = grow Empty h (λ l n c. refl) (λ xs x rest l n c.
      empty_step xs x (accepted x) refl l n c (rest (all_moments_front (IsLegalMoment d a) xs (x ∷ []) l) (λ e to units i.
      n e to units (in_append xs (x ∷ []) e (inl i))) (unclaimed-front xs x c)))

-- A refund of an untriggered arc above the expiry of a lock that stays closed leaves the arc
-- settled.
pub refund_settles : (d : Deal) (a : ℕ) (h past : List Entry) (e : Entry) (p : Publication) → IsLegal d a h → (m : IsMoment h past e)
    → (act : Act d a past e Refund)
    → act.by ≡ party d a → published past ≡ Some p → triggered d h ≡ false → refund_expiry d a p.terms (is_open h) < height past → is_some (settled h) ≡ true
unfolding rows
refund_settles d a h past e p l m act by pub_past shut expired = go (settled past) refl
  where
    same : the_terms past ≡ p.terms
    same = ap publication_terms pub_past

    closed : triggered d past ≡ false
    closed = not-true (triggered d past) (λ t. false≢true (sym shut ∙ triggered-past d h past e m t))

    -- fewer locks are open in the past
    sooner : refund_expiry d a p.terms (is_open past) ≤ refund_expiry d a p.terms (is_open h)
    sooner =
        let x = first_expiry d a p.terms (is_open h) shut in
        let y =
        refund_expiry-low d a p.terms (is_open past) x.lock x.within
        (not-true (is_open past x.lock) (λ t. false≢true (sym x.closed ∙ opened-past h past e x.lock m t))) in
        let z = x.height in omega arith

    late : nat_lt (height past) (refund_expiry d a (the_terms past) (is_open past) + 1) ≡ false
    late = let s =
        sooner in le-ltb (height past) (refund_expiry d a (the_terms past) (is_open past) + 1)
        (subst (λ t. refund_expiry d a t (is_open past) + 1 ≤ height past) (sym same) (omega arith))

    go : (s : Option Settlement) → settled past ≡ s → is_some (settled h) ≡ true
    go (Some s) q = ap is_some (settled-past h past e s m q)
    go None q =
        let took : accepted e ≡ Some Refund = accepted-now e Refund act.what (act.reply ∙ from_clear (rows d a past act.by Refund)
        (not-full d a past e Refund act, (ap is_none pub_past, (ap is_some q, (ap not (eq-eqb act.by (party d a) by), (closed, (late, tt))))))) in
        settled-now h past e Refunded m (ap settling took)

pub counted_refund : (d : Deal) (b : Histories) (v a at : ℕ) (c : Call) → counts d b v ToRefund a at (Some c) ≡ true
    → (c ≡ Refund) × (least_expiry d a (history b a) < at)
unfolding counts
counted_refund d b v a at Refund k = (refl, ltb-true (least_expiry d a (history b a)) at k)
counted_refund d b v a at (Publish t) k = absurd (cc k)
counted_refund d b v a at (Unlock key) k = absurd (cc k)
counted_refund d b v a at Claim k = absurd (cc k)
counted_refund d b v a at (Transfer to units) k = absurd (cc k)

pub counted_publish : (d : Deal) (b : Histories) (v a at : ℕ) (c : Call) → counts d b v ToPublish a at (Some c) ≡ true → (t : Terms) × (c ≡ Publish t)
unfolding counts
counted_publish d b v a at (Publish t) k = (t, refl)
counted_publish d b v a at Refund k = absurd (cc k)
counted_publish d b v a at (Unlock key) k = absurd (cc k)
counted_publish d b v a at Claim k = absurd (cc k)
counted_publish d b v a at (Transfer to units) k = absurd (cc k)

count_past : {A : Type 0} (p : A → Bool) (xs q : List A) (x : A) → IsMoment xs q x → p x ≡ true → count_by p q + 1 ≤ count_by p xs
count_past p xs q x m px =
    let e1 : count_by p xs ≡ count_by p (q ++ x ∷ m.0) = ap (count_by p) m.1 in
    let e2 : count_by p (q ++ x ∷ m.0) ≡ count_by p q + count_by p (x ∷ m.0) = sum_by-append (λ z. cond (p z) 1 0) q (x ∷ m.0) in
    let e3 : count_by p (x ∷ m.0) ≡ cond (p x) 1 0 + count_by p m.0 = sum_by-cons (λ z. cond (p z) 1 0) x m.0 in
    let e4 : ◌≡◌ {A = ℕ} (cond (p x) 1 0) 1 = ap (λ b. cond {A = ℕ} b 1 0) px in
    omega arith

-- Two elements that pass, where one passes, are one.
pub count_one : {A : Type 0} (p : A → Bool) (xs q r : List A) (x y : A) → count_by p xs ≡ 1 → IsMoment xs q x → IsMoment xs r y → p x ≡ true
    → p y ≡ true → (q ≡ r) × (x ≡ y)
count_one p xs q r x y c m n px py = go (moments_in_order xs q r x y m n)
  where
    go : Order q x r y → (q ≡ r) × (x ≡ y)
    go (Same e f) = (e, f)
    go (Earlier k) = let a1 = count_past p r q x k px in let a2 = count_past p xs r y n py in absurd (omega arith)
    go (Later k) = let a1 = count_past p q r y k py in let a2 = count_past p xs q x m px in absurd (omega arith)

module _ (d : Deal) (b : Histories) (v : ℕ) (legal : IsLegalBook d b) (conducted : IsConducted d b v) where
  pub no_own_transfer : (a : ℕ) → IsElement a (leaving d.graph v) → NoOwnTransfer d a (history b a)
  unfolding keeps
  no_own_transfer a w e to units i k =
      let out = leaves d v a w in
      let m = moment_from_in (history b a) e i in
      false≢true (kept d b v conducted a m.0 e (Transfer to units) m.1 (ap (λ x. pick_call x e) (sym out.1) ∙ k))

module _ (d : Deal) (b : Histories) (v : ℕ) (legal : IsLegalBook d b) (conducted : IsConducted d b v) (law : TimesLaw d) (asks : AsksAllBack d b v) where
  -- what was published and wasn't triggered was settled, since it was asked back above the expiry
  -- of a lock that stays closed
  unsettled-never : (a : ℕ) (p : Publication) → IsElement a (leaving d.graph v) → is_triggered d b a ≡ false → published (history b a) ≡ Some p
      → settled (history b a) ≡ None → ⊥
  unfolding keeps
  unsettled-never a p w shut e s =
      let out = leaves d v a w in
      let l = legal_at d b v conducted legal a out.0 in
      let own = own_publish d b v conducted legal a p w e in
      let y = asks a w (ap is_some e) shut in
      let act = act_of d a (history b a) y.past y.now Refund v l y.stands y.called in
      let q = is_some-of (published y.past) y.after in
      let one : q.0 ≡ p = same_Some q.0 p (sym (published-past (history b a) y.past y.now q.0 y.stands q.1) ∙ e) in
      let at : y.now.height ≡ height y.past = act.0.at in
      let expired : has_expired d a y.past y.now.height ≡ true = kept d b v conducted a y.past y.now Refund y.stands y.called in
      let still =
      still_expired d law a out.0 y.past (history b a) l (y.now ∷ y.stands.0, y.stands.1) (λ r f.
      OwnPublish.correct (own_publish d b v conducted legal a r w f)) y.now.height (height y.past) expired (omega arith) (omega arith) in
      let above : least_expiry d a (history b a) < height y.past = expired-least d a (history b a) (height y.past) still in
      let k =
      refund_settles d a (history b a) y.past y.now q.0 l y.stands act.0 (act.1 ∙ sym out.1) q.1 shut
      (subst (λ t. refund_expiry d a t (is_open (history b a)) < height y.past) (sym (ap (λ z. z.terms) one ∙ own.correct)) above) in
      false≢true (sym (ap is_some s) ∙ k)

  pub has_refunds : HasRefunds d b v
  has_refunds a w shut =
      let out = leaves d v a w in
      let l = legal_at d b v conducted legal a out.0 in
      let unclaimed : is_claim (settled (history b a)) ≡ false = not_claimed (settled (history b a)) refl l in
      let z = counterparty_empty d a (history b a) l (no_own_transfer d b v legal conducted a w) unclaimed in
      let u = units d a (history b a) l in
      let total = u.total in
      let none = held_none (settled (history b a)) (published (history b a)) refl refl in
      ap (λ x. cond x (accounts d a (history b a)).party (accounts d a (history b a)).counterparty) (eq-eqb v (party d a) (sym out.1)) ∙ omega arith
    where
      not_claimed : (s : Option Settlement) → settled (history b a) ≡ s → IsLegal d a (history b a) → is_claim (settled (history b a)) ≡ false
      not_claimed None e l = ap is_claim e
      not_claimed (Some Refunded) e l = ap is_claim e
      not_claimed (Some Claimed) e l =
          let c = (claimed_done d a (history b a) l e).1 in
          absurd (false≢true (sym shut ∙ triggered-past d (history b a) c.past c.now c.stands (of_claim d a c.past c.act.by c.clear).triggered))

      held_none : (s : Option Settlement) (p : Option Publication) → settled (history b a) ≡ s → published (history b a) ≡ p → held (history b a) ≡ 0
      held_none (Some s) p e f = ap (λ x. cond (is_some x) 0 (the_terms (history b a)).amount) e
      held_none None None e f = ap (λ x. cond (is_some x) 0 (the_terms (history b a)).amount) e ∙ ap (λ q. (publication_terms q).amount) f
      held_none None (Some p) e f = absurd (unsettled-never a p w shut f e)

-- A party that is nowhere late is watchful.

-- an enabled unlock that isn't late is called while its hashkey is accepted, in either mode
pub unlocks_all : (d : Deal) (b : Histories) (v : ℕ) → IsAccepted d → IsLegalBook d b → EnteringHaveEnded d b v → IsConducted d b v → UnlocksInTime d b v → UnlocksAll d b v
unlocks_all d b v k legal ended conducted unlocks = go (time_law d k)
  where
    go : TimeLaw d → UnlocksAll d b v
    go (OfTimelocks law) = timelocks_unlock d b v law legal ended conducted unlocks
    go (OfHashkeys law) = hashkeys_unlock d b v law legal ended conducted unlocks

-- where no claim is late each triggered arc that enters v was claimed
pub claims_all : (d : Deal) (b : Histories) (v : ℕ) → IsLegalBook d b → EnteringHaveEnded d b v → IsConducted d b v → TimesLaw d
    → ((a : ℕ) → IsElement a (arcs d.graph) → is_late d b v ToClaim a ≡ false) → ClaimsAll d b v
claims_all d b v legal ended conducted law in_time a w right t =
    let in_arc = enters d v a w in
    let now_ended : times.horizon d.start d.delta d.bound < height (history b a) = ended a w in
    let ends = trigger_ends d b v legal conducted law a w right in
    let passed : trigger_height d (history b a) + d.delta < height (history b a) = omega arith in
    let done =
    done_in_time d b v conducted legal ToClaim a (in_time a (in_range a (length d.graph.arcs) in_arc.0)) (trigger_height d (history b a))
    (claim_enabled d b v legal conducted law a w right t) passed in
    list_any-in (λ e. is_claiming (pick_call v e)) (history b a) done.now
    (ap is_claiming (done.called ∙ ap Some (counted_claim d b v a done.now.height done.call done.counted)))
    (subst (IsElement done.now) (sym done.stands.1) (in_from_moment done.past done.now done.stands.0))

pub on_time_claims : (d : Deal) (b : Histories) (v : ℕ) → IsLegalBook d b → EnteringHaveEnded d b v → IsConducted d b v → TimesLaw d → IsOnTime d b v → ClaimsAll d b v
on_time_claims d b v legal ended conducted law on_time =
    claims_all d b v legal ended conducted law (λ a i. on_time ToClaim a (claim_rule d) i)

-- A refund call that isn't late: above the expiry of a lock that stays closed, and within delta.
pub record AskedInTime (d : Deal) (b : Histories) (v a : ℕ) : Type 0 where
  pub past : List Entry
  pub now : Entry
  pub stands : IsMoment (history b a) past now
  pub called : pick_call v now ≡ Some Refund
  pub above : least_expiry d a (history b a) < now.height
  pub in_time : now.height ≤ least_expiry d a (history b a) + d.delta

-- the least expiry lies after the height by which v publishes, and a refund within delta of it
-- before the horizon
pub expiry_within : (d : Deal) (b : Histories) (v a : ℕ) → TimesLaw d → IsElement a (leaving d.graph v) → is_triggered d b a ≡ false
    → (times.opening_deadline d.start d.delta d.bound + d.delta ≤ least_expiry d a (history b a))
    × (least_expiry d a (history b a) + d.delta ≤ times.horizon d.start d.delta d.bound)
expiry_within d b v a law w shut =
    let out = leaves d v a w in
    let first = first_expiry d a (stated_terms d a) (is_open (history b a)) shut in
    let t1 = law.opens a first.lock out.0 in
    let t2 = law.ends a first.lock out.0 in
    let t3 = first.height in
    (omega arith, omega arith)

module _ (d : Deal) (b : Histories) (v : ℕ) (legal : IsLegalBook d b) (conducted : IsConducted d b v)
    (refunds : (a : ℕ) → IsElement a (arcs d.graph) → is_late d b v ToRefund a ≡ false) (law : TimesLaw d) where
  -- an arc that leaves v, was published and wasn't triggered, is asked back in time
  pub asked_in_time : (a : ℕ) → IsElement a (leaving d.graph v) → is_some (published (history b a)) ≡ true → is_triggered d b a ≡ false
      → least_expiry d a (history b a) + d.delta < height (history b a) → AskedInTime d b v a
  unfolding reference_height
  asked_in_time a w shown shut passed =
      let out = leaves d v a w in
      let on : (is_listed a (leaving d.graph v) && is_some (published (history b a)) && not (is_triggered d b a)) ≡ true =
      and_both (is_listed a (leaving d.graph v) && is_some (published (history b a))) _
      (and_both (is_listed a (leaving d.graph v)) _ (in-is_listed a (leaving d.graph v) w) shown) (ap not shut) in
      let y =
      done_in_time d b v conducted legal ToRefund a (refunds a (in_range a (length d.graph.arcs) out.0))
      (least_expiry d a (history b a)) (ap (λ x. when x (least_expiry d a (history b a))) on) passed in
      let c = counted_refund d b v a y.now.height y.call y.counted in
      record {
        past = y.past;
        now = y.now;
        stands = y.stands;
        called = y.called ∙ ap Some c.0;
        above = c.1;
        in_time = y.in_time;
      }

  -- so v asks all back, if it asks only after its publishes
  pub late_asks : LeavingHaveEnded d b v → AsksAfterPublish d b v → AsksAllBack d b v
  late_asks ended asks a w shown shut =
      let now_ended : times.horizon d.start d.delta d.bound < height (history b a) = ended a w in
      let t = (expiry_within d b v a law w shut).1 in
      let y = asked_in_time a w shown shut (omega arith) in
      record { past = y.past; now = y.now; stands = y.stands; called = y.called; after = asks a y.past y.now w y.stands y.called }

module _ (d : Deal) (b : Histories) (v : ℕ) (legal : IsLegalBook d b) (conducted : IsConducted d b v)
    (publishes : (a : ℕ) → IsElement a (arcs d.graph) → is_late d b v ToPublish a ≡ false)
    (refunds : (a : ℕ) → IsElement a (arcs d.graph) → is_late d b v ToRefund a ≡ false) (law : TimesLaw d) where
  pub ready_low : is_ready d b v ≡ true → ready_height d b v ≤ times.opening_deadline d.start d.delta d.bound
  ready_low ready = ready_below d b v legal conducted law ready

  pub publish_ref : (a : ℕ) → IsElement a (leaving d.graph v) → (leads_one d v || is_ready d b v) ≡ true
      → (r : ℕ) × (reference_height d b v ToPublish a ≡ Some r) × (r ≤ times.opening_deadline d.start d.delta d.bound)
  unfolding reference_height
  publish_ref a w may = go (leads_one d v) refl
    where
      on : (is_listed a (leaving d.graph v) && (leads_one d v || is_ready d b v)) ≡ true
      on = and_both (is_listed a (leaving d.graph v)) _ (in-is_listed a (leaving d.graph v) w) may

      is_at : (r : ℕ) → (if leads_one d v then 0 else ready_height d b v) ≡ r → reference_height d b v ToPublish a ≡ Some r
      is_at r e = ap (λ x. when x (if leads_one d v then 0 else ready_height d b v)) on ∙ ap Some e

      go : (x : Bool) → leads_one d v ≡ x → (r : ℕ) × (reference_height d b v ToPublish a ≡ Some r) × (r ≤ times.opening_deadline d.start d.delta d.bound)
      go true e = (0, is_at 0 (ap (λ x. cond x 0 (ready_height d b v)) e), omega arith)
      go false e = (
        ready_height d b v,
        is_at (ready_height d b v) (ap (λ x. cond x 0 (ready_height d b v)) e),
        ready_low (ap (λ x. x || is_ready d b v) (sym e)
            ∙ may),
      )

  -- what v published was published before any lock expires
  published_early : (a : ℕ) (p : Publication) → IsElement a (leaving d.graph v) → published (history b a) ≡ Some p
      → times.opening_deadline d.start d.delta d.bound + d.delta < height (history b a)
      → p.height ≤ times.opening_deadline d.start d.delta d.bound + d.delta
  unfolding keeps
  published_early a p w e high =
      let out = leaves d v a w in
      let l = legal_at d b v conducted legal a out.0 in
      let own = own_publish d b v conducted legal a p w e in
      let done = published_done d a (history b a) p l e in
      let by : done.act.by ≡ v = (of_publish d a done.past done.act.by p.terms done.clear).party ∙ out.1 in
      let called = pick_call-act d a done.past done.now (Publish p.terms) v done.act by in
      let k =
      and_three (same_terms p.terms (stated_terms d a)) (count_by (λ e. is_publish (pick_call v e)) (history b a) == 1) (leads_one d v || is_ready d b v)
      (kept d b v conducted a done.past done.now (Publish p.terms) done.stands called) in
      let r = publish_ref a w own.may in
      let t3 : r.0 ≤ times.opening_deadline d.start d.delta d.bound = r.2 in
      let passed : r.0 + d.delta < height (history b a) = omega arith in
      let x = done_in_time d b v conducted legal ToPublish a (publishes a (in_range a (length d.graph.arcs) out.0)) r.0 r.1 passed in
      let c = counted_publish d b v a x.now.height x.call x.counted in
      let one =
      count_one (λ e. is_publish (pick_call v e)) (history b a) done.past x.past done.now x.now (eqb-true _ _ k.1) done.stands x.stands
      (ap is_publish called) (ap is_publish x.called ∙ ap (λ z. is_publish (Some z)) c.1) in
      let t4 : p.height ≡ height done.past = done.at in
      let t5 : done.now.height ≡ height done.past = done.act.at in
      let t6 : done.now.height ≡ x.now.height = ap (λ z. z.height) one.1 in
      let t7 : x.now.height ≤ r.0 + d.delta = x.in_time in
      omega arith

  -- the refund call comes after the publish, which came before any lock expires
  pub asked_after : (a : ℕ) → IsElement a (leaving d.graph v) → is_some (published (history b a)) ≡ true → is_triggered d b a ≡ false
      → least_expiry d a (history b a) + d.delta < height (history b a) → (y : AskedInTime d b v a) × (is_some (published y.past) ≡ true)
  asked_after a w shown shut passed =
      let p = is_some-of (published (history b a)) shown in
      let out = leaves d v a w in
      let l = legal_at d b v conducted legal a out.0 in
      let y = asked_in_time d b v legal conducted refunds law a w shown shut passed in
      let act = act_of d a (history b a) y.past y.now Refund v l y.stands y.called in
      let t1 = (expiry_within d b v a law w shut).0 in
      let done = published_done d a (history b a) p.0 l p.1 in
      let early = published_early a p.0 w p.1 (omega arith) in
      let t4 : p.0.height ≡ height done.past = done.at in
      let t5 : y.now.height ≡ height y.past = act.0.at in
      let t6 : least_expiry d a (history b a) < y.now.height = y.above in
      let apart : height done.past < height y.past = omega arith in
      (y, go p.0 done y.past y.now apart (moments_in_order (history b a) done.past y.past done.now y.now done.stands y.stands))
    where
      go : {t : ℕ} (p : Publication) (done : Done d a (history b a) (Publish p.terms) t) (past : List Entry) (now : Entry)
          → height done.past < height past → Order done.past done.now past now → is_some (published past) ≡ true
      go p done past now apart (Same q n) = let z : height done.past ≡ height past = ap height q in absurd (omega arith)
      go p done past now apart (Later m) = let z = height-past done.past past now m in absurd (omega arith)
      go p done past now apart (Earlier m) =
          first_given_answer-now (λ e. publication e.height (accepted e)) past done.past done.now (record {
            height = done.now.height;
            terms =
                p.terms;
          }) m (ap (publication done.now.height) done.took)

  -- each arc that leaves v and wasn't triggered was asked back after its publish
  pub on_time_asks : LeavingHaveEnded d b v → AsksAllBack d b v
  on_time_asks ended a w shown shut =
      let now_ended : times.horizon d.start d.delta d.bound < height (history b a) = ended a w in
      let t = (expiry_within d b v a law w shut).1 in
      let y = asked_after a w shown shut (omega arith) in
      record { past = y.0.past; now = y.0.now; stands = y.0.stands; called = y.0.called; after = y.1 }

pub on_time_is_watchful : OnTimeIsWatchful
on_time_is_watchful d b v k legal entering_ended leaving_ended conducted on_time = record {
  unlocks = λ stake. unlocks_all d b v k legal entering_ended conducted (unlocks_in_time d b v on_time);
  claims = λ stake. on_time_claims d b v legal entering_ended conducted (times_law d k) on_time;
  refunds =
      on_time_asks d b v legal conducted (λ a i. on_time ToPublish a (publish_rule d) i) (λ a i. on_time ToRefund a (refund_rule d) i) (times_law d k)
      leaving_ended;
}

pub safe_by : (d : Deal) (b : Histories) (v : ℕ) → IsAccepted d → IsLegalBook d b → IsConducted d b v → (HasLost d b v → UnlocksAll d b v)
    → (HasLost d b v → ClaimsAll d b v) → IsUnforged d b v → outcome d b v ≢ Underwater
safe_by d b v k legal conducted unlocks claims = go (time_law d k)
  where
    go : TimeLaw d → IsUnforged d b v → outcome d b v ≢ Underwater
    go (OfTimelocks law) = timelocks_are_safe d b v law legal conducted unlocks claims
    go (OfHashkeys law) = hashkeys_are_safe d b v law legal conducted unlocks claims

pub watchful_is_safe : WatchfulIsSafe
watchful_is_safe d b v k legal conducted watchful = record {
  safe = safe_by d b v k legal conducted watchful.unlocks watchful.claims;
  refunds = has_refunds d b v legal conducted (times_law d k) watchful.refunds;
}

pub every_book_is_safe : EveryBookIsSafe
every_book_is_safe d b v k legal entering_ended leaving_ended conducted on_time =
    watchful_is_safe d b v k legal conducted (on_time_is_watchful d b v k legal entering_ended leaving_ended conducted on_time)
