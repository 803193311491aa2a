-- From what height on a party has its units.
use Rattle.std.proofs.Common.{◌≡◌, ℕ, ◌+◌, ◌<◌, ◌≤◌, ◌==◌, Bool, true, false, cond, List, [], ◌∷◌, ◌++◌, length, Option, Some, None, is_some, refl}
use Rattle.std.proofs.Common.{sym, ap, ◌∙◌, subst, inl, arith, eq-eqb, eqb-true}
use Rattle.std.proofs.lemmas.Bool.{false≢true}
use Rattle.std.proofs.lemmas.Option.{same_Some}
use Rattle.swap_base.specs.Lists.{IsElement, IsMoment}
use Rattle.swap_base.proofs.Lists.{all_moments_front, and_parts, first_given_answer-front, in_append, in_range, list_all-in, moment_from_in, order, Order, Earlier, Same, Later}
use Rattle.swap_digraph.specs.declared.deal.Deal.{Deal}
use Rattle.swap_digraph.specs.Graph.{leaving, entering}
use Rattle.swap_digraph.specs.Deal.{amount, party, counterparty, locks}
use Rattle.escrow_core.specs.Terms.{stated_terms, refund_expiry}
use Rattle.ledger_core.specs.declared.entry.Call.TheVariants.{Claim, Refund}
use Rattle.ledger_core.specs.declared.entry.Entry.{Entry}
use Rattle.ledger_core.specs.declared.facts.Settlement.{Settlement}
use Rattle.ledger_core.specs.declared.facts.Settlement.TheVariants.{Claimed, Refunded}
use Rattle.ledger_core.specs.History.{accepted, accounts, balance, height, held, is_open, opened, Publication, publication, publication_terms, published, settled, settling, the_terms, triggered, IsLegal, IsLegalMoment}
use Rattle.ledger_core.specs.Book.{Histories, history, IsLegalBook}
use Rattle.ledger_core.proofs.History.{claimed_done, height-past, height_append, is_some-of, legal-past, not-true, of_claim, of_unlock, opened_done, published-past, refunded-untriggered, settled-now, triggered-past, clear_at}
use Rattle.ledger_core.proofs.Units.{units}
use Rattle.swap_rules.specs.declared.finding.Rule.TheVariants.{Publish as ToPublish, Claim as ToClaim, Refund as ToRefund}
use Rattle.swap_rules.specs.Accepted.{IsAccepted}
use Rattle.swap_rules.specs.Party.{is_correct, is_triggered, least_expiry, pick_call}
use Rattle.swap_rules.specs.Conduct.{keeps, IsConducted}
use Rattle.swap_rules.specs.Late.{trigger_height}
use Rattle.swap_rules.specs.Laws.{IsOnTime}
use Rattle.swap_rules.specs.Outcome.{is_claim}
use Rattle.swap_rules.proofs.Accepted.{times_law}
use Rattle.swap_rules.proofs.Calls.{correct, counted_claim, done_in_time, kept, legal_at, own_publish, OwnPublish}
use Rattle.swap_rules.proofs.Entering.{claim_enabled, trigger_ends}
use Rattle.swap_rules.proofs.Growth.{is_open-more, triggered-more}
use Rattle.swap_rules.proofs.Openings.{claim_claims_by, first_expiry, refund_expiry-low}
use Rattle.swap_rules.proofs.Refunds.{asked_after, counterparty_empty, every_book_is_safe, expiry_within, no_own_transfer, NoOwnTransfer, refund_settles}
use Rattle.swap_rules.proofs.Times.{TimesLaw}
use Rattle.swap_rules.proofs.Words.{act_of, claim_rule, enters, leaves, publish_rule, refund_rule}
use Rattle.swap_units.specs.Heights.{HasAllAbove, OnTimeHasUnitsBy, OnTimeIsWhole}
use Rattle.swap_units.proofs.Spent.{NoTransferBack, whole_is_paid}
use Rattle.swap_units.proofs.Units.{claimed_of, conducted_gives_nothing_back, got_all, safe_is_whole}

append_none : {A : Type 0} (xs : List A) → xs ++ [] ≡ xs
append_none [] = refl
append_none (x ∷ xs) = ap (λ ys. x ∷ ys) (append_none xs)

-- what stands after a lower prefix stands in the prefix
in_front : (h past q rest : List Entry) (e : Entry) → IsMoment h past e → h ≡ q ++ rest → height past < height q → IsMoment q past e
in_front h past q [] e m w low = (m.0, sym (append_none q) ∙ (sym w ∙ m.1))
in_front h past q (x ∷ rest) e m w low = go (order past e m.0 q x rest (sym m.1 ∙ w))
  where
    go : Order past e q x → IsMoment q past e
    go (Earlier k) = k
    go (Same f g) = let z : height past ≡ height q = ap height f in absurd (omega arith)
    go (Later k) = let z = height-past past q x k in absurd (omega arith)

module _ (d : Deal) (b : Histories) (v : ℕ) (k : IsAccepted d) (legal : IsLegalBook d b) (conducted : IsConducted d b v) (on_time : IsOnTime d b v) where
  law : TimesLaw d
  law = times_law d k

  below : (a : ℕ) (q rest : List Entry) → history b a ≡ q ++ rest → height q ≤ height (history b a)
  below a q rest w = let e : height (history b a) ≡ height q + height rest = ap height w ∙ height_append q rest in omega arith

  legal_front : (a : ℕ) (q rest : List Entry) → a < length d.graph.arcs → history b a ≡ q ++ rest → IsLegal d a q
  legal_front a q rest l w = all_moments_front (IsLegalMoment d a) q rest (subst (IsLegal d a) w (legal_at d b v conducted legal a l))

  in_whole : (a : ℕ) (q rest : List Entry) (e : Entry) → history b a ≡ q ++ rest → IsElement e q → IsElement e (history b a)
  in_whole a q rest e w i = subst (IsElement e) (sym w) (in_append q rest e (inl i))

  -- Refunds.

  back : (a : ℕ) → IsElement a (leaving d.graph v) → is_triggered d b a ≡ false → HasAllAbove d b v a (least_expiry d a (history b a) + d.delta)
  back a w shut q rest e high =
      let out = leaves d v a w in
      let l = legal_front a q rest out.0 e in
      let own : NoOwnTransfer d a q = λ x to units i c. no_own_transfer d b v legal conducted a w x to units (in_whole a q rest x e i) c in
      let z = counterparty_empty d a q l own (unclaimed (settled q) refl l) in
      let u = units d a q l in
      let total = u.total in
      let none = held_none (settled q) (published q) refl refl l in
      ap (λ x. cond x (accounts d a q).party (accounts d a q).counterparty) (eq-eqb v (party d a) (sym out.1)) ∙ omega arith
    where
      still : triggered d q ≡ false
      still = not-true (triggered d q) (λ t. false≢true (sym shut ∙ triggered-more d q (history b a) (rest, e) t))

      unclaimed : (s : Option Settlement) → settled q ≡ s → IsLegal d a q → is_claim (settled q) ≡ false
      unclaimed None s l = ap is_claim s
      unclaimed (Some Refunded) s l = ap is_claim s
      unclaimed (Some Claimed) s l =
          let c = (claimed_done d a q l s).1 in
          absurd (false≢true (sym still ∙ triggered-past d q c.past c.now c.stands (of_claim d a c.past c.act.by c.clear).triggered))

      settles : (p : Publication) → published q ≡ Some p → settled q ≡ None → IsLegal d a q → ⊥
      settles p f s l =
          let out = leaves d v a w in
          let whole : published (history b a) ≡ Some p =
          ap published e ∙ first_given_answer-front (λ e. publication e.height (accepted e)) q rest p f in
          let tall = below a q rest e in
          let y =
          asked_after d b v legal conducted (λ a i. on_time ToPublish a (publish_rule d) i) (λ a i. on_time ToRefund a (refund_rule d) i) law a w
          (ap is_some whole) shut (omega arith) in
          let lw = legal_at d b v conducted legal a out.0 in
          let act_whole = act_of d a (history b a) y.0.past y.0.now Refund v lw y.0.stands y.0.called in
          let at : y.0.now.height ≡ height y.0.past = act_whole.0.at in
          let in_time = y.0.in_time in
          let m = in_front (history b a) y.0.past q rest y.0.now y.0.stands e (omega arith) in
          let act = act_of d a q y.0.past y.0.now Refund v l m y.0.called in
          let p0 = is_some-of (published y.0.past) y.1 in
          let one : p0.0 ≡ p = same_Some p0.0 p (sym (published-past q y.0.past y.0.now p0.0 m p0.1) ∙ f) in
          let right = OwnPublish.correct (own_publish d b v conducted legal a p w whole) in
          let first = first_expiry d a (stated_terms d a) (is_open (history b a)) shut in
          let closed : is_open q first.lock ≡ false =
          not-true (is_open q first.lock) (λ t. false≢true (sym first.closed ∙ is_open-more q (history b a) first.lock (rest, e) t)) in
          let sooner = refund_expiry-low d a (stated_terms d a) (is_open q) first.lock first.within closed in
          let least = first.height in
          let above : least_expiry d a (history b a) < y.0.now.height = y.0.above in
          let late : refund_expiry d a (stated_terms d a) (is_open q) < height y.0.past = omega arith in
          let z =
          refund_settles d a q y.0.past y.0.now p0.0 l m act.0 (act.1 ∙ sym out.1) p0.1 still
          (subst (λ t. refund_expiry d a t (is_open q) < height y.0.past) (sym (ap (λ z. z.terms) one ∙ right)) late) in
          false≢true (sym (ap is_some s) ∙ z)

      held_none : (s : Option Settlement) (p : Option Publication) → settled q ≡ s → published q ≡ p → IsLegal d a q → held q ≡ 0
      held_none (Some s) p e f l = ap (λ x. cond (is_some x) 0 (the_terms q).amount) e
      held_none None None e f l = ap (λ x. cond (is_some x) 0 (the_terms q).amount) e ∙ ap (λ q. (publication_terms q).amount) f
      held_none None (Some p) e f l = absurd (settles p f e l)

  -- Payments.

  record ClaimedBy (a : ℕ) : Type 0 where
    past : List Entry
    now : Entry
    stands : IsMoment (history b a) past now
    claims : accepted now ≡ Some Claim
    low : height past ≤ trigger_height d (history b a) + d.delta

  -- a correct and triggered arc is claimed within delta of its last unlock
  claimed_by : (a : ℕ) → IsElement a (entering d.graph v) → is_correct d b a ≡ true → is_triggered d b a ≡ true
      → trigger_height d (history b a) + d.delta < height (history b a) → ClaimedBy a
  unfolding keeps
  claimed_by a w right all_open passed =
      let in_arc = enters d v a w in
      let l = legal_at d b v conducted legal a in_arc.0 in
      let done =
      done_in_time d b v conducted legal ToClaim a (on_time ToClaim a (claim_rule d) (in_range a (length d.graph.arcs) in_arc.0))
      (trigger_height d (history b a)) (claim_enabled d b v legal conducted law a w right all_open) passed in
      let called : pick_call v done.now ≡ Some Claim = done.called ∙ ap Some (counted_claim d b v a done.now.height done.call done.counted) in
      let act = act_of d a (history b a) done.past done.now Claim v l done.stands called in
      let shown : triggered d done.past ≡ true = kept d b v conducted a done.past done.now Claim done.stands called in
      let o = is_some-of (opened done.past 0) (list_all-in (is_open done.past) (locks d) 0 shown (in_range 0 (length d.leaders) law.lock)) in
      let u = opened_done d a done.past 0 o.0 (legal-past d a (history b a) done.past done.now l done.stands) o.1 in
      let of_u = of_unlock d a u.0.past u.0.act.by o.0.key u.0.clear in
      let pub_past = published-past done.past u.0.past u.0.now of_u.contract u.0.stands of_u.published in
      let by : act.0.by ≡ counterparty d a = act.1 ∙ sym in_arc.1 in
      let c = claim_claims_by d a (history b a) done.past done.now of_u.contract l done.stands act.0 by pub_past shown in
      let at : done.now.height ≡ height done.past = act.0.at in
      let in_time : done.now.height ≤ trigger_height d (history b a) + d.delta = done.in_time in
      let low : c.now.height ≤ height done.past = c.height in
      let at_c : c.now.height ≡ height c.past = (clear_at d a (history b a) c.past c.now Claim l c.stands c.claims).0.at in
      record { past = c.past; now = c.now; stands = c.stands; claims = c.claims; low = omega arith }

  -- a front of a correct arc's history that was claimed has paid v
  paid_front : (a : ℕ) (q rest : List Entry) → IsElement a (entering d.graph v) → is_correct d b a ≡ true → history b a ≡ q ++ rest
      → settled q ≡ Some Claimed → balance d a q v ≡ amount d a
  paid_front a q rest w right e s =
      let in_arc = enters d v a w in
      let l = legal_front a q rest in_arc.0 e in
      let cl = (claimed_done d a q l s).1 in
      let of_c = of_claim d a cl.past cl.act.by cl.clear in
      let pub_q : published q ≡ Some of_c.contract = published-past q cl.past cl.now of_c.contract cl.stands of_c.published in
      let pub_w : published (history b a) ≡ Some of_c.contract =
      ap published e ∙ first_given_answer-front (λ e. publication e.height (accepted e)) q rest of_c.contract pub_q in
      let r = correct d b a right in
      let units : of_c.contract.terms.amount ≡ amount d a =
      ap (λ p. p.terms.amount) (same_Some of_c.contract r.contract (sym pub_w ∙ r.published)) ∙ ap (λ t. t.amount) r.terms in
      let p = whole_is_paid d a q l (gives in_arc.1) (of_c.contract, pub_q, units) s in
      ap (λ x. cond x (accounts d a q).party (accounts d a q).counterparty) (apart in_arc.0 in_arc.1 (v == party d a) refl) ∙ p
    where
      gives : counterparty d a ≡ v → NoTransferBack d a q
      gives f x to units i g =
          let n = moment_from_in (history b a) x (in_whole a q rest x e i) in
          conducted_gives_nothing_back d b v conducted a n.0 x to units w n.1 (ap (λ y. pick_call y x) (sym f) ∙ g)

      apart : a < length d.graph.arcs → counterparty d a ≡ v → (x : Bool) → (v == party d a) ≡ x → (v == party d a) ≡ false
      apart l f true e = absurd (k.ends.apart a l (sym (eqb-true v (party d a) e) ∙ sym f))
      apart l f false e = e

  paid : (a : ℕ) → IsElement a (entering d.graph v) → is_correct d b a ≡ true → is_triggered d b a ≡ true
      → HasAllAbove d b v a (trigger_height d (history b a) + d.delta)
  paid a w right all_open q rest e high =
      let l = legal_at d b v conducted legal a (enters d v a w).0 in
      let tall = below a q rest e in
      let c = claimed_by a w right all_open (omega arith) in
      let low = c.low in
      let m = in_front (history b a) c.past q rest c.now c.stands e (omega arith) in
      paid_front a q rest w right e (claimed (settled q) refl (settled-now q c.past c.now Claimed m (ap settling c.claims)) l)
    where
      claimed : (s : Option Settlement) → settled q ≡ s → is_some (settled q) ≡ true → IsLegal d a (history b a) → settled q ≡ Some Claimed
      claimed None f i l = absurd (false≢true (sym (ap is_some f) ∙ i))
      claimed (Some Claimed) f i l = f
      claimed (Some Refunded) f i l =
          absurd (refunded-untriggered d a (history b a) l (ap settled e
          ∙ first_given_answer-front (λ e. settling (accepted e)) q rest Refunded f) all_open)

pub on_time_has_units_by : OnTimeHasUnitsBy
on_time_has_units_by d b v k legal conducted on_time = record {
  refunds = back d b v k legal conducted on_time;
  refunds_end = λ a w shut. (expiry_within d b v a (times_law d k) w shut).1;
  paid = paid d b v k legal conducted on_time;
  paid_end = λ a w right all_open. trigger_ends d b v legal conducted (times_law d k) a w right;
}

pub on_time_is_whole : OnTimeIsWhole
on_time_is_whole d b v k legal entering_ended leaving_ended conducted on_time =
    let safe = every_book_is_safe d b v k legal entering_ended leaving_ended conducted on_time in (
      safe_is_whole d b v k legal conducted safe,
      λ unforged has a w q rest e high.
          let g = and_parts (is_correct d b a) (is_claim (settled (history b a))) (got_all d b v (safe.safe unforged) has a w) in
          let in_arc = enters d v a w in
          let c = (claimed_done d a (history b a) (legal_at d b v conducted legal a in_arc.0) (claimed_of (settled (history b a)) g.1)).1 in
          let t = triggered-past d (history b a) c.past c.now c.stands (of_claim d a c.past c.act.by c.clear).triggered in
          let ends = trigger_ends d b v legal conducted (times_law d k) a w g.0 in
          paid d b v k legal conducted on_time a w g.0 t q rest e (omega arith),
    )
