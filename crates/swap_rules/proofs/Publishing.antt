-- Where all conform, every arc is published in time with the correct terms.
use Rattle.std.proofs.Common.{le-leb, length-append, count_by, ◌≡◌, ℕ, suc, zero, ◌+◌, ◌<◌, ◌≤◌, ◌==◌, nat_lt, nat_le, true, false, cond}
use Rattle.std.proofs.Common.{not, if◌then◌else◌, ◌&&◌, ◌||◌, List, [], ◌∷◌, ◌++◌, length, Option, Some, None, is_some, refl, sym, ap, ◌∙◌, subst, inl}
use Rattle.std.proofs.Common.{inr, arith, eq-eqb, lt-ltb, le-ltb, mul-le-mul_right, ◌*◌}
use Rattle.std.proofs.lemmas.Bool.{false≢true}
use Rattle.swap_base.specs.Lists.{or_else, IsElement, IsMoment}
use Rattle.swap_base.proofs.Lists.{list_all-from, in_range, in_filter, and_both, greatest-below, first_given_answer-append, in_append, bool_or}
use Rattle.swap_digraph.specs.declared.deal.Deal.{Deal}
use Rattle.swap_digraph.specs.Graph.{is_path, last_is, ends, arcs, leaving, entering, is_listed, are_followers}
use Rattle.swap_digraph.specs.Deal.{party, counterparty, lock_leader, amount}
use Rattle.escrow_core.specs.declared.terms.Terms.{Terms}
use Rattle.escrow_core.specs.Terms.{stated_terms, same_terms}
use Rattle.ledger_core.specs.declared.entry.Call.TheVariants.{Publish}
use Rattle.ledger_core.specs.declared.entry.Entry.{Entry}
use Rattle.ledger_core.specs.History.{height, accepted, Publication, publication, published, settled, rows, IsLegal, accounts, held, balance, the_terms}
use Rattle.ledger_core.specs.History.{publication_terms}
use Rattle.ledger_core.specs.Book.{Histories, history, IsLegalBook}
use Rattle.swap_rules.specs.declared.finding.Rule.TheVariants.{Publish as ToPublish}
use Rattle.swap_rules.specs.Party.{is_arc_correct, is_correct, publication_height, is_good, is_ready, ready_height, leads_one, pick_call}
use Rattle.swap_rules.specs.Conduct.{is_publish, keeps}
use Rattle.swap_rules.specs.Late.{when, reference_height}
use Rattle.swap_rules.specs.Outcome.{is_claim, IsEnded}
use Rattle.swap_rules.specs.Accepted.{IsAccepted}
use Rattle.swap_rules.proofs.Words.{same_terms-refl, publish_rule, same_terms-true, enters, act_of, and_three, leaves}
use Rattle.swap_rules.proofs.Times.{TimesLaw}
use Rattle.swap_rules.proofs.Accepted.{times_law, arc_has, get_in}
use Rattle.ledger_core.proofs.Units.{units, settled-published}
use Rattle.ledger_core.proofs.History.{Act, published_done, height-past, published-past, legal-past, not-full, from_clear, accepted-now}
use Rattle.swap_rules.proofs.Refunds.{counterparty_empty, NoOwnTransfer, no_own_transfer, counted_publish}
use Rattle.swap_digraph.proofs.Paths.{path_snoc, suffix_from, followers-append, in-is_listed}
use Rattle.swap_rules.proofs.Graph.{height_below}
use Rattle.swap_rules.proofs.Calls.{kept, legal_at, own_publish, OwnPublish, done_in_time}
use Rattle.swap_rules.specs.Laws.{AllConform}
use Rattle.time_bounds.specs.Times as times

-- published with the correct terms at a height of at most t
pub record IsGoodBy (d : Deal) (b : Histories) (a t : ℕ) : Type 0 where
  pub contract : Publication
  pub published : published (history b a) ≡ Some contract
  pub correct : contract.terms ≡ stated_terms d a
  pub early : contract.height ≤ t

-- A correct publish of a party that has its amount is accepted, or one was before it.
publish_takes : (d : Deal) (a : ℕ) (h past : List Entry) (e : Entry) (t : Terms) → IsLegal d a h → (m : IsMoment h past e)
    → (act : Act d a past e (Publish t)) → act.by ≡ party d a → t.amount ≡ amount d a → NoOwnTransfer d a h
    → (p : Publication) × (published h ≡ Some p) × (p.height ≤ height past)
unfolding rows
publish_takes d a h past e t l m act by same_amount own = go (published past) refl
  where
    l0 : IsLegal d a past
    l0 = legal-past d a h past e l m

    go : (o : Option Publication) → published past ≡ o → (p : Publication) × (published h ≡ Some p) × (p.height ≤ height past)
    go (Some p) q =
        let done = published_done d a past p l0 q in
        let low = height-past past done.past done.now done.stands in
        let at = done.at in
        (p, published-past h past e p m q, omega arith)
    go None q =
        let s : settled past ≡ None = settled-published d a past l0 q in
        let z : (accounts d a past).counterparty ≡ 0 =
        counterparty_empty d a past l0 (λ x to units i. own x to units (subst (IsElement x) (sym m.1) (in_append past (e ∷ m.0) x (inl i))))
        (ap is_claim s) in
        let u = units d a past l0 in
        let total = u.total in
        let nothing : held past ≡ 0 = ap (λ x. cond (is_some x) 0 (the_terms past).amount) s ∙ ap (λ x. (publication_terms x).amount) q in
        let has : t.amount ≤ (accounts d a past).party = omega arith in
        let funds : nat_lt (balance d a past act.by) t.amount ≡ false =
        ap (λ x. nat_lt (cond x (accounts d a past).party (accounts d a past).counterparty) t.amount) (eq-eqb act.by (party d a) by)
        ∙ le-ltb (accounts d a past).party t.amount has in
        let took : accepted e ≡ Some (Publish t) = accepted-now e (Publish t) act.what (act.reply ∙ from_clear (rows d a past act.by (Publish t))
        (not-full d a past e (Publish t) act, (ap not (eq-eqb act.by (party d a) by), (ap is_some q, (funds, tt))))) in
        let new : Publication = record { height = e.height; terms = t } in
        let whole : published h ≡ Some new =
        ap published m.1 ∙ (first_given_answer-append (λ x. publication x.height (accepted x)) past (e ∷ m.0)
        ∙ (ap (λ x. or_else x (published (e ∷ m.0))) q ∙ ap (λ x. or_else (publication e.height x) (published m.0)) took)) in
        let at : e.height ≡ height past = act.at in
        (new, whole, omega arith)

module _ (d : Deal) (b : Histories) (k : IsAccepted d) (legal : IsLegalBook d b) (ended : IsEnded d b) (all : AllConform d b) where
  law : TimesLaw d
  law = times_law d k

  pub from_below : (a : ℕ) → a < length d.graph.arcs → party d a < d.graph.n
  from_below a l = (k.ends.from a l)

  pub leaves_own : (a : ℕ) → a < length d.graph.arcs → IsElement a (leaving d.graph (party d a))
  leaves_own a l = in_filter (λ x. (ends d.graph x).from == party d a) a (arcs d.graph) (in_range a (length d.graph.arcs) l) (eq-eqb _ _ refl)

  pub enters_own : (a : ℕ) → a < length d.graph.arcs → IsElement a (entering d.graph (counterparty d a))
  enters_own a l = in_filter (λ x. (ends d.graph x).to == counterparty d a) a (arcs d.graph) (in_range a (length d.graph.arcs) l) (eq-eqb _ _ refl)

  -- a party that may publish does so in time
  published_by : (u : ℕ) → u < d.graph.n → (a : ℕ) → IsElement a (leaving d.graph u) → (r : ℕ) → reference_height d b u ToPublish a ≡ Some r
      → r ≤ times.opening_deadline d.start d.delta d.bound → IsGoodBy d b a (r + d.delta)
  unfolding keeps
  published_by u below a w r enabled low =
      let c = all u below in
      let out = leaves d u a w in
      let l = legal_at d b u c.conducted legal a out.0 in
      let now_ended : times.horizon d.start d.delta d.bound < height (history b a) = ended a out.0 in
      let t1 = law.opens a 0 out.0 in
      let t2 = law.ends a 0 out.0 in
      let passed : r + d.delta < height (history b a) = omega arith in
      let x = done_in_time d b u c.conducted legal ToPublish a (c.on_time ToPublish a (publish_rule d) (in_range a (length d.graph.arcs) out.0)) r enabled passed in
      let pb = counted_publish d b u a x.now.height x.call x.counted in
      let called : pick_call u x.now ≡ Some (Publish pb.0) = x.called ∙ ap Some pb.1 in
      let act = act_of d a (history b a) x.past x.now (Publish pb.0) u l x.stands called in
      let q =
      and_three (same_terms pb.0 (stated_terms d a)) (count_by (λ e. is_publish (pick_call u e)) (history b a) == 1) (leads_one d u || is_ready d b u)
      (kept d b u c.conducted a x.past x.now (Publish pb.0) x.stands called) in
      let terms : pb.0 ≡ stated_terms d a = same_terms-true pb.0 (stated_terms d a) q.0 in
      let own = no_own_transfer d b u legal c.conducted a w in
      let got = publish_takes d a (history b a) x.past x.now pb.0 l x.stands act.0 (act.1 ∙ sym out.1) (ap (λ z. z.amount) terms) own in
      let at : x.now.height ≡ height x.past = act.0.at in
      let in_time = x.in_time in
      let early : got.0.height ≤ height x.past = got.2 in
      record { contract = got.0; published = got.1; correct = OwnPublish.correct (own_publish d b u c.conducted legal a got.0 w got.1); early = omega arith }

  pub good_of : (a t : ℕ) → t ≤ times.opening_deadline d.start d.delta d.bound → IsGoodBy d b a t → is_good d b a ≡ true
  good_of a t low g =
      let early = g.early in
      let is_low : g.contract.height ≤ times.opening_deadline d.start d.delta d.bound = omega arith in
      and_both (is_correct d b a) _ (ap (is_arc_correct d a) g.published ∙ (ap (λ x. same_terms x (stated_terms d a)) g.correct
      ∙ same_terms-refl (stated_terms d a)))
      (ap (λ x. nat_le (publication_height x) (times.opening_deadline d.start d.delta d.bound)) g.published
      ∙ le-leb g.contract.height (times.opening_deadline d.start d.delta d.bound) is_low)

  -- every path of followers that ends in u has at most m vertices
  abbrev Reach : ℕ → ℕ → Type 0
  Reach m u = (p : List ℕ) → is_path d.graph p ≡ true → are_followers d.leaders p ≡ true → last_is u p ≡ true → length p ≤ m

  -- an arc from x to u leads a path of followers on
  reach_back : (m x u c : ℕ) → c < length d.graph.arcs → party d c ≡ x → counterparty d c ≡ u → leads_one d u ≡ false → u < d.graph.n → Reach (suc m) u
      → Reach m x
  reach_back m x u c l e f lead below r p path followers last =
      let arc = arc_has d.graph c x u l e f in
      let fresh : IsElement u p → ⊥ = λ i.
      let s = suffix_from d.graph d.leaders p u x path last followers i in
      false≢true (sym (k.feedback u x s.part s.between s.followers) ∙ arc) in
      let more = path_snoc d.graph p x u path last arc below fresh in
      let n : length (p ++ u ∷ []) ≤ suc m = r (p ++ u ∷ []) more.0 (followers-append d.leaders p u followers lead) more.1 in
      let z : length (p ++ u ∷ []) ≡ length p + 1 = length-append p (u ∷ []) in
      omega arith

  height_bound : k.height ≤ d.bound
  height_bound =
      let first : IsElement (lock_leader d 0) d.leaders = get_in d.leaders 0 0 k.leaders.0 in
      let n = height_below d.graph d.leaders (lock_leader d 0) k.height first (k.leader 0 k.leaders.0) k.is_height in
      let some : 1 * (k.height + 1) ≤ length d.leaders * (k.height + 1) = mul-le-mul_right (k.height + 1) k.leaders.0 in
      let m = k.bound.0 in omega arith

  pub height_low : (m : ℕ) → m ≤ k.height → m * d.delta + d.delta ≤ times.opening_deadline d.start d.delta d.bound
  height_low m h =
      let e = height_bound in
      let f : m ≤ d.bound = omega arith in
      let g : m * d.delta ≤ d.bound * d.delta = mul-le-mul_right d.delta f in
      let s = k.start.0 in omega arith

  leader_by : (m u : ℕ) → u < d.graph.n → leads_one d u ≡ true → (a : ℕ) → IsElement a (leaving d.graph u) → IsGoodBy d b a ((m + 1) * d.delta)
  unfolding reference_height
  leader_by m u below lead a w =
      let on : (is_listed a (leaving d.graph u) && (leads_one d u || is_ready d b u)) ≡ true =
      and_both (is_listed a (leaving d.graph u)) _ (in-is_listed a (leaving d.graph u) w) (ap (λ x. x || is_ready d b u) lead) in
      let g =
      published_by u below a w 0 (ap (λ x. when x (if leads_one d u then 0 else ready_height d b u)) on
      ∙ ap (λ x. Some (cond x 0 (ready_height d b u))) lead) (omega arith) in
      let early = g.early in
      record { contract = g.contract; published = g.published; correct = g.correct; early = omega arith }

  -- a follower whose entering arcs are good by t publishes by t + delta
  follower_by : (t u : ℕ) → t ≤ times.opening_deadline d.start d.delta d.bound → u < d.graph.n → leads_one d u ≡ false
      → ((c : ℕ) → IsElement c (entering d.graph u) → IsGoodBy d b c t) → (a : ℕ) → IsElement a (leaving d.graph u) → IsGoodBy d b a (t + d.delta)
  unfolding reference_height ready_height is_ready
  follower_by t u low below lead goods a w =
      let ready : is_ready d b u ≡ true = list_all-from (is_good d b) (entering d.graph u) (λ c i. good_of c t low (goods c i)) in
      let g_low : ready_height d b u ≤ t = greatest-below (λ c. publication_height (published (history b c))) (entering d.graph u) t
      (λ c i. subst (λ z. publication_height z ≤ t) (sym (goods c i).published) (goods c i).early) in
      let on : (is_listed a (leaving d.graph u) && (leads_one d u || is_ready d b u)) ≡ true =
      and_both (is_listed a (leaving d.graph u)) _ (in-is_listed a (leaving d.graph u) w) (ap (λ x. x || is_ready d b u) lead ∙ ready) in
      let g =
      published_by u below a w (ready_height d b u) (ap (λ x. when x (if leads_one d u then 0 else ready_height d b u)) on
      ∙ ap (λ x. Some (cond x 0 (ready_height d b u))) lead) (omega arith) in
      let early = g.early in
      record { contract = g.contract; published = g.published; correct = g.correct; early = omega arith }

  good_by : (m : ℕ) → m ≤ k.height → (u : ℕ) → u < d.graph.n → Reach m u → (a : ℕ) → IsElement a (leaving d.graph u) → IsGoodBy d b a ((m + 1) * d.delta)
  good_by zero h u below r a w =
      elim (bool_or (leads_one d u)) [
        | inl lead ↦ leader_by zero u below lead a w
        | inr lead ↦ absurd (not_reached u below lead r)
      ]
    where
      not_reached : (u : ℕ) → u < d.graph.n → leads_one d u ≡ false → Reach zero u → ⊥
      not_reached u below lead r =
          let z : length (u ∷ []) ≤ 0 =
          r (u ∷ []) (lt-ltb u d.graph.n below) (and_both (not (is_listed u d.leaders)) true (ap not lead) refl) (eq-eqb u u refl) in omega arith
  good_by (suc m) h u below r a w =
      elim (bool_or (leads_one d u)) [
        | inl lead ↦ leader_by (suc m) u below lead a w
        | inr lead ↦
            let low : (m + 1) * d.delta ≤ times.opening_deadline d.start d.delta d.bound = (let z = height_low m (omega arith) in omega arith) in
            let g = follower_by ((m + 1) * d.delta) u low below lead (λ c i.
            let in_arc = enters d u c i in
            good_by m (omega arith) (party d c) (from_below c in_arc.0) (reach_back m (party d c) u c in_arc.0 refl in_arc.1 lead below r) c
            (leaves_own c in_arc.0)) a w in
            let early = g.early in
            record { contract = g.contract; published = g.published; correct = g.correct; early = omega arith }
      ]

  pub every_good : (a : ℕ) → a < length d.graph.arcs → IsGoodBy d b a ((k.height + 1) * d.delta)
  every_good a l = good_by k.height (omega arith) (party d a) (from_below a l) (λ p path followers last. k.is_height.most p path followers) a (leaves_own a l)
