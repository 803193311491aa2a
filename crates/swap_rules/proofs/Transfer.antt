-- Where all conform and nothing is found, every lock is opened in time, and every arc claimed.
use Rattle.std.proofs.Common.{length-append, count_by, ◌≡◌, ℕ, suc, zero, ◌+◌, ◌<◌, ◌≤◌, ◌==◌, nat_lt, Bool, true, false, cond, max, ◌&&◌, ◌||◌, IsTrue}
use Rattle.std.proofs.Common.{List, [], ◌∷◌, ◌++◌, length, Option, Some, None, is_some, refl, sym, ap, ◌∙◌, subst, inl, inr, arith, eqb-true, eq-eqb}
use Rattle.std.proofs.Common.{lt-ltb, mul-le-mul_right, ◌*◌, get_or}
use Rattle.std.specs.List.{list_any, flat_map}
use Rattle.std.proofs.lemmas.Bool.{false≢true}
use Rattle.std.proofs.lemmas.List.{get_or_default}
use Rattle.std.proofs.lemmas.Option.{same_Some}
use Rattle.std.proofs.lemmas.Bool.Decides.{nat_tests}
use Rattle.std.proofs.lemmas.List.Sums.{sum_by-cons}
use Rattle.swap_base.specs.Lists.{or_else, IsElement, IsMoment, greatest}
use Rattle.swap_base.proofs.Lists.{first_at, any_at, list_all-in, list_all-from, in_range, from_range, and_parts, greatest-below, in_from_moment}
use Rattle.swap_base.proofs.Lists.{moment_from_in, from_whole, grow, all_moments_front, first_given_answer-append, first_given_answer-front, in_append}
use Rattle.time_bounds.specs.Times.{need}
use Rattle.swap_digraph.specs.declared.deal.Mode.{Mode}
use Rattle.swap_digraph.specs.declared.deal.Deal.{Deal}
use Rattle.swap_digraph.specs.Value.{Graph}
use Rattle.swap_digraph.specs.declared.deal.Mode.TheVariants.{Timelocks, Hashkeys}
use Rattle.swap_digraph.specs.Graph.{ends, leaving, entering, IsConnectingPath, has_arc, IsFeedback}
use Rattle.swap_digraph.specs.Deal.{party, counterparty, locks, leads, lock_leader, amount, lock_hashlock, touches}
use Rattle.hashkey_path.specs.declared.hashkey.Hashkey.{Hashkey}
use Rattle.hashkey_path.specs.Hashkey.{same_key, is_valid}
use Rattle.ledger_core.specs.declared.entry.Call.{Call}
use Rattle.ledger_core.specs.declared.entry.Call.TheVariants.{Publish, Unlock, Claim, Refund, Transfer}
use Rattle.ledger_core.specs.declared.entry.Entry.{Entry}
use Rattle.ledger_core.specs.History.{height, accepted, Publication, publication, published, opened, settling, settled, is_open, triggered, IsLegal}
use Rattle.ledger_core.specs.History.{accounts, held, balance, IsLegalMoment, the_terms, publication_terms}
use Rattle.ledger_core.specs.declared.facts.Settlement.TheVariants.{Refunded}
use Rattle.ledger_core.specs.Book.{Histories, history, IsLegalBook}
use Rattle.swap_rules.specs.declared.finding.Rule.TheVariants.{Claim as ToClaim}
use Rattle.swap_rules.specs.declared.outcome.Outcome.TheVariants.{NoDeal, FreeRide, Underwater, Deal as WholeDeal, Discount}
use Rattle.swap_rules.specs.Party.{is_correct, publication_height, is_good, is_ready, ready_height, is_triggered, pick_call, unlock_hashkey, first_key}
use Rattle.swap_rules.specs.Party.{opens_without_party}
use Rattle.swap_rules.specs.Conduct.{is_first_key, keeps, IsConducted}
use Rattle.swap_rules.specs.Late.{is_used, height_of_opening, unlock_base, trigger_height}
use Rattle.swap_rules.specs.Outcome.{is_claim, is_got, got, lost, outcome, IsEnded}
use Rattle.swap_rules.specs.Accepted.{IsAccepted, HasTimelock, IsTimed}
use Rattle.swap_rules.specs.Laws.{IsOnTime, AllConform, IsClaimedInTime, AllIsTransferred}
use Rattle.swap_rules.proofs.Times.{TimeLaw, OfTimelocks, OfHashkeys, make_path, path_of_valid, PathOf, TimesLaw}
use Rattle.swap_rules.proofs.Accepted.{times_law, time_law, arc_has, get_in, one_leader}
use Rattle.swap_rules.proofs.Entering.{opens, Unlocked, trigger_ends, claims, DueUnlock, claim_enabled, correct_entering, call_due, unlocks_in_time}
use Rattle.swap_rules.proofs.Leaving.{Passing, is_known}
use Rattle.swap_rules.proofs.SafeTimelocks.{passing_timelocks}
use Rattle.swap_rules.proofs.SafeHashkeys.{passing_hashkeys, longer, used_below, extended_of, Extended}
use Rattle.swap_rules.proofs.Calls.{counted_claim, kept, legal_at, done_in_time}
use Rattle.swap_rules.proofs.Openings.{IsOpenBy, open_by_more, claim_claims_by, opened_once}
use Rattle.swap_rules.proofs.Publishing.{every_good, enters_own, leaves_own, from_below, good_of, height_low}
use Rattle.swap_rules.proofs.Words.{claim_rule, same_key-path, key_parts, and_five, enters, act_of, pick_call-act, leaves}
use Rattle.ledger_core.proofs.Units.{units, after, settled-published}
use Rattle.ledger_core.proofs.History.{done_at, opened_done, of_unlock, of_publish, of_claim, of_refund, clear_at, published-past, legal-past, is_some-of}
use Rattle.swap_rules.proofs.Refunds.{counterparty_empty, NoOwnTransfer, no_own_transfer, on_time_claims}
use Rattle.swap_digraph.proofs.Paths.{path_step, some_length}
use Rattle.leader_check.proofs.Bounds.{path_law}
use Rattle.swap_rules.proofs.Graph.{dist_falls}
use Rattle.time_bounds.specs.Times as times

-- an arc of the digraph from its ends
pub record ArcOf (g : Graph) (u v : ℕ) : Type 0 where
  pub arc : ℕ
  pub below : arc < length g.arcs
  pub from : (ends g arc).from ≡ u
  pub to : (ends g arc).to ≡ v

get_past : {A : Type 0} (past : List A) (x : A) (rest : List A) (z : A) → get_or (past ++ x ∷ rest) (length past) z ≡ x
get_past [] x rest z = refl
get_past (y ∷ past) x rest z = get_past past x rest z

parse_arc : (g : Graph) (u v : ℕ) → has_arc g u v ≡ true → ArcOf g u v
parse_arc g u v e =
    let f = any_at (λ a. (a.from == u) && (a.to == v)) g.arcs e in
    let k = and_parts (f.now.from == u) (f.now.to == v) f.passes in
    let at : ends g (length f.past) ≡ f.now =
    ap (λ l. get_or l (length f.past) (record { from = 0; to = 0 })) f.stands.1 ∙ get_past f.past f.now f.stands.0 (record { from = 0; to = 0 }) in
    let n : length g.arcs ≡ length (f.past ++ f.now ∷ f.stands.0) = ap length f.stands.1 in
    let m : length (f.past ++ f.now ∷ f.stands.0) ≡ length f.past + length (f.now ∷ f.stands.0) = length-append f.past (f.now ∷ f.stands.0) in
    record {
      arc = length f.past;
      below = omega arith;
      from = ap (λ a. a.from) at ∙ eqb-true f.now.from u k.0;
      to =
          ap (λ a. a.to) at ∙ eqb-true f.now.to v k.1;
    }

module _ (d : Deal) (b : Histories) (v : ℕ) (legal : IsLegalBook d b) (ended : IsEnded d b) (conducted : IsConducted d b v) (on_time : IsOnTime d b v)
    (law : TimesLaw d) (ready : is_ready d b v ≡ true) where
  -- a claim that is due is made by then
  claims_by : (a t : ℕ) → IsElement a (entering d.graph v) → is_triggered d b a ≡ true → trigger_height d (history b a) ≤ t → IsClaimedInTime (history b a) (t + d.delta)
  unfolding keeps
  claims_by a t w open_all early =
      let in_arc = enters d v a w in
      let l = legal_at d b v conducted legal a in_arc.0 in
      let now_ended : times.horizon d.start d.delta d.bound < height (history b a) = ended a in_arc.0 in
      let right = correct_entering d b v legal conducted law ready a w in
      let ends = trigger_ends d b v legal conducted law a w right in
      let passed : trigger_height d (history b a) + d.delta < height (history b a) = omega arith in
      let done =
      done_in_time d b v conducted legal ToClaim a (on_time ToClaim a (claim_rule d) (in_range a (length d.graph.arcs) in_arc.0))
      (trigger_height d (history b a)) (claim_enabled d b v legal conducted law a w right open_all) passed in
      let called : pick_call v done.now ≡ Some Claim = done.called ∙ ap Some (counted_claim d b v a done.now.height done.call done.counted) in
      let act = act_of d a (history b a) done.past done.now Claim v l done.stands called in
      let shown : triggered d done.past ≡ true = kept d b v conducted a done.past done.now Claim done.stands called in
      let o = is_some-of (opened done.past 0) (list_all-in (is_open done.past) (locks d) 0 shown (in_range 0 (length d.leaders) law.lock)) in
      let u = opened_done d a done.past 0 o.0 (legal-past d a (history b a) done.past done.now l done.stands) o.1 in
      let of_u = of_unlock d a u.0.past u.0.act.by o.0.key u.0.clear in
      let pub_past = published-past done.past u.0.past u.0.now of_u.contract u.0.stands of_u.published in
      let by : act.0.by ≡ counterparty d a = act.1 ∙ sym in_arc.1 in
      let c = claim_claims_by d a (history b a) done.past done.now of_u.contract l done.stands act.0 by pub_past shown in
      let at : done.now.height ≡ height done.past = act.0.at in
      let in_time : done.now.height ≤ trigger_height d (history b a) + d.delta = done.in_time in
      let at2 = c.height in
      record { past = c.past; now = c.now; stands = c.stands; claims = c.claims; height = omega arith }

leads_zero : (d : Deal) (v i : ℕ) → i < length d.leaders → lock_leader d i ≡ v → leads d v i ≡ true
leads_zero d v i l e = eq-eqb _ v (get_or_default d.leaders i d.graph.n 0 l ∙ e)

-- What a claim pays stays.
module _ (d : Deal) (a : ℕ) where
  abbrev NoTransfer : List Entry → Type 0
  NoTransfer h = (e : Entry) (to units : ℕ) → IsElement e h → accepted e ≡ Some (Transfer to units) → ⊥

  abbrev IsPaid : List Entry → Type 0
  IsPaid h =
      IsLegal d a h → NoOwnTransfer d a h → NoTransfer h → ((p : Publication) → published h ≡ Some p → p.terms.amount ≡ amount d a)
      → is_claim (settled h) ≡ true → (accounts d a h).counterparty ≡ amount d a

  settled-push : (h : List Entry) (e : Entry) (o : Option Call) → accepted e ≡ o → settled (h ++ e ∷ []) ≡ or_else (settled h) (or_else (settling o) None)
  settled-push h e o q = first_given_answer-append (λ e. settling (accepted e)) h (e ∷ []) ∙ ap (λ o. or_else (settled h) (or_else (settling o) None)) q

  or_none : {B : Type 0} (o : Option B) → or_else o None ≡ o
  or_none None = refl
  or_none (Some x) = refl

  paid_step : (h : List Entry) (e : Entry) (o : Option Call) → accepted e ≡ o → IsLegal d a (h ++ e ∷ []) → IsLegal d a h → NoOwnTransfer d a h
      → NoTransfer (h ++ e ∷ []) → ((p : Publication) → published h ≡ Some p → p.terms.amount ≡ amount d a)
      → is_claim (settled (h ++ e ∷ [])) ≡ true → (is_claim (settled h) ≡ true → (accounts d a h).counterparty ≡ amount d a)
      → (accounts d a (h ++ e ∷ [])).counterparty ≡ amount d a
  paid_step h e None q l l0 own n right c rest =
      ap (λ x. x.counterparty) (after d a h e e.sender None refl q) ∙ rest (ap is_claim (sym (settled-push h e None q ∙ or_none (settled h))) ∙ c)
  paid_step h e (Some (Unlock key)) q l l0 own n right c rest =
      ap (λ x. x.counterparty) (after d a h e e.sender (Some (Unlock key)) refl q)
      ∙ rest (ap is_claim (sym (settled-push h e (Some (Unlock key)) q ∙ or_none (settled h))) ∙ c)
  paid_step h e (Some (Publish t)) q l l0 own n right c rest =
      let z = clear_at d a (h ++ e ∷ []) h e (Publish t) l ([], refl) q in
      let s = settled-published d a h l0 (of_publish d a h z.0.by t z.1).first in
      absurd (false≢true (sym (ap is_claim (settled-push h e (Some (Publish t)) q ∙ ap (λ x. or_else x None) s)) ∙ c))
  paid_step h e (Some Refund) q l l0 own n right c rest =
      let z = clear_at d a (h ++ e ∷ []) h e Refund l ([], refl) q in
      let s = (of_refund d a h z.0.by z.1).unsettled in
      absurd (false≢true (sym (ap is_claim (settled-push h e (Some Refund) q ∙ ap (λ x. or_else x (Some Refunded)) s)) ∙ c))
  paid_step h e (Some Claim) q l l0 own n right c rest =
      let z = clear_at d a (h ++ e ∷ []) h e Claim l ([], refl) q in
      let of_c = of_claim d a h z.0.by z.1 in
      let none = counterparty_empty d a h l0 own (ap is_claim of_c.unsettled) in
      let u = units d a h l0 in
      let same = u.same in
      let held_is : held h ≡ of_c.contract.terms.amount =
      ap (λ x. cond (is_some x) 0 (the_terms h).amount) of_c.unsettled ∙ ap (λ x. (publication_terms x).amount) of_c.published in
      let is_amount = right of_c.contract of_c.published in
      ap (λ x. x.counterparty) (after d a h e e.sender (Some Claim) refl q) ∙ omega arith
  paid_step h e (Some (Transfer to units)) q l l0 own n right c rest = absurd (n e to units (in_append h (e ∷ []) e (inr (inl refl))) q)

  is_paid : (h : List Entry) → IsPaid h
  is_paid h = grow IsPaid h (λ l own n right c. absurd (false≢true c)) (λ xs x rest l own n right c.
      let l0 = all_moments_front (IsLegalMoment d a) xs (x ∷ []) l in
      let own0 = λ (e : Entry) (to units : ℕ) (i : IsElement e xs). own e to units (in_append xs (x ∷ []) e (inl i)) in
      let right0 = λ (p : Publication) (f : published xs ≡ Some p). right p (first_given_answer-front (λ x. publication x.height (accepted x)) xs (x ∷ []) p f) in
      paid_step xs x (accepted x) refl l l0 own0 n right0 c (λ c0. rest l0 own0 (λ e to units i. n e to units (in_append xs (x ∷ []) e (inl i))) right0 c0))

count_all : {A : Type 0} (p : A → Bool) (xs : List A) → ((x : A) → IsElement x xs → p x ≡ true) → count_by p xs ≡ length xs
count_all p [] h = refl
count_all p (x ∷ xs) h =
    let e : count_by p (x ∷ xs) ≡ cond (p x) 1 0 + count_by p xs = sum_by-cons (λ z. cond (p z) 1 0) x xs in
    let f : ◌≡◌ {A = ℕ} (cond (p x) 1 0) 1 = ap (λ q. cond {A = ℕ} q 1 0) (h x (inl refl)) in
    let g = count_all p xs (λ y i. h y (inr i)) in
    omega arith

in_length : {A : Type 0} (x : A) (xs : List A) → IsElement x xs → 0 < length xs
in_length x [] i = absurd i
in_length x (y ∷ xs) i = omega arith

module _ (d : Deal) (b : Histories) (k : IsAccepted d) (legal : IsLegalBook d b) (ended : IsEnded d b) (all : AllConform d b) where
  to_below : (a : ℕ) → a < length d.graph.arcs → counterparty d a < d.graph.n
  to_below a l = (k.ends.to a l)

  all_ready : (v : ℕ) → is_ready d b v ≡ true
  unfolding is_ready
  all_ready v = list_all-from (is_good d b) (entering d.graph v) (λ a w.
      let z = height_low d b k legal ended all k.height (omega arith) in
      good_of d b k legal ended all a ((k.height + 1) * d.delta) (omega arith) (every_good d b k legal ended all a (enters d v a w).0))

  g_by : (v : ℕ) → ready_height d b v ≤ (k.height + 1) * d.delta
  unfolding ready_height
  g_by v = greatest-below (λ a. publication_height (published (history b a))) (entering d.graph v) ((k.height + 1) * d.delta) (λ a w.
      let g = every_good d b k legal ended all a (enters d v a w).0 in
      subst (λ z. publication_height z ≤ (k.height + 1) * d.delta) (sym g.published) g.early)

  passing : (v : ℕ) → v < d.graph.n → Passing d b v
  passing v below = go (time_law d k)
    where
      go : TimeLaw d → Passing d b v
      go (OfTimelocks law) = let c = all v below in passing_timelocks d b v legal c.conducted law c.unforged
      go (OfHashkeys law) = let c = all v below in passing_hashkeys d b v legal c.conducted law c.unforged

  unlocked : (v : ℕ) → v < d.graph.n → (a i : ℕ) → IsElement a (entering d.graph v) → i < length d.leaders → is_known d b v i ≡ true
      → (due : DueUnlock d b v a i) × Unlocked d b v a i (due.ref + d.delta)
  unlocked v below a i w l known =
      let c = all v below in
      let due = (passing v below).due (all_ready v) a i w l known in (
        due,
        opens d b v legal c.conducted (times_law d k) (all_ready v) a i (due.ref + d.delta) w
            (λ j m e.
            let own = (passing v below).due (all_ready v) a j w m
            (ap (λ x. x || is_some (first_key b v j) || list_any (λ c. opens_without_party v (opened (history b c) j)) (leaving d.graph v)) e) in
            (own.ref + d.delta, call_due d b v legal (λ a w. ended a (enters d v a w).0) c.conducted (unlocks_in_time d b v c.on_time) a j w own))
            (call_due d b v legal (λ a w. ended a (enters d v a w).0) c.conducted (unlocks_in_time d b v c.on_time) a i w due),
      )

  -- Along a path to the leader every entering arc is opened.
  opens_along : (p : List ℕ) (v : ℕ) → v < d.graph.n → (i : ℕ) → i < length d.leaders → IsConnectingPath d.graph v (lock_leader d i) p → (a : ℕ)
      → IsElement a (entering d.graph v) → is_open (history b a) i ≡ true
  opens_along [] v below i l path a w = absurd (cc path.0)
  opens_along (u ∷ []) v below i l path a w =
      let lead : leads d v i ≡ true = leads_zero d v i l (sym (eqb-true u _ path.2) ∙ eqb-true u v path.1) in
      let known : is_known d b v i ≡ true =
      ap (λ x. x || is_some (first_key b v i) || list_any (λ c. opens_without_party v (opened (history b c) i)) (leaving d.graph v)) lead in
      let r = unlocked v below a i w l known in
      ap is_some r.1.opening_deadline.opened
  opens_along (u ∷ y ∷ p) v below i l path a w =
      let s = path_step d.graph u y p path.0 in
      let arc = parse_arc d.graph u y s.arc in
      let from : party d arc.arc ≡ v = arc.from ∙ eqb-true u v path.1 in
      let open_there = opens_along (y ∷ p) y (subst (λ z. z < d.graph.n) arc.to (to_below arc.arc arc.below)) i l (s.rest, eq-eqb y y refl, path.2) arc.arc
      (subst (λ z. IsElement arc.arc (entering d.graph z)) arc.to (enters_own d b k legal ended all arc.arc arc.below)) in
      let known =
      (passing v below).known arc.arc i (subst (λ z. IsElement arc.arc (leaving d.graph z)) from (leaves_own d b k legal ended all arc.arc arc.below))
      open_there in
      ap is_some (unlocked v below a i w l known).1.opening_deadline.opened

  path_to : (v l : ℕ) → v < d.graph.n → l < d.graph.n → (p : List ℕ) × IsConnectingPath d.graph v l p
  path_to v l below lb = go (v == l) refl
    where
      go : (x : Bool) → (v == l) ≡ x → (p : List ℕ) × IsConnectingPath d.graph v l p
      go true e = (v ∷ [], (lt-ltb v d.graph.n below, eq-eqb v v refl, e))
      go false e = k.strong v l below lb (λ q. false≢true (sym e ∙ eq-eqb v l q))

  opens_everywhere : (a i : ℕ) → a < length d.graph.arcs → i < length d.leaders → is_open (history b a) i ≡ true
  opens_everywhere a i la li =
      let v = counterparty d a in
      let path = path_to (counterparty d a) (lock_leader d i) (to_below a la) (k.leader i li) in
      opens_along path.0 (counterparty d a) (to_below a la) i li path.1 a (enters_own d b k legal ended all a la)

  -- every party but the leader has a leaving arc, so it knows each lock
  all_known : (v : ℕ) → v < d.graph.n → (i : ℕ) → i < length d.leaders → is_known d b v i ≡ true
  all_known v below i l =
      let path = path_to v (lock_leader d i) below (k.leader i l) in
      go path.0 path.1
    where
      go : (p : List ℕ) → IsConnectingPath d.graph v (lock_leader d i) p → is_known d b v i ≡ true
      go [] path = absurd (cc path.0)
      go (u ∷ []) path =
          let lead : leads d v i ≡ true = leads_zero d v i l (sym (eqb-true u _ path.2) ∙ eqb-true u v path.1) in
          ap (λ x. x || is_some (first_key b v i) || list_any (λ c. opens_without_party v (opened (history b c) i)) (leaving d.graph v)) lead
      go (u ∷ y ∷ p) path =
          let s = path_step d.graph u y p path.0 in
          let arc = parse_arc d.graph u y s.arc in
          let from : party d arc.arc ≡ v = arc.from ∙ eqb-true u v path.1 in
          (passing v below).known arc.arc i (subst (λ z. IsElement arc.arc (leaving d.graph z)) from (leaves_own d b k legal ended all arc.arc arc.below))
          (opens_everywhere arc.arc i arc.below l)

  -- where v's ref height is low, v's entering arcs are opened by then
  opened_by_ref : (v : ℕ) → v < d.graph.n → (a i t : ℕ) → IsElement a (entering d.graph v) → i < length d.leaders
      → (leads d v i ≡ true → ready_height d b v ≤ t) → (leads d v i ≡ false → max (ready_height d b v) (unlock_base d.mode d b v i (first_key b v i)) ≤ t)
      → IsOpenBy (history b a) i (t + d.delta)
  opened_by_ref v below a i t w l if_lead if_not =
      let r = unlocked v below a i w l (all_known v below i l) in
      let low : r.0.ref ≤ t = go (leads d v i) refl r.0.value in
      open_by_more (history b a) i (r.0.ref + d.delta) (t + d.delta) (omega arith) r.1.opening_deadline
    where
      go : (x : Bool) → leads d v i ≡ x → {n : ℕ}
          → n ≡ cond (leads d v i) (ready_height d b v) (max (ready_height d b v) (unlock_base d.mode d b v i (first_key b v i))) → n ≤ t
      go true e q = let z =
          if_lead e in let y : cond (leads d v i) (ready_height d b v) (max (ready_height d b v) (unlock_base d.mode d b v i (first_key b v i)))
          ≡ ready_height d b v = ap (λ x. cond x (ready_height d b v) (max (ready_height d b v) (unlock_base d.mode d b v i (first_key b v i)))) e in
          omega arith
      go false e q = let z = if_not e in
          let y : cond (leads d v i) (ready_height d b v) (max (ready_height d b v) (unlock_base d.mode d b v i (first_key b v i)))
          ≡ max (ready_height d b v) (unlock_base d.mode d b v i (first_key b v i)) =
          ap (λ x. cond x (ready_height d b v) (max (ready_height d b v) (unlock_base d.mode d b v i (first_key b v i)))) e in omega arith

  -- The heights, with T the time that the path takes.

  abbrev by_height : ℕ → ℕ
  by_height m = (k.height + 1 + m) * d.delta

  by_next : (m : ℕ) → by_height m + d.delta ≡ by_height (suc m)
  by_next m = omega arith

  by_mono : (m n : ℕ) → m ≤ n → by_height m ≤ by_height n
  by_mono m n l = mul-le-mul_right d.delta (let z : k.height + 1 + m ≤ k.height + 1 + n = omega arith in z)

  by_g : (v m : ℕ) → ready_height d b v ≤ by_height m
  by_g v m = let e = g_by v in let f = by_mono 0 m (omega arith) in let z : by_height 0 ≡ (k.height + 1) * d.delta = omega arith in omega arith

  base_max : d.mode ≡ Timelocks → (v t : ℕ) → ready_height d b v ≤ t → ((c : ℕ) → IsElement c (leaving d.graph v) → IsOpenBy (history b c) 0 t)
      → max (ready_height d b v) (unlock_base d.mode d b v 0 (first_key b v 0)) ≤ t
  base_max mode v t g opens =
      let e : unlock_base d.mode d b v 0 (first_key b v 0) ≡ greatest (λ a. height_of_opening (opened (history b a) 0)) (leaving d.graph v) =
      ap (λ m. unlock_base m d b v 0 (first_key b v 0)) mode in
      let low : greatest (λ a. height_of_opening (opened (history b a) 0)) (leaving d.graph v) ≤ t =
      greatest-below (λ a. height_of_opening (opened (history b a) 0)) (leaving d.graph v) t
      (λ c z. subst (λ q. height_of_opening q ≤ t) (sym (opens c z).opened) (opens c z).early) in
      omega arith

  -- Timelocks: by the distance of the counterparty.
  fall : IsTimed Timelocks d → (a c : ℕ) → a < length d.graph.arcs → c < length d.graph.arcs → party d c ≡ counterparty d a
      → leads d (counterparty d a) 0 ≡ false → (x : HasTimelock d a) (y : HasTimelock d c) → y.dist + 1 ≤ x.dist
  fall timed a c la lc e f x y =
      let v = counterparty d a in
      let follower : counterparty d a ≡ lock_leader d 0 → ⊥ = λ q. false≢true (sym f ∙ leads_zero d (counterparty d a) 0 k.leaders.0 (sym q)) in
      dist_falls d.graph (lock_leader d 0) (subst (IsFeedback d.graph) (one_leader d.leaders timed.0) k.feedback) (counterparty d a) (counterparty d c)
      x.dist y.dist (to_below a la)
      (arc_has d.graph c (counterparty d a) (counterparty d c) lc e refl) follower x.is_dist y.is_dist

  by_dist : d.mode ≡ Timelocks → IsTimed Timelocks d → (m : ℕ) → (a : ℕ) → a < length d.graph.arcs → (x : HasTimelock d a) → x.dist ≤ m
      → IsOpenBy (history b a) 0 (by_height (suc m))
  by_dist mode timed zero a la x low =
      subst (λ z. IsOpenBy (history b a) 0 z) (by_next zero)
      (opened_by_ref (counterparty d a) (to_below a la) a 0 (by_height zero) (enters_own d b k legal ended all a la) k.leaders.0 (λ e.
      by_g (counterparty d a) zero) (λ e. base_max mode (counterparty d a) (by_height zero) (by_g (counterparty d a) zero) (λ c z.
      let out = leaves d (counterparty d a) c z in
      let f = fall timed a c la out.0 out.1 e x (timed.1 c out.0) in absurd (omega arith))))
  by_dist mode timed (suc m) a la x low =
      subst (λ z. IsOpenBy (history b a) 0 z) (by_next (suc m))
      (opened_by_ref (counterparty d a) (to_below a la) a 0 (by_height (suc m)) (enters_own d b k legal ended all a la) k.leaders.0 (λ e.
      by_g (counterparty d a) (suc m)) (λ e. base_max mode (counterparty d a) (by_height (suc m)) (by_g (counterparty d a) (suc m)) (λ c z.
      let out = leaves d (counterparty d a) c z in
      let f = fall timed a c la out.0 out.1 e x (timed.1 c out.0) in
      by_dist mode timed m c out.0 (timed.1 c out.0) (omega arith))))

  -- Hashkeys: by the length of the path that the party signs.

  -- the hashkey of a party's first unlock call has a path to the leader
  first_key_path : d.mode ≡ Hashkeys → (v : ℕ) → v < d.graph.n → (i : ℕ) → (key : Hashkey) → first_key b v i ≡ Some key
      → (a : ℕ) × PathOf d a key × (key.lock ≡ i)
  unfolding first_key keeps
  first_key_path mode v below i key e =
      let c = all v below in
      let f = first_at (λ e. unlock_hashkey i (pick_call v e)) (flat_map (λ h. h) b) key e in
      let parts = key_parts i (pick_call v f.now) key f.gives in
      let w = from_whole b f.now (subst (IsElement f.now) (sym f.stands.1) (in_from_moment f.past f.now f.stands.0)) in
      let m = moment_from_in (history b w.0) f.now w.2 in
      let q =
      and_five (is_some (published m.0)) (is_ready d b v) (is_first_key (first_key b v key.lock) key) (is_valid d w.0 (lock_hashlock d key.lock) key)
      _ (kept d b v c.conducted w.0 m.0 f.now (Unlock key) m.1 parts.0) in
      (w.0, make_path d w.0 key mode (path_of_valid d w.0 (lock_hashlock d key.lock) key q.3), parts.1)

  first_kept : (v : ℕ) → v < d.graph.n → (a : ℕ) (past : List Entry) (e : Entry) (key : Hashkey) → IsMoment (history b a) past e
      → pick_call v e ≡ Some (Unlock key) → is_first_key (first_key b v key.lock) key ≡ true
  unfolding keeps
  first_kept v below a past e key m called =
      let c = all v below in
      (and_five (is_some (published past)) (is_ready d b v) (is_first_key (first_key b v key.lock) key) _ _
      (kept d b v c.conducted a past e (Unlock key) m called)).2

  some_first : (o : Option Hashkey) (key : Hashkey) → is_first_key o key ≡ true → (first : Hashkey) × (o ≡ Some first) × (same_key first key ≡ true)
  some_first None key e = absurd (cc e)
  some_first (Some first) key e = (first, refl, e)

  by_key : d.mode ≡ Hashkeys → (m : ℕ) → (v : ℕ) → v < d.graph.n → (i : ℕ) → i < length d.leaders → (key : Hashkey) → first_key b v i ≡ Some key
      → length key.path ≤ m → (a : ℕ) → IsElement a (entering d.graph v) → IsOpenBy (history b a) i (by_height m)
  by_key mode zero v below i l key e short a w =
      let p = first_key_path mode v below i key e in
      let some = some_length d.graph key.path p.1.path in absurd (omega arith)
  by_key mode (suc m) v below i l key e short a w =
      subst (λ z. IsOpenBy (history b a) i z) (by_next m) (opened_by_ref v below a i (by_height m) w l (λ q. by_g v m) (λ q.
      let g = by_g v m in
      let low : unlock_base d.mode d b v i (first_key b v i) ≤ by_height m =
      subst (λ z. z ≤ by_height m) (sym (ap (λ z. unlock_base z d b v i (first_key b v i)) mode ∙ ap (unlock_base Hashkeys d b v i) e))
      (used_below d b v (is_used d b v i (Some key)) (by_height m) (λ a past e w q z.
      base e.height (extended_of d b v key a past e w q z) (λ x y z kx ky kz. by_key mode m x y i l z kx ky kz))) in
      omega arith))
    where
      base : (t : ℕ) → Extended d b v key t
          → ((x : ℕ) → x < d.graph.n → (key : Hashkey) → first_key b x i ≡ Some key → length key.path ≤ m → (a : ℕ) → IsElement a (entering d.graph x)
          → IsOpenBy (history b a) i (by_height m)) → t ≤ by_height m
      base t x rest =
          let c = all v below in
          let out = leaves d v x.arc x.leaves in
          let la = legal_at d b v c.conducted legal x.arc out.0 in
          let done = done_at d x.arc (history b x.arc) x.past x.now (Unlock x.inner) t la x.stands x.took x.height in
          let of_u = of_unlock d x.arc done.past done.act.by x.inner done.clear in
          let y = counterparty d x.arc in
          let called = pick_call-act d x.arc done.past done.now (Unlock x.inner) (counterparty d x.arc) done.act of_u.counterparty in
          let rule = first_kept (counterparty d x.arc) (to_below x.arc out.0) x.arc done.past done.now x.inner done.stands called in
          let first = some_first (first_key b (counterparty d x.arc) x.inner.lock) x.inner rule in
          let same = same_key-path first.0 x.inner first.2 in
          let long = longer key v x.inner key.path key.sigs key x.extends in
          let lock : x.inner.lock ≡ i = long.1 ∙ (first_key_path mode v below i key e).2 in
          let n1 : length key.path ≡ suc (length x.inner.path) = long.0 in
          let n2 : length first.0.path ≡ length x.inner.path = ap length same.1 in
          let o =
          rest (counterparty d x.arc) (to_below x.arc out.0) first.0 (subst (λ j. first_key b (counterparty d x.arc) j ≡ Some first.0) lock first.1)
          (omega arith) x.arc (enters_own d b k legal ended all x.arc out.0) in
          let once = opened_once d x.arc (history b x.arc) i t x.inner o.opening la done lock o.opened in
          let early = o.early in
          omega arith

  -- Every lock is opened everywhere by the time that a longest path takes.
  abbrev span : ℕ
  span = need d.graph.n (length d.leaders) k.height

  open_by_span : (a i : ℕ) → a < length d.graph.arcs → i < length d.leaders → IsOpenBy (history b a) i (by_height (suc span))
  open_by_span a i la li = go d.mode refl
    where
      go : (m : Mode) → d.mode ≡ m → IsOpenBy (history b a) i (by_height (suc span))
      go Timelocks e =
          let timed = subst (λ q. IsTimed q d) e k.timed in
          let x = timed.1 a la in
          let p = x.is_dist.reached in
          let z = path_law d.graph d.leaders k.height k.is_height p.0 (lock_leader d 0) p.1.0 p.1.2 (get_in d.leaders 0 0 k.leaders.0) in
          let q = p.2 in
          let one : length d.leaders ≡ 1 = timed.0 in
          let first : i ≡ 0 = omega arith in
          subst (λ j. IsOpenBy (history b a) j (by_height (suc span))) (sym first) (by_dist e timed span a la x (omega arith))
      go Hashkeys e =
          let v = counterparty d a in
          let r =
          unlocked (counterparty d a) (to_below a la) a i (enters_own d b k legal ended all a la) li
          (all_known (counterparty d a) (to_below a la) i li) in
          let first = some_first (first_key b (counterparty d a) i) r.1.key r.1.first in
          let p = first_key_path e (counterparty d a) (to_below a la) i first.0 first.1 in
          let low =
          path_law d.graph d.leaders k.height k.is_height first.0.path (lock_leader d first.0.lock) p.1.path p.1.last
          (get_in d.leaders first.0.lock 0 (subst (λ j. j < length d.leaders) (sym p.2) li)) in
          by_key e (suc span) (counterparty d a) (to_below a la) i li first.0 first.1 (omega arith) a (enters_own d b k legal ended all a la)

  all_triggered : (a : ℕ) → a < length d.graph.arcs → is_triggered d b a ≡ true
  all_triggered a la = list_all-from (is_open (history b a)) (locks d) (λ i z. opens_everywhere a i la (from_range i (length d.leaders) z))

  claimed_in_time : (a : ℕ) → a < length d.graph.arcs → IsClaimedInTime (history b a) ((k.height + span + 3) * d.delta)
  claimed_in_time a la =
      let c = all (counterparty d a) (to_below a la) in
      let low : trigger_height d (history b a) ≤ by_height (suc span) =
      greatest-below (λ i. height_of_opening (opened (history b a) i)) (locks d) (by_height (suc span))
      (λ i z. let o = open_by_span a i la (from_range i (length d.leaders) z) in
      subst (λ q. height_of_opening q ≤ by_height (suc span)) (sym o.opened) o.early) in
      let r =
      claims_by d b (counterparty d a) legal ended c.conducted c.on_time (times_law d k) (all_ready (counterparty d a)) a (by_height (suc span))
      (enters_own d b k legal ended all a la) (all_triggered a la) low in
      let early = r.height in
      record { past = r.past; now = r.now; stands = r.stands; claims = r.claims; height = omega arith }

  -- No call is a transfer.
  no_transfer : (a : ℕ) → a < length d.graph.arcs → (past : List Entry) (e : Entry) (to units : ℕ) → IsMoment (history b a) past e
      → accepted e ≡ Some (Transfer to units) → ⊥
  unfolding keeps
  no_transfer a la past e to units m q =
      let act = (clear_at d a (history b a) past e (Transfer to units) (legal.legal a (rw legal.one_each la)) m q).0 in
      let below : act.by < d.graph.n = by_below act.by act.of_the_two in
      let c = all act.by below in
      false≢true (kept d b act.by c.conducted a past e (Transfer to units) m (pick_call-act d a past e (Transfer to units) act.by act refl))
    where
      by_below : (p : ℕ) → IsTrue (touches d p a) → p < d.graph.n
      by_below p h = go (p == party d a) refl h
        where
          go : (x : Bool) → (p == party d a) ≡ x → (x || (p == counterparty d a)) ≡ true → p < d.graph.n
          go true e h = rw (eqb-true p (party d a) e) (from_below d b k legal ended all a la)
          go false e h = rw (eqb-true p (counterparty d a) h) (to_below a la)

  gets : (v : ℕ) → v < d.graph.n → (a : ℕ) → IsElement a (entering d.graph v) → is_got d b a ≡ true
  gets v below a w = let c =
      all v below in claims d b v legal c.conducted (times_law d k) (all_ready v)
      (on_time_claims d b v legal (λ a w. ended a (enters d v a w).0) c.conducted (times_law d k) c.on_time) a w (all_triggered a (enters d v a w).0)

  paid : (a : ℕ) → a < length d.graph.arcs → balance d a (history b a) (counterparty d a) ≡ amount d a
  paid a la =
      let c = all (party d a) (from_below d b k legal ended all a la) in
      let own : NoOwnTransfer d a (history b a) =
      no_own_transfer d b (party d a) legal c.conducted a (leaves_own d b k legal ended all a la) in
      let g = every_good d b k legal ended all a la in
      let claim =
      (and_parts (is_correct d b a) (is_claim (settled (history b a)))
      (gets (counterparty d a) (to_below a la) a (enters_own d b k legal ended all a la))).1 in
      let p = is_paid d a (history b a) (legal.legal a (rw legal.one_each la)) own
      (λ e to units i q. let m = moment_from_in (history b a) e i in no_transfer a la m.0 e to units m.1 q)
      (λ p e. ap (λ z. z.terms.amount) (same_Some p g.contract (sym e ∙ g.published)) ∙ ap (λ z. z.amount) g.correct) claim in
      ap (λ x. cond x (accounts d a (history b a)).party (accounts d a (history b a)).counterparty) (apart (counterparty d a == party d a) refl) ∙ p
    where
      apart : (x : Bool) → (counterparty d a == party d a) ≡ x → (counterparty d a == party d a) ≡ false
      apart true e = absurd (k.ends.apart a la (sym (eqb-true _ _ e)))
      apart false e = e

  other : (v : ℕ) → (u : ℕ) × (u < d.graph.n) × ((v == u) ≡ false)
  other v = go (v == 0) refl
    where
      go : (x : Bool) → (v == 0) ≡ x → (u : ℕ) × (u < d.graph.n) × ((v == u) ≡ false)
      go true e = let n = k.parties.0 in (1, omega arith, ap (λ z. z == 1) (eqb-true v 0 e))
      go false e = let n = k.parties.0 in (0, omega arith, e)

  some_leaving : (v : ℕ) → v < d.graph.n → 0 < length (leaving d.graph v)
  some_leaving v below =
      let u = other v in
      let path = path_to v u.0 below u.1 in
      go u.0 path.0 path.1 u.2
    where
      go : (u : ℕ) → (p : List ℕ) → IsConnectingPath d.graph v u p → (v == u) ≡ false → 0 < length (leaving d.graph v)
      go u [] path n = absurd (cc path.0)
      go u (x ∷ []) path n = absurd (false≢true (sym n ∙ (ap (λ z. z == u) (sym (eqb-true x v path.1)) ∙ path.2)))
      go u (x ∷ y ∷ p) path n =
          let arc = parse_arc d.graph x y (path_step d.graph x y p path.0).arc in
          in_length arc.arc (leaving d.graph v) (subst (λ z. IsElement arc.arc (leaving d.graph z)) (arc.from
          ∙ eqb-true x v path.1) (leaves_own d b k legal ended all arc.arc arc.below))

  whole : (v : ℕ) → v < d.graph.n → outcome d b v ≡ WholeDeal
  unfolding outcome
  whole v below =
      let l : lost d b v ≡ length (leaving d.graph v) = count_all (is_triggered d b) (leaving d.graph v) (λ a w. all_triggered a (leaves d v a w).0) in
      let g : got d b v ≡ length (entering d.graph v) = count_all (is_got d b) (entering d.graph v) (gets v below) in
      let some = some_leaving v below in
      outcome_whole (lost d b v) (got d b v) (length (leaving d.graph v)) (length (entering d.graph v)) l g some
    where
      outcome_whole : (l g outs ins : ℕ) → l ≡ outs → g ≡ ins → 0 < outs
          → cond (l == 0) (cond (g == 0) NoDeal FreeRide) (cond (nat_lt g ins) Underwater (cond (l == outs) WholeDeal Discount)) ≡ WholeDeal
      outcome_whole l g outs ins e f h =
          let a1 : (l == 0) ≡ false = grind (arith, nat_tests) in
          let a2 : nat_lt g ins ≡ false = grind (arith, nat_tests) in
          let a3 : (l == outs) ≡ true = eq-eqb l outs e in
          rw (a1, a2, a3) refl

pub all_is_transferred : AllIsTransferred
all_is_transferred d b k legal ended all = record {
  claimed = λ a la. claimed_in_time d b k legal ended all a la;
  paid = λ a la. paid d b k legal ended all a la;
  whole = λ v below. whole d b k legal ended all v below;
}
