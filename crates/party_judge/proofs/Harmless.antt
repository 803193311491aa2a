-- A late publish is harmless exactly where it could only hurt.
use Rattle.std.proofs.Common.{◌≡◌, ◌≢◌, ◌⊎◌, ℕ, ◌+◌, ◌<◌, ◌≤◌, nat_le, nat_lt, Bool, true, false, cond, not, ◌&&◌, ◌||◌, if◌then◌else◌, List, [], ◌∷◌, ◌++◌}
use Rattle.std.proofs.Common.{length, filter, set, Option, Some, None, refl, sym, ap, ◌∙◌, subst, inl, inr, arith, leb-true, le-leb}
use Rattle.std.specs.Prelude.{filter_map}
use Rattle.std.specs.List.{list_any, list_all, range_with_len, flat_map, cons_option}
use Rattle.std.proofs.lemmas.Bool.{false≢true}
use Rattle.time_bounds.specs.Times as times
use Rattle.swap_base.specs.Lists.{IsElement, Moment, moments}
use Rattle.swap_base.proofs.Lists.{and_parts, and_both, from_append, in_append, in_flat_map, list_all-in, list_all-from}
use Rattle.swap_digraph.specs.declared.deal.Deal.{Deal}
use Rattle.swap_digraph.specs.Graph.{arcs, ends, leaving, entering, is_listed}
use Rattle.swap_digraph.specs.Deal.{party, counterparty, locks}
use Rattle.swap_digraph.proofs.Paths.{is_listed-true}
use Rattle.hashkey_path.specs.declared.hashkey.Hashkey.{Hashkey}
use Rattle.escrow_core.specs.Terms.{stated_terms}
use Rattle.ledger_core.specs.declared.entry.Call.{Call}
use Rattle.ledger_core.specs.declared.entry.Call.TheVariants.{Publish, Unlock, Claim, Refund, Transfer}
use Rattle.ledger_core.specs.declared.entry.Entry.{Entry}
use Rattle.ledger_core.specs.History.{height, published}
use Rattle.ledger_core.specs.Book.{Histories, history, IsLegalBook}
use Rattle.swap_rules.specs.declared.finding.Finding.{Finding}
use Rattle.swap_rules.specs.declared.finding.Finding.TheVariants.{Broke, Late, Forged, Unfinished}
use Rattle.swap_rules.specs.declared.finding.Rule.{Rule}
use Rattle.swap_rules.specs.declared.finding.Rule.TheVariants.{Publish as ToPublish, Unlock as ToUnlock, Claim as ToClaim, Refund as ToRefund}
use Rattle.swap_rules.specs.Accepted.{IsAccepted}
use Rattle.swap_rules.specs.Party.{is_arc_correct, is_good, is_ready, leads_one, pick_call, publication_height, ready_height}
use Rattle.swap_rules.specs.Conduct.{is_publish, keeps_entry}
use Rattle.swap_rules.specs.Due.{Wallet, Action, has_called, is_due_publish, due_key, presented, may_unlock, due_arc_unlock, when_due, is_due_claim, is_due_refund}
use Rattle.swap_rules.specs.Due.{due_publishes, due_unlocks, due_claims, due_refunds, due}
use Rattle.swap_rules.specs.Findings.{failing, broken, deal_rules, or_zero, arc_late_findings, lates, forgeries, party_findings, unfinished, findings}
use Rattle.swap_rules.specs.Forged.{is_forged}
use Rattle.swap_rules.specs.Late.{counts, is_done, is_past_due, is_late, reference_height, when}
use Rattle.swap_rules.specs.Useful.{opens_in_time, takes, is_withheld, timely_unlock, pressing_unlocks, useful_publishes, useful_unlocks, useful}
use Rattle.swap_rules.specs.Useful.{IsHarmful, PublishesLate, UnlocksLate, RevealsLate}
use Rattle.swap_rules.proofs.Conducting.{history_same, history_other}
use Rattle.swap_rules.proofs.Prefixes.{from_flat_map}
use Rattle.swap_rules.proofs.Useful.{by_parts, if_in, left_out, unless_in}
use Rattle.swap_rules.proofs.Words.{enters, leaves}
use Rattle.party_judge.specs.Marks.{is_harmless, opens_at}
use Rattle.party_judge.specs.Harmless.{HarmlessIsUseless, IsWeighed, OnlyPublishesAreHarmless, publish_on, up_to}

-- ---- tests

was_false : (t : Bool) → not t ≡ true → t ≡ false
was_false true e = absurd (false≢true e)
was_false false e = refl

was_true : (t : Bool) → not t ≡ false → t ≡ true
was_true true e = refl
was_true false e = absurd (false≢true (sym e))

or_more : (x y z : Bool) → (y ≡ true → z ≡ true) → (x || y) ≡ true → (x || z) ≡ true
or_more true y z h e = refl
or_more false y z h e = h e

or_none : (x y : Bool) → (x || y) ≡ false → (x ≡ false) × (y ≡ false)
or_none true y e = absurd (false≢true (sym e))
or_none false y e = (refl, e)

when_some : (t : Bool) (n r : ℕ) → when t n ≡ Some r → t ≡ true
when_some true n r e = refl
when_some false n r e = absurd (cc e)

-- ---- the publish among what is useful

presented_call : (a : ℕ) (o : Option Hashkey) (x : Action) → IsElement x (presented a o) → (key : Hashkey) × (x.call ≡ Unlock key)
presented_call a None x i = absurd i
presented_call a (Some key) x (inl e) = (key, ap (λ (y : Action). y.call) e)
presented_call a (Some key) x (inr i) = absurd i

when_parts : (test : Bool) (a : ℕ) (c : Call) (x : Action) → IsElement x (when_due test a c) → (test ≡ true) × (a ≡ x.arc) × (x.call ≡ c)
when_parts true a c x (inl e) = (refl, ap (λ (y : Action). y.arc) (sym e), ap (λ (y : Action). y.call) e)
when_parts true a c x (inr i) = absurd i
when_parts false a c x i = absurd i

module _ (d : Deal) (v : ℕ) (at : ℕ → ℕ) (w : Wallet) (signed : ℕ → Option Hashkey) (k : Histories) (a : ℕ) where
  no_unlock : (i c : ℕ) → IsElement (publish_on d a) (due_arc_unlock d v w (signed i) k i c) → ⊥
  unfolding due_arc_unlock
  no_unlock i c j =
      let key = due_key d v w (signed i) k i in
      let u = presented_call c key (publish_on d a) (if_in (may_unlock d v k i c) (presented c key) (publish_on d a) j) in
      absurd (cc u.1)

  no_pressing : (i : ℕ) → IsElement (publish_on d a) (pressing_unlocks d v at w signed k i) → ⊥
  no_pressing i j =
      let key = due_key d v w (signed i) k i in
      let timely = unless_in (is_withheld d v at signed k i key) (flat_map (timely_unlock d v at w (signed i) k i) (entering d.graph v)) (publish_on d a) j in
      let f = from_flat_map (timely_unlock d v at w (signed i) k i) (entering d.graph v) (publish_on d a) timely in
      no_unlock i f.0 (if_in (takes d at k i key f.0) (due_arc_unlock d v w (signed i) k i f.0) (publish_on d a) f.2)

  pub opens_where_useful : IsElement (publish_on d a) (useful d v at w signed k) → opens_in_time d at a ≡ true
  unfolding useful
  opens_where_useful i =
      by_parts (publish_on d a) (useful_publishes d v at k) (useful_unlocks d v at w signed k) (due_claims d v k) (due_refunds d v k) _ (record {
        publish = λ j.
            let f = from_flat_map (λ c. when_due (is_due_publish d v k c && opens_in_time d at c) c (Publish (stated_terms d c))) (leaving d.graph v) (publish_on d a) j in
            let p = when_parts (is_due_publish d v k f.0 && opens_in_time d at f.0) f.0 (Publish (stated_terms d f.0)) (publish_on d a) f.2 in
            subst (λ (c : ℕ). opens_in_time d at c ≡ true) p.1 (and_parts (is_due_publish d v k f.0) (opens_in_time d at f.0) p.0).1;
        unlock = λ j. let f = from_flat_map (pressing_unlocks d v at w signed k) (locks d) (publish_on d a) j in absurd (no_pressing f.0 f.2);
        claim = λ j.
            let f = from_flat_map (λ c. when_due (is_due_claim d v k c) c Claim) (entering d.graph v) (publish_on d a) j in
            let p = when_parts (is_due_claim d v k f.0) f.0 Claim (publish_on d a) f.2 in
            absurd (cc p.2);
        refund = λ j.
            let f = from_flat_map (λ c. when_due (is_due_refund d v k c) c Refund) (leaving d.graph v) (publish_on d a) j in
            let p = when_parts (is_due_refund d v k f.0) f.0 Refund (publish_on d a) f.2 in
            absurd (cc p.2);
      }) i

  pub useful_where_open : opens_in_time d at a ≡ true → IsElement (publish_on d a) (due d v w signed k) → IsElement (publish_on d a) (useful d v at w signed k)
  useful_where_open e i = by (left_out d v at w signed k (publish_on d a) i)
    where
      by : IsElement (publish_on d a) (useful d v at w signed k) ⊎ IsHarmful d v at w signed k (publish_on d a)
          → IsElement (publish_on d a) (useful d v at w signed k)
      by (inl j) = j
      by (inr (PublishesLate p late)) = absurd (false≢true (sym late ∙ e))
      by (inr (UnlocksLate i c j late)) = absurd (no_unlock i c j)
      by (inr (RevealsLate i j late)) =
          let f = from_flat_map (due_arc_unlock d v w (signed i) k i) (entering d.graph v) (publish_on d a) j in absurd (no_unlock i f.0 f.2)

-- ---- heights

sooner : (at last by : ℕ) → nat_le last by ≡ true → at ≤ last → nat_le at by ≡ true
sooner at last by e l = let m = leb-true last by e in le-leb at by (omega arith)

later : (at last by : ℕ) → nat_le last by ≡ false → last ≤ at → nat_le at by ≡ false
later at last by e l = go (nat_le at by) refl
  where
    go : (t : Bool) → nat_le at by ≡ t → t ≡ false
    go false q = refl
    go true q = absurd (false≢true (sym e ∙ sooner last at by q l))

-- ---- a late publish

-- What the finding of a late publish says.
record LatePublish (d : Deal) (b : Histories) (v a last : ℕ) : Type 0 where
  pub leaves : IsElement a (leaving d.graph v)
  pub may : (leads_one d v || is_ready d b v) ≡ true
  pub undone : is_done d b v ToPublish a last ≡ false

by_height : (d : Deal) (b : Histories) (v a last : ℕ) (o : Option ℕ) → reference_height d b v ToPublish a ≡ o → is_past_due d b v ToPublish a o ≡ true
    → last ≡ or_zero o + d.delta → LatePublish d b v a last
unfolding reference_height
by_height d b v a last None q k n = absurd (cc k)
by_height d b v a last (Some ref) q k n =
    let test = is_listed a (leaving d.graph v) && (leads_one d v || is_ready d b v) in
    let enabled = and_parts (is_listed a (leaving d.graph v)) (leads_one d v || is_ready d b v)
    (when_some test (if leads_one d v then 0 else ready_height d b v) ref q) in
    let p = and_parts (nat_lt (ref + d.delta) (height (history b a))) (not (is_done d b v ToPublish a (ref + d.delta))) k in
    record {
      leaves = is_listed-true a (leaving d.graph v) enabled.0;
      may = enabled.1;
      undone = subst (λ (m : ℕ). is_done d b v ToPublish a m ≡ false) (sym n) (was_false (is_done d b v ToPublish a (ref + d.delta)) p.1);
    }

-- what is said of each that fails a test
from_failing_head : {A : Type 0} (say : A → Finding) (y : A) (said : List Finding) (x : Finding) → (IsElement x said → (m : A) × (x ≡ say m)) → (t : Bool)
    → IsElement x (cons_option (if t then None else Some (say y)) said) → (m : A) × (x ≡ say m)
from_failing_head say y said x rest true j = rest j
from_failing_head say y said x rest false (inl e) = (y, e)
from_failing_head say y said x rest false (inr j) = rest j

from_failing : {A : Type 0} (say : A → Finding) (test : A → Bool) (xs : List A) (x : Finding)
    → IsElement x (filter_map (λ m. if test m then None else Some (say m)) xs) → (m : A) × (x ≡ say m)
from_failing say test [] x i = absurd i
from_failing say test (y ∷ xs) x i =
    from_failing_head say y (filter_map (λ m. if test m then None else Some (say m)) xs) x (from_failing say test xs x) (test y) i

module _ (d : Deal) (b : Histories) (v a last : ℕ) where
  abbrev x : Finding
  x = Late v ToPublish a last

  by_late : (u : ℕ) (rule : Rule) (c : ℕ) (t : Bool) → is_late d b u rule c ≡ t
      → IsElement x (cond t (Late u rule c (or_zero (reference_height d b u rule c) + d.delta) ∷ []) []) → LatePublish d b v a last
  by_late u rule c false q i = absurd i
  by_late u rule c true q (inr i) = absurd i
  by_late u rule c true q (inl e) =
      let same_party : v ≡ u = cc in
      let same_rule : ToPublish ≡ rule = cc in
      let same_arc : a ≡ c = cc in
      let same_height : last ≡ or_zero (reference_height d b u rule c) + d.delta = cc in
      let same_late : is_late d b v ToPublish a ≡ is_late d b u rule c = λ j. is_late d b (same_party j) (same_rule j) (same_arc j) in
      let same_due : or_zero (reference_height d b v ToPublish a) + d.delta ≡ or_zero (reference_height d b u rule c) + d.delta =
      λ j. or_zero (reference_height d b (same_party j) (same_rule j) (same_arc j)) + d.delta in
      by_height d b v a last (reference_height d b v ToPublish a) refl (same_late ∙ q) (same_height ∙ sym same_due)

  of_lates : (u : ℕ) → IsElement x (lates d b u) → LatePublish d b v a last
  of_lates u i =
      let f = from_flat_map (λ rule. flat_map (arc_late_findings d b u rule) (arcs d.graph)) (deal_rules d) x i in
      let g = from_flat_map (arc_late_findings d b u f.0) (arcs d.graph) x f.2 in
      by_late u f.0 g.0 (is_late d b u f.0 g.0) refl g.2

  of_party : (u : ℕ) → IsElement x (party_findings d b u) → LatePublish d b v a last
  of_party u i = outer (from_append (broken d b u ++ lates d b u) (forgeries d b u) x i)
    where
      no_broken : IsElement x (broken d b u) → ⊥
      no_broken j =
          let f = from_flat_map (λ c. failing (Broke u c) (keeps_entry d b u c) (history b c)) (arcs d.graph) x j in
          let g = from_failing (λ (m : Moment Entry). Broke u f.0 (length m.past)) (keeps_entry d b u f.0) (moments (history b f.0)) x f.2 in
          absurd (cc g.1)

      no_forged : IsElement x (forgeries d b u) → ⊥
      no_forged j =
          let f = from_flat_map (λ c. failing (Forged u c) (λ m. not (is_forged d b u m.now)) (history b c)) (arcs d.graph) x j in
          let g = from_failing (λ (m : Moment Entry). Forged u f.0 (length m.past)) (λ m. not (is_forged d b u m.now)) (moments (history b f.0)) x f.2 in
          absurd (cc g.1)

      inner : IsElement x (broken d b u) ⊎ IsElement x (lates d b u) → LatePublish d b v a last
      inner (inl j) = absurd (no_broken j)
      inner (inr j) = of_lates u j

      outer : IsElement x (broken d b u ++ lates d b u) ⊎ IsElement x (forgeries d b u) → LatePublish d b v a last
      outer (inl j) = inner (from_append (broken d b u) (lates d b u) x j)
      outer (inr j) = absurd (no_forged j)

  of_conforming : (u : ℕ) (t : Bool) → IsElement x (cond t (party_findings d b u) []) → LatePublish d b v a last
  of_conforming u true i = of_party u i
  of_conforming u false i = absurd i

  no_unfinished : (c : ℕ) (t : Bool) → IsElement x (cond t [] (Unfinished c (height (history b c)) ∷ [])) → ⊥
  no_unfinished c true i = absurd i
  no_unfinished c false (inl e) = absurd (cc e)
  no_unfinished c false (inr i) = absurd i

  of_findings : (conforming : ℕ → Bool) → IsElement x (findings d conforming b) → LatePublish d b v a last
  of_findings conforming i = by (from_append (flat_map said (range_with_len 0 d.graph.n)) (unfinished d b) x i)
    where
      said : ℕ → List Finding
      said u = if conforming u then party_findings d b u else []

      ended : ℕ → List Finding
      ended c = if nat_lt (times.horizon d.start d.delta d.bound) (height (history b c)) then [] else Unfinished c (height (history b c)) ∷ []

      by : IsElement x (flat_map said (range_with_len 0 d.graph.n)) ⊎ IsElement x (unfinished d b) → LatePublish d b v a last
      by (inl j) = let f = from_flat_map said (range_with_len 0 d.graph.n) x j in of_conforming f.0 (conforming f.0) f.2
      by (inr j) =
          let f = from_flat_map ended (arcs d.graph) x j in
          absurd (no_unfinished f.0 (nat_lt (times.horizon d.start d.delta d.bound) (height (history b f.0))) f.2)

-- ---- it was due

counts_is : (d : Deal) (b : Histories) (v a n : ℕ) (o : Option Call) → counts d b v ToPublish a n o ≡ is_publish o
unfolding counts
counts_is d b v a n None = refl
counts_is d b v a n (Some (Publish t)) = refl
counts_is d b v a n (Some (Unlock key)) = refl
counts_is d b v a n (Some Claim) = refl
counts_is d b v a n (Some Refund) = refl
counts_is d b v a n (Some (Transfer to units)) = refl

uncalled : (d : Deal) (b : Histories) (v a last : ℕ) (h : List Entry)
    → list_any (λ e. counts d b v ToPublish a e.height (pick_call v e) && nat_le e.height last) h ≡ false
    → has_called v is_publish (filter (λ e. nat_le e.height last) h) ≡ false
uncalled d b v a last [] e = refl
uncalled d b v a last (y ∷ h) e =
    let p = or_none (counts d b v ToPublish a y.height (pick_call v y) && nat_le y.height last)
    (list_any (λ e. counts d b v ToPublish a e.height (pick_call v e) && nat_le e.height last) h) e in
    by (nat_le y.height last) (counts d b v ToPublish a y.height (pick_call v y)) (counts_is d b v a y.height (pick_call v y)) p.0 (uncalled d b v a last h p.1)
  where
    by : (t c : Bool) → c ≡ is_publish (pick_call v y) → (c && t) ≡ false → has_called v is_publish (filter (λ e. nat_le e.height last) h) ≡ false
        → has_called v is_publish (cond t (y ∷ filter (λ e. nat_le e.height last) h) (filter (λ e. nat_le e.height last) h)) ≡ false
    by false c q n rest = rest
    by true true q n rest = absurd (false≢true (sym n))
    by true false q n rest = ap (λ (s : Bool). s || has_called v is_publish (filter (λ e. nat_le e.height last) h)) (sym q) ∙ rest

module _ (d : Deal) (b : Histories) (v a last : ℕ) (accepted : IsAccepted d) (legal : IsLegalBook d b) (late : LatePublish d b v a last) where
  abbrev there : List Entry
  there = filter (λ e. nat_le e.height last) (history b a)

  other_arc : (c : ℕ) → IsElement c (entering d.graph v) → c ≢ a
  other_arc c i same =
      let into = enters d v c i in
      let out = leaves d v a late.leaves in
      accepted.ends.apart a out.0 (out.1 ∙ sym into.1 ∙ ap (counterparty d) same)

  still_ready : is_ready d b v ≡ true → is_ready d (up_to b a last) v ≡ true
  unfolding is_ready
  still_ready e =
      list_all-from (is_good d (up_to b a last)) (entering d.graph v) (λ c i.
      subst (λ (h : List Entry).
      (is_arc_correct d c (published h) && nat_le (publication_height (published h)) (times.opening_deadline d.start d.delta d.bound)) ≡ true)
      (sym (history_other b a c there (other_arc c i))) (list_all-in (is_good d b) (entering d.graph v) c e i))

  due_then : is_due_publish d v (up_to b a last) a ≡ true
  unfolding is_due_publish
  due_then =
      let below = subst (λ (n : ℕ). a < n) (sym legal.one_each) (leaves d v a late.leaves).0 in
      let none : has_called v is_publish (history (up_to b a last) a) ≡ false =
      ap (has_called v is_publish) (history_same b a there below) ∙ uncalled d b v a last (history b a) late.undone in
      and_both (leads_one d v || is_ready d (up_to b a last) v) (not (has_called v is_publish (history (up_to b a last) a)))
      (or_more (leads_one d v) (is_ready d b v) (is_ready d (up_to b a last) v) still_ready late.may) (ap not none)

  in_due : (w : Wallet) (signed : ℕ → Option Hashkey) → IsElement (publish_on d a) (due d v w signed (up_to b a last))
  unfolding due
  in_due w signed =
      let k = up_to b a last in
      let x = publish_on d a in
      let publish : IsElement x (due_publishes d v k) = in_flat_map (λ c. when_due (is_due_publish d v k c) c (Publish (stated_terms d c))) (leaving d.graph v) a x
      late.leaves (subst (λ (t : Bool). IsElement x (when_due t a (Publish (stated_terms d a)))) (sym due_then) (inl refl)) in
      in_append (due_publishes d v k ++ due_unlocks d v w signed k ++ due_claims d v k) (due_refunds d v k) x
      (inl (in_append (due_publishes d v k ++ due_unlocks d v w signed k) (due_claims d v k) x
      (inl (in_append (due_publishes d v k) (due_unlocks d v w signed k) x (inl publish)))))

-- ---- the laws

pub harmless_is_useless : HarmlessIsUseless
unfolding is_harmless
harmless_is_useless d conforming b v a last accepted legal i =
    let deadline = times.opening_deadline d.start d.delta d.bound in record {
      was_due = in_due d b v a last accepted legal (of_findings d b v a last conforming i);
      counts = λ e at w signed k l j. useful_where_open d v at w signed k a (sooner (at a) last deadline (was_true (nat_le last deadline) e) l) j;
      harmless = λ e at w signed k l.
          let late = later (at a) last deadline (was_false (nat_le last deadline) e) l in
          (λ j. false≢true (sym late ∙ opens_where_useful d v at w signed k a j), PublishesLate refl late);
    }

pub only_publishes_are_harmless : OnlyPublishesAreHarmless
unfolding is_harmless
only_publishes_are_harmless d (Late v ToPublish a last) e = (v, a, last, refl)
only_publishes_are_harmless d (Late v (ToUnlock i) a last) e = absurd (false≢true e)
only_publishes_are_harmless d (Late v ToClaim a last) e = absurd (false≢true e)
only_publishes_are_harmless d (Late v ToRefund a last) e = absurd (false≢true e)
only_publishes_are_harmless d (Broke v a n) e = absurd (false≢true e)
only_publishes_are_harmless d (Forged v a n) e = absurd (false≢true e)
only_publishes_are_harmless d (Unfinished a n) e = absurd (false≢true e)
